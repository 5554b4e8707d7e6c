-- The proofs of signed texts of at most this many bytes.
use Rattle.std.specs.Prelude.{ℕ, map}
use Rattle.st_datafiles.specs.declared.proof_files.CoreProofs.{CoreProofs}
pub use Rattle.st_ops.specs.Claim.{proof_of}
use Rattle.st_anchor.specs.declared.branches.OpenedCore.{OpenedCore}

-- the proofs of a core proof file
abbrev pub opened_of : ℕ → CoreProofs → OpenedCore
opened_of limit proofs =
    record { recovers = map (proof_of limit) proofs.recovers; deactivates = map (proof_of limit) proofs.deactivates }

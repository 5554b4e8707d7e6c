use Rattle.std.proofs.Common.{◌≡◌}
use Rattle.st_workload.specs.Identifier.{each, identity_of}
use Rattle.st_workload.proofs.identity.all_identities.Given as goal

-- the identifiers so far
abbrev pub invariant-identities : goal.invariant-identities
invariant-identities l = l.identities ≡ each l.number (identity_of l.seed l.rounds)

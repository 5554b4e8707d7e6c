use Rattle.std.proofs.Common.{◌∙◌, refl}
use Rattle.st_resolve.proofs.metadata.append_recovery.Goals as goal

pub returns-in_ok-append_hash-in-Active : goal.returns-in_ok-append_hash-in-Active
returns-in_ok-append_hash-in-Active c = c.in_ok-append_hash-in-Active.ensures ∙ rw c.in-Active.is refl

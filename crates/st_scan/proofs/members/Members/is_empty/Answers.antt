use Rattle.std.proofs.Common.{◌≡◌, ◌↔◌, subst}
use Rattle.std.specs.Prelude.{IsTrue}
use Rattle.st_plain.specs.Plain.{no_members}
use Rattle.st_scan.proofs.EntryLemmas.{no_member_left}
use Rattle.st_scan.proofs.members.Members.is_empty.Goals as goal

pub returns : goal.returns
returns c = subst (λ members. IsTrue c.starts.result ↔ (members ≡ no_members)) c.self.view_is
    (no_member_left c.self.inside.left.now c.starts.result c.self.invariant c.starts.ensures)

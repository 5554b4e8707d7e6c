use Rattle.st_plain.proofs.NameLemmas.{member_at-put_same, others_stay_put}
use Rattle.st_canon.specs.View.{plain, plain_members}
use Rattle.st_canon.proofs.MemberLemmas.{plain_members-placed}
use Rattle.st_canon.proofs.object.Object.insert.Goals as goal

pub returns-in-Ok-clause-ok : goal.returns-in-Ok-clause-ok
returns-in-Ok-clause-ok c = rw c.in-Ok.ensures.ok (plain_members-placed c.args.name c.args.value c.args.self.now)

pub returns-in-Ok-clause-here : goal.returns-in-Ok-clause-here
returns-in-Ok-clause-here c =
    rw (c.in-Ok.ensures.ok, plain_members-placed c.args.name c.args.value c.args.self.now)
    (member_at-put_same c.args.name (plain c.args.value) (plain_members c.args.self.now))

pub returns-in-Ok-clause-others : goal.returns-in-Ok-clause-others
returns-in-Ok-clause-others c =
    rw (c.in-Ok.ensures.ok, plain_members-placed c.args.name c.args.value c.args.self.now)
    (others_stay_put c.args.name (plain c.args.value) (plain_members c.args.self.now) c.in-Ok.ensures.utf8)

use Rattle.std.proofs.Common.{map, arith}
use Rattle.st_plain.specs.Plain.{list}
use Rattle.st_plain.specs.Objects.{items_of}
use Rattle.st_indexfiles.proofs.MemberLemmas.{joined, none_said, nothing_there, now_due, some_said, something_there, still_due}
use Rattle.st_indexfiles.proofs.members.append_list.Goals as goal

pub returns-then-is_empty-clause-text : goal.returns-then-is_empty-clause-text
returns-then-is_empty-clause-text g c =
    nothing_there c.args.out.now c.args.name.now c.args.due _ (none_said g.T.Entry.json c.args.said.now (grind arith))

pub returns-then-is_empty-clause-later : goal.returns-then-is_empty-clause-later
returns-then-is_empty-clause-later g c = still_due c.args.due _ (none_said g.T.Entry.json c.args.said.now (grind arith))

pub returns-clause-text : goal.returns-clause-text
returns-clause-text g c =
    let items = items_of (map g.T.Entry.json c.args.said.now) in
    let named = c.append_name.new.out in
    let text = joined named _ _ (joined named _ _ c.in_ok-push_all.ensures.ok c.in_ok-append_entries.ensures.text) c.in_ok-push_all-2.ensures.ok in
    something_there c.args.out.now c.push_all-2.new.self c.args.name.now c.args.due _ (list items)
    (some_said g.T.Entry.json c.args.said.now (grind arith))
    (joined c.args.out.now _ _ c.in_ok-append_name.ensures text)

pub returns-clause-later : goal.returns-clause-later
returns-clause-later g c = now_due c.args.due _ _ (some_said g.T.Entry.json c.args.said.now (grind arith))

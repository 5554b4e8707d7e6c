use Rattle.std.proofs.Common.{◌∙◌, ◌++◌, true, ap, codes, sym, arith}
use Rattle.std.specs.Prelude.{is_some}
use Rattle.st_plain.specs.Plain.{object}
use Rattle.st_indexfiles.specs.ProvisionalIndex.{provisional_operations}
use Rattle.st_indexfiles.specs.CoreIndex.{target_json}
use Rattle.st_indexfiles.proofs.MemberLemmas.{an_object, joined, no_object, none_said, nothing_there, provisional_operations_text, some_said, something_there, updates_there}
use Rattle.st_indexfiles.proofs.provisional_index.append_operations.Goals as goal

pub returns-then-len-eq0-clause-text : goal.returns-then-len-eq0-clause-text
returns-then-len-eq0-clause-text c =
    let index = c.args.index.now in
    nothing_there c.args.text.now (codes "operations") true _
    (no_object (provisional_operations index) (updates_there _ ∙ ap is_some (none_said target_json index.updates (omega (arith, c.if-len-eq0.true, c.len.ensures)))))

pub returns-clause-text : goal.returns-clause-text
returns-clause-text c =
    let index = c.args.index.now in
    let named = c.append_name.new.out in
    let updates = c.as_slice.ensures in
    let list = c.in_ok-append_list.ensures in
    something_there c.args.text.now c.push_all-2.new.self (codes "operations") true _ (object (provisional_operations index))
    (an_object (provisional_operations index) (updates_there _ ∙ ap is_some (some_said target_json index.updates (omega (arith, c.if-len-eq0.false, c.len.ensures)))))
    (joined c.args.text.now _ _ c.in_ok-append_name.ensures
    (joined named _ _ (joined named _ _ c.in_ok-push_all.ensures.ok (rw updates at list.text)) c.in_ok-push_all-2.ensures.ok
    ∙ ap (λ text. named ++ text) (sym (provisional_operations_text index))))

use Rattle.std.proofs.Common.{◌∙◌, ◌++◌, ap, codes, sym}
use Rattle.st_plain.specs.Plain.{object}
use Rattle.st_indexfiles.specs.CoreIndex.{core_operations}
use Rattle.st_indexfiles.proofs.MemberLemmas.{an_object, core_operations_text, joined, no_object, no_operations, nothing_there, now_due, something_there, still_due}
use Rattle.st_indexfiles.proofs.core_writing.append_operations.Goals as goal

-- ---- without operations

pub returns-then-not-has_operations-clause-text : goal.returns-then-not-has_operations-clause-text
returns-then-not-has_operations-clause-text c =
    nothing_there c.args.text.now (codes "operations") c.args.due _ (no_object (core_operations c.args.index.now) (sym c.if-not-has_operations.ensures))

pub returns-then-not-has_operations-clause-later : goal.returns-then-not-has_operations-clause-later
returns-then-not-has_operations-clause-later c =
    still_due c.args.due _ (no_object (core_operations c.args.index.now) (sym c.if-not-has_operations.ensures))

pub returns-then-not-has_operations-clause-creates : goal.returns-then-not-has_operations-clause-creates
returns-then-not-has_operations-clause-creates c = (no_operations c.args.index.now (sym c.if-not-has_operations.ensures)).0

pub returns-then-not-has_operations-clause-recovers : goal.returns-then-not-has_operations-clause-recovers
returns-then-not-has_operations-clause-recovers c = (no_operations c.args.index.now (sym c.if-not-has_operations.ensures)).1

pub returns-then-not-has_operations-clause-deactivates : goal.returns-then-not-has_operations-clause-deactivates
returns-then-not-has_operations-clause-deactivates c = (no_operations c.args.index.now (sym c.if-not-has_operations.ensures)).2

-- ---- with some

pub returns-clause-text : goal.returns-clause-text
returns-clause-text c =
    let index = c.args.index.now in
    let named = c.append_name.new.out in
    let creates = c.as_slice.ensures in
    let deactivates = c.as_slice-2.ensures in
    let recovers = c.as_slice-3.ensures in
    let first = c.in_ok-behind.ensures in
    let second = c.in_ok-behind-2.ensures in
    let third = c.in_ok-append_list.ensures in
    something_there c.args.text.now c.push_all-2.new.self (codes "operations") c.args.due _ (object (core_operations index))
    (an_object (core_operations index) (sym c.if-not-has_operations.ensures))
    (joined c.args.text.now _ _ c.in_ok-append_name.ensures (joined named _ _ (joined named _ _ (joined named _ _
    (joined named _ _ c.in_ok-push_all.ensures.ok (rw creates at first.text)) (rw (first.later, creates, deactivates) at second.text))
    (rw (second.later, first.later, creates, deactivates, recovers) at third.text)) c.in_ok-push_all-2.ensures.ok
    ∙ ap (λ text. named ++ text) (sym (core_operations_text index))))

pub returns-clause-later : goal.returns-clause-later
returns-clause-later c = now_due c.args.due _ _ (an_object (core_operations c.args.index.now) (sym c.if-not-has_operations.ensures))

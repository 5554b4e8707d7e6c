use Rattle.std.proofs.Common.{◌∙◌, BTreeSet, ℕ, ap}
use Rattle.std.proofs.lemmas.List.{nil_from_length}
use Rattle.st_observer.proofs.WaitingLemmas.{IsTaken, numbers_in, numbers-taken, rows-insert, rows-remove, sets-back, sets-gone, some_left}
use Rattle.st_observer.proofs.waiting.set.Goals as goal

pub returns-in_err-entries-clause-rows : goal.returns-in_err-entries-clause-rows
returns-in_err-entries-clause-rows c = rw c.remove.ensures.entries (rows-remove _ _ c.requires)

pub returns-then-is_empty-clause-rows : goal.returns-then-is_empty-clause-rows
returns-then-is_empty-clause-rows c = rw c.remove.ensures.entries (rows-remove _ _ c.requires)

pub returns-then-is_empty-clause-sets : goal.returns-then-is_empty-clause-sets
returns-then-is_empty-clause-sets c =
    let taken : IsTaken c.in_ok-key.key c.args.files.now.entries c.remove.new.self.entries c.unwrap_or-entries.result =
    record {
      read = c.in_ok-key.ensures.read;
      before = c.requires;
      after = rw c.remove.ensures.entries (rows-remove _ _ c.requires);
      updates = c.remove.ensures.updates.0;
      numbers = ap (λ (entries : BTreeSet ℕ). entries.keys) c.unwrap_or-entries.ensures
          ∙ numbers-taken c.remove.result c.new-2.result c.new-2.ensures.empty ∙ ap numbers_in c.remove.ensures.value;
    } in
    rw (← c.in_ok-key.ensures.value)
    (sets-gone taken c.args.n c.args.waits c.in_ok-entries.entries c.in_ok-entries.ensures
    (nil_from_length c.in_ok-entries.entries.keys (c.is_empty.ensures.0 c.if-is_empty.true)))

pub returns-in_err-insert-clause-rows : goal.returns-in_err-insert-clause-rows
returns-in_err-insert-clause-rows c = rw c.in_err-insert.ensures.err (rw c.remove.ensures.entries (rows-remove _ _ c.requires))

pub returns-clause-rows : goal.returns-clause-rows
returns-clause-rows c =
    rw c.in_ok-insert.ensures.entries
    (rows-insert c.in_ok-key.key c.in_ok-entries.entries c.remove.new.self.entries
    (record { read = c.in_ok-key.ensures.read; some = some_left _ _ c.if-is_empty.false c.is_empty.ensures.1 })
    (rw c.remove.ensures.entries (rows-remove _ _ c.requires)))

pub returns-clause-sets : goal.returns-clause-sets
returns-clause-sets c =
    let taken : IsTaken c.in_ok-key.key c.args.files.now.entries c.remove.new.self.entries c.unwrap_or-entries.result =
    record {
      read = c.in_ok-key.ensures.read;
      before = c.requires;
      after = rw c.remove.ensures.entries (rows-remove _ _ c.requires);
      updates = c.remove.ensures.updates.0;
      numbers = ap (λ (entries : BTreeSet ℕ). entries.keys) c.unwrap_or-entries.ensures
          ∙ numbers-taken c.remove.result c.new-2.result c.new-2.ensures.empty ∙ ap numbers_in c.remove.ensures.value;
    } in
    rw (← c.in_ok-key.ensures.value)
    (sets-back taken c.args.n c.args.waits c.in_ok-entries.entries c.in_ok-entries.ensures c.insert.new.self.entries
    (rw c.in_ok-insert.ensures.entries
    (rows-insert c.in_ok-key.key c.in_ok-entries.entries c.remove.new.self.entries
    (record { read = c.in_ok-key.ensures.read; some = some_left _ _ c.if-is_empty.false c.is_empty.ensures.1 })
    taken.after))
    c.in_ok-insert.ensures.updates.0)

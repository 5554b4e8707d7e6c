use Rattle.std.proofs.Common.{◌≡◌, ◌≤◌, length, take}
use Rattle.st_observer.specs.Work.{WaitsAgree}
use Rattle.st_observer.proofs.changes.forget_from.Given as goal

abbrev pub invariant-forgetting : goal.invariant-forgetting
invariant-forgetting l = record {
  within : l.n ≤ l.left;
  number : l.left ≡ length l.bounds.items;
  bounds : l.bounds.items ≡ take l.left l.initial.bounds.items;
  waits : WaitsAgree l.bounds.items l.waiting;
}

abbrev pub decreases-forgetting : goal.decreases-forgetting
decreases-forgetting l = l.left

use Rattle.std.proofs.Common.{◌≡◌, ◌+◌, ◌≤◌, ◌∷◌, length}
use Rattle.st_scan.specs.Standing.{IsText, entries_left}
use Rattle.st_scan.proofs.entries.count.Given as goal

abbrev pub invariant-entries : goal.invariant-entries
invariant-entries l = record {
  text : IsText (91 ∷ l.rest);
  value : l.count + length (entries_left l.rest) ≡ length (entries_left l.left);
  fits : l.count + length l.rest ≤ length l.left;
}

abbrev pub decreases-entries : goal.decreases-entries
decreases-entries l = length l.rest

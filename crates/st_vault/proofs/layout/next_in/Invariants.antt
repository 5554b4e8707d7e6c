use Rattle.std.proofs.Common.{◌≡◌, ◌≤◌, take}
use Rattle.st_vault.specs.Image.{nonzero_from, one_past}
use Rattle.st_vault.proofs.layout.next_in.Given as goal

abbrev pub invariant-bytes : goal.invariant-bytes
invariant-bytes l = record {
  next : l.next ≡ one_past (nonzero_from 0 (take l.place l.map));
  small : l.next ≤ l.place;
}

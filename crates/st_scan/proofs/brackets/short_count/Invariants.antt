use Rattle.std.proofs.Common.{◌≡◌, take, count_by}
use Rattle.st_plain.specs.ReadAgain.{opens}
use Rattle.st_scan.proofs.brackets.short_count.Given as goal

abbrev pub invariant-loop-byte : goal.invariant-loop-byte
invariant-loop-byte l = l.count ≡ count_by opens (take l.byte-index l.text)

use Rattle.std.proofs.Common.{◌≡◌, ◌++◌, length}
use Rattle.st_plain.specs.Objects.{name_in}
use Rattle.st_scan.proofs.texts.unescaped.Given as goal

-- the decoded bytes, and then the name in the rest
abbrev pub invariant-bytes : goal.invariant-bytes
invariant-bytes l = l.word.items ++ name_in l.rest ≡ name_in l.inside

abbrev pub decreases-bytes : goal.decreases-bytes
decreases-bytes l = length l.rest

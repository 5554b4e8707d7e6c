use Rattle.std.proofs.Common.{◌≡◌, ◌++◌, map, length}
use Rattle.st_drive.specs.Lines.{whole_lines}
use Rattle.st_generate.specs.Summary.{content_line}
use Rattle.st_generate.proofs.rounds.push_files.Given as goal

-- the files so far and those of the remaining lines are all of them
abbrev pub invariant-lines : goal.invariant-lines
invariant-lines l = l.files ++ map content_line (whole_lines l.rest) ≡ l.initial.files ++ map content_line (whole_lines l.initial.rest)

abbrev pub decreases-lines : goal.decreases-lines
decreases-lines l = length l.rest

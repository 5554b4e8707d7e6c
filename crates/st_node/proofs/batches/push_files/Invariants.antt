use Rattle.std.proofs.Common.{◌≡◌, ◌++◌, take}
use Rattle.std.specs.List.{flat_map}
use Rattle.st_node.specs.Machine.{file_line}
use Rattle.st_node.proofs.batches.push_files.Given as goal

-- the lines of the files so far follow the earlier text
abbrev pub invariant-loop-file : goal.invariant-loop-file
invariant-loop-file l = l.text.items ≡ l.initial.text.items ++ flat_map file_line (take l.file-index l.files)

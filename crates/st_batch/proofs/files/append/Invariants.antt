use Rattle.std.proofs.Common.{◌≡◌, ◌++◌}
use Rattle.std.specs.Vec.Iter.{into_iter_items}
use Rattle.st_batch.proofs.files.append.Given as goal

abbrev pub invariant-more : goal.invariant-more
invariant-more l = l.fn.files ++ l.fn.more ≡ l.files ++ into_iter_items l.file-iterator

use Rattle.std.proofs.Common.{◌≡◌, ◌++◌, take, map}
use Rattle.st_indexfiles.specs.CoreIndex.{suffix_of}
use Rattle.st_indexfiles.proofs.entries.push_creates.Given as goal

abbrev pub invariant-loop-create : goal.invariant-loop-create
invariant-loop-create l = l.suffixes ≡ l.fn.suffixes ++ map suffix_of (take l.create-index l.creates)

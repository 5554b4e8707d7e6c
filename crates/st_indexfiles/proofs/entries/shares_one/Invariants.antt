use Rattle.std.proofs.Common.{◌≡◌, drop}
use Rattle.st_base.specs.Lists.{shares_one}
use Rattle.st_hash.specs.Hash.{same_hash}
use Rattle.st_indexfiles.proofs.entries.shares_one.Given as goal

abbrev pub invariant-hashes : goal.invariant-hashes
invariant-hashes l = shares_one same_hash l.hashes l.fn.others ≡ shares_one same_hash (drop l.hash-index l.hashes) l.fn.others

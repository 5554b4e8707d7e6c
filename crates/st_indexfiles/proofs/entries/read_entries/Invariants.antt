use Rattle.std.proofs.Common.{◌≡◌, length}
use Rattle.st_base.specs.Lists.{each_of}
use Rattle.st_base.proofs.ListLemmas.{after}
use Rattle.st_indexfiles.proofs.entries.read_entries.Given as goal

abbrev pub invariant-entries : goal.invariant-entries
invariant-entries g l =
    each_of (g.T.Entry.of l.version) l.fn.entries ≡ after (g.T.Entry.of l.version) l.said l.left

abbrev pub decreases-entries : goal.decreases-entries
decreases-entries g l = length l.left

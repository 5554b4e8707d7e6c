use Rattle.std.proofs.Common.{◌≡◌, ◌++◌, map}
use Rattle.std.specs.Vec.Iter.{into_iter_items}
use Rattle.st_cert.specs.Certificate.{anchored_items}
use Rattle.st_observer.specs.Work.{plain_held}
use Rattle.st_node.proofs.explaining.cert_items.Given as goal

-- the items made and the remaining operations are all of them
abbrev pub invariant-loop-kept : goal.invariant-loop-kept
invariant-loop-kept l =
    anchored_items l.items ++ map plain_held (into_iter_items l.kept-iterator) ≡ map plain_held l.fn.held

use Rattle.std.proofs.Common.{◌≡◌, ◌++◌, drop, length, vec_len}
use Rattle.std.specs.Prelude.{map}
use Rattle.st_anchor.specs.Gives.{plain_given}
use Rattle.st_observer.specs.inside.Steps.{PutsGiven}
use Rattle.st_observer.proofs.held.put_all.Given as goal

abbrev pub invariant-puts : goal.invariant-puts
invariant-puts l =
    let given = l.fn.given.items in
    let done = drop (length l.left.items) given in
    record { split : given ≡ l.left.items ++ done; puts : PutsGiven l.place l.height (map plain_given done) l.fn.index l.done }

abbrev pub decreases-puts : goal.decreases-puts
decreases-puts l = vec_len l.left

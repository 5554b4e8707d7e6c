use Rattle.std.proofs.Common.{◌≡◌, drop, map}
use Rattle.std.specs.List.{list_any}
use Rattle.st_plain.specs.Names.{is_name}
use Rattle.st_canon.proofs.object.is_among.Given as goal

abbrev pub invariant-loop-other : goal.invariant-loop-other
invariant-loop-other l =
    list_any (is_name l.name) (map (λ n. n.now) l.names) ≡ list_any (is_name l.name) (map (λ n. n.now) (drop l.other-index l.names))

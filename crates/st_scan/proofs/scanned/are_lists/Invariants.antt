use Rattle.std.proofs.Common.{◌≡◌, drop, map, Some}
use Rattle.std.specs.List.{list_all}
use Rattle.st_plain.specs.Shapes.{is_list_if_there, member_in}
use Rattle.st_scan.proofs.scanned.are_lists.Given as goal

abbrev pub invariant-names : goal.invariant-names
invariant-names l =
    list_all (λ name. is_list_if_there (member_in name (Some l.value))) (map (λ n. n.now) l.names)
    ≡ list_all (λ name. is_list_if_there (member_in name (Some l.value))) (map (λ n. n.now) (drop l.name-index l.names))

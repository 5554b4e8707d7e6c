use Rattle.std.proofs.Common.{◌≡◌, ℕ, List, drop, map}
use Rattle.std.specs.List.{list_any}
use Rattle.std.specs.Str.{IsUtf8}
use Rattle.st_plain.specs.Plain.{quoted}
use Rattle.st_plain.specs.Names.{is_name}
use Rattle.st_scan.proofs.members.is_among.Given as goal

abbrev pub invariant-names : goal.invariant-names
invariant-names l = (word : List ℕ) → IsUtf8 word → l.key ≡ quoted word
    → list_any (is_name word) (map (λ n. n.now) l.names) ≡ list_any (is_name word) (map (λ n. n.now) (drop l.name-index l.names))

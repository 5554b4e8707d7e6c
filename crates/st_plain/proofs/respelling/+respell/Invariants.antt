use Rattle.std.proofs.Common.{◌≡◌, ℕ, ◌+◌, ◌*◌, ◌≤◌, List, length, is_some, option_map}
use Rattle.json.specs.Json.{items, members, value, parse_map}
use Rattle.serde_json.specs.Data.{Data, Members, no_members}
use Rattle.serde_json.specs.Read.{converted, of_items, of_members}
use Rattle.st_plain.specs.inside.Respelled.{IsWritten}
use Rattle.st_plain.proofs.GatheredLemmas.{IsGathered}
use Rattle.st_plain.proofs.RespellingLemmas.{ItemsStand, items_before, items_text, wholes}
use Rattle.st_plain.proofs.respelling.+respell.Given as goal

abbrev pub decreases-respell : goal.decreases-respell
decreases-respell l = 2 * l.depth

abbrev pub decreases-respell_items : goal.decreases-respell_items
decreases-respell_items l = 2 * l.depth + 1

abbrev pub decreases-respell_members : goal.decreases-respell_members
decreases-respell_members l = 2 * l.depth + 1

-- these items were read, and n turns suffice for the remaining tokens
abbrev pub invariant-respell_items-items : goal.invariant-respell_items-items
invariant-respell_items-items l =
    (ds : List Data) × (n : ℕ) × (length l.reader ≤ n)
    × (converted of_items (items (value l.depth) (length l.initial.reader) l.initial.reader)
    ≡ parse_map (items_before ds) (converted of_items (items (value l.depth) n l.reader)))
    × (length l.reader ≤ length l.initial.reader)
    × IsWritten (ItemsStand l.comma) items_text (wholes ds) l.initial.out.items l.out.items

abbrev pub decreases-respell_items-items : goal.decreases-respell_items-items
decreases-respell_items-items l = length l.reader

abbrev pub invariant-respell_members-members : goal.invariant-respell_members-members
invariant-respell_members-members l =
    (ds : Members) × (n : ℕ) × (length l.reader ≤ n)
    × (converted (λ ms. of_members ms no_members) (members (value l.depth) (length l.initial.reader) l.initial.reader)
    ≡ converted (λ ms. of_members ms ds) (members (value l.depth) n l.reader))
    × (length l.reader ≤ length l.initial.reader)
    × IsGathered ds l.initial.out.items l.out.items l.places.items l.up (option_map (λ name. name.now) l.last)
    × (is_some l.last ≡ is_some (option_map (λ name. name.now) l.last))

abbrev pub decreases-respell_members-members : goal.decreases-respell_members-members
decreases-respell_members-members l = length l.reader

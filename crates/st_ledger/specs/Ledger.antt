-- Anchor strings: the count of operations, a dot, the URI of the core index file.
use Rattle.std.specs.Prelude.{◌≡◌, ℕ, nat_le, if◌then◌else◌, List, [], ◌∷◌, codes, Option, Some, None, is_none, option_map, option_and_then, Result, Ok, Err, ◌≤◌, ◌<◌, ◌-◌, ◌==◌, nat_lt, length, slice_get, unwrap_or}
use Rattle.st_base.specs.Rules.{Table, first_failing}
use Rattle.st_base.specs.Texts.{cut_at, number_of}
use Rattle.st_hash.specs.Hash.{HashValue, hash_of_text}
use Rattle.st_params.specs.ParamsValue.{ParamsValue}
use Rattle.st_ledger.specs.declared.anchor.Anchor.{Anchor}
use Rattle.st_ledger.specs.declared.anchor.AnchorRule.{AnchorRule}
use Rattle.st_ledger.specs.declared.anchor.AnchorRule.TheVariants.{A1, A2, A3}
use Rattle.st_ledger.specs.declared.ledger.Entry.{Entry}
use Rattle.st_ledger.specs.declared.ledger.LedgerRefused.{LedgerRefused}
use Rattle.st_ledger.specs.declared.ledger.LedgerRefused.TheVariants.{HeightFalls, LedgerFull}

-- the byte of a dot
abbrev pub dot : ℕ
dot = 46

-- the count in a text, from 1 to the greatest
abbrev pub count_in : ℕ → List ℕ → Option ℕ
count_in most text = option_and_then (λ count. if nat_le 1 count then Some count else None) (number_of most text)

-- the count before the first dot
abbrev pub count_of : ParamsValue → List ℕ → Option ℕ
count_of limits text = option_and_then (λ parts. count_in limits.max_operations parts.0) (cut_at dot text)

-- the URI after it
abbrev pub core_of : List ℕ → Option HashValue
core_of text = option_and_then (λ parts. hash_of_text parts.1) (cut_at dot text)

-- The rules of an anchor string, in their order: there is no dot; there is no count before the first one; there is no
-- URI after it.
abbrev pub anchor_rules : ParamsValue → List ℕ → Table AnchorRule
anchor_rules limits text =
    (A1, is_none (cut_at dot text))
    ∷ (A2, is_none (count_of limits text))
    ∷ (A3, is_none (core_of text))
    ∷ []

-- the name of a rule: a letter for anchor strings, and its number
abbrev pub anchor_rule_name : AnchorRule → List ℕ
anchor_rule_name A1 = codes "A1"
anchor_rule_name A2 = codes "A2"
anchor_rule_name A3 = codes "A3"

-- the content of an anchor string, if it has both
abbrev pub anchor_of : ParamsValue → List ℕ → Option Anchor
anchor_of limits text =
    option_and_then (λ count. option_map (λ core. record { count = count; core = core }) (core_of text)) (count_of limits text)

-- The answer is the first rule that fails, or if none does, the content of the text.
abbrev pub AnswersByRule : Table AnchorRule → Option Anchor → Result Anchor AnchorRule → Type 0
AnswersByRule rules says (Ok anchor) = (first_failing rules ≡ None) × (says ≡ Some anchor)
AnswersByRule rules says (Err rule) = first_failing rules ≡ Some rule

-- ---- The ledger as the list of its entries, which are numbered from 0.

-- the height of the entry with this number, or 0 if there is none
abbrev pub height_at : List Entry → ℕ → ℕ
height_at entries n = unwrap_or (option_map (λ entry. entry.height) (slice_get entries n)) 0

-- the height of the last entry, or 0 if there is none
abbrev pub last_height : List Entry → ℕ
last_height entries = height_at entries (length entries - 1)

-- the largest number of entries of a ledger
abbrev pub most_entries : ℕ
most_entries = 1048576

-- The lists that are ledgers: heights never fall.
pub record IsLedger (entries : List Entry) : Type 0 where
  pub never_fall : (m n : ℕ) → m ≤ n → n < length entries → height_at entries m ≤ height_at entries n
  pub few : length entries ≤ most_entries

-- whether an entry of this height may be next, or the first reason why not
abbrev pub admitted : List Entry → ℕ → Result Unit LedgerRefused
admitted entries height =
    if nat_lt height (last_height entries) then Err (HeightFalls (last_height entries))
    else if length entries == most_entries then Err LedgerFull
    else Ok tt

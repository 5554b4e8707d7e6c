-- Chunk files, which have deltas: the content of their JSON, the JSON that is written, and their rules (DIF Sidetree
-- v1.0.0, "Chunk Files"). `None` is a file that is not JSON.
use Rattle.std.specs.Prelude.{ℕ, ◌==◌, Bool, not, nat_lt, List, [], ◌∷◌, codes, length, Option, is_none, is_some, option_and_then}
use Rattle.st_base.specs.Rules.{Table, first_failing}
use Rattle.st_plain.specs.Objects.{items_in, object_of_some, some_list}
use Rattle.st_plain.specs.Plain.{Plain}
use Rattle.st_plain.specs.Shapes.{entries_in, json_in, member_in, only_member}
use Rattle.st_datafiles.specs.declared.chunk.ChunkRule.{ChunkRule}
use Rattle.st_datafiles.specs.declared.chunk.ChunkRule.TheVariants.{K1, K2, K3, K4}
use Rattle.st_params.specs.ParamsValue.{ParamsValue}

-- the content of a chunk file's JSON: the deltas, which are any values
unfoldable pub deltas_of : Option Plain → List Plain
deltas_of chunk = entries_in (member_in (codes "deltas") chunk)

-- the JSON written for deltas, without an empty list
abbrev pub chunk_json : List Plain → Plain
chunk_json deltas = object_of_some ((codes "deltas", some_list deltas) ∷ [])

-- ---- the rules

-- it is an object with exactly `deltas`, a list
unfoldable pub has_chunk_form : Option Plain → Bool
has_chunk_form chunk = is_some (option_and_then items_in (only_member (codes "deltas") chunk))

-- those about the JSON
abbrev pub chunk_json_rules : ℕ → Option Plain → Table ChunkRule
chunk_json_rules wanted chunk =
    (K3, not (has_chunk_form chunk))
    ∷ (K4, not (length (deltas_of chunk) == wanted))
    ∷ []

-- all rules, if creates, recovers and updates together are this many
abbrev pub chunk_rules : ParamsValue → ℕ → List ℕ → Table ChunkRule
chunk_rules limits wanted file =
    (K1, nat_lt limits.max_chunk (length file))
    ∷ (K2, is_none (json_in file))
    ∷ chunk_json_rules wanted (json_in file)

-- the name of a rule: a letter for chunk files, and its number
abbrev pub chunk_rule_name : ChunkRule → List ℕ
chunk_rule_name K1 = codes "K1"
chunk_rule_name K2 = codes "K2"
chunk_rule_name K3 = codes "K3"
chunk_rule_name K4 = codes "K4"

-- the first rule that a chunk file fails
abbrev pub first_failing_chunk_rule : ParamsValue → ℕ → List ℕ → Option ChunkRule
first_failing_chunk_rule limits wanted file = first_failing (chunk_rules limits wanted file)

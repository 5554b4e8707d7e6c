-- Proof files, which have the signed texts of operations: the content of their JSON, and the JSON that is written
-- (DIF Sidetree v1.0.0, "Core Proof File" and "Provisional Proof File").
use Rattle.std.specs.List.{filter_map, list_all}
use Rattle.std.specs.Prelude.{ℕ, List, [], ◌∷◌, codes, map, Option, Some, option_and_then, ◌==◌, Bool, not, ◌&&◌, nat_lt, length, is_none}
use Rattle.st_base.specs.Lists.{each_is}
use Rattle.st_base.specs.Rules.{Table, first_failing}
use Rattle.st_plain.specs.Objects.{object_of, object_of_some, some_list, some_listed, some_object, text_in}
use Rattle.st_plain.specs.Plain.{Plain, text, Members}
use Rattle.st_plain.specs.Shapes.{entries_in, member_in, only_member, json_in}
use Rattle.st_scan.specs.Standing.{is_object_of_lists}
use Rattle.st_params.specs.ParamsValue.{ParamsValue}
use Rattle.st_datafiles.specs.declared.proof_files.CoreProofs.{CoreProofs}
use Rattle.st_datafiles.specs.declared.proof_files.ProofRule.{ProofRule}
use Rattle.st_datafiles.specs.declared.proof_files.ProofRule.TheVariants.{Q1, Q2, Q3, Q4}

-- ---- read

-- the entries of one kind; a missing list has none
abbrev pub proofs_of : List ℕ → Option Plain → List Plain
proofs_of kind file = entries_in (member_in kind (member_in (codes "operations") file))

-- an entry: an object with exactly `signedData`, a text
abbrev pub signed_in : Plain → Option (List ℕ)
signed_in entry = option_and_then text_in (only_member (codes "signedData") (Some entry))

-- the signed texts of one kind
unfoldable pub signed_of : List ℕ → Option Plain → List (List ℕ)
signed_of kind file = filter_map signed_in (proofs_of kind file)

-- the content of a core proof file's JSON
abbrev pub core_proofs_of : Option Plain → CoreProofs
core_proofs_of file = record {
  recovers = signed_of (codes "recover") file;
  deactivates = signed_of (codes "deactivate") file;
}

-- ---- written

-- an entry of a proof file: the object with its signed text
abbrev pub signed_json : List ℕ → Plain
signed_json signed = object_of ((codes "signedData", text signed) ∷ [])

-- the JSON of a proof file with these operations, without an empty `operations`
abbrev pub proof_json : Members → Plain
proof_json operations = object_of_some ((codes "operations", some_object operations) ∷ [])

-- of a core proof file, without empty lists
abbrev pub core_proof_json : CoreProofs → Plain
core_proof_json proofs = proof_json (some_listed
    ((codes "recover", some_list (map signed_json proofs.recovers))
    ∷ (codes "deactivate", some_list (map signed_json proofs.deactivates)) ∷ []))

-- of a provisional proof file, without an empty list
abbrev pub provisional_proof_json : List (List ℕ) → Plain
provisional_proof_json updates = proof_json (some_listed ((codes "update", some_list (map signed_json updates)) ∷ []))

-- ---- The rules of the two proof files, given an index file: a test for each, independent of the others, and the tables
-- of them in their order. `None` is a file that is not JSON.

-- It is an object with exactly `operations`, which is an object with no members except lists of these kinds, and each
-- entry is an object with exactly `signedData`, a text.
unfoldable pub has_proof_form : List (List ℕ) → Option Plain → Bool
has_proof_form kinds file =
    is_object_of_lists kinds (only_member (codes "operations") file)
    && list_all (λ kind. each_is signed_in (proofs_of kind file)) kinds

-- there are this many entries of this kind
unfoldable pub has_proofs : List ℕ → ℕ → Option Plain → Bool
has_proofs kind wanted file = length (proofs_of kind file) == wanted

-- ---- the tables

-- the names of the lists of a core proof file
abbrev pub core_proof_kinds : List (List ℕ)
core_proof_kinds = codes "recover" ∷ codes "deactivate" ∷ []

-- the name of the only list of a provisional proof file
abbrev pub provisional_proof_kinds : List (List ℕ)
provisional_proof_kinds = codes "update" ∷ []

-- those about the JSON of a core proof file
abbrev pub core_proof_json_rules : ℕ → ℕ → Option Plain → Table ProofRule
core_proof_json_rules recovers deactivates file =
    (Q3, not (has_proof_form core_proof_kinds file))
    ∷ (Q4, not (has_proofs (codes "recover") recovers file && has_proofs (codes "deactivate") deactivates file))
    ∷ []

-- those about the JSON of a provisional proof file
abbrev pub provisional_proof_json_rules : ℕ → Option Plain → Table ProofRule
provisional_proof_json_rules updates file =
    (Q3, not (has_proof_form provisional_proof_kinds file))
    ∷ (Q4, not (has_proofs (codes "update") updates file))
    ∷ []

-- all rules of a core proof file, if the core index has this many recovers and deactivates
abbrev pub core_proof_rules : ParamsValue → ℕ → ℕ → List ℕ → Table ProofRule
core_proof_rules limits recovers deactivates file =
    (Q1, nat_lt limits.max_proofs (length file))
    ∷ (Q2, is_none (json_in file))
    ∷ core_proof_json_rules recovers deactivates (json_in file)

-- all rules of a provisional proof file, if the provisional index has this many updates
abbrev pub provisional_proof_rules : ParamsValue → ℕ → List ℕ → Table ProofRule
provisional_proof_rules limits updates file =
    (Q1, nat_lt limits.max_proofs (length file))
    ∷ (Q2, is_none (json_in file))
    ∷ provisional_proof_json_rules updates (json_in file)

-- the name of a rule: a letter for both proof files, and its number
abbrev pub proof_rule_name : ProofRule → List ℕ
proof_rule_name Q1 = codes "Q1"
proof_rule_name Q2 = codes "Q2"
proof_rule_name Q3 = codes "Q3"
proof_rule_name Q4 = codes "Q4"

-- the first rule that a core proof file fails
abbrev pub first_failing_core_proof_rule : ParamsValue → ℕ → ℕ → List ℕ → Option ProofRule
first_failing_core_proof_rule limits recovers deactivates file =
    first_failing (core_proof_rules limits recovers deactivates file)

-- the first rule that a provisional proof file fails
abbrev pub first_failing_provisional_proof_rule : ParamsValue → ℕ → List ℕ → Option ProofRule
first_failing_provisional_proof_rule limits updates file = first_failing (provisional_proof_rules limits updates file)

-- What is known about an entry (DIF Sidetree v1.0.0, "File Structures"): for each role, that its file isn't needed,
-- is missing or fails a rule, or the file's content. It is a tree in the shape of the files, so that nothing is known
-- below a file that wasn't read.
use Rattle.std.specs.Prelude.{ℕ, ◌+◌, List, codes, length, map, Option, Some, None, refl}
use Rattle.std.specs.Coded.{Coded, code_by, coded×}
use Rattle.st_base.specs.Rules.{first_failing}
use Rattle.st_plain.specs.Plain.{Plain}
use Rattle.st_plain.specs.Shapes.{json_in}
use Rattle.st_content.specs.Files.{Files, file_at}
use Rattle.st_datafiles.specs.Chunk.{deltas_of, first_failing_chunk_rule}
use Rattle.st_datafiles.specs.ProofFiles.{core_proofs_of, signed_of, first_failing_core_proof_rule, first_failing_provisional_proof_rule}
use Rattle.st_datafiles.specs.declared.role.Role.{Role}
use Rattle.st_datafiles.specs.declared.role.Role.TheVariants.{Core, CoreProof, Provisional, ProvisionalProof, Chunk}
use Rattle.st_hash.specs.Hash.{HashValue}
use Rattle.st_indexfiles.specs.CoreIndex.{core_index_of, first_failing_core_rule}
use Rattle.st_indexfiles.specs.ProvisionalIndex.{provisional_index_of, first_failing_provisional_rule}
use Rattle.st_indexfiles.specs.declared.core_index.CoreIndex.{CoreIndex}
use Rattle.st_indexfiles.specs.declared.provisional_index.ProvisionalIndex.{ProvisionalIndex}
use Rattle.st_indexfiles.specs.declared.provisional_index.ProvisionalRule.{ProvisionalRule}
use Rattle.st_indexfiles.specs.declared.provisional_index.ProvisionalRule.TheVariants.{P4}
use Rattle.st_ledger.specs.Ledger.{anchor_of, anchor_rules}
use Rattle.st_ledger.specs.declared.anchor.Anchor.{Anchor}
use Rattle.st_ledger.specs.declared.anchor.AnchorRule.{AnchorRule}
use Rattle.st_ledger.specs.declared.anchor.AnchorRule.TheVariants.{A3}
use Rattle.st_ops.specs.Operation.{Proof}
use Rattle.st_params.specs.ParamsValue.{ParamsValue}
use Rattle.st_anchor.specs.SignedTexts.{opened_of, proof_of}
use Rattle.st_anchor.specs.contracts.branches.Context as context_row
use Rattle.st_anchor.specs.contracts.branches.CoreBranch as branch_row
use Rattle.st_anchor.specs.contracts.part.Part as part_row
use Rattle.st_anchor.specs.declared.branches.Context.{Context}
use Rattle.st_anchor.specs.declared.branches.CoreBranch.{CoreBranch}
use Rattle.st_anchor.specs.declared.branches.OpenedCore.{OpenedCore}
use Rattle.st_anchor.specs.declared.branches.ProvisionalBranch.{ProvisionalBranch}
use Rattle.st_anchor.specs.declared.part.Part.{Part}
use Rattle.st_anchor.specs.declared.part.Part.TheVariants.{Unneeded, Missing, Rejected, Is}
use Rattle.st_anchor.specs.declared.part.Rule.{Rule}
use Rattle.st_anchor.specs.declared.part.Rule.TheVariants as fails

-- what is known about one entry: the count that it declares, or 0 if its text has none, with the limits at its
-- height; and its core index file
pub record BoundValue : Type 0 where
  pub context : Context
  pub core : Part CoreBranch

-- it is stored as the pair of its fields
abbrev pub coded_known : Coded BoundValue
coded_known =
    code_by (Context × Part CoreBranch) (coded× context_row.the_row.coded (part_row.the_row branch_row.the_row).coded)
    (λ bound. (bound.context, bound.core)) (λ fields. record { context = fields.0; core = fields.1 }) (λ _. refl)

-- ---- a file that was read

-- a file that may be named, before it is looked up
abbrev pub named : {Says : Type 0} → Option HashValue → Part Says
named None = Unneeded
named (Some uri) = Missing uri

-- the first rule that the file fails, or its content
abbrev pub judged : {Failing Says : Type 0} → (Failing → Rule) → Option Failing → Says → Part Says
judged rule_of None says = Is says
judged rule_of (Some failing) says = Rejected (rule_of failing)

-- a core index, before the files that it names are looked up
abbrev pub core_branch : CoreIndex → CoreBranch
core_branch index = record { says = index; proofs = named index.core_proof; provisional = named index.provisional }

-- a provisional index, before the files that it names are looked up
abbrev pub provisional_branch : ProvisionalIndex → ProvisionalBranch
provisional_branch index = record { says = index; proofs = named index.proof; chunk = Missing index.chunk }

-- A provisional index that names no chunk file fails P4, so the last case never occurs.
abbrev pub provisional_judged : Option ProvisionalRule → Option ProvisionalIndex → Part ProvisionalBranch
provisional_judged (Some failing) says = Rejected (fails.Provisional failing)
provisional_judged None (Some index) = Is (provisional_branch index)
provisional_judged None None = Rejected (fails.Provisional P4)

-- the number of deltas of a chunk file: one for each create, recover and update
abbrev pub delta_count : CoreIndex → ProvisionalIndex → ℕ
delta_count core provisional = length core.creates + length core.recovers + length provisional.updates

-- ---- the part of a role from the bytes of its file, in the context of the files above it

-- a core index file, by its rules under the declared count
unfoldable pub core_in : Context → List ℕ → Part CoreBranch
core_in context bytes =
    judged fails.Core (first_failing_core_rule context.params context.count bytes)
    (core_branch (core_index_of context.params.version (json_in bytes)))

-- a core proof file, given the core index that names it; each signed text is opened
unfoldable pub core_proof_in : Context → CoreIndex → List ℕ → Part OpenedCore
core_proof_in context core bytes =
    judged fails.Proofs (first_failing_core_proof_rule context.params (length core.recovers) (length core.deactivates) bytes)
    (opened_of context.params.max_signed (core_proofs_of (json_in bytes)))

-- a provisional index file, given the core index that names it
unfoldable pub provisional_in : Context → CoreIndex → List ℕ → Part ProvisionalBranch
provisional_in context core bytes =
    provisional_judged (first_failing_provisional_rule context.params context.count core bytes)
    (provisional_index_of context.params.version (json_in bytes))

-- a provisional proof file, given the provisional index that names it
unfoldable pub provisional_proof_in : Context → ProvisionalIndex → List ℕ → Part (List (Option Proof))
provisional_proof_in context provisional bytes =
    judged fails.Proofs (first_failing_provisional_proof_rule context.params (length provisional.updates) bytes)
    (map (proof_of context.params.max_signed) (signed_of (codes "update") (json_in bytes)))

-- a chunk file, given both indexes
unfoldable pub chunk_in : Context → CoreIndex → ProvisionalIndex → List ℕ → Part (List Plain)
chunk_in context core provisional bytes =
    judged fails.Chunk (first_failing_chunk_rule context.params (delta_count core provisional) bytes) (deltas_of (json_in bytes))

-- ---- what is known after files were received

-- a file that was read, after the files below it are looked up
abbrev pub looked_below : {Says : Type 0} → (Says → Says) → Part Says → Part Says
looked_below below Unneeded = Unneeded
looked_below below (Missing uri) = Missing uri
looked_below below (Rejected rule) = Rejected rule
looked_below below (Is says) = Is (below says)

-- a missing file, if it may have been received
abbrev pub looked_at : {Says : Type 0} → (List ℕ → Part Says) → (Says → Says) → HashValue → Option (List ℕ) → Part Says
looked_at read below uri None = Missing uri
looked_at read below uri (Some bytes) = looked_below below (read bytes)

-- The part of a missing file from its bytes, if it was received; then the files below it likewise.
abbrev pub looked_up : {Says : Type 0} → (List ℕ → Part Says) → (Says → Says) → Files → Part Says → Part Says
looked_up read below files Unneeded = Unneeded
looked_up read below files (Missing uri) = looked_at read below uri (file_at uri files)
looked_up read below files (Rejected rule) = Rejected rule
looked_up read below files (Is says) = Is (below says)

-- no file is below this one
abbrev pub as_it_is : {Says : Type 0} → Says → Says
as_it_is says = says

-- a provisional index, after the files that it names are looked up
abbrev pub provisional_over : Context → CoreIndex → Files → ProvisionalBranch → ProvisionalBranch
provisional_over context core files branch = record {
  says = branch.says;
  proofs = looked_up (provisional_proof_in context branch.says) as_it_is files branch.proofs;
  chunk = looked_up (chunk_in context core branch.says) as_it_is files branch.chunk;
}

-- a core index, after the files that it names and those below are looked up
abbrev pub core_over : Context → Files → CoreBranch → CoreBranch
core_over context files branch = record {
  says = branch.says;
  proofs = looked_up (core_proof_in context branch.says) as_it_is files branch.proofs;
  provisional = looked_up (provisional_in context branch.says) (provisional_over context branch.says files) files branch.provisional;
}

-- what is known after these files are looked up, from what was known before
unfoldable pub known_from : Files → BoundValue → BoundValue
known_from files bound = record {
  context = bound.context;
  core = looked_up (core_in bound.context) (core_over bound.context files) files bound.core;
}

-- An entry's text at these limits, before any file is looked up. A text that fails no rule has a content, so the last
-- case never occurs.
abbrev pub anchor_judged : ParamsValue → Option AnchorRule → Option Anchor → BoundValue
anchor_judged limits (Some failing) says =
    record { context = record { count = 0; params = limits }; core = Rejected (fails.Anchor failing) }
anchor_judged limits None (Some anchor) =
    record { context = record { count = anchor.count; params = limits }; core = Missing anchor.core }
anchor_judged limits None None =
    record { context = record { count = 0; params = limits }; core = Rejected (fails.Anchor A3) }

-- what is known about an entry by its text alone, at these limits
unfoldable pub known_of_text : ParamsValue → List ℕ → BoundValue
known_of_text limits text = anchor_judged limits (first_failing (anchor_rules limits text)) (anchor_of limits text)

-- What is known about an entry with this text, over the files received and at the limits of its height. Each file is
-- looked up by its URI.
unfoldable pub known : Files → ParamsValue → List ℕ → BoundValue
known files limits text = known_from files (known_of_text limits text)

-- ---- what is known after one more file is read

-- a missing file, with these bytes
abbrev pub filled : {Says : Type 0} → (List ℕ → Part Says) → List ℕ → Part Says → Part Says
filled read bytes Unneeded = Unneeded
filled read bytes (Missing uri) = read bytes
filled read bytes (Rejected rule) = Rejected rule
filled read bytes (Is says) = Is says

-- the files below a provisional index, after the file of a role is read
abbrev pub provisional_with : Role → Context → CoreIndex → List ℕ → ProvisionalBranch → ProvisionalBranch
provisional_with ProvisionalProof context core bytes branch =
    record branch { proofs = filled (provisional_proof_in context branch.says) bytes branch.proofs }
provisional_with Chunk context core bytes branch =
    record branch { chunk = filled (chunk_in context core branch.says) bytes branch.chunk }
provisional_with other context core bytes branch = branch

-- a provisional index and the files below it, after the file of a role is read
abbrev pub provisional_part_with : Role → Context → CoreIndex → List ℕ → Part ProvisionalBranch → Part ProvisionalBranch
provisional_part_with Provisional context core bytes part = filled (provisional_in context core) bytes part
provisional_part_with role context core bytes part = looked_below (provisional_with role context core bytes) part

-- the files below a core index, after the file of a role is read
abbrev pub core_with : Role → Context → List ℕ → CoreBranch → CoreBranch
core_with Core context bytes branch = branch
core_with CoreProof context bytes branch =
    record branch { proofs = filled (core_proof_in context branch.says) bytes branch.proofs }
core_with role context bytes branch =
    record branch { provisional = provisional_part_with role context branch.says bytes branch.provisional }

-- what is known after the missing file of a role is read from these bytes
unfoldable pub bound_with : Role → List ℕ → BoundValue → BoundValue
bound_with Core bytes bound = record bound { core = filled (core_in bound.context) bytes bound.core }
bound_with role bytes bound = record bound { core = looked_below (core_with role bound.context bytes) bound.core }

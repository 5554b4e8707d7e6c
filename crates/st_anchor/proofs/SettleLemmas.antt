-- Reading the missing file of a role, if the core index is missing or was read.
use Rattle.std.proofs.Common.{◌≡◌, ◌∙◌, ◌-◌, ℕ, List, refl, sym, ap, subst, arith, ◌+◌, ◌≤◌, ◌<◌, codes, length, map, Option, option_map, Some, None}
use Rattle.std.proofs.lemmas.List.{length-map}
use Rattle.st_base.specs.Work.{WorkValue}
use Rattle.st_plain.specs.Plain.{Plain}
use Rattle.st_plain.specs.Shapes.{json_in}
use Rattle.st_hash.specs.Hash.{HashValue, uri_of}
use Rattle.st_indexfiles.specs.declared.core_index.CoreIndex.{CoreIndex}
use Rattle.st_indexfiles.specs.declared.provisional_index.ProvisionalIndex.{ProvisionalIndex}
use Rattle.st_indexfiles.specs.declared.provisional_index.ProvisionalRule.{ProvisionalRule}
use Rattle.st_datafiles.specs.Chunk.{deltas_of, first_failing_chunk_rule}
use Rattle.st_datafiles.specs.ProofFiles.{core_proofs_of, signed_of, first_failing_core_proof_rule, first_failing_provisional_proof_rule}
use Rattle.st_datafiles.specs.declared.chunk.ChunkRule.{ChunkRule}
use Rattle.st_datafiles.specs.declared.proof_files.CoreProofs.{CoreProofs}
use Rattle.st_datafiles.specs.declared.proof_files.ProofRule.{ProofRule}
use Rattle.st_datafiles.specs.declared.role.Role.{Role}
use Rattle.st_datafiles.specs.declared.role.Role.TheVariants.{Core, CoreProof, Provisional, ProvisionalProof, Chunk}
use Rattle.st_ops.specs.Operation.{Proof}
use Rattle.st_content.specs.Files.{Files}
use Rattle.st_anchor.proofs.CountLemmas.{opened-core_in, opened-provisional_in, decided_roles-small, decided_roles-up, decided_roles-with, opened_proofs-up, opened_proofs-with, few-after, worked-both}
use Rattle.st_anchor.proofs.KnownLemmas.{known_from-rest, known_from-with}
use Rattle.st_anchor.specs.BoundValue.{BoundValue, bound_with, core_in, core_with, filled, looked_below, provisional_part_with, provisional_with, known_from, chunk_in, core_proof_in, delta_count, judged, provisional_branch, provisional_judged, provisional_proof_in}
use Rattle.st_anchor.specs.Gives.{opened_by, HasCome, NoneHasCome, newly_decided, newly_opened}
use Rattle.st_anchor.specs.SignedTexts.{opened_of, proof_of}
use Rattle.st_anchor.specs.States.{core_state, count_read, opened_in_core, opened_in_provisional, opened_proofs, provisional_part_state, role_state, state, state_below, decided_roles, core_proof_count, WorkedAtMost, one_file_with, worked}
use Rattle.st_anchor.specs.declared.branches.Context.{Context}
use Rattle.st_anchor.specs.declared.branches.CoreBranch.{CoreBranch}
use Rattle.st_anchor.specs.declared.branches.OpenedCore.{OpenedCore}
use Rattle.st_anchor.specs.declared.branches.ProvisionalBranch.{ProvisionalBranch}
use Rattle.st_anchor.specs.declared.part.Part.{Part}
use Rattle.st_anchor.specs.declared.part.Part.TheVariants.{Missing, Is, Rejected}
use Rattle.st_anchor.specs.declared.part.RoleState.TheVariants as role_is
use Rattle.st_anchor.specs.declared.part.Rule.{Rule}
use Rattle.st_anchor.specs.declared.part.Rule.TheVariants as fails
use Rattle.st_anchor.specs.inside.Coming.{IsMissing}

-- ---- below a core index

-- the role is that of the provisional index, or of a file that it names
pub provisional-missing : (role : Role) (context : Context) (core : CoreIndex) (bytes : List ℕ) (missed : HashValue)
    → IsMissing (provisional_part_state role (Missing missed))
    → count_read opened_in_provisional (provisional_part_with role context core bytes (Missing missed)) - 0 ≡ 0
provisional-missing Core context core bytes missed is = absurd is
provisional-missing CoreProof context core bytes missed is = absurd is
provisional-missing Provisional context core bytes missed is = omega (arith, opened-provisional_in context core bytes)
provisional-missing ProvisionalProof context core bytes missed is = absurd is
provisional-missing Chunk context core bytes missed is = absurd is

pub provisional-is : (role : Role) (context : Context) (core : CoreIndex) (bytes : List ℕ) (branch : ProvisionalBranch)
    → IsMissing (provisional_part_state role (Is branch))
    → provisional_part_with role context core bytes (Is branch) ≡ Is (provisional_with role context core bytes branch)
provisional-is Core context core bytes branch is = refl
provisional-is CoreProof context core bytes branch is = refl
provisional-is Provisional context core bytes branch is = absurd is
provisional-is ProvisionalProof context core bytes branch is = refl
provisional-is Chunk context core bytes branch is = refl

-- ---- the whole tree

module _ (context : Context) (core : Part CoreBranch) (uri : HashValue) (file : List ℕ) where
  abbrev bound : BoundValue
  bound = record { context = context; core = core }

  below-missing : (role : Role) (missed : HashValue) → core ≡ Missing missed → state_below (core_state role) core ≡ role_is.Missing uri → ⊥
  below-missing role missed is missing =
      let none : role_is.Unneeded ≡ role_is.Missing uri = ap (state_below (core_state role)) (sym is) ∙ missing in cc

  pub opened_by-missing : (role : Role) (missed : HashValue) → core ≡ Missing missed → role_state role bound ≡ role_is.Missing uri
      → opened_by role file bound ≡ 0
  unfolding role_state bound_with opened_proofs
  opened_by-missing Core missed is missing =
      ap (λ part. count_read opened_in_core (filled (core_in context) file part) - count_read opened_in_core part) is
      ∙ (let none : count_read opened_in_core (core_in context file) - 0 ≡ 0 = omega (arith, opened-core_in context file) in none)
  opened_by-missing CoreProof missed is missing = absurd (below-missing CoreProof missed is missing)
  opened_by-missing Provisional missed is missing = absurd (below-missing Provisional missed is missing)
  opened_by-missing ProvisionalProof missed is missing = absurd (below-missing ProvisionalProof missed is missing)
  opened_by-missing Chunk missed is missing = absurd (below-missing Chunk missed is missing)

  module _ (branch : CoreBranch) (is : core ≡ Is branch) where
    core-read : role_state Core bound ≡ role_is.Missing uri → ⊥
    unfolding role_state
    core-read missing = let read : role_is.Read ≡ role_is.Missing uri = ap state (sym is) ∙ missing in cc

    below-is : (role : Role) → state_below (core_state role) core ≡ role_is.Missing uri → core_state role branch ≡ role_is.Missing uri
    below-is role missing = ap (state_below (core_state role)) (sym is) ∙ missing

    state-is : (role : Role) → role_state role bound ≡ role_is.Missing uri → core_state role branch ≡ role_is.Missing uri
    unfolding role_state
    state-is Core missing = absurd (core-read missing)
    state-is CoreProof missing = below-is CoreProof missing
    state-is Provisional missing = below-is Provisional missing
    state-is ProvisionalProof missing = below-is ProvisionalProof missing
    state-is Chunk missing = below-is Chunk missing

    pub missing-is : (role : Role) → role_state role bound ≡ role_is.Missing uri → IsMissing (core_state role branch)
    missing-is role missing = subst IsMissing (sym (state-is role missing)) tt

    abbrev with_branch : Role → BoundValue
    with_branch role = record { context = context; core = Is (core_with role context file branch) }

    below-with : (role : Role) → record bound { core = looked_below (core_with role context file) core } ≡ with_branch role
    below-with role = ap (λ part. record bound { core = looked_below (core_with role context file) part }) is

    pub bound_with-is : (role : Role) → role_state role bound ≡ role_is.Missing uri → bound_with role file bound ≡ with_branch role
    unfolding role_state bound_with
    bound_with-is Core missing = absurd (core-read missing)
    bound_with-is CoreProof missing = below-with CoreProof
    bound_with-is Provisional missing = below-with Provisional
    bound_with-is ProvisionalProof missing = below-with ProvisionalProof
    bound_with-is Chunk missing = below-with Chunk

    pub opened_by-is : (role : Role) → role_state role bound ≡ role_is.Missing uri
        → opened_by role file bound ≡ opened_in_core (core_with role context file branch) - opened_in_core branch
    unfolding opened_proofs
    opened_by-is role missing = λ i. opened_proofs (bound_with-is role missing i) - count_read opened_in_core (is i)

-- ---- Reading missing files one after another.

-- on the way from what was known at the start to what the files give
pub record Settles (files : Files) (start : BoundValue) (before : WorkValue) (bound : BoundValue) (work : WorkValue) : Type 0 where
  pub same : known_from files bound ≡ known_from files start
  pub decided : decided_roles start ≤ decided_roles bound
  pub opened : opened_proofs start ≤ opened_proofs bound
  pub counts : work ≡ worked (decided_roles bound - decided_roles start) (opened_proofs bound - opened_proofs start) before

pub settles-smaller : (bound : BoundValue) (role : Role) (file : List ℕ) (files : Files) → HasCome files bound role file
    → 5 - decided_roles (bound_with role file bound) < 5 - decided_roles bound
settles-smaller bound role file files come =
    let one : decided_roles (bound_with role file bound) ≡ decided_roles bound + 1 = decided_roles-with role bound (uri_of file) file come.missing in
    omega (arith, decided_roles-small (bound_with role file bound))

module _ {files : Files} {start : BoundValue} {before : WorkValue} {bound : BoundValue} {work : WorkValue} (so : Settles files start before bound work) where
  pub settles-bind : (role : Role) (file : List ℕ) (after : WorkValue) → HasCome files bound role file
      → after ≡ one_file_with (opened_by role file bound) work → Settles files start before (bound_with role file bound) after
  settles-bind role file after come counts =
      let next : BoundValue = bound_with role file bound in
      let one : decided_roles next ≡ decided_roles bound + 1 = decided_roles-with role bound (uri_of file) file come.missing in
      let more : opened_proofs bound ≤ opened_proofs next = opened_proofs-with role bound (uri_of file) file come.missing in
      let files_now : 1 + (decided_roles bound - decided_roles start) ≡ decided_roles next - decided_roles start = omega (arith, so.decided) in
      let proofs_now : opened_by role file bound + (opened_proofs bound - opened_proofs start) ≡ opened_proofs next - opened_proofs start =
      omega (arith, so.opened) in
      record {
        same = known_from-with role files bound file come ∙ so.same;
        decided = omega (arith, so.decided);
        opened = omega (arith, so.opened);
        counts =
            counts ∙ ap (worked 1 (opened_by role file bound)) so.counts
            ∙ worked-both (decided_roles bound - decided_roles start) (opened_proofs bound - opened_proofs start) 1 (opened_by role file bound) before
            ∙ (λ i. worked (files_now i) (proofs_now i) before);
      }

  pub settled-known : NoneHasCome files bound → bound ≡ known_from files start
  settled-known none = sym (known_from-rest files bound none) ∙ so.same

  pub settled-counts : NoneHasCome files bound → work ≡ worked (newly_decided files start) (newly_opened files start) before
  settled-counts none =
      so.counts
      ∙ ap (λ b. worked (decided_roles b - decided_roles start) (opened_proofs b - opened_proofs start) before) (settled-known none)

  pub settled-few : WorkedAtMost (newly_decided files start) (newly_opened files start) before work
  settled-few = record {
    files_read = decided_roles bound - decided_roles start;
    proofs_opened = opened_proofs bound - opened_proofs start;
    few_files = omega (arith, decided_roles-up files bound, ap decided_roles so.same);
    few_proofs = omega (arith, opened_proofs-up files bound, ap opened_proofs so.same);
    counts = so.counts;
  }

  -- memory ran out while a file was read
  pub settled-wanting : (role : Role) (file : List ℕ) (after : WorkValue) → HasCome files bound role file
      → WorkedAtMost 1 (opened_by role file bound) work after
      → WorkedAtMost (newly_decided files start) (newly_opened files start) before after
  settled-wanting role file after come few =
      let next : BoundValue = bound_with role file bound in
      let one : decided_roles next ≡ decided_roles bound + 1 = decided_roles-with role bound (uri_of file) file come.missing in
      let more : opened_proofs bound ≤ opened_proofs next = opened_proofs-with role bound (uri_of file) file come.missing in
      let same : known_from files next ≡ known_from files start = known_from-with role files bound file come ∙ so.same in
      let all = few-after (decided_roles bound - decided_roles start) (opened_proofs bound - opened_proofs start) 1 (opened_by role file bound)
      before after (subst (λ work. WorkedAtMost 1 (opened_by role file bound) work after) so.counts few) in
      record {
        files_read = all.files_read;
        proofs_opened = all.proofs_opened;
        few_files = omega (arith, all.few_files, so.decided, decided_roles-up files next, ap decided_roles same);
        few_proofs = omega (arith, all.few_proofs, so.opened, opened_proofs-up files next, ap opened_proofs same);
        counts = all.counts;
      }

-- ---- A reader's answer is the part from the bytes; and the number of signed texts.

-- a file that fails no rule
pub judged-says : {Failing Says : Type 0} (rule_of : Failing → Rule) (failing : Option Failing) (said found : Says)
    → failing ≡ None → Some said ≡ Some found → Is found ≡ judged rule_of failing said
judged-says rule_of failing said found none is =
    let same : said ≡ found = cc in
    rw (none, same) refl

-- a file that fails a rule
pub judged-fails : {Failing Says : Type 0} (rule_of : Failing → Rule) (failing : Option Failing) (rule : Failing) (says : Says)
    → failing ≡ Some rule → Rejected (rule_of rule) ≡ judged rule_of failing says
judged-fails rule_of failing rule says is = rw is refl

-- the same for a provisional index
pub provisional-says : (failing : Option ProvisionalRule) (says : Option ProvisionalIndex) (index : ProvisionalIndex)
    → failing ≡ None → says ≡ Some index → Is (provisional_branch index) ≡ provisional_judged failing says
provisional-says failing says index none is = rw (none, is) refl

pub provisional-fails : (failing : Option ProvisionalRule) (says : Option ProvisionalIndex) (rule : ProvisionalRule)
    → failing ≡ Some rule → Rejected (fails.Provisional rule) ≡ provisional_judged failing says
provisional-fails failing says rule is = rw is refl

-- ---- the number of signed texts

pub count-rejected : {Says : Type 0} (count : Says → ℕ) (part : Part Says) (rule : Rule) → Rejected rule ≡ part → count_read count part ≡ 0
count-rejected count part rule is = ap (count_read count) (sym is)

pub count-is : {Says : Type 0} (count : Says → ℕ) (part : Part Says) (says : Says) → Is says ≡ part → count_read count part ≡ count says
count-is count part says is = ap (count_read count) (sym is)

pub count-core : (part : Part OpenedCore) (opened : OpenedCore) (limit : ℕ) (proofs : CoreProofs) → Is opened ≡ part → opened ≡ opened_of limit proofs
    → count_read core_proof_count part ≡ length proofs.recovers + length proofs.deactivates
count-core part opened limit proofs is all =
    count-is core_proof_count part opened is ∙ ap core_proof_count all
    ∙ (λ i. length-map proofs.recovers (proof_of limit) i + length-map proofs.deactivates (proof_of limit) i)

pub count-provisional : (part : Part (List (Option Proof))) (opened : List (Option Proof)) (limit : ℕ) (texts : List (List ℕ)) → Is opened ≡ part
    → opened ≡ map (proof_of limit) texts → count_read length part ≡ length texts
count-provisional part opened limit texts is all =
    count-is length part opened is ∙ ap length all ∙ length-map texts (proof_of limit)

-- ---- the answers of readers, if the numbers of entries are those of the index file

module _ (context : Context) (core : CoreIndex) (bytes : List ℕ) (recovers deactivates : ℕ)
    (r : recovers ≡ length core.recovers) (d : deactivates ≡ length core.deactivates) where
  pub core_proof-says : (proofs : CoreProofs) → first_failing_core_proof_rule context.params recovers deactivates bytes ≡ None
      → Some (core_proofs_of (json_in bytes)) ≡ Some proofs → Is (opened_of context.params.max_signed proofs) ≡ core_proof_in context core bytes
  unfolding core_proof_in
  core_proof-says proofs none is =
      judged-says fails.Proofs _ _ (opened_of context.params.max_signed proofs)
      ((λ i. first_failing_core_proof_rule context.params (sym r i) (sym d i) bytes) ∙ none) (ap (option_map (opened_of context.params.max_signed)) is)

  pub core_proof-fails : (rule : ProofRule) → first_failing_core_proof_rule context.params recovers deactivates bytes ≡ Some rule
      → Rejected (fails.Proofs rule) ≡ core_proof_in context core bytes
  unfolding core_proof_in
  core_proof-fails rule is =
      judged-fails fails.Proofs _ rule _ ((λ i. first_failing_core_proof_rule context.params (sym r i) (sym d i) bytes) ∙ is)

  pub core_proof-count : (proofs : CoreProofs) → first_failing_core_proof_rule context.params recovers deactivates bytes ≡ None
      → Some (core_proofs_of (json_in bytes)) ≡ Some proofs
      → count_read core_proof_count (core_proof_in context core bytes) ≡ length proofs.recovers + length proofs.deactivates
  core_proof-count proofs none is =
      count-core (core_proof_in context core bytes) _ context.params.max_signed proofs (core_proof-says proofs none is) refl

module _ (context : Context) (provisional : ProvisionalIndex) (bytes : List ℕ) (updates : ℕ) (u : updates ≡ length provisional.updates) where
  pub provisional_proof-says : (texts : List (List ℕ)) → first_failing_provisional_proof_rule context.params updates bytes ≡ None
      → Some (signed_of (codes "update") (json_in bytes)) ≡ Some texts
      → Is (map (proof_of context.params.max_signed) texts) ≡ provisional_proof_in context provisional bytes
  unfolding provisional_proof_in
  provisional_proof-says texts none is =
      judged-says fails.Proofs _ _ (map (proof_of context.params.max_signed) texts)
      (ap (λ n. first_failing_provisional_proof_rule context.params n bytes) (sym u) ∙ none) (ap (option_map (map (proof_of context.params.max_signed))) is)

  pub provisional_proof-fails : (rule : ProofRule) → first_failing_provisional_proof_rule context.params updates bytes ≡ Some rule
      → Rejected (fails.Proofs rule) ≡ provisional_proof_in context provisional bytes
  unfolding provisional_proof_in
  provisional_proof-fails rule is =
      judged-fails fails.Proofs _ rule _ (ap (λ n. first_failing_provisional_proof_rule context.params n bytes) (sym u) ∙ is)

  pub provisional_proof-count : (texts : List (List ℕ)) → first_failing_provisional_proof_rule context.params updates bytes ≡ None
      → Some (signed_of (codes "update") (json_in bytes)) ≡ Some texts
      → count_read length (provisional_proof_in context provisional bytes) ≡ length texts
  provisional_proof-count texts none is =
      count-provisional (provisional_proof_in context provisional bytes) _ context.params.max_signed texts (provisional_proof-says texts none is) refl

module _ (context : Context) (core : CoreIndex) (provisional : ProvisionalIndex) (bytes : List ℕ) (wanted : ℕ) (w : wanted ≡ delta_count core provisional) where
  pub chunk-says : (deltas : List Plain) → first_failing_chunk_rule context.params wanted bytes ≡ None
      → Some (deltas_of (json_in bytes)) ≡ Some deltas → Is deltas ≡ chunk_in context core provisional bytes
  unfolding chunk_in
  chunk-says deltas none is =
      judged-says fails.Chunk _ _ deltas (ap (λ n. first_failing_chunk_rule context.params n bytes) (sym w) ∙ none) is

  pub chunk-fails : (rule : ChunkRule) → first_failing_chunk_rule context.params wanted bytes ≡ Some rule
      → Rejected (fails.Chunk rule) ≡ chunk_in context core provisional bytes
  unfolding chunk_in
  chunk-fails rule is = judged-fails fails.Chunk _ rule _ (ap (λ n. first_failing_chunk_rule context.params n bytes) (sym w) ∙ is)

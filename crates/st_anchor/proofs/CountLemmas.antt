-- The number of decided roles, and of signed texts in the proof files that were read. Both add up what each file of an
-- entry counts, which is nothing before it is read.
--     decided_roles-with    reading a missing file decides exactly one more role
--     decided_roles-up      a lookup undoes no decision
--     decided_roles-small   there are at most five
--     opened_proofs-with    reading a missing file undoes no reading
--     opened_proofs-up      nor does a lookup
--     opened-core_in, opened-provisional_in    an index file has no signed texts
use Rattle.std.proofs.Common.{◌≡◌, ◌∙◌, ◌+◌, ◌≤◌, ℕ, List, length, Option, Some, None, refl, sym, subst, arith, zero, suc, ◌<◌, ap}
use Rattle.std.proofs.lemmas.List.Sums.{sum_by-le-sum_by}
use Rattle.st_base.specs.Work.{WorkValue, counted, one_file, one_proof}
use Rattle.st_plain.specs.Plain.{Plain}
use Rattle.st_plain.specs.Shapes.{json_in}
use Rattle.st_hash.specs.Hash.{HashValue}
use Rattle.st_indexfiles.specs.CoreIndex.{core_index_of, first_failing_core_rule}
use Rattle.st_indexfiles.specs.ProvisionalIndex.{provisional_index_of, first_failing_provisional_rule}
use Rattle.st_indexfiles.specs.declared.core_index.CoreIndex.{CoreIndex}
use Rattle.st_indexfiles.specs.declared.core_index.CoreRule.{CoreRule}
use Rattle.st_indexfiles.specs.declared.provisional_index.ProvisionalIndex.{ProvisionalIndex}
use Rattle.st_indexfiles.specs.declared.provisional_index.ProvisionalRule.{ProvisionalRule}
use Rattle.st_datafiles.specs.declared.role.Role.{Role}
use Rattle.st_datafiles.specs.declared.role.Role.TheVariants.{Core, CoreProof, Provisional, ProvisionalProof, Chunk}
use Rattle.st_ops.specs.Operation.{Proof}
use Rattle.st_content.specs.Files.{Files}
use Rattle.st_anchor.proofs.KnownLemmas.{WasRead, chunk_in-read, core_proof_in-read, provisional_proof_in-read}
use Rattle.st_anchor.specs.BoundValue.{BoundValue, as_it_is, bound_with, chunk_in, core_branch, core_in, core_over, core_proof_in, core_with, filled, judged, known_from, looked_below, looked_up, named, provisional_in, provisional_judged, provisional_over, provisional_proof_in, provisional_with}
use Rattle.st_anchor.specs.States.{core_proof_count, core_state, count_read, decided, decided_roles, opened_in_core, opened_in_provisional, opened_proofs, provisional_state, role_state, role_states, state, state_below, WorkedAtMost, counted_more, one_file_with, worked}
use Rattle.st_anchor.specs.declared.branches.Context.{Context}
use Rattle.st_anchor.specs.declared.branches.CoreBranch.{CoreBranch}
use Rattle.st_anchor.specs.declared.branches.OpenedCore.{OpenedCore}
use Rattle.st_anchor.specs.declared.branches.ProvisionalBranch.{ProvisionalBranch}
use Rattle.st_anchor.specs.declared.part.Part.{Part}
use Rattle.st_anchor.specs.declared.part.Part.TheVariants.{Unneeded, Missing, Rejected, Is}
use Rattle.st_anchor.specs.declared.part.RoleState.{RoleState}
use Rattle.st_anchor.specs.declared.part.RoleState.TheVariants as role_is
use Rattle.st_anchor.specs.declared.part.Rule.TheVariants as fails
use Rattle.st_anchor.specs.inside.Coming.{more_proofs}

-- ---- what files count

-- nothing before the file is read, a number if it fails a rule, and otherwise what its content counts
abbrev weigh : {Says : Type 0} → ℕ → (Says → ℕ) → Part Says → ℕ
weigh one count Unneeded = 0
weigh one count (Missing uri) = 0
weigh one count (Rejected rule) = one
weigh one count (Is says) = count says

-- each file counts the same, except for proof files that were read
module _ (one : ℕ) (core_proofs : OpenedCore → ℕ) (proofs : List (Option Proof) → ℕ) where
  abbrev provisional_weight : ProvisionalBranch → ℕ
  provisional_weight branch = one + weigh one proofs branch.proofs + weigh one (λ deltas. one) branch.chunk

  abbrev core_weight : CoreBranch → ℕ
  core_weight branch = one + weigh one core_proofs branch.proofs + weigh one provisional_weight branch.provisional

  abbrev weight : BoundValue → ℕ
  weight bound = weigh one core_weight bound.core

  -- ---- an index file was read

  weigh-named : {Says : Type 0} (count : Says → ℕ) (uri : Option HashValue) → weigh one count (named uri) ≡ 0
  weigh-named count None = refl
  weigh-named count (Some uri) = refl

  provisional-judged : (failing : Option ProvisionalRule) (says : Option ProvisionalIndex)
      → weigh one provisional_weight (provisional_judged failing says) ≡ one
  provisional-judged (Some failing) says = refl
  provisional-judged None (Some index) = omega (arith, weigh-named proofs index.proof)
  provisional-judged None None = refl

  provisional-in : (context : Context) (core : CoreIndex) (bytes : List ℕ) → weigh one provisional_weight (provisional_in context core bytes) ≡ one
  unfolding provisional_in
  provisional-in context core bytes =
      provisional-judged (first_failing_provisional_rule context.params context.count core bytes) (provisional_index_of context.params.version (json_in bytes))

  core-judged : (failing : Option CoreRule) (index : CoreIndex) → weigh one core_weight (judged fails.Core failing (core_branch index)) ≡ one
  core-judged (Some failing) index = refl
  core-judged None index = omega (arith, weigh-named core_proofs index.core_proof, weigh-named provisional_weight index.provisional)

  core-in : (context : Context) (bytes : List ℕ) → weigh one core_weight (core_in context bytes) ≡ one
  unfolding core_in
  core-in context bytes =
      core-judged (first_failing_core_rule context.params context.count bytes) (core_index_of context.params.version (json_in bytes))

  -- ---- files are looked up

  weigh-up : {Says : Type 0} (count : Says → ℕ) (read : List ℕ → Part Says) (below : Says → Says) (files : Files) (part : Part Says)
      → ((says : Says) → count says ≤ count (below says)) → weigh one count part ≤ weigh one count (looked_up read below files part)
  weigh-up count read below files Unneeded more = omega arith
  weigh-up count read below files (Missing uri) more = omega arith
  weigh-up count read below files (Rejected rule) more = omega arith
  weigh-up count read below files (Is says) more = more says

  provisional-up : (context : Context) (core : CoreIndex) (files : Files) (branch : ProvisionalBranch)
      → provisional_weight branch ≤ provisional_weight (provisional_over context core files branch)
  provisional-up context core files branch =
      omega (
        arith,
        weigh-up proofs (provisional_proof_in context branch.says) as_it_is files branch.proofs (λ says. omega arith),
        weigh-up (λ deltas. one) (chunk_in context core branch.says) as_it_is files branch.chunk (λ says. omega arith),
      )

  core-up : (context : Context) (files : Files) (branch : CoreBranch) → core_weight branch ≤ core_weight (core_over context files branch)
  core-up context files branch =
      omega (
        arith,
        weigh-up core_proofs (core_proof_in context branch.says) as_it_is files branch.proofs (λ says. omega arith),
        weigh-up provisional_weight (provisional_in context branch.says) (provisional_over context branch.says files) files branch.provisional
            (provisional-up context branch.says files),
      )

  known-up : (files : Files) (bound : BoundValue) → weight bound ≤ weight (known_from files bound)
  unfolding known_from
  known-up files bound = weigh-up core_weight (core_in bound.context) (core_over bound.context files) files bound.core (core-up bound.context files)

  -- ---- a missing file is read, which adds what it counts

  module _ (IsGain : ℕ → Type 0) (of_one : IsGain one) (of_core : (opened : OpenedCore) → IsGain (core_proofs opened))
      (of_proofs : (opened : List (Option Proof)) → IsGain (proofs opened)) where
    abbrev Gains : ℕ → ℕ → Type 0
    Gains before after = (gain : ℕ) × IsGain gain × (after ≡ before + gain)

    counts-read : {Says : Type 0} (count : Says → ℕ) (part : Part Says) → WasRead part
        → ((says : Says) → IsGain (count says)) → IsGain (weigh one count part)
    counts-read count Unneeded was of = absurd was
    counts-read count (Missing uri) was of = absurd was
    counts-read count (Rejected rule) was of = of_one
    counts-read count (Is says) was of = of says

    gains-filled : {Says : Type 0} (count : Says → ℕ) (read : List ℕ → Part Says) (part : Part Says) (uri : HashValue) (bytes : List ℕ)
        → state part ≡ role_is.Missing uri → IsGain (weigh one count (read bytes)) → Gains (weigh one count part) (weigh one count (filled read bytes part))
    gains-filled count read Unneeded uri bytes is of = absurd cc
    gains-filled count read (Missing missed) uri bytes is of = (weigh one count (read bytes), of, omega arith)
    gains-filled count read (Rejected rule) uri bytes is of = absurd cc
    gains-filled count read (Is says) uri bytes is of = absurd cc

    gains-below : {Says : Type 0} (count : Says → ℕ) (with : Says → Says) (stands : Says → RoleState) (part : Part Says) (uri : HashValue)
        → state_below stands part ≡ role_is.Missing uri → ((says : Says) → stands says ≡ role_is.Missing uri → Gains (count says) (count (with says)))
        → Gains (weigh one count part) (weigh one count (looked_below with part))
    gains-below count with stands Unneeded uri is more = absurd cc
    gains-below count with stands (Missing missed) uri is more = absurd cc
    gains-below count with stands (Rejected rule) uri is more = absurd cc
    gains-below count with stands (Is says) uri is more = more says is

    provisional-gains : (role : Role) (context : Context) (core : CoreIndex) (branch : ProvisionalBranch) (uri : HashValue) (bytes : List ℕ)
        → provisional_state role branch ≡ role_is.Missing uri
        → Gains (provisional_weight branch) (provisional_weight (provisional_with role context core bytes branch))
    provisional-gains Core context core branch uri bytes is = absurd cc
    provisional-gains CoreProof context core branch uri bytes is = absurd cc
    provisional-gains Provisional context core branch uri bytes is = absurd cc
    provisional-gains ProvisionalProof context core branch uri bytes is =
        let gains = gains-filled proofs (provisional_proof_in context branch.says) branch.proofs uri bytes is
        (counts-read proofs (provisional_proof_in context branch.says bytes) (provisional_proof_in-read context branch.says bytes) of_proofs) in
        (gains.0, gains.1, omega (arith, gains.2))
    provisional-gains Chunk context core branch uri bytes is =
        let gains = gains-filled (λ deltas. one) (chunk_in context core branch.says) branch.chunk uri bytes is
        (counts-read (λ deltas. one) (chunk_in context core branch.says bytes) (chunk_in-read context core branch.says bytes) (λ deltas. of_one)) in
        (gains.0, gains.1, omega (arith, gains.2))

    core-gains : (role : Role) (context : Context) (branch : CoreBranch) (uri : HashValue) (bytes : List ℕ)
        → core_state role branch ≡ role_is.Missing uri → Gains (core_weight branch) (core_weight (core_with role context bytes branch))
    core-gains Core context branch uri bytes is = absurd cc
    core-gains CoreProof context branch uri bytes is =
        let gains = gains-filled core_proofs (core_proof_in context branch.says) branch.proofs uri bytes is
        (counts-read core_proofs (core_proof_in context branch.says bytes) (core_proof_in-read context branch.says bytes) of_core) in
        (gains.0, gains.1, omega (arith, gains.2))
    core-gains Provisional context branch uri bytes is =
        let gains = gains-filled provisional_weight (provisional_in context branch.says) branch.provisional uri bytes is
        (subst IsGain (sym (provisional-in context branch.says bytes)) of_one) in
        (gains.0, gains.1, omega (arith, gains.2))
    core-gains ProvisionalProof context branch uri bytes is =
        let gains = gains-below provisional_weight
        (provisional_with ProvisionalProof context branch.says bytes) (provisional_state ProvisionalProof) branch.provisional uri is
        (λ says. provisional-gains ProvisionalProof context branch.says says uri bytes) in
        (gains.0, gains.1, omega (arith, gains.2))
    core-gains Chunk context branch uri bytes is =
        let gains = gains-below provisional_weight
        (provisional_with Chunk context branch.says bytes) (provisional_state Chunk) branch.provisional uri is
        (λ says. provisional-gains Chunk context branch.says says uri bytes) in
        (gains.0, gains.1, omega (arith, gains.2))

    gains-below_core : (role : Role) (bound : BoundValue) (uri : HashValue) (bytes : List ℕ)
        → state_below (core_state role) bound.core ≡ role_is.Missing uri
        → Gains (weight bound) (weigh one core_weight (looked_below (core_with role bound.context bytes) bound.core))
    gains-below_core role bound uri bytes is =
        gains-below core_weight (core_with role bound.context bytes) (core_state role) bound.core uri is
        (λ says. core-gains role bound.context says uri bytes)

    known-gains : (role : Role) (bound : BoundValue) (uri : HashValue) (bytes : List ℕ) → role_state role bound ≡ role_is.Missing uri
        → Gains (weight bound) (weight (bound_with role bytes bound))
    unfolding role_state bound_with
    known-gains Core bound uri bytes is =
        gains-filled core_weight (core_in bound.context) bound.core uri bytes is (subst IsGain (sym (core-in bound.context bytes)) of_one)
    known-gains CoreProof bound uri bytes is = gains-below_core CoreProof bound uri bytes is
    known-gains Provisional bound uri bytes is = gains-below_core Provisional bound uri bytes is
    known-gains ProvisionalProof bound uri bytes is = gains-below_core ProvisionalProof bound uri bytes is
    known-gains Chunk bound uri bytes is = gains-below_core Chunk bound uri bytes is

-- ---- decided roles: each file that was read or rejected counts 1

abbrev each : {Says : Type 0} → Says → ℕ
each says = 1

decided-weigh : {Says : Type 0} (part : Part Says) → decided (state part) ≡ weigh 1 each part
decided-weigh Unneeded = refl
decided-weigh (Missing uri) = refl
decided-weigh (Rejected rule) = refl
decided-weigh (Is says) = refl

decided-provisional : (part : Part ProvisionalBranch)
    → decided (state part) + decided (state_below (provisional_state ProvisionalProof) part) + decided (state_below (provisional_state Chunk) part)
    ≡ weigh 1 (provisional_weight 1 each each) part
decided-provisional Unneeded = refl
decided-provisional (Missing uri) = refl
decided-provisional (Rejected rule) = refl
decided-provisional (Is branch) = omega (arith, decided-weigh branch.proofs, decided-weigh branch.chunk)

decided-part : (context : Context) (part : Part CoreBranch) → decided_roles (record { context = context; core = part }) ≡ weigh 1 (core_weight 1 each each) part
unfolding decided_roles role_state
decided-part context Unneeded = refl
decided-part context (Missing uri) = refl
decided-part context (Rejected rule) = refl
decided-part context (Is branch) =
    let sum : 0 + 1 + decided (state branch.proofs) + decided (state branch.provisional)
    + decided (state_below (provisional_state ProvisionalProof) branch.provisional) + decided (state_below (provisional_state Chunk) branch.provisional)
    ≡ core_weight 1 each each branch = omega (arith, decided-weigh branch.proofs, decided-provisional branch.provisional) in
    sum

decided-weight : (bound : BoundValue) → decided_roles bound ≡ weight 1 each each bound
decided-weight bound = decided-part bound.context bound.core

pub decided_roles-with : (role : Role) (bound : BoundValue) (uri : HashValue) (bytes : List ℕ) → role_state role bound ≡ role_is.Missing uri
    → decided_roles (bound_with role bytes bound) ≡ decided_roles bound + 1
decided_roles-with role bound uri bytes is =
    let gains = known-gains 1 each each (λ gain. gain ≡ 1) refl (λ opened. refl) (λ opened. refl) role bound uri bytes is in
    let one : gains.0 ≡ 1 = gains.1 in
    omega (arith, one, gains.2, decided-weight bound, decided-weight (bound_with role bytes bound))

decided-small : (at : RoleState) → decided at ≤ 1
decided-small role_is.Unneeded = omega arith
decided-small (role_is.Missing uri) = omega arith
decided-small (role_is.Rejected rule) = omega arith
decided-small role_is.Read = omega arith

pub decided_roles-small : (bound : BoundValue) → decided_roles bound ≤ 5
unfolding decided_roles
decided_roles-small bound = sum_by-le-sum_by decided (λ at. 1) (role_states bound) decided-small

pub decided_roles-up : (files : Files) (bound : BoundValue) → decided_roles bound ≤ decided_roles (known_from files bound)
decided_roles-up files bound =
    omega (arith, known-up 1 each each files bound, decided-weight bound, decided-weight (known_from files bound))

-- ---- signed texts: a proof file that was read counts its texts, and no other file counts

opened-weigh : {Says : Type 0} (count other : Says → ℕ) (part : Part Says) → ((says : Says) → count says ≡ other says)
    → count_read count part ≡ weigh 0 other part
opened-weigh count other Unneeded same = refl
opened-weigh count other (Missing uri) same = refl
opened-weigh count other (Rejected rule) same = refl
opened-weigh count other (Is says) same = same says

opened-chunk : (part : Part (List Plain)) → weigh 0 (λ deltas. 0) part ≡ 0
opened-chunk Unneeded = refl
opened-chunk (Missing uri) = refl
opened-chunk (Rejected rule) = refl
opened-chunk (Is deltas) = refl

opened-provisional : (branch : ProvisionalBranch) → opened_in_provisional branch ≡ provisional_weight 0 core_proof_count length branch
opened-provisional branch = omega (arith, opened-weigh length length branch.proofs (λ opened. refl), opened-chunk branch.chunk)

opened-core : (branch : CoreBranch) → opened_in_core branch ≡ core_weight 0 core_proof_count length branch
opened-core branch =
    omega (
      arith,
      opened-weigh core_proof_count core_proof_count branch.proofs (λ opened. refl),
      opened-weigh opened_in_provisional (provisional_weight 0 core_proof_count length) branch.provisional opened-provisional,
    )

opened_proofs-weight : (bound : BoundValue) → opened_proofs bound ≡ weight 0 core_proof_count length bound
unfolding opened_proofs
opened_proofs-weight bound = opened-weigh opened_in_core (core_weight 0 core_proof_count length) bound.core opened-core

pub opened-provisional_in : (context : Context) (core : CoreIndex) (bytes : List ℕ) → count_read opened_in_provisional (provisional_in context core bytes) ≡ 0
opened-provisional_in context core bytes =
    opened-weigh opened_in_provisional (provisional_weight 0 core_proof_count length) (provisional_in context core bytes) opened-provisional
    ∙ provisional-in 0 core_proof_count length context core bytes

pub opened-core_in : (context : Context) (bytes : List ℕ) → count_read opened_in_core (core_in context bytes) ≡ 0
opened-core_in context bytes =
    opened-weigh opened_in_core (core_weight 0 core_proof_count length) (core_in context bytes) opened-core
    ∙ core-in 0 core_proof_count length context bytes

pub opened_proofs-with : (role : Role) (bound : BoundValue) (uri : HashValue) (bytes : List ℕ) → role_state role bound ≡ role_is.Missing uri
    → opened_proofs bound ≤ opened_proofs (bound_with role bytes bound)
opened_proofs-with role bound uri bytes is =
    let gains = known-gains 0 core_proof_count length (λ gain. Unit {0}) tt (λ opened. tt) (λ opened. tt) role bound uri bytes is in
    omega (arith, gains.2, opened_proofs-weight bound, opened_proofs-weight (bound_with role bytes bound))

pub opened_proofs-up : (files : Files) (bound : BoundValue) → opened_proofs bound ≤ opened_proofs (known_from files bound)
opened_proofs-up files bound =
    omega (arith, known-up 0 core_proof_count length files bound, opened_proofs-weight bound, opened_proofs-weight (known_from files bound))

-- ---- Sums of files read and of signed texts opened.

pub counted_more-both : (first second count : ℕ) → counted_more second (counted_more first count) ≡ counted_more (second + first) count
counted_more-both first zero count = ap (λ n. counted_more n count) (let e : first ≡ 0 + first = omega arith in e)
counted_more-both first (suc second) count =
    ap counted (counted_more-both first second count)
    ∙ ap (λ n. counted_more n count) (let e : suc (second + first) ≡ suc second + first = omega arith in e)

-- first this much, and then this much more
pub worked-both : (files proofs more_files more : ℕ) (work : WorkValue)
    → worked more_files more (worked files proofs work) ≡ worked (more_files + files) (more + proofs) work
worked-both files proofs more_files more work = λ i. record {
  files = counted_more-both files more_files work.files i;
  proofs = counted_more-both proofs more work.proofs i;
  applies = work.applies;
}

pub one_more-proof : (more : ℕ) (work : WorkValue) → one_proof (more_proofs more work) ≡ more_proofs (more + 1) work
one_more-proof more work =
    ap (λ n. more_proofs n work) (let e : suc more ≡ more + 1 = omega arith in e)

-- an exact number is at most that number
pub worked-few : (files proofs : ℕ) (old new : WorkValue) → new ≡ worked files proofs old → WorkedAtMost files proofs old new
worked-few files proofs old new counts =
    record { files_read = files; proofs_opened = proofs; few_files = omega arith; few_proofs = omega arith; counts = counts }

-- first this much, and then at most this much more
pub few-after : (files proofs more_files more : ℕ) (old new : WorkValue)
    → WorkedAtMost more_files more (worked files proofs old) new → WorkedAtMost (more_files + files) (more + proofs) old new
few-after files proofs more_files more old new few = record {
  files_read = few.files_read + files;
  proofs_opened = few.proofs_opened + proofs;
  few_files = omega (arith, few.few_files);
  few_proofs = omega (arith, few.few_proofs);
  counts = few.counts ∙ worked-both files proofs few.files_read few.proofs_opened old;
}

-- one file without signed texts
pub file-none : (proofs : ℕ) (old new : WorkValue) → proofs ≡ 0 → new ≡ one_file old → new ≡ one_file_with proofs old
file-none proofs old new none counts = counts ∙ ap (λ n. one_file_with n old) (sym none)

-- one file, and then its signed texts
pub file-then : (proofs more : ℕ) (old mid new : WorkValue) → proofs ≡ more → mid ≡ one_file old → new ≡ more_proofs more mid
    → new ≡ one_file_with proofs old
file-then proofs more old mid new same first counts =
    counts ∙ ap (more_proofs more) first ∙ ap (λ n. one_file_with n old) (sym same)

pub file-then_few : (proofs more : ℕ) (old mid new : WorkValue) → proofs ≡ more → mid ≡ one_file old → WorkedAtMost 0 more mid new
    → WorkedAtMost 1 proofs old new
file-then_few proofs more old mid new same first few =
    subst (λ n. WorkedAtMost 1 n old new) (let e : more + 0 ≡ proofs = omega (arith, same) in e)
    (few-after 1 0 0 more old new (subst (λ mid. WorkedAtMost 0 more mid new) first few))

pub file_with-few : (proofs : ℕ) (old new : WorkValue) → new ≡ one_file_with proofs old → WorkedAtMost 1 proofs old new
file_with-few proofs old new counts = worked-few 1 proofs old new counts

-- one signed text after some
pub few-one : (done most : ℕ) (old mid new : WorkValue) → done < most → mid ≡ more_proofs done old → new ≡ one_proof mid → WorkedAtMost 0 most old new
few-one done most old mid new inside before one = record {
  files_read = 0;
  proofs_opened = done + 1;
  few_files = omega arith;
  few_proofs = omega (arith, inside);
  counts = one ∙ ap one_proof before ∙ one_more-proof done old;
}

-- signed texts of two lists
pub more_proofs-both : (first second : ℕ) (old mid new : WorkValue) → mid ≡ more_proofs first old → new ≡ more_proofs second mid
    → new ≡ more_proofs (first + second) old
more_proofs-both first second old mid new before after =
    after ∙ ap (more_proofs second) before ∙ worked-both 0 first 0 second old
    ∙ ap (λ n. more_proofs n old) (let e : second + first ≡ first + second = omega arith in e)

pub few-both : (first second : ℕ) (old mid new : WorkValue) → mid ≡ more_proofs first old → WorkedAtMost 0 second mid new
    → WorkedAtMost 0 (first + second) old new
few-both first second old mid new before few =
    subst (λ n. WorkedAtMost 0 n old new) (let e : second + first ≡ first + second = omega arith in e)
    (few-after 0 first 0 second old new (subst (λ mid. WorkedAtMost 0 second mid new) before few))

-- How more files add to what is known about an entry.
--     known_from-with      a missing file that was received may be read: the knowledge over the files stays
--     known_from-rest      if no missing file was received, a lookup changes nothing
--     known_from-again     what was looked up is looked up again over more files
--     known_from-missing   a file that is still missing wasn't received
use Rattle.std.proofs.Common.{◌≡◌, ◌∙◌, ℕ, List, length, Option, Some, None, refl, sym, ap, subst}
use Rattle.st_plain.specs.Shapes.{json_in}
use Rattle.st_content.specs.Files.{Files, file_at}
use Rattle.st_datafiles.specs.Chunk.{first_failing_chunk_rule}
use Rattle.st_datafiles.specs.ProofFiles.{first_failing_core_proof_rule, first_failing_provisional_proof_rule}
use Rattle.st_datafiles.specs.declared.role.Role.{Role}
use Rattle.st_datafiles.specs.declared.role.Role.TheVariants.{Core, CoreProof, Provisional, ProvisionalProof, Chunk}
use Rattle.st_hash.specs.Hash.{HashValue, uri_of}
use Rattle.st_indexfiles.specs.CoreIndex.{first_failing_core_rule}
use Rattle.st_indexfiles.specs.ProvisionalIndex.{provisional_index_of, first_failing_provisional_rule}
use Rattle.st_indexfiles.specs.declared.core_index.CoreIndex.{CoreIndex}
use Rattle.st_indexfiles.specs.declared.provisional_index.ProvisionalIndex.{ProvisionalIndex}
use Rattle.st_indexfiles.specs.declared.provisional_index.ProvisionalRule.{ProvisionalRule}
use Rattle.st_anchor.specs.Gives.{HasCome, NoneHasCome}
use Rattle.st_anchor.specs.inside.Coming.{Extends}
use Rattle.st_anchor.specs.BoundValue.{BoundValue, as_it_is, bound_with, chunk_in, core_in, core_over, core_proof_in, core_with, delta_count, filled, judged, known_from, looked_at, looked_below, looked_up, provisional_in, provisional_judged, provisional_over, provisional_proof_in, provisional_with}
use Rattle.st_anchor.specs.States.{core_state, provisional_state, role_state, state, state_below}
use Rattle.st_anchor.specs.declared.branches.Context.{Context}
use Rattle.st_anchor.specs.declared.branches.CoreBranch.{CoreBranch}
use Rattle.st_anchor.specs.declared.branches.ProvisionalBranch.{ProvisionalBranch}
use Rattle.st_anchor.specs.declared.part.Part.{Part}
use Rattle.st_anchor.specs.declared.part.Part.TheVariants.{Unneeded, Missing, Rejected, Is}
use Rattle.st_anchor.specs.declared.part.RoleState.{RoleState}
use Rattle.st_anchor.specs.declared.part.RoleState.TheVariants as role_is
use Rattle.st_anchor.specs.declared.part.Rule.{Rule}
use Rattle.st_anchor.specs.declared.part.Rule.TheVariants as fails

-- a part made from a file's bytes
abbrev pub WasRead : {Says : Type 0} → Part Says → Type 0
WasRead Unneeded = ⊥
WasRead (Missing uri) = ⊥
WasRead (Rejected rule) = Unit {0}
WasRead (Is says) = Unit {0}

judged-read : {Failing Says : Type 0} (rule_of : Failing → Rule) (failing : Option Failing) (says : Says) → WasRead (judged rule_of failing says)
judged-read rule_of None says = tt
judged-read rule_of (Some failing) says = tt

provisional_judged-read : (failing : Option ProvisionalRule) (says : Option ProvisionalIndex) → WasRead (provisional_judged failing says)
provisional_judged-read (Some failing) says = tt
provisional_judged-read None (Some index) = tt
provisional_judged-read None None = tt

pub core_in-read : (context : Context) (bytes : List ℕ) → WasRead (core_in context bytes)
unfolding core_in
core_in-read context bytes = judged-read fails.Core (first_failing_core_rule context.params context.count bytes) _

pub core_proof_in-read : (context : Context) (core : CoreIndex) (bytes : List ℕ) → WasRead (core_proof_in context core bytes)
unfolding core_proof_in
core_proof_in-read context core bytes =
    judged-read fails.Proofs (first_failing_core_proof_rule context.params (length core.recovers) (length core.deactivates) bytes) _

pub provisional_in-read : (context : Context) (core : CoreIndex) (bytes : List ℕ) → WasRead (provisional_in context core bytes)
unfolding provisional_in
provisional_in-read context core bytes =
    provisional_judged-read (first_failing_provisional_rule context.params context.count core bytes)
    (provisional_index_of context.params.version (json_in bytes))

pub provisional_proof_in-read : (context : Context) (provisional : ProvisionalIndex) (bytes : List ℕ) → WasRead (provisional_proof_in context provisional bytes)
unfolding provisional_proof_in
provisional_proof_in-read context provisional bytes =
    judged-read fails.Proofs (first_failing_provisional_proof_rule context.params (length provisional.updates) bytes) _

pub chunk_in-read : (context : Context) (core : CoreIndex) (provisional : ProvisionalIndex) (bytes : List ℕ) → WasRead (chunk_in context core provisional bytes)
unfolding chunk_in
chunk_in-read context core provisional bytes =
    judged-read fails.Chunk (first_failing_chunk_rule context.params (delta_count core provisional) bytes) _

-- ---- one part

looked_up-read : {Says : Type 0} (read : List ℕ → Part Says) (below : Says → Says) (files : Files) (part : Part Says)
    → WasRead part → looked_up read below files part ≡ looked_below below part
looked_up-read read below files Unneeded was = absurd was
looked_up-read read below files (Missing uri) was = absurd was
looked_up-read read below files (Rejected rule) was = refl
looked_up-read read below files (Is says) was = refl

-- a part below which a missing file is filled in
looked_up-below : {Says : Type 0} (read : List ℕ → Part Says) (below with : Says → Says) (files : Files) (part : Part Says)
    → ((says : Says) → part ≡ Is says → below (with says) ≡ below says)
    → looked_up read below files (looked_below with part) ≡ looked_up read below files part
looked_up-below read below with files Unneeded same = refl
looked_up-below read below with files (Missing missed) same = refl
looked_up-below read below with files (Rejected rule) same = refl
looked_up-below read below with files (Is says) same = ap (λ s. Is s) (same says refl)

looked_up-below_read : {Says : Type 0} (read : List ℕ → Part Says) (below after : Says → Says) (later : Files) (part : Part Says)
    → WasRead part → ((says : Says) → after (below says) ≡ after says)
    → looked_up read after later (looked_below below part) ≡ looked_below after part
looked_up-below_read read below after later Unneeded was same = absurd was
looked_up-below_read read below after later (Missing uri) was same = absurd was
looked_up-below_read read below after later (Rejected rule) was same = refl
looked_up-below_read read below after later (Is says) was same = ap (λ s. Is s) (same says)

-- ---- a role after a lookup

-- the file of a missing role wasn't received
abbrev pub Absent : Files → RoleState → Type 0
Absent files at = (uri : HashValue) → at ≡ role_is.Missing uri → file_at uri files ≡ None

absent-decided : {Says : Type 0} (files : Files) (below : Says → Says) (part : Part Says) → WasRead part → Absent files (state (looked_below below part))
absent-decided files below Unneeded was = absurd was
absent-decided files below (Missing uri) was = absurd was
absent-decided files below (Rejected rule) was = λ uri is. cc
absent-decided files below (Is says) was = λ uri is. cc

module _ {Says : Type 0} (files : Files) (below : Says → Says) (read : List ℕ → Part Says) where
  module _ (was : (bytes : List ℕ) → WasRead (read bytes)) where
    -- a part whose missing file is filled in
    looked_up-filled : (part : Part Says) (bytes : List ℕ) → state part ≡ role_is.Missing (uri_of bytes) → file_at (uri_of bytes) files ≡ Some bytes
        → looked_up read below files (filled read bytes part) ≡ looked_up read below files part
    looked_up-filled Unneeded bytes is there = cc
    looked_up-filled (Missing missed) bytes is there =
        let same : missed ≡ uri_of bytes = cc in
        let found : file_at missed files ≡ Some bytes = ap (λ u. file_at u files) same ∙ there in
        looked_up-read read below files (read bytes) (was bytes) ∙ sym (ap (looked_at read below missed) found)
    looked_up-filled (Rejected rule) bytes is there = cc
    looked_up-filled (Is says) bytes is there = cc

    -- a part over more files, if it was looked up before
    looked_up-again : (after : Says → Says) (later : Files) (part : Part Says) → Extends files later → ((says : Says) → after (below says) ≡ after says)
        → looked_up read after later (looked_up read below files part) ≡ looked_up read after later part
    looked_up-again after later Unneeded more same = refl
    looked_up-again after later (Missing uri) more same =
        elim (file_at uri files) as (λ file. file_at uri files ≡ file
        → looked_up read after later (looked_at read below uri file) ≡ looked_at read after uri (file_at uri later)) [
          | None ↦ λ _. refl
          | Some bytes ↦ λ there.
              looked_up-below_read read below after later (read bytes) (was bytes) same
              ∙ sym (ap (looked_at read after uri) (more.kept uri bytes there))
        ] refl
    looked_up-again after later (Rejected rule) more same = refl
    looked_up-again after later (Is says) more same = ap (λ s. Is s) (same says)

    absent-up : (part : Part Says) → Absent files (state (looked_up read below files part))
    absent-up Unneeded = λ uri is. cc
    absent-up (Missing uri) =
        elim (file_at uri files) as (λ file. file_at uri files ≡ file → Absent files (state (looked_at read below uri file))) [
          | None ↦ λ there. λ missed is. let same : uri ≡ missed = cc in ap (λ u. file_at u files) (sym same) ∙ there
          | Some bytes ↦ λ there. absent-decided files below (read bytes) (was bytes)
        ] refl
    absent-up (Rejected rule) = λ uri is. cc
    absent-up (Is says) = λ uri is. cc

  module _ (stands : Says → RoleState) (absent : (says : Says) → Absent files (stands (below says))) where
    absent-new : (part : Part Says) → Absent files (state_below stands (looked_below below part))
    absent-new Unneeded = λ uri is. cc
    absent-new (Missing uri) = λ missed is. cc
    absent-new (Rejected rule) = λ uri is. cc
    absent-new (Is says) = absent says

    absent-below : (part : Part Says) → Absent files (state_below stands (looked_up read below files part))
    absent-below Unneeded = λ uri is. cc
    absent-below (Missing uri) =
        elim (file_at uri files) as (λ file. Absent files (state_below stands (looked_at read below uri file))) [
          | None ↦ λ missed is. cc
          | Some bytes ↦ absent-new (read bytes)
        ]
    absent-below (Rejected rule) = λ uri is. cc
    absent-below (Is says) = absent says

-- a part none of whose missing files was received
looked_up-rest : {Says : Type 0} (read : List ℕ → Part Says) (below : Says → Says) (files : Files) (part : Part Says)
    → Absent files (state part) → ((says : Says) → part ≡ Is says → below says ≡ says) → looked_up read below files part ≡ part
looked_up-rest read below files Unneeded absent same = refl
looked_up-rest read below files (Missing uri) absent same = ap (looked_at read below uri) (absent uri refl)
looked_up-rest read below files (Rejected rule) absent same = refl
looked_up-rest read below files (Is says) absent same = ap (λ s. Is s) (same says refl)

-- ---- the whole tree

-- the received file of a missing role may be bound: the knowledge over the files stays the same
provisional_over-with : (role : Role) (context : Context) (core : CoreIndex) (files : Files) (branch : ProvisionalBranch) (bytes : List ℕ)
    → provisional_state role branch ≡ role_is.Missing (uri_of bytes) → file_at (uri_of bytes) files ≡ Some bytes
    → provisional_over context core files (provisional_with role context core bytes branch) ≡ provisional_over context core files branch
provisional_over-with Core context core files branch bytes is there = refl
provisional_over-with CoreProof context core files branch bytes is there = refl
provisional_over-with Provisional context core files branch bytes is there = refl
provisional_over-with ProvisionalProof context core files branch bytes is there =
    ap (λ part. record (provisional_over context core files branch) { proofs = part })
    (looked_up-filled files as_it_is (provisional_proof_in context branch.says) (provisional_proof_in-read context branch.says) branch.proofs bytes is there)
provisional_over-with Chunk context core files branch bytes is there =
    ap (λ part. record (provisional_over context core files branch) { chunk = part })
    (looked_up-filled files as_it_is (chunk_in context core branch.says) (chunk_in-read context core branch.says) branch.chunk bytes is there)

core_over-with_below : (role : Role) (context : Context) (files : Files) (branch : CoreBranch) (bytes : List ℕ)
    → state_below (provisional_state role) branch.provisional ≡ role_is.Missing (uri_of bytes) → file_at (uri_of bytes) files ≡ Some bytes
    → core_over context files (record branch { provisional = looked_below (provisional_with role context branch.says bytes) branch.provisional })
    ≡ core_over context files branch
core_over-with_below role context files branch bytes is there =
    ap (λ part. record (core_over context files branch) { provisional = part })
    (looked_up-below (provisional_in context branch.says) (provisional_over context branch.says files) (provisional_with role context branch.says bytes)
    files branch.provisional
    (λ says says_is. provisional_over-with role context branch.says files says bytes (rw says_is at is) there))

core_over-with : (role : Role) (context : Context) (files : Files) (branch : CoreBranch) (bytes : List ℕ)
    → core_state role branch ≡ role_is.Missing (uri_of bytes) → file_at (uri_of bytes) files ≡ Some bytes
    → core_over context files (core_with role context bytes branch) ≡ core_over context files branch
core_over-with Core context files branch bytes is there = refl
core_over-with CoreProof context files branch bytes is there =
    ap (λ part. record (core_over context files branch) { proofs = part })
    (looked_up-filled files as_it_is (core_proof_in context branch.says) (core_proof_in-read context branch.says) branch.proofs bytes is there)
core_over-with Provisional context files branch bytes is there =
    ap (λ part. record (core_over context files branch) { provisional = part })
    (looked_up-filled files (provisional_over context branch.says files) (provisional_in context branch.says) (provisional_in-read context branch.says)
    branch.provisional bytes is there)
core_over-with ProvisionalProof context files branch bytes is there = core_over-with_below ProvisionalProof context files branch bytes is there
core_over-with Chunk context files branch bytes is there = core_over-with_below Chunk context files branch bytes is there

known_from-with_below : (role : Role) (files : Files) (bound : BoundValue) (bytes : List ℕ)
    → state_below (core_state role) bound.core ≡ role_is.Missing (uri_of bytes) → file_at (uri_of bytes) files ≡ Some bytes
    → known_from files (record bound { core = looked_below (core_with role bound.context bytes) bound.core }) ≡ known_from files bound
unfolding known_from
known_from-with_below role files bound bytes is there =
    ap (λ part. record bound { core = part })
    (looked_up-below (core_in bound.context) (core_over bound.context files) (core_with role bound.context bytes) files bound.core
    (λ says says_is. core_over-with role bound.context files says bytes (rw says_is at is) there))

pub known_from-with : (role : Role) (files : Files) (bound : BoundValue) (file : List ℕ) → HasCome files bound role file
    → known_from files (bound_with role file bound) ≡ known_from files bound
unfolding known_from role_state bound_with
known_from-with Core files bound file come =
    ap (λ part. record bound { core = part })
    (looked_up-filled files (core_over bound.context files) (core_in bound.context) (core_in-read bound.context) bound.core file come.missing come.there)
known_from-with CoreProof files bound file come = known_from-with_below CoreProof files bound file come.missing come.there
known_from-with Provisional files bound file come = known_from-with_below Provisional files bound file come.missing come.there
known_from-with ProvisionalProof files bound file come = known_from-with_below ProvisionalProof files bound file come.missing come.there
known_from-with Chunk files bound file come = known_from-with_below Chunk files bound file come.missing come.there

-- more files change nothing except by the lookup of missing ones
provisional_over-again : (context : Context) (core : CoreIndex) (files later : Files) → Extends files later → (branch : ProvisionalBranch)
    → provisional_over context core later (provisional_over context core files branch) ≡ provisional_over context core later branch
provisional_over-again context core files later more branch =
    ap (λ part. record (provisional_over context core later (provisional_over context core files branch)) { proofs = part })
    (looked_up-again files as_it_is (provisional_proof_in context branch.says) (provisional_proof_in-read context branch.says)
    as_it_is later branch.proofs more (λ says. refl))
    ∙ ap (λ part. record (provisional_over context core later branch) { chunk = part })
    (looked_up-again files as_it_is (chunk_in context core branch.says) (chunk_in-read context core branch.says)
    as_it_is later branch.chunk more (λ says. refl))

core_over-again : (context : Context) (files later : Files) → Extends files later → (branch : CoreBranch)
    → core_over context later (core_over context files branch) ≡ core_over context later branch
core_over-again context files later more branch =
    ap (λ part. record (core_over context later (core_over context files branch)) { proofs = part })
    (looked_up-again files as_it_is (core_proof_in context branch.says) (core_proof_in-read context branch.says)
    as_it_is later branch.proofs more (λ says. refl))
    ∙ ap (λ part. record (core_over context later branch) { provisional = part })
    (looked_up-again files (provisional_over context branch.says files) (provisional_in context branch.says) (provisional_in-read context branch.says)
    (provisional_over context branch.says later) later branch.provisional more (provisional_over-again context branch.says files later more))

pub known_from-again : (files later : Files) → Extends files later → (bound : BoundValue)
    → known_from later (known_from files bound) ≡ known_from later bound
unfolding known_from
known_from-again files later more bound =
    ap (λ part. record bound { core = part })
    (looked_up-again files (core_over bound.context files) (core_in bound.context) (core_in-read bound.context)
    (core_over bound.context later) later bound.core more (core_over-again bound.context files later more))

-- no missing file was received: a lookup changes nothing
provisional_over-rest : (context : Context) (core : CoreIndex) (files : Files) (branch : ProvisionalBranch)
    → Absent files (state branch.proofs) → Absent files (state branch.chunk) → provisional_over context core files branch ≡ branch
provisional_over-rest context core files branch proofs chunk =
    ap (λ part. record (provisional_over context core files branch) { proofs = part })
    (looked_up-rest (provisional_proof_in context branch.says) as_it_is files branch.proofs proofs (λ says is. refl))
    ∙ ap (λ part. record branch { chunk = part })
    (looked_up-rest (chunk_in context core branch.says) as_it_is files branch.chunk chunk (λ says is. refl))

provisional_rest : (context : Context) (core : CoreIndex) (files : Files) (part : Part ProvisionalBranch)
    → Absent files (state part) → Absent files (state_below (provisional_state ProvisionalProof) part)
    → Absent files (state_below (provisional_state Chunk) part)
    → looked_up (provisional_in context core) (provisional_over context core files) files part ≡ part
provisional_rest context core files part own proofs chunk =
    looked_up-rest (provisional_in context core) (provisional_over context core files) files part own (λ branch is.
    provisional_over-rest context core files branch
    (subst (λ part. Absent files (state_below (provisional_state ProvisionalProof) part)) is proofs)
    (subst (λ part. Absent files (state_below (provisional_state Chunk) part)) is chunk))

core_over-rest : (context : Context) (files : Files) (branch : CoreBranch)
    → Absent files (core_state CoreProof branch) → Absent files (core_state Provisional branch)
    → Absent files (core_state ProvisionalProof branch) → Absent files (core_state Chunk branch)
    → core_over context files branch ≡ branch
core_over-rest context files branch core_proof provisional proof chunk =
    ap (λ part. record (core_over context files branch) { proofs = part })
    (looked_up-rest (core_proof_in context branch.says) as_it_is files branch.proofs core_proof (λ says is. refl))
    ∙ ap (λ part. record branch { provisional = part }) (provisional_rest context branch.says files branch.provisional provisional proof chunk)

pub known_from-rest : (files : Files) (bound : BoundValue) → NoneHasCome files bound → known_from files bound ≡ bound
unfolding known_from role_state
known_from-rest files bound none =
    ap (λ part. record bound { core = part })
    (looked_up-rest (core_in bound.context) (core_over bound.context files) files bound.core (none.absent Core) (λ branch is.
    let below : (role : Role) → Absent files (state_below (core_state role) bound.core) → Absent files (core_state role branch) =
    λ role. subst (λ part. Absent files (state_below (core_state role) part)) is in
    core_over-rest bound.context files branch (below CoreProof (none.absent CoreProof)) (below Provisional (none.absent Provisional))
    (below ProvisionalProof (none.absent ProvisionalProof)) (below Chunk (none.absent Chunk))))

-- so the file of each role that is still missing wasn't received
module _ (context : Context) (files : Files) where
  absent-provisional : (role : Role) (core : CoreIndex) (branch : ProvisionalBranch)
      → Absent files (provisional_state role (provisional_over context core files branch))
  absent-provisional Core core branch = λ uri is. cc
  absent-provisional CoreProof core branch = λ uri is. cc
  absent-provisional Provisional core branch = λ uri is. cc
  absent-provisional ProvisionalProof core branch =
      absent-up files as_it_is (provisional_proof_in context branch.says) (provisional_proof_in-read context branch.says) branch.proofs
  absent-provisional Chunk core branch = absent-up files as_it_is (chunk_in context core branch.says) (chunk_in-read context core branch.says) branch.chunk

  absent-below_provisional : (role : Role) (branch : CoreBranch)
      → Absent files (state_below (provisional_state role) (core_over context files branch).provisional)
  absent-below_provisional role branch =
      absent-below files (provisional_over context branch.says files) (provisional_in context branch.says) (provisional_state role)
      (absent-provisional role branch.says) branch.provisional

  absent-core : (role : Role) (branch : CoreBranch) → Absent files (core_state role (core_over context files branch))
  absent-core Core branch = λ uri is. cc
  absent-core CoreProof branch = absent-up files as_it_is (core_proof_in context branch.says) (core_proof_in-read context branch.says) branch.proofs
  absent-core Provisional branch =
      absent-up files (provisional_over context branch.says files) (provisional_in context branch.says) (provisional_in-read context branch.says)
      branch.provisional
  absent-core ProvisionalProof branch = absent-below_provisional ProvisionalProof branch
  absent-core Chunk branch = absent-below_provisional Chunk branch

  absent-below_core : (role : Role) (part : Part CoreBranch)
      → Absent files (state_below (core_state role) (looked_up (core_in context) (core_over context files) files part))
  absent-below_core role part = absent-below files (core_over context files) (core_in context) (core_state role) (absent-core role) part

pub known_from-missing : (role : Role) (files : Files) (bound : BoundValue) → Absent files (role_state role (known_from files bound))
unfolding known_from role_state
known_from-missing Core files bound = absent-up files (core_over bound.context files) (core_in bound.context) (core_in-read bound.context) bound.core
known_from-missing CoreProof files bound = absent-below_core bound.context files CoreProof bound.core
known_from-missing Provisional files bound = absent-below_core bound.context files Provisional bound.core
known_from-missing ProvisionalProof files bound = absent-below_core bound.context files ProvisionalProof bound.core
known_from-missing Chunk files bound = absent-below_core bound.context files Chunk bound.core

-- Items whose places ascend, from the least place of the next one on.
use Rattle.std.proofs.Common.{◌↔◌, ◌≤◌, ◌<◌, ℕ, ◌+◌, List, [], ◌∷◌, arith, ◌≡◌, Bool, true, false, cond, length, refl, subst, ◌∙◌, ◌≢◌, suc, sym, ap, ◌++◌, drop, take, get_or, append_assoc}
use Rattle.std.proofs.lemmas.List.{append_cancel_left, drop_more, length-map, get_or_default, take_more, take-append-drop}
use Rattle.std.proofs.lemmas.List.Sums.{sum_by-cons}
use Rattle.std.specs.List.{AllByRecursion}
use Rattle.std.specs.Prelude.{Option, Some, None, not, ◌&&◌, ◌||◌, if◌then◌else◌, IfOk, IsTrue, Result, Ok, Err}
use Rattle.st_base.proofs.ListLemmas.{applies-few, each-weaker}
use Rattle.st_base.specs.Work.{WorkValue, AppliesAtMost}
use Rattle.st_base.specs.declared.errors.WantOfMemory.{WantOfMemory}
use Rattle.st_hash.specs.Hash.{HashValue}
use Rattle.st_params.specs.ParamsValue.{ParamsValue, params_at}
use Rattle.st_doc.specs.Document.{PlainDocument}
use Rattle.st_ops.specs.Operation.{PlainOperation, creating, updating, recovering, deactivating}
use Rattle.st_ops.specs.declared.claim.Claim.{Claim}
use Rattle.st_ops.specs.declared.claim.Claim.TheVariants.{Update, Recover, Deactivate}
use Rattle.st_apply.proofs.ResolvedLemmas.{places_before, idle_leaves, resolved_fold, resolved_push}
use Rattle.st_apply.specs.Codes.{acts, has_bad_delta, is_create, Rules, Seen, creates, recovers, deactivates, updates, unclaimed, State, absent, active, deactivated}
use Rattle.st_apply.specs.Laws.{Anchored, place_of, all_applied, resolved, seen_in, PlacesAscend}
use Rattle.st_apply.specs.Applied.{seen_as, sidetree}
use Rattle.st_cert.specs.Certificate.{acting_count, IsCertificate, anchored_item, anchored_items, verdict_in, verdicts, verdicts_behind, is_acting, verdict_of}
use Rattle.st_cert.specs.declared.certificate.Certificate.{Certificate}
use Rattle.st_cert.specs.declared.certificate.CertItem.{CertItem}
use Rattle.st_cert.specs.declared.verdict.Verdict.{Verdict}
use Rattle.st_cert.specs.declared.verdict.Verdict.TheVariants.{Before, Ended, WrongReveal, BadDelta, Updated, Recovered, Deactivated}
use Rattle.st_cert.specs.inside.Following.{counted_if, Follows, state_behind, verdicts_from}

-- each place is at least this, and the later ones are after it
abbrev pub AscendFrom : ℕ → List Anchored → Type 0
AscendFrom least [] = Unit {0}
AscendFrom least (item ∷ items) = (least ≤ item.place) × AscendFrom (item.place + 1) items

least_of_all : (least : ℕ) (items : List Anchored) → AscendFrom least items → AllByRecursion (λ item. least ≤ item.place) items
least_of_all least [] ascend = tt
least_of_all least (item ∷ items) ascend = (
  ascend.0,
  each-weaker (λ later. item.place + 1 ≤ later.place) (λ later. least ≤ later.place) (λ later behind. (let here = ascend.0 in omega arith))
      items (least_of_all (item.place + 1) items ascend.1),
)

ascends : (least : ℕ) (items : List Anchored) → AscendFrom least items → PlacesAscend place_of items
ascends least [] ascend = tt
ascends least (item ∷ items) ascend = (
  each-weaker (λ later. item.place + 1 ≤ later.place) (λ later. item.place < later.place) (λ later behind. omega arith)
      items (least_of_all (item.place + 1) items ascend.1),
  ascends (item.place + 1) items ascend.1,
)

from_least : (least : ℕ) (items : List Anchored) → PlacesAscend place_of items → AllByRecursion (λ item. least ≤ item.place) items
    → AscendFrom least items
from_least least [] ascend each = tt
from_least least (item ∷ items) ascend each = (
  each.0,
  from_least (item.place + 1) items ascend.1
      (each-weaker (λ later. item.place < later.place) (λ later. item.place + 1 ≤ later.place) (λ later behind. omega arith) items ascend.0),
)

all_from_zero : (items : List Anchored) → AllByRecursion (λ item. 0 ≤ item.place) items
all_from_zero [] = tt
all_from_zero (item ∷ items) = (omega arith, all_from_zero items)

-- places ascend if and only if they do from zero on
pub from_zero : (items : List Anchored) → PlacesAscend place_of items ↔ AscendFrom 0 items
from_zero items = (λ ascend. from_least 0 items ascend (all_from_zero items), λ ascend. ascends 0 items ascend)

-- ---- How many operations are applied: at most as many as verdicts act.

-- nothing was applied
pub none_applied : (most : ℕ) (work : WorkValue) → AppliesAtMost most work work
none_applied most work = record { files = refl; proofs = refl; least = omega arith; applies = omega arith }

applied_once : (acts : Bool) (rest : ℕ) (old new : WorkValue) → AppliesAtMost rest (counted_if acts old) new
    → AppliesAtMost (cond acts 1 0 + rest) old new
applied_once true rest old new bound =
    record { files = bound.files; proofs = bound.proofs; least = omega (arith, bound.least); applies = omega (arith, bound.applies) }
applied_once false rest old new bound =
    record { files = bound.files; proofs = bound.proofs; least = bound.least; applies = omega (arith, bound.applies) }

acting_count-cons : (verdict : Verdict) (verdicts : List Verdict)
    → acting_count (verdict ∷ verdicts) ≡ cond (is_acting verdict) 1 0 + acting_count verdicts
acting_count-cons verdict verdicts = sum_by-cons (λ v. cond (is_acting v) 1 0) verdict verdicts

-- one verdict, and those after it
pub applied_next : (verdict : Verdict) (verdicts : List Verdict) (old between new : WorkValue)
    → between ≡ counted_if (is_acting verdict) old → AppliesAtMost (acting_count verdicts) between new
    → AppliesAtMost (acting_count (verdict ∷ verdicts)) old new
applied_next verdict verdicts old between new counts bound =
    rw (acting_count-cons verdict verdicts) (applied_once (is_acting verdict) (acting_count verdicts) old new
    (subst (λ between. AppliesAtMost (acting_count verdicts) between new) counts bound))

one_at_most : (b : Bool) → cond b 1 0 ≤ 1
one_at_most true = omega arith
one_at_most false = omega arith

-- at most all verdicts act
pub acting_within : (verdicts : List Verdict) → acting_count verdicts ≤ length verdicts
acting_within [] = omega arith
acting_within (verdict ∷ verdicts) =
    omega (arith, acting_count-cons verdict verdicts, one_at_most (is_acting verdict), acting_within verdicts)

-- ---- Verdicts by the state and the kind of an operation.

-- whether an operation is a create, which its claim does not change
abbrev pub is_creating : PlainOperation → Bool
is_creating (creating suffix_data delta) = true
is_creating operation = false

pub create_seen : (limits : ParamsValue) (operation : PlainOperation) (claim : Option Claim)
    → is_create (seen_as limits operation claim) ≡ is_creating operation
create_seen limits (creating suffix_data delta) claim = refl
create_seen limits (updating target proof delta) None = refl
create_seen limits (updating target proof delta) (Some (Update delta_hash)) = refl
create_seen limits (updating target proof delta) (Some (Recover commitment delta_hash)) = refl
create_seen limits (updating target proof delta) (Some Deactivate) = refl
create_seen limits (recovering target proof delta) None = refl
create_seen limits (recovering target proof delta) (Some (Update delta_hash)) = refl
create_seen limits (recovering target proof delta) (Some (Recover commitment delta_hash)) = refl
create_seen limits (recovering target proof delta) (Some Deactivate) = refl
create_seen limits (deactivating target proof) None = refl
create_seen limits (deactivating target proof) (Some (Update delta_hash)) = refl
create_seen limits (deactivating target proof) (Some (Recover commitment delta_hash)) = refl
create_seen limits (deactivating target proof) (Some Deactivate) = refl

-- before a create has acted, the verdict on another operation is `Before`
pub before_create : (limits : ParamsValue) (operation : PlainOperation) (claim : Option Claim) → is_creating operation ≡ false
    → Before ≡ verdict_of sidetree absent (seen_as limits operation claim)
before_create limits operation claim is =
    let seen = create_seen limits operation claim ∙ is in rw seen refl

-- after a deactivate it is `Ended`
pub behind_end : (limits : ParamsValue) (operation : PlainOperation) (claim : Option Claim) → is_creating operation ≡ false
    → Ended ≡ verdict_of sidetree deactivated (seen_as limits operation claim)
behind_end limits operation claim is =
    let seen = create_seen limits operation claim ∙ is in rw seen refl

-- the verdict on an operation that is refused for its reveal value, or else for its delta
by_reveal : (reveals bad : Bool) (acting : Verdict) → is_acting acting ≡ true
    → is_acting (if not reveals then WrongReveal else if bad then BadDelta else acting) ≡ (reveals && not bad)
by_reveal true true acting is = refl
by_reveal true false acting is = is
by_reveal false bad acting is = refl

-- the verdict acts if and only if the operation does
pub verdict_acts : {Hash Document : Type 0} (rules : Rules Hash Document) (state : State Hash Document) (operation : Seen Hash Document)
    → is_acting (verdict_of rules state operation) ≡ acts rules state operation
verdict_acts rules absent (creates beginning) = refl
verdict_acts rules absent (recovers reveal beginning) = refl
verdict_acts rules absent (deactivates reveal) = refl
verdict_acts rules absent (updates reveal change) = refl
verdict_acts rules absent unclaimed = refl
verdict_acts rules (active recovery update document) (creates beginning) = refl
verdict_acts rules (active recovery update document) (recovers reveal beginning) = by_reveal (rules.meets reveal recovery || false) false Recovered refl
verdict_acts rules (active recovery update document) (deactivates reveal) = by_reveal (rules.meets reveal recovery || false) false Deactivated refl
verdict_acts rules (active recovery None document) (updates reveal change) = refl
verdict_acts rules (active recovery (Some commitment) document) (updates reveal change) =
    by_reveal (rules.meets reveal commitment) (has_bad_delta (updates reveal change)) Updated refl
verdict_acts rules (active recovery update document) unclaimed = refl
verdict_acts rules deactivated (creates beginning) = refl
verdict_acts rules deactivated (recovers reveal beginning) = refl
verdict_acts rules deactivated (deactivates reveal) = refl
verdict_acts rules deactivated (updates reveal change) = refl
verdict_acts rules deactivated unclaimed = refl

-- ---- Verdicts and states found step by step are those defined from nothing.

-- an item of a list, whatever the default is
pub at_default : {X : Type 0} (xs : List X) (at : ℕ) (first x : X) → at < length xs → x ≡ get_or xs at first → x ≡ get_or xs at x
at_default xs at first x inside is = is ∙ get_or_default xs at first x inside

module _ (schedule : Option ℕ) where
  -- an item whose verdict does not act leaves the state
  pub idle_behind : (state : State HashValue PlainDocument) (item : Anchored) (verdict : Verdict)
      → verdict ≡ verdict_in schedule state item → is_acting verdict ≡ false → state ≡ state_behind schedule state item
  idle_behind state item verdict is idle =
      sym (idle_leaves (params_at schedule item.height) state item.operation
      (sym (verdict_acts sidetree state (seen_in schedule item)) ∙ ap is_acting (sym is) ∙ idle))

  -- from the state after the earlier items on, the verdicts are those of the later ones
  pub verdicts_on : (before items : List Anchored) → PlacesAscend place_of (before ++ items)
      → verdicts_from schedule (resolved schedule before) items ≡ verdicts_behind schedule before items
  verdicts_on before [] ascend = refl
  verdicts_on before (item ∷ items) ascend =
      let along : (before ++ item ∷ []) ++ items ≡ before ++ item ∷ items = append_assoc before (item ∷ []) items in
      let pushed = resolved_push schedule before item (places_before place_of before item items ascend) in
      ap (λ rest. verdict_in schedule (resolved schedule before) item ∷ rest)
      (ap (λ state. verdicts_from schedule state items) (sym pushed)
      ∙ verdicts_on (before ++ item ∷ []) items (subst (PlacesAscend place_of) (sym along) ascend))

  resolved_none : resolved schedule [] ≡ absent
  unfolding resolved
  resolved_none = refl

  -- from an absent state on they are the verdicts
  pub verdicts_are : (items : List Anchored) → PlacesAscend place_of items → verdicts_from schedule absent items ≡ verdicts schedule items
  verdicts_are items ascend = ap (λ state. verdicts_from schedule state items) (sym resolved_none) ∙ verdicts_on [] items ascend

  -- what was found step by step is the certificate
  pub certified : (items : List Anchored) (certificate : Certificate) → PlacesAscend place_of items
      → certificate.verdicts ≡ verdicts_from schedule absent items → certificate.finish ≡ all_applied schedule absent items
      → IsCertificate schedule items certificate
  certified items certificate ascend verdicts finish = record {
    ascend = ascend;
    verdicts = verdicts ∙ verdicts_are items ascend;
    finish = finish ∙ resolved_fold schedule items ascend;
  }

  -- the same for an answer
  pub all_certified : (items : List Anchored) → PlacesAscend place_of items → (answer : Result Certificate WantOfMemory)
      → IfOk answer (λ certificate. certificate.verdicts ≡ verdicts_from schedule absent items)
      → IfOk answer (λ certificate. certificate.finish ≡ all_applied schedule absent items)
      → IfOk answer (IsCertificate schedule items)
  all_certified items ascend (Ok certificate) verdicts finish = certified items certificate ascend verdicts finish
  all_certified items ascend (Err error) verdicts finish = tt

  -- there is one verdict per item
  pub verdicts_length : (state : State HashValue PlainDocument) (items : List Anchored) → length (verdicts_from schedule state items) ≡ length items
  verdicts_length state [] = refl
  verdicts_length state (item ∷ items) = ap suc (verdicts_length (state_behind schedule state item) items)

  -- so at most as many operations are applied as there are
  pub few_applied : (items : List CertItem) {old new : WorkValue} → AppliesAtMost (acting_count (verdicts_from schedule absent (anchored_items items))) old new
      → AppliesAtMost (length items) old new
  few_applied items bound =
      let within = acting_within (verdicts_from schedule absent (anchored_items items)) in
      let long = verdicts_length absent (anchored_items items) in
      let mapped = length-map items anchored_item in
      applies-few _ (length items) (omega arith) bound

  -- if there are more or fewer verdicts than items, they are others
  pub other_count : (items : List CertItem) (verdicts : List Verdict) → length items ≢ length verdicts
      → verdicts ≢ verdicts_from schedule absent (anchored_items items)
  other_count items verdicts other same =
      other (sym (ap length same ∙ verdicts_length absent (anchored_items items) ∙ length-map items anchored_item))

  -- ---- the checker's answer

  -- by the state, if the verdicts are those of the items
  pub accepted : (items : List Anchored) (certificate : Certificate) (state : State HashValue PlainDocument) → PlacesAscend place_of items
      → Follows schedule items certificate.verdicts (Some state) → (answer : Result Bool WantOfMemory)
      → IfOk answer (λ same. IsTrue same ↔ (certificate.finish ≡ state)) → IfOk answer (λ yes. IsTrue yes ↔ IsCertificate schedule items certificate)
  accepted items certificate state ascend follows (Ok answer) same = (
    λ yes. certified items certificate ascend follows.0 (same.0 yes ∙ follows.1),
    λ is. same.1 (is.finish ∙ sym (resolved_fold schedule items ascend) ∙ sym follows.1),
  )
  accepted items certificate state ascend follows (Err error) same = tt

  -- a certificate with other verdicts is refused
  pub refused : (items : List Anchored) (certificate : Certificate) → Follows schedule items certificate.verdicts None
      → IsCertificate schedule items certificate → ⊥
  refused items certificate follows is = follows (is.verdicts ∙ sym (verdicts_are items is.ascend))

  -- ---- one item of a loop

  module _ (items : List CertItem) (at : ℕ) (item : CertItem) (next : drop at items ≡ item ∷ drop (at + 1) items)
      (state : State HashValue PlainDocument) where
    verdicts_here : verdicts_from schedule state (anchored_items (drop at items))
        ≡ verdict_in schedule state (anchored_item item) ∷ verdicts_from schedule (state_behind schedule state (anchored_item item)) (anchored_items (drop (at + 1) items))
    verdicts_here = ap (λ rest. verdicts_from schedule state (anchored_items rest)) next

    -- with the verdict of the item after the earlier ones
    pub verdicts_next : (done : List Verdict) (verdict : Verdict) (after : State HashValue PlainDocument) {whole : List Verdict}
        → verdict ≡ verdict_in schedule state (anchored_item item) → after ≡ state_behind schedule state (anchored_item item)
        → done ++ verdicts_from schedule state (anchored_items (drop at items)) ≡ whole
        → (done ++ verdict ∷ []) ++ verdicts_from schedule after (anchored_items (drop (at + 1) items)) ≡ whole
    verdicts_next done verdict after is behind so_far =
        append_assoc done (verdict ∷ []) (verdicts_from schedule after (anchored_items (drop (at + 1) items)))
        ∙ ap (λ v. done ++ v ∷ verdicts_from schedule after (anchored_items (drop (at + 1) items))) is
        ∙ ap (λ s. done ++ verdict_in schedule state (anchored_item item) ∷ verdicts_from schedule s (anchored_items (drop (at + 1) items))) behind
        ∙ ap (λ rest. done ++ rest) (sym verdicts_here)
        ∙ so_far

    -- and the state after it
    pub state_next : (after : State HashValue PlainDocument) {whole : State HashValue PlainDocument}
        → after ≡ state_behind schedule state (anchored_item item)
        → all_applied schedule state (anchored_items (drop at items)) ≡ whole
        → all_applied schedule after (anchored_items (drop (at + 1) items)) ≡ whole
    state_next after behind so_far =
        ap (λ s. all_applied schedule s (anchored_items (drop (at + 1) items))) behind
        ∙ sym (ap (λ rest. all_applied schedule state (anchored_items rest)) next)
        ∙ so_far

    -- and the operations that were applied
    pub work_next : (verdict : Verdict) (old between new : WorkValue)
        → verdict ≡ verdict_in schedule state (anchored_item item) → between ≡ counted_if (is_acting verdict) old
        → let after = state_behind schedule state (anchored_item item) in
        AppliesAtMost (acting_count (verdicts_from schedule after (anchored_items (drop (at + 1) items)))) between new
        → AppliesAtMost (acting_count (verdicts_from schedule state (anchored_items (drop at items)))) old new
    work_next verdict old between new is counts bound =
        let rest = verdicts_from schedule (state_behind schedule state (anchored_item item)) (anchored_items (drop (at + 1) items)) in
        subst (λ vs. AppliesAtMost (acting_count vs) old new) (ap (λ v. v ∷ rest) is ∙ sym verdicts_here)
        (applied_next verdict rest old between new counts bound)

    -- the item itself is at most the rest
    pub work_here : (verdict : Verdict) (old between : WorkValue)
        → verdict ≡ verdict_in schedule state (anchored_item item) → between ≡ counted_if (is_acting verdict) old
        → AppliesAtMost (acting_count (verdicts_from schedule state (anchored_items (drop at items)))) old between
    work_here verdict old between is counts = work_next verdict old between between is counts (none_applied _ between)

    -- ---- with the verdicts of a certificate

    module _ (stated : List Verdict) (inside : at < length stated) (verdict first : Verdict)
        (is : verdict ≡ verdict_in schedule state (anchored_item item)) {whole : List Verdict}
        (so_far : take at stated ++ verdicts_from schedule state (anchored_items (drop at items)) ≡ whole) where
      -- if the stated verdict is the item's, one more is right
      pub checked_next : (after : State HashValue PlainDocument) → after ≡ state_behind schedule state (anchored_item item)
          → verdict ≡ get_or stated at first
          → take (at + 1) stated ++ verdicts_from schedule after (anchored_items (drop (at + 1) items)) ≡ whole
      checked_next after behind stands =
          ap (λ vs. vs ++ verdicts_from schedule after (anchored_items (drop (at + 1) items)))
          (take_more stated at first inside ∙ ap (λ v. take at stated ++ v ∷ []) (sym stands))
          ∙ verdicts_next (take at stated) verdict after is behind so_far

      -- it is, if all are right
      pub checked_here : stated ≡ whole → verdict ≡ get_or stated at first
      checked_here same =
          let rest : verdicts_from schedule state (anchored_items (drop at items)) ≡ drop at stated =
          append_cancel_left (take at stated) _ _ (so_far ∙ sym same ∙ sym (take-append-drop at stated)) in
          let both = sym verdicts_here ∙ rest ∙ drop_more stated at first inside in
          is ∙ (cc)

-- Walks: what they preserve, where they end, and a walk with one more step.
use Rattle.std.proofs.Common.{◌≡◌, ◌∙◌, ap, ℕ, zero, suc, ◌<◌, ◌≤◌, refl, arith, sym, subst, List, [], ◌∷◌, ◌++◌, length, Bool, true, false, cond, add-one, ◌↔◌}
use Rattle.std.proofs.lemmas.Bool.{and_parts, lt-ltb}
use Rattle.std.proofs.lemmas.Bool.Decides.{nat_tests}
use Rattle.std.proofs.lemmas.List.{length_push}
use Rattle.std.proofs.lemmas.List.Folds.{find-append}
use Rattle.std.proofs.lemmas.Option.{option_and_then_some}
use Rattle.std.specs.List.{AllByRecursion}
use Rattle.std.specs.Option.{option_map_or, option_or}
use Rattle.std.specs.Prelude.{Option, Some, None, unwrap_or, find, nat_lt, ◌&&◌, option_and_then, IsTrue}
use Rattle.st_base.proofs.ListLemmas.{each-append, each-weaker}
use Rattle.st_base.specs.Options.{◌>>=◌}
use Rattle.st_hash.proofs.HashLemmas.{same_hash-itself, same_hash-other}
use Rattle.st_hash.specs.Hash.{HashValue, hash_of_with, same_hash}
use Rattle.st_params.specs.ParamsValue.{ParamsValue}
use Rattle.st_jws.specs.Jwk.{Meets}
use Rattle.st_doc.specs.Document.{PlainDocument}
use Rattle.st_ops.specs.Operation.{PlainOperation, creating, updating, recovering, deactivating}
use Rattle.st_ops.specs.declared.claim.Claim.{Claim}
use Rattle.st_ops.specs.declared.claim.Claim.TheVariants.{Update, Recover, Deactivate}
use Rattle.st_apply.specs.Applied.{reveal_meets, seen_as, sidetree, step}
use Rattle.st_apply.specs.Laws.{Leads, stays, goes}
use Rattle.st_apply.specs.Resolution.{walk}
use Rattle.st_apply.specs.Codes.{active}
use Rattle.st_apply.specs.inside.Applied.{is_awaited}

module _ {Here : Type 0} (next : Here → Option Here) where
  pub walk_stays : (turns : ℕ) (here : Here) → next here ≡ None → walk next turns here ≡ here
  walk_stays zero here is = refl
  walk_stays (suc turns) here is = ap (λ o. option_map_or (walk next turns) o here) is

  -- a property that each step preserves holds at the end of a walk
  pub walk_keeps : (P : Here → Type 0) → ((here there : Here) → next here ≡ Some there → P here → P there)
      → (turns : ℕ) (here : Here) → P here → P (walk next turns here)
  walk_keeps P keeps zero here holds = holds
  walk_keeps P keeps (suc turns) here holds =
      (elim (next here) as (λ o. next here ≡ o → P (option_map_or (walk next turns) o here)) [
        | None ↦ λ is. holds
        | Some there ↦ λ is. walk_keeps P keeps turns there (keeps here there is holds)
      ]) refl

  -- a walk each step of which gets nearer to something
  module _ (left : Here → ℕ) (nearer : (here there : Here) → next here ≡ Some there → left there < left here) where
    -- ends within this many turns
    pub walk_ends : (turns : ℕ) (here : Here) → left here ≤ turns → next (walk next turns here) ≡ None
    walk_ends zero here few =
        (elim (next here) as (λ o. next here ≡ o → o ≡ None) [
          | None ↦ λ is. refl
          | Some there ↦ λ is. absurd (let less : left there < left here = nearer here there is in omega arith)
        ]) refl
    walk_ends (suc turns) here few =
        (elim (next here) as (λ o. next here ≡ o → next (option_map_or (walk next turns) o here) ≡ None) [
          | None ↦ λ is. is
          | Some there ↦ λ is.
              walk_ends turns there (let less : left there < left here = nearer here there is in omega arith)
        ]) refl

    -- and leads to an end without a next
    pub walk_leads : (turns : ℕ) (here : Here) → left here ≤ turns → Leads next here (walk next turns here)
    walk_leads zero here few = stays (walk_ends zero here few)
    walk_leads (suc turns) here few =
        (elim (next here) as (λ o. next here ≡ o → Leads next here (option_map_or (walk next turns) o here)) [
          | None ↦ λ is. stays is
          | Some there ↦ λ is.
              goes is (walk_leads turns there (let less : left there < left here = nearer here there is in omega arith))
        ]) refl

-- if a walk has all steps of another, and each further step is its last, it goes as far as the other, and then
-- possibly one step
pub walk_more : {Here : Type 0} (next next' : Here → Option Here)
    → ((here there : Here) → next here ≡ Some there → next' here ≡ Some there)
    → ((here there : Here) → next here ≡ None → next' here ≡ Some there → next' there ≡ None)
    → (turns : ℕ) (here : Here)
    → walk next' (suc turns) here ≡ unwrap_or (next' (walk next turns here)) (walk next turns here)
walk_more next next' also last zero here =
    elim (next' here) as (λ o. option_map_or (walk next' zero) o here ≡ unwrap_or o here) [ None ↦ refl | Some there ↦ refl ]
walk_more next next' also last (suc turns) here =
    (elim (next here) as (λ o. next here ≡ o → walk next' (suc (suc turns)) here ≡ unwrap_or (next' (option_map_or (walk next turns) o here)) (option_map_or (walk next turns) o here)) [
      | None ↦ λ is.
          (elim (next' here) as (λ o. next' here ≡ o → option_map_or (walk next' (suc turns)) o here ≡ unwrap_or o here) [
            | None ↦ λ is'. refl
            | Some there ↦ λ is'. walk_stays next' (suc turns) there (last here there is is')
          ]) refl
      | Some there ↦ λ is.
          ap (λ o. option_map_or (walk next' (suc turns)) o here) (also here there is) ∙ walk_more next next' also last turns there
    ]) refl

-- ---- The first item of a list that passes a test, and items at places after one.

module _ {X : Type 0} (test : X → Bool) where
  -- the item found passes the test
  pub find_passes : (xs : List X) (x : X) → find test xs ≡ Some x → test x ≡ true
  find_passes [] x is = absurd (cc)
  find_passes (y ∷ ys) x is =
      (elim (test y) as (λ b. test y ≡ b → cond b (Some y) (find test ys) ≡ Some x → test x ≡ true) [
        | true ↦ λ passes found. (let same : y ≡ x = cc in ap test (sym same) ∙ passes)
        | false ↦ λ fails found. find_passes ys x found
      ]) refl is

  -- and has any property of each item
  pub find_each : (P : X → Type 0) (xs : List X) (x : X) → AllByRecursion P xs → find test xs ≡ Some x → P x
  find_each P [] x each is = absurd (cc)
  find_each P (y ∷ ys) x each is =
      (elim (test y) as (λ b. cond b (Some y) (find test ys) ≡ Some x → P x) [
        | true ↦ λ found. (let same : y ≡ x = cc in subst P same each.0)
        | false ↦ λ found. find_each P ys x each.1 found
      ]) is

  -- the item found is still found with one more item
  pub find_kept : (xs : List X) (y x : X) → find test xs ≡ Some x → find test (xs ++ y ∷ []) ≡ Some x
  find_kept xs y x is = find-append test xs (y ∷ []) ∙ ap (λ o. option_or o (find test (y ∷ []))) is

  -- and if none was found, the new one is, if it passes
  pub find_new : (xs : List X) (y : X) → find test xs ≡ None → find test (xs ++ y ∷ []) ≡ cond (test y) (Some y) None
  find_new xs y is = find-append test xs (y ∷ []) ∙ ap (λ o. option_or o (find test (y ∷ []))) is

module _ {Item : Type 0} (place : Item → ℕ) where
  -- how many items are after a place
  abbrev pub behind : List Item → ℕ → ℕ
  behind [] after = 0
  behind (item ∷ items) after = cond (nat_lt after (place item)) (suc (behind items after)) (behind items after)

  pub behind_within : (items : List Item) (after : ℕ) → behind items after ≤ length items
  behind_within [] after = omega arith
  behind_within (item ∷ items) after =
      let rest = behind_within items after in
      elim (nat_lt after (place item)) as (λ b. cond b (suc (behind items after)) (behind items after) ≤ suc (length items)) [
        | true ↦ omega arith
        | false ↦ omega arith
      ]

  -- after a later place there are no more,
  behind_falls : (items : List Item) (before after : ℕ) → before ≤ after → behind items after ≤ behind items before
  behind_falls [] before after le = omega arith
  behind_falls (item ∷ items) before after le =
      let rest = behind_falls items before after le in grind (arith, nat_tests)

  -- and fewer after a later item of the list
  pub behind_less : (test : Item → Bool) (items : List Item) (before : ℕ) (item : Item)
      → find test items ≡ Some item → before < place item → behind items (place item) < behind items before
  behind_less test [] before item is lt = absurd (cc)
  behind_less test (first ∷ items) before item is lt =
      (elim (test first) as (λ b. cond b (Some first) (find test items) ≡ Some item → behind (first ∷ items) (place item) < behind (first ∷ items) before) [
        | true ↦ λ found.
            (let same : first ≡ item = cc in
            let rest = behind_falls items before (place item) (omega arith) in
            subst (λ x. behind (x ∷ items) (place item) < behind (x ∷ items) before) (sym same) (grind (arith, nat_tests)))
        | false ↦ λ found.
            (let rest = behind_less test items before item found lt in grind (arith, nat_tests))
      ]) is

  -- if each item is at the place or before it, none is after it
  pub none_behind : (test : Item → Bool) (items : List Item) (after : ℕ)
      → AllByRecursion (λ item. place item ≤ after) items → find (λ item. nat_lt after (place item) && test item) items ≡ None
  none_behind test [] after all = refl
  none_behind test (item ∷ items) after all =
      let rest = none_behind test items after all.1 in
      let before : nat_lt after (place item) ≡ false = grind (arith, nat_tests) in
      rw before rest

-- ---- Chases: walks that continue, as long as something is wanted, to the first item after the current place that passes
-- a test for it. Both walks of resolution are chases.

only_new : {X : Type 0} (b : Bool) (y x : X) → cond b (Some y) None ≡ Some x → x ≡ y
only_new true y x is = cc
only_new false y x is = absurd (cc)

and_then_cond : {X Y : Type 0} (f : X → Option Y) (b : Bool) (x : X) → option_and_then f (cond b (Some x) None) ≡ cond b (f x) None
and_then_cond f true x = refl
and_then_cond f false x = refl

module _ {Here Wanted Item : Type 0} (place : Item → ℕ) (at : Here → ℕ)
    (wants : Here → Option Wanted) (passes : Wanted → Item → Bool) (gives : Here → Item → Option Here) where
  abbrev pub later : Here → Wanted → Item → Bool
  later here wanted item = nat_lt (at here) (place item) && passes wanted item

  -- one step
  abbrev pub next : List Item → Here → Option Here
  next items here = do
    wanted ← wants here
    item ← find (later here wanted) items
    gives here item

  -- its parts
  next_some : (items : List Item) (here there : Here) {P : Type 0} → next items here ≡ Some there
      → ((wanted : Wanted) (item : Item) → wants here ≡ Some wanted → find (later here wanted) items ≡ Some item → gives here item ≡ Some there → P) → P
  next_some items here there is then =
      option_and_then_some (λ wanted. option_and_then (gives here) (find (later here wanted) items)) (wants here) there is
      (λ wanted want found. option_and_then_some (gives here) (find (later here wanted) items) there found
      (λ item first given. then wanted item want first given))

  -- an item is reached at its place
  module _ (at_is : (here : Here) (item : Item) (there : Here) → gives here item ≡ Some there → at there ≡ place item) where
    -- each step leaves fewer items ahead
    pub nearer : (items : List Item) (here there : Here) → next items here ≡ Some there → behind place items (at there) < behind place items (at here)
    nearer items here there is = next_some items here there is
        (λ wanted item want first given.
        let passed = find_passes (later here wanted) items item first in
        let less : at here < place item = grind (arith, nat_tests) in
        rw (at_is here item there given) (behind_less place (later here wanted) items (at here) item first less))

    ends : (items : List Item) (here : Here) → next items (walk (next items) (length items) here) ≡ None
    ends items here = walk_ends (next items) (λ here. behind place items (at here)) (nearer items) (length items) here (behind_within place items (at here))

    -- one more item, at a place after all others
    module _ (given : (here : Here) (wanted : Wanted) (item : Item) → passes wanted item ≡ true → gives here item ≡ None → ⊥)
        (items : List Item) (item : Item) (last : AllByRecursion (λ earlier. place earlier < place item) items) where
      stops : (here : Here) → at here ≡ place item → next (items ++ item ∷ []) here ≡ None
      stops here is =
          elim (wants here) as (λ o. option_and_then (λ wanted. option_and_then (gives here) (find (later here wanted) (items ++ item ∷ []))) o ≡ None) [
            | None ↦ refl
            | Some wanted ↦ ap (option_and_then (gives here)) (none_behind place (passes wanted) (items ++ item ∷ []) (at here)
                (rw is (each-append (λ other. place other ≤ place item) items (item ∷ [])
                (each-weaker (λ earlier. place earlier < place item) (λ other. place other ≤ place item) (λ earlier before. omega arith) items last) (omega arith, tt))))
          ]

      -- a walk from the item itself stays there
      pub stays_there : (turns : ℕ) (here : Here) → at here ≡ place item → walk (next (items ++ item ∷ [])) turns here ≡ here
      stays_there turns here is = walk_stays (next (items ++ item ∷ [])) turns here (stops here is)

      also : (here there : Here) → next items here ≡ Some there → next (items ++ item ∷ []) here ≡ Some there
      also here there is = next_some items here there is
          (λ wanted found want first given.
          ap (λ o. option_and_then (λ wanted. option_and_then (gives here) (find (later here wanted) (items ++ item ∷ []))) o) want
          ∙ ap (option_and_then (gives here)) (find_kept (later here wanted) items item found first) ∙ given)

      none_first : (here : Here) (wanted : Wanted) → wants here ≡ Some wanted → next items here ≡ None → find (later here wanted) items ≡ None
      none_first here wanted want none =
          let rest : option_and_then (gives here) (find (later here wanted) items) ≡ None =
          ap (λ o. option_and_then (λ wanted. option_and_then (gives here) (find (later here wanted) items)) o) (sym want) ∙ none in
          (elim (find (later here wanted) items) as (λ o. find (later here wanted) items ≡ o → option_and_then (gives here) o ≡ None → o ≡ None) [
            | None ↦ λ first none. refl
            | Some found ↦ λ first none. absurd (given here wanted found (and_parts _ _ (find_passes (later here wanted) items found first)).1 none)
          ]) refl rest

      new : (here there : Here) → next items here ≡ None → next (items ++ item ∷ []) here ≡ Some there → next (items ++ item ∷ []) there ≡ None
      new here there none is = next_some (items ++ item ∷ []) here there is
          (λ wanted found want first given.
          let is_new = only_new _ item found (sym (find_new (later here wanted) items item (none_first here wanted want none)) ∙ first) in
          stops there (at_is here found there given ∙ ap place is_new))

      -- a walk among the others stays before the item
      pub before : (here : Here) → at here < place item → at (walk (next items) (length items) here) < place item
      before here less = walk_keeps (next items) (λ here. at here < place item)
          (λ here there is _. next_some items here there is
          (λ wanted found want first given. rw (at_is here found there given) (find_each (later here wanted) (λ earlier. place earlier < place item) items found last first)))
          (length items) here less

      more_at : (here : Here) → at here < place item → next items here ≡ None
          → next (items ++ item ∷ []) here ≡ option_and_then (λ wanted. cond (passes wanted item) (gives here item) None) (wants here)
      more_at here less none =
          (elim (wants here) as (λ o. wants here ≡ o → option_and_then (λ wanted. option_and_then (gives here) (find (later here wanted) (items ++ item ∷ []))) o
          ≡ option_and_then (λ wanted. cond (passes wanted item) (gives here item) None) o) [
            | None ↦ λ want. refl
            | Some wanted ↦ λ want.
                ap (option_and_then (gives here)) (find_new (later here wanted) items item (none_first here wanted want none)
                ∙ ap (λ b. cond (b && passes wanted item) (Some item) None) (lt-ltb (at here) (place item) less))
                ∙ and_then_cond (gives here) (passes wanted item) item
          ]) refl

      -- a walk goes as far as among the others, and from there to the item if that passes
      pub goes_on : (here : Here) → at here < place item
          → walk (next (items ++ item ∷ [])) (length (items ++ item ∷ [])) here
          ≡ (let there = walk (next items) (length items) here in
          unwrap_or (option_and_then (λ wanted. cond (passes wanted item) (gives there item) None) (wants there)) there)
      goes_on here less =
          let there = walk (next items) (length items) here in
          ap (λ turns. walk (next (items ++ item ∷ [])) turns here) (length_push items item ∙ add-one (length items))
          ∙ walk_more (next items) (next (items ++ item ∷ [])) also new (length items) here
          ∙ ap (λ o. unwrap_or o there) (more_at there (before here less) (ends items here))

-- ---- Reveal values that meet a commitment, by the relation and by the test.

-- an answer that is true if and only if the two meet is that test
pub meets_is : (answer : Bool) (reveal commitment : HashValue) → IsTrue answer ↔ Meets reveal commitment → answer ≡ reveal_meets reveal commitment
meets_is true reveal commitment same =
    let revealed = hash_of_with reveal.code reveal.digest in
    sym (ap (same_hash revealed) (same.0 refl) ∙ same_hash-itself revealed)
meets_is false reveal commitment same =
    sym (same_hash-other (hash_of_with reveal.code reveal.digest) commitment (λ is. let never : false ≡ true = same.1 (sym is) in cc))

-- ---- An operation that an active state does not await leaves it.

pub unawaited_leaves : (limits : ParamsValue) (recovery : HashValue) (update : Option HashValue) (document : PlainDocument)
    (operation : PlainOperation) (claim : Option Claim) → is_awaited recovery update operation ≡ false
    → active recovery update document ≡ step sidetree (active recovery update document) (seen_as limits operation claim)
unawaited_leaves limits recovery update document (creating suffix_data delta) claim is = refl
unawaited_leaves limits recovery update document (updating target proof delta) None is = refl
unawaited_leaves limits recovery update document (updating target proof delta) (Some (Update delta_hash)) is = rw is refl
unawaited_leaves limits recovery update document (updating target proof delta) (Some (Recover commitment delta_hash)) is = refl
unawaited_leaves limits recovery update document (updating target proof delta) (Some Deactivate) is = refl
unawaited_leaves limits recovery update document (recovering target proof delta) None is = refl
unawaited_leaves limits recovery update document (recovering target proof delta) (Some (Update delta_hash)) is = refl
unawaited_leaves limits recovery update document (recovering target proof delta) (Some (Recover commitment delta_hash)) is = rw is refl
unawaited_leaves limits recovery update document (recovering target proof delta) (Some Deactivate) is = refl
unawaited_leaves limits recovery update document (deactivating target proof) None is = refl
unawaited_leaves limits recovery update document (deactivating target proof) (Some (Update delta_hash)) is = refl
unawaited_leaves limits recovery update document (deactivating target proof) (Some (Recover commitment delta_hash)) is = refl
unawaited_leaves limits recovery update document (deactivating target proof) (Some Deactivate) is = rw is refl

-- Resolution of one more item, at a place after all others, is one more step.
use Rattle.std.proofs.Common.{◌≡◌, ◌∙◌, sym, ap, subst, ℕ, ◌<◌, refl, List, [], ◌∷◌, ◌++◌, length, Bool, true, false, cond}
use Rattle.std.specs.Prelude.{Option, Some, None, unwrap_or, option_and_then, option_map}
use Rattle.std.specs.Option.{option_map_or}
use Rattle.std.specs.List.{AllByRecursion}
use Rattle.std.proofs.lemmas.Option.{none-some, same_Some}
use Rattle.st_apply.specs.Codes.{is_create, is_full_for, is_update_for, Rules, Change, Beginning, Seen, creates, recovers, deactivates, updates, unclaimed, State, absent, active, deactivated}
use Rattle.st_apply.specs.Resolution.{walk, beginning_of, change_of, Reached, before_updates, start, next_full, full_after, updated_by, update_after, last_full, last_update, ending, begun_behind, resolved_behind, resolved_by, resolve}
use Rattle.st_apply.specs.Applied.{changed, begun, step}
use Rattle.st_apply.proofs.WalkLemmas as chase
use Rattle.st_apply.proofs.WalkLemmas.{find_each, find_kept, find_new, behind}
use Rattle.st_apply.proofs.LawLemmas.{leaves_it, create_acts, full_acts, none_acts, other_leaves, update_acts}

and_then_same : {X : Type 0} (o : Option X) → option_and_then (λ x. Some x) o ≡ o
and_then_same None = refl
and_then_same (Some x) = refl

module _ {Hash Document Item : Type 0} (rules : Rules Hash Document) (place : Item → ℕ) (seen : Item → Seen Hash Document) where
  -- ---- the walk over recovers and deactivates is a chase

  abbrev begins : Item → Option (Beginning Hash Document)
  begins item = beginning_of (seen item)

  abbrev is_full : Beginning Hash Document → Item → Bool
  is_full beginning item = is_full_for rules beginning.recovery (seen item)

  abbrev itself : Item → Item → Option Item
  itself here item = Some item

  itself_at : (here item there : Item) → itself here item ≡ Some there → place there ≡ place item
  itself_at here item there is = ap place (sym (same_Some item there is))

  itself_given : (here : Item) (beginning : Beginning Hash Document) (item : Item) → is_full beginning item ≡ true → itself here item ≡ None → ⊥
  itself_given here beginning item passes none = none-some item (sym none)

  abbrev chases : List Item → Item → Option Item
  chases = chase.next place place begins is_full itself

  full_step : (items : List Item) (here : Item) → chases items here ≡ full_after rules place seen items here
  full_step items here =
      elim (begins here) as (λ o.
      option_and_then (λ beginning. option_and_then (λ item. Some item) (next_full rules place seen items (place here) beginning.recovery)) o
      ≡ option_and_then (λ beginning. next_full rules place seen items (place here) beginning.recovery) o) [
        | None ↦ refl
        | Some beginning ↦ and_then_same (next_full rules place seen items (place here) beginning.recovery)
      ]

  full_same : (items : List Item) → chases items ≡ full_after rules place seen items
  full_same items = λ i here. full_step items here i

  pub full_nearer : (items : List Item) (here there : Item) → full_after rules place seen items here ≡ Some there
      → behind place items (place there) < behind place items (place here)
  full_nearer items here there is = chase.nearer place place begins is_full itself itself_at items here there (full_step items here ∙ is)

  -- ---- and so is that over updates

  abbrev at : Reached Hash Document → ℕ
  at here = here.place

  abbrev commits : Reached Hash Document → Option Hash
  commits here = here.update

  abbrev is_update : Hash → Item → Bool
  is_update commitment item = is_update_for rules commitment (seen item)

  abbrev update : Reached Hash Document → Item → Option (Reached Hash Document)
  update = updated_by rules place seen

  -- the result of an update at this item, if it has this change
  abbrev updated : Reached Hash Document → Item → Option (Change Hash Document) → Option (Reached Hash Document)
  updated here item change =
      option_map (λ change. record { place = place item; update = Some change.update; document = changed here.document change }) change

  update_at : (here : Reached Hash Document) (item : Item) (there : Reached Hash Document) → update here item ≡ Some there → there.place ≡ place item
  update_at here item there is =
      elim (change_of (seen item)) as (λ o. updated here item o ≡ Some there → there.place ≡ place item) [
        | None ↦ λ none. absurd (cc)
        | Some change ↦ λ found. (let same = same_Some _ _ found in ap (λ u. u.place) (sym same))
      ] is

  update_given : (here : Reached Hash Document) (commitment : Hash) (item : Item) → is_update commitment item ≡ true → update here item ≡ None → ⊥
  update_given here commitment item passes none =
      let acts = update_acts rules commitment commitment here.document (seen item) passes in
      none-some _ (sym (sym (ap (updated here item) acts.is) ∙ none))

  pub update_nearer : (items : List Item) (here there : Reached Hash Document) → update_after rules place seen items here ≡ Some there
      → behind place items there.place < behind place items here.place
  update_nearer items = chase.nearer place at commits is_update update update_at items

  -- ---- the state after an operation is that after its start

  abbrev behind_beginning : List Item → ℕ → Option (Beginning Hash Document) → State Hash Document
  behind_beginning items from beginning = option_map_or (begun_behind rules place seen items from) beginning deactivated

  by_beginning : (items : List Item) (from : ℕ) (operation : Seen Hash Document)
      → resolved_behind rules place seen items from operation ≡ behind_beginning items from (beginning_of operation)
  by_beginning items from (creates beginning) = refl
  by_beginning items from (recovers reveal beginning) = refl
  by_beginning items from (deactivates reveal) = refl
  by_beginning items from (updates reveal change) = refl
  by_beginning items from unclaimed = refl

  -- ---- one more item, at a place after all others

  module _ (items : List Item) (item : Item) where
    abbrev longer : List Item
    longer = items ++ item ∷ []

    module _ (last : AllByRecursion (λ earlier. place earlier < place item) items) where
      full_goes : (create : Item) → place create < place item → last_full rules place seen longer create
          ≡ (let there = last_full rules place seen items create in
          unwrap_or (option_and_then (λ beginning. cond (is_full beginning item) (Some item) None) (begins there)) there)
      full_goes create before =
          ap (λ next. walk next (length longer) create) (sym (full_same longer))
          ∙ chase.goes_on place place begins is_full itself itself_at itself_given items item last create before
          ∙ ap (λ next. let there = walk next (length items) create in
          unwrap_or (option_and_then (λ beginning. cond (is_full beginning item) (Some item) None) (begins there)) there) (full_same items)

      full_before : (create : Item) → place create < place item → place (last_full rules place seen items create) < place item
      full_before create before =
          subst (λ next. place (walk next (length items) create) < place item) (full_same items)
          (chase.before place place begins is_full itself itself_at itself_given items item last create before)

      full_stays : last_full rules place seen longer item ≡ item
      full_stays =
          ap (λ next. walk next (length longer) item) (sym (full_same longer))
          ∙ chase.stays_there place place begins is_full itself itself_at itself_given items item last (length longer) item refl

      update_goes : (from : ℕ) (change : Option (Change Hash Document)) → from < place item → last_update rules place seen longer from change
          ≡ (let there = last_update rules place seen items from change in
          unwrap_or (option_and_then (λ commitment. cond (is_update commitment item) (update there item) None) there.update) there)
      update_goes from change before = chase.goes_on place at commits is_update update update_at update_given items item last (before_updates rules from change) before

      -- its result after the last recover or deactivate, if it is not for that,
      update_more : (recovery : Hash) (here : Reached Hash Document) → is_full_for rules recovery (seen item) ≡ false
          → ending recovery (unwrap_or (option_and_then (λ commitment. cond (is_update commitment item) (update here item) None) here.update) here)
          ≡ step rules (ending recovery here) (seen item)
      update_more recovery here fails =
          (elim here.update as (λ o. here.update ≡ o → ending recovery (unwrap_or (option_and_then (λ commitment. cond (is_update commitment item) (update here item) None) o) here) ≡ step rules (active recovery o here.document) (seen item)) [
            | None ↦ λ is. ap (λ o. active recovery o here.document) is ∙ none_acts rules recovery here.document (seen item) fails
            | Some commitment ↦ λ is.
                (elim (is_update commitment item) as (λ b. is_update commitment item ≡ b → ending recovery (unwrap_or (cond b (update here item) None) here) ≡ step rules (active recovery (Some commitment) here.document) (seen item)) [
                  | true ↦ λ passes.
                      (let acts = update_acts rules recovery commitment here.document (seen item) passes in
                      ap (λ o. ending recovery (unwrap_or (updated here item o) here)) acts.is ∙ acts.leaves)
                  | false ↦ λ misses.
                      ap (λ o. active recovery o here.document) is ∙ other_leaves rules recovery commitment here.document (seen item) fails misses
                ]) refl
          ]) refl

      -- its result if it starts a new state,
      begun_there : resolved_by rules place seen longer item ≡ option_map_or (begun rules) (begins item) deactivated
      begun_there =
          by_beginning longer (place item) (seen item)
          ∙ elim (begins item) as (λ o. behind_beginning longer (place item) o ≡ option_map_or (begun rules) o deactivated) [
            | None ↦ refl
            | Some beginning ↦ ap (ending beginning.recovery)
                (chase.stays_there place at commits is_update update update_at update_given items item last (length longer) (before_updates rules (place item) beginning.change) refl)
          ]

      -- and either
      full_more : (there : Item) → place there < place item
          → resolved_by rules place seen longer (unwrap_or (option_and_then (λ beginning. cond (is_full beginning item) (Some item) None) (begins there)) there)
          ≡ step rules (resolved_by rules place seen items there) (seen item)
      full_more there before =
          (elim (begins there) as (λ o. begins there ≡ o
          → resolved_by rules place seen longer (unwrap_or (option_and_then (λ beginning. cond (is_full beginning item) (Some item) None) o) there)
          ≡ step rules (behind_beginning items (place there) o) (seen item)) [
            | None ↦ λ is. by_beginning longer (place there) (seen there) ∙ ap (behind_beginning longer (place there)) is
            | Some beginning ↦ λ is.
                (let here = last_update rules place seen items (place there) beginning.change in
                (elim (is_full beginning item) as (λ b. is_full beginning item ≡ b
                → resolved_by rules place seen longer (unwrap_or (cond b (Some item) None) there) ≡ step rules (ending beginning.recovery here) (seen item)) [
                  | true ↦ λ passes. begun_there ∙ full_acts rules beginning.recovery here.update here.document (seen item) passes
                  | false ↦ λ fails.
                      by_beginning longer (place there) (seen there) ∙ ap (behind_beginning longer (place there)) is
                      ∙ ap (ending beginning.recovery) (update_goes (place there) beginning.change before)
                      ∙ update_more beginning.recovery here fails
                ]) refl)
          ]) refl ∙ ap (λ state. step rules state (seen item)) (sym (by_beginning items (place there) (seen there)))

      pub one_more : resolve rules place seen longer ≡ step rules (resolve rules place seen items) (seen item)
      one_more =
          (elim (start rules place seen items) as (λ o. start rules place seen items ≡ o
          → resolve rules place seen longer ≡ step rules (option_map_or (λ create. resolved_by rules place seen items (last_full rules place seen items create)) o absent) (seen item)) [
            | None ↦ λ none.
                ap (λ o. option_map_or (λ create. resolved_by rules place seen longer (last_full rules place seen longer create)) o absent)
                (find_new (λ other. is_create (seen other)) items item none)
                ∙ (elim (is_create (seen item)) as (λ b. is_create (seen item) ≡ b
                → option_map_or (λ create. resolved_by rules place seen longer (last_full rules place seen longer create)) (cond b (Some item) None) absent ≡ step rules absent (seen item)) [
                  | true ↦ λ is. ap (resolved_by rules place seen longer) full_stays ∙ begun_there ∙ create_acts rules (seen item) is
                  | false ↦ λ is. sym (leaves_it rules absent (seen item) is)
                ]) refl
            | Some create ↦ λ found.
                (let before = find_each (λ other. is_create (seen other)) (λ earlier. place earlier < place item) items create last found in
                ap (λ o. option_map_or (λ create. resolved_by rules place seen longer (last_full rules place seen longer create)) o absent)
                (find_kept (λ other. is_create (seen other)) items item create found)
                ∙ ap (resolved_by rules place seen longer) (full_goes create before)
                ∙ full_more (last_full rules place seen items create) (full_before create before))
          ]) refl

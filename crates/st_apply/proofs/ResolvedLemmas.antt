-- The laws of resolution, from that of one more item.
use Rattle.std.proofs.Common.{◌≡◌, ◌∙◌, sym, ap, subst, ℕ, ◌+◌, ◌<◌, ◌≤◌, refl, arith, List, [], ◌∷◌, ◌++◌, append_assoc, append-nil, false}
use Rattle.std.proofs.lemmas.List.Folds.{fold-map, fold_stays}
use Rattle.std.specs.List.{AllByRecursion, cons_option, fold}
use Rattle.std.specs.Prelude.{map, Option, Some, None}
use Rattle.st_base.proofs.ListLemmas.{each-weaker}
use Rattle.st_hash.specs.Hash.{HashValue}
use Rattle.st_params.specs.ParamsValue.{ParamsValue, params_at}
use Rattle.st_doc.specs.Document.{PlainDocument}
use Rattle.st_ops.specs.Operation.{PlainOperation}
use Rattle.st_apply.proofs.OneMoreLemmas.{full_nearer, update_nearer, one_more}
use Rattle.st_apply.proofs.WalkLemmas.{behind, behind_within, walk_leads}
use Rattle.st_apply.proofs.LawLemmas.{leaves_it}
use Rattle.st_apply.specs.Codes.{acts, Rules, Seen, absent, deactivated, State}
use Rattle.st_apply.specs.Laws.{Anchored, all_applied, place_of, resolved, seen_in, PlacesAscend, WalksLead, given_from}
use Rattle.st_apply.specs.Applied.{applied, seen_at, sidetree, step, folded_steps}
use Rattle.st_apply.specs.Resolution.{full_after, update_after, before_updates, resolve}

-- a property of each item of a list is one of an item in its middle
each_at : {X : Type 0} (P : X → Type 0) (done : List X) (x : X) (more : List X) → AllByRecursion P (done ++ x ∷ more) → P x
each_at P [] x more each = each.0
each_at P (y ∷ done) x more each = each_at P done x more each.1

-- items before another in a list with ascending places have earlier places
pub places_before : {X : Type 0} (place : X → ℕ) (done : List X) (item : X) (more : List X) → PlacesAscend place (done ++ item ∷ more)
    → AllByRecursion (λ earlier. place earlier < place item) done
places_before place [] item more ascend = tt
places_before place (x ∷ done) item more ascend =
    (each_at (λ later. place x < place later) done item more ascend.0, places_before place done item more ascend.1)

module _ {Hash Document Item : Type 0} (rules : Rules Hash Document) (place : Item → ℕ) (seen : Item → Seen Hash Document) where
  -- the steps continue from the resolution of the earlier items
  pub goes_on : (done more : List Item) → PlacesAscend place (done ++ more)
      → folded_steps rules seen (resolve rules place seen done) more ≡ resolve rules place seen (done ++ more)
  goes_on done [] ascend = ap (resolve rules place seen) (sym (append-nil done))
  goes_on done (item ∷ more) ascend =
      let along : (done ++ item ∷ []) ++ more ≡ done ++ item ∷ more = append_assoc done (item ∷ []) more in
      ap (λ state. folded_steps rules seen state more) (sym (one_more rules place seen done item (places_before place done item more ascend)))
      ∙ goes_on (done ++ item ∷ []) more (subst (PlacesAscend place) (sym along) ascend)
      ∙ ap (resolve rules place seen) along

  -- one step for each item is resolution
  pub fold_is_walk : (items : List Item) → PlacesAscend place items
      → folded_steps rules seen absent items ≡ resolve rules place seen items
  fold_is_walk items ascend = goes_on [] items ascend

  -- so it depends only on how they are seen
  pub seen_resolve : (items : List Item) → PlacesAscend place items
      → resolve rules place seen items ≡ fold (step rules) absent (map seen items)
  seen_resolve items ascend = sym (fold_is_walk items ascend) ∙ sym (fold-map (step rules) seen absent items)

  -- a deactivated state stays so
  pub stays_deactivated : (done more : List Item) → PlacesAscend place (done ++ more)
      → resolve rules place seen done ≡ deactivated → resolve rules place seen (done ++ more) ≡ deactivated
  stays_deactivated done more ascend is =
      sym (goes_on done more ascend)
      ∙ ap (λ state. folded_steps rules seen state more) is
      ∙ fold_stays (λ state item. step rules state (seen item)) deactivated (λ item. refl) more

  -- the walks end because there is no next
  pub walks_lead : (items : List Item) → WalksLead rules place seen items
  walks_lead items = record {
    full = λ create.
        walk_leads (full_after rules place seen items) (λ here. behind place items (place here)) (full_nearer rules place seen items)
        _ create (behind_within place items (place create));
    update = λ from change.
        walk_leads (update_after rules place seen items) (λ here. behind place items here.place) (update_nearer rules place seen items)
        _ (before_updates rules from change) (behind_within place items from);
  }

-- ---- items given by entries

module _ {Entry Item : Type 0} (give : ℕ → Entry → Option Item) (place : Item → ℕ)
    (at : (number : ℕ) (entry : Entry) (item : Item) → give number entry ≡ Some item → place item ≡ number) where
  -- are at the numbers of the entries or later,
  not_before : (number : ℕ) (entries : List Entry) → AllByRecursion (λ item. number ≤ place item) (given_from give number entries)
  not_before number [] = tt
  not_before number (entry ∷ entries) =
      let rest = each-weaker (λ item. number + 1 ≤ place item) (λ item. number ≤ place item) (λ item late. omega arith)
      (given_from give (number + 1) entries) (not_before (number + 1) entries) in
      (elim (give number entry) as (λ o. give number entry ≡ o
      → AllByRecursion (λ item. number ≤ place item) (cons_option o (given_from give (number + 1) entries))) [
        | None ↦ λ is. rest
        | Some item ↦ λ is. ((let here = at number entry item is in omega arith), rest)
      ]) refl

  -- and in ascending places
  pub given_ascend : (number : ℕ) (entries : List Entry) → PlacesAscend place (given_from give number entries)
  given_ascend number [] = tt
  given_ascend number (entry ∷ entries) =
      (elim (give number entry) as (λ o. give number entry ≡ o → PlacesAscend place (cons_option o (given_from give (number + 1) entries))) [
        | None ↦ λ is. given_ascend (number + 1) entries
        | Some item ↦ λ is.
            (let here = at number entry item is in (
              each-weaker (λ later. number + 1 ≤ place later) (λ later. place item < place later) (λ later late. omega arith)
                  (given_from give (number + 1) entries) (not_before (number + 1) entries),
              given_ascend (number + 1) entries,
            ))
      ]) refl

-- ---- The resolution of anchored operations, for the crates that store their state.

-- an operation that does not act leaves the state
pub idle_leaves : (limits : ParamsValue) (state : State HashValue PlainDocument) (operation : PlainOperation)
    → acts sidetree state (seen_at limits operation) ≡ false → applied limits state operation ≡ state
unfolding applied
idle_leaves limits state operation idle = leaves_it sidetree state (seen_at limits operation) idle

module _ (schedule : Option ℕ) where
  -- one more operation, at a place after all others, is one more step
  pub resolved_push : (operations : List Anchored) (last : Anchored) → AllByRecursion (λ earlier. earlier.place < last.place) operations
      → resolved schedule (operations ++ last ∷ []) ≡ applied (params_at schedule last.height) (resolved schedule operations) last.operation
  unfolding resolved applied
  resolved_push operations last behind = one_more sidetree place_of (seen_in schedule) operations last behind

  -- one step for each operation, from an absent state on, equals their resolution
  pub resolved_fold : (operations : List Anchored) → PlacesAscend place_of operations
      → all_applied schedule absent operations ≡ resolved schedule operations
  unfolding resolved applied
  resolved_fold operations ascend = fold_is_walk sidetree place_of (seen_in schedule) operations ascend

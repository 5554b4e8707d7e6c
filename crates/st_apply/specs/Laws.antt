-- Laws of resolution from nothing and of the steps, for any operations.
use Rattle.std.specs.List.{AllByRecursion, cons_option}
use Rattle.std.specs.Prelude.{◌≡◌, ℕ, ◌<◌, false, List, [], ◌∷◌, ◌++◌, map, Option, Some, None, ◌+◌, fold}
use Rattle.st_hash.specs.Hash.{HashValue}
use Rattle.st_params.specs.ParamsValue.{ParamsValue, params_at}
use Rattle.st_doc.specs.Document.{PlainDocument, plain_document}
use Rattle.st_ops.specs.Operation.{PlainOperation}
use Rattle.st_apply.specs.Codes.{acts, Rules, Change, Seen, State, absent, deactivated, active}
use Rattle.st_apply.specs.Applied.{beginning_at, sidetree, applied, seen_at, step, folded_steps, begun}
use Rattle.st_apply.specs.Resolution.{full_after, last_full, before_updates, update_after, last_update, resolve}
use Rattle.st_apply.specs.declared.state.Begun.{Begun as BegunParts}
use Rattle.st_apply.specs.declared.opening.StateParts.{StateParts}
use Rattle.st_apply.specs.declared.opening.StateParts.TheVariants as parts
use Rattle.st_apply.specs.declared.state.Active.{Active as ActiveParts}
use Rattle.st_apply.specs.declared.state.Kept.{Kept}
use Rattle.st_apply.specs.declared.state.Kept.TheVariants.{Absent, Begun, Active, Deactivated}

-- the places ascend: each is before those of all that follow
abbrev pub PlacesAscend : {Item : Type 0} → (Item → ℕ) → List Item → Type 0
PlacesAscend place [] = Unit {0}
PlacesAscend place (item ∷ items) = AllByRecursion (λ later. place item < place later) items × PlacesAscend place items

-- `next` leads from the first to the second, and there is no next after it.
pub data Leads {Here : Type 0} (next : Here → Option Here) : Here → Here → Type 0 where
  stays : {here : Here} → next here ≡ None → Leads next here here
  goes : {here there end : Here} → next here ≡ Some there → Leads next there end → Leads next here end

module _ {Hash Document Item : Type 0} (rules : Rules Hash Document) (place : Item → ℕ) (seen : Item → Seen Hash Document) where
  -- One step for each item is resolution from nothing.
  abbrev pub FoldIsWalk : Type 0
  FoldIsWalk = (items : List Item) → PlacesAscend place items
      → folded_steps rules seen absent items ≡ resolve rules place seen items

  -- The steps may continue from the resolution of the earlier items.
  abbrev pub GoesOn : Type 0
  GoesOn = (done more : List Item) → PlacesAscend place (done ++ more)
      → folded_steps rules seen (resolve rules place seen done) more ≡ resolve rules place seen (done ++ more)

  -- One more item, at a place after all others, is one more step.
  abbrev pub OneMore : Type 0
  OneMore = (items : List Item) (item : Item) → AllByRecursion (λ earlier. place earlier < place item) items
      → resolve rules place seen (items ++ item ∷ []) ≡ step rules (resolve rules place seen items) (seen item)

  -- The walks end because there is no next, not because their turns are used up.
  pub record WalksLead (items : List Item) : Type 0 where
    pub full : (create : Item) → Leads (full_after rules place seen items) create (last_full rules place seen items create)
    pub update : (from : ℕ) (change : Option (Change Hash Document))
        → Leads (update_after rules place seen items) (before_updates rules from change) (last_update rules place seen items from change)

  -- Items that resolve to deactivated do so with any items after them.
  abbrev pub StaysDeactivated : Type 0
  StaysDeactivated = (done more : List Item) → PlacesAscend place (done ++ more)
      → resolve rules place seen done ≡ deactivated → resolve rules place seen (done ++ more) ≡ deactivated

-- An operation that does not act leaves the state unchanged.
abbrev pub LeavesIt : {Hash Document : Type 0} → Rules Hash Document → Type 0
LeavesIt {Hash} {Document} rules = (state : State Hash Document) (operation : Seen Hash Document)
    → acts rules state operation ≡ false → step rules state operation ≡ state

-- Items in ascending places that are seen alike resolve alike, whatever else differs, their places included.
abbrev pub SeenAlike : {Hash Document Item Other : Type 0} → Rules Hash Document
    → (Item → ℕ) → (Item → Seen Hash Document) → (Other → ℕ) → (Other → Seen Hash Document) → Type 0
SeenAlike {Hash} {Document} {Item} {Other} rules place seen place' seen' = (items : List Item) (others : List Other)
    → PlacesAscend place items → PlacesAscend place' others → map seen items ≡ map seen' others
    → resolve rules place seen items ≡ resolve rules place' seen' others

-- ---- The state that a `DidState` represents, and its parts, as states.

-- the result of a create or a recover, whether its delta was read or not
abbrev pub shown_begun : BegunParts → State HashValue PlainDocument
shown_begun parts = begun sidetree (beginning_at parts.params parts.recovery parts.delta_hash parts.delta)

-- an active state by its parts
abbrev pub shown_active : ActiveParts → State HashValue PlainDocument
shown_active parts = active parts.recovery parts.update parts.document

-- the stored form, as a state
abbrev pub shown : Kept → State HashValue PlainDocument
shown Absent = absent
shown (Begun parts) = shown_begun parts
shown (Active parts) = shown_active parts
shown Deactivated = deactivated

-- opened parts, as a state
abbrev pub opened : StateParts → State HashValue PlainDocument
opened parts.Absent = absent
opened (parts.Active recovery update document) = active recovery update (plain_document document)
opened parts.Deactivated = deactivated

-- ---- The items given by a list of entries, at most one per entry, each at the number of its entry.

-- the items of these entries, the first of which has this number
abbrev pub given_from : {Entry Item : Type 0} → (ℕ → Entry → Option Item) → ℕ → List Entry → List Item
given_from give number [] = []
given_from give number (entry ∷ entries) = cons_option (give number entry) (given_from give (number + 1) entries)

-- The items given by entries have ascending places, if the place of each is the number of its entry.
abbrev pub GivenAscend : (Entry Item : Type 0) → Type 0
GivenAscend Entry Item = (give : ℕ → Entry → Option Item) (place : Item → ℕ)
    → ((number : ℕ) (entry : Entry) (item : Item) → give number entry ≡ Some item → place item ≡ number)
    → (number : ℕ) (entries : List Entry) → PlacesAscend place (given_from give number entries)

-- ---- Operations at their places in the ledger, and their resolution.

-- an anchored operation: the number of its entry in the ledger, and the height of that
pub record Anchored : Type 0 where
  pub place : ℕ
  pub height : ℕ
  pub operation : PlainOperation

-- its place in the ledger
abbrev pub place_of : Anchored → ℕ
place_of anchored = anchored.place

-- the view of it at the limits of its height, by the schedule of limits
abbrev pub seen_in : Option ℕ → Anchored → Seen HashValue PlainDocument
seen_in schedule anchored = seen_at (params_at schedule anchored.height) anchored.operation

-- The state of an identifier with these operations, by resolution from nothing.
unfoldable pub resolved : Option ℕ → List Anchored → State HashValue PlainDocument
resolved schedule operations = resolve sidetree place_of (seen_in schedule) operations

-- the state after one step for each operation, from a state on
abbrev pub all_applied : Option ℕ → State HashValue PlainDocument → List Anchored → State HashValue PlainDocument
all_applied schedule state operations =
    fold (λ state anchored. applied (params_at schedule anchored.height) state anchored.operation) state operations

-- One step for each operation, in ascending places, equals their resolution.
abbrev pub StepsResolve : Type 0
StepsResolve = (schedule : Option ℕ) (operations : List Anchored) → PlacesAscend place_of operations
    → all_applied schedule absent operations ≡ resolved schedule operations

-- One more operation, at a place after all others, is one more step.
abbrev pub OneMoreStep : Type 0
OneMoreStep = (schedule : Option ℕ) (operations : List Anchored) (last : Anchored)
    → AllByRecursion (λ earlier. earlier.place < last.place) operations
    → resolved schedule (operations ++ last ∷ []) ≡ applied (params_at schedule last.height) (resolved schedule operations) last.operation

-- An operation that does not act on a state leaves it.
abbrev pub IdleLeaves : Type 0
IdleLeaves = (limits : ParamsValue) (state : State HashValue PlainDocument) (operation : PlainOperation)
    → acts sidetree state (seen_at limits operation) ≡ false → applied limits state operation ≡ state

-- Resolution from nothing, after DIF Sidetree v1.0.0, "Operation Compilation"; the rules are this project's own. It
-- follows the commitments: from the create to the operation that reveals the create's commitment, and so on, first
-- over recovers and deactivates, and then, from the last of these, over updates.
use Rattle.std.specs.Prelude.{ℕ, zero, suc, nat_lt, length, List, find, ◌&&◌, Option, Some, None, option_map}
use Rattle.std.specs.Option.{option_map_or}
use Rattle.st_base.specs.Options.{◌>>=◌}
use Rattle.st_apply.specs.Codes.{is_create, is_full_for, is_update_for, Rules, Change, Beginning, Seen, creates, recovers, deactivates, updates, State, absent, active, deactivated}
use Rattle.st_apply.specs.Applied.{changed, begun_update, begun_document}

-- from here to the next, and so on until there is no next, at most this many turns
abbrev pub walk : {Here : Type 0} → (Here → Option Here) → ℕ → Here → Here
walk next zero here = here
walk next (suc turns) here = option_map_or (walk next turns) (next here) here

-- ---- single operations

module _ {Hash Document : Type 0} where
  -- the new state that a create or a recover starts
  abbrev pub beginning_of : Seen Hash Document → Option (Beginning Hash Document)
  beginning_of (creates beginning) = Some beginning
  beginning_of (recovers reveal beginning) = Some beginning
  beginning_of other = None

  -- the change of an update's delta, if it counts
  abbrev pub change_of : Seen Hash Document → Option (Change Hash Document)
  change_of (updates reveal change) = change
  change_of other = None

-- the progress of the updates: the place of the last, and the update commitment and the document after it
pub record Reached (Hash Document : Type 0) : Type 0 where
  pub place : ℕ
  pub update : Option Hash
  pub document : Document

-- the state there, under this recovery commitment
abbrev pub ending : {Hash Document : Type 0} → Hash → Reached Hash Document → State Hash Document
ending recovery last = active recovery last.update last.document

module _ {Hash Document : Type 0} (rules : Rules Hash Document) where
  -- the start of the updates: the place of a create or a recover, and its result
  abbrev pub before_updates : ℕ → Option (Change Hash Document) → Reached Hash Document
  before_updates from change =
      record { place = from; update = begun_update change; document = begun_document rules change }

-- ---- operations at their places

module _ {Hash Document Item : Type 0} (rules : Rules Hash Document) (place : Item → ℕ) (seen : Item → Seen Hash Document) where
  -- the first create
  abbrev pub start : List Item → Option Item
  start items = find (λ item. is_create (seen item)) items

  -- the first recover or deactivate after a place that is for the commitment
  abbrev pub next_full : List Item → ℕ → Hash → Option Item
  next_full items after commitment =
      find (λ item. nat_lt after (place item) && is_full_for rules commitment (seen item)) items

  -- the first update after a place that is for the commitment
  abbrev pub next_update : List Item → ℕ → Hash → Option Item
  next_update items after commitment =
      find (λ item. nat_lt after (place item) && is_update_for rules commitment (seen item)) items

  -- from a create or a recover to the next recover or deactivate; there is none after a deactivate
  abbrev pub full_after : List Item → Item → Option Item
  full_after items reached = do
    beginning ← beginning_of (seen reached)
    next_full items (place reached) beginning.recovery

  -- the last of them that is reached from the create
  abbrev pub last_full : List Item → Item → Item
  last_full items create = walk (full_after items) (length items) create

  -- the result of an update
  abbrev pub updated_by : Reached Hash Document → Item → Option (Reached Hash Document)
  updated_by reached item =
      option_map
      (λ change. record { place = place item; update = Some change.update; document = changed reached.document change })
      (change_of (seen item))

  -- from an update, or the start of the updates, to the next update
  abbrev pub update_after : List Item → Reached Hash Document → Option (Reached Hash Document)
  update_after items reached = do
    commitment ← reached.update
    item ← next_update items reached.place commitment
    updated_by reached item

  -- the last update that is reached from a create or a recover at this place, with this delta
  abbrev pub last_update : List Item → ℕ → Option (Change Hash Document) → Reached Hash Document
  last_update items from change = walk (update_after items) (length items) (before_updates rules from change)

  -- the state after a create or a recover at this place and the updates after it
  abbrev pub begun_behind : List Item → ℕ → Beginning Hash Document → State Hash Document
  begun_behind items from beginning = ending beginning.recovery (last_update items from beginning.change)

  -- the state after an operation at this place, which is the last recover or deactivate, or the create if there is
  -- none; no search finds another
  abbrev pub resolved_behind : List Item → ℕ → Seen Hash Document → State Hash Document
  resolved_behind items from (creates beginning) = begun_behind items from beginning
  resolved_behind items from (recovers reveal beginning) = begun_behind items from beginning
  resolved_behind items from (deactivates reveal) = deactivated
  resolved_behind items from other = deactivated

  -- the same for this item
  abbrev pub resolved_by : List Item → Item → State Hash Document
  resolved_by items full = resolved_behind items (place full) (seen full)

  -- The state of an identifier with these operations. It is absent if there is no create.
  abbrev pub resolve : List Item → State Hash Document
  resolve items = option_map_or (λ create. resolved_by items (last_full items create)) (start items) absent

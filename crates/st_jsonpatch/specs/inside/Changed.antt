-- The answer of a call that changes a value in place, and the value after it.
use Rattle.std.specs.Borrow.{Fml, MutBor, LendsSo}
use Rattle.std.specs.Prelude.{◌≡◌, ⊤, Option, Some, None, option_map, Result, Ok, Err, IfOk, List, ℕ, OnSome, ◌≢◌, ◌<◌, length, slice_index, ◌++◌}
use Rattle.st_base.specs.Answers.{◌>>=◌}
use Rattle.st_base.specs.contracts.list.List.{the_row as list_row}
use Rattle.st_plain.specs.Plain.{Plain}
use Rattle.st_canon.specs.View.{plain, plain_items}
use Rattle.st_canon.specs.contracts.value.Json.{the_row}
use Rattle.st_canon.specs.declared.value.Json.{Json}
use Rattle.st_jsonpatch.specs.Edited.{Act, put_new, take_out, set_to, with_item}
use Rattle.st_jsonpatch.specs.declared.edits.Action.{Action}
use Rattle.st_jsonpatch.specs.declared.edits.Action.TheVariants.{Put, Take, Set}
use Rattle.st_jsonpatch.specs.declared.steps.ChangeRefused.{ChangeRefused}
use Rattle.st_jsonpatch.specs.declared.steps.ChangeRefused.TheVariants.{Fails, WantOfMemory}
use Rattle.st_jsonpatch.specs.declared.pointer.PointerRefused.{PointerRefused}

-- the value is the result of the change; if the change fails, or memory runs out, nothing is said about the value
abbrev pub Changes : {P T : Type 0} → Option P → P → Result T ChangeRefused → Type 0
Changes change new (Ok done) = change ≡ Some new
Changes change new (Err Fails) = change ≡ None
Changes change new (Err WantOfMemory) = ⊤

-- the act of an `Action`
abbrev pub plain_act : Action → Act
plain_act (Put new) = put_new (plain new)
plain_act Take = take_out
plain_act (Set new) = set_to (plain new)

-- the value that an act returns, from the old entry
abbrev pub handed_out : Act → Option Plain → Option Plain
handed_out (put_new new) there = None
handed_out take_out there = there
handed_out (set_to new) there = None

-- the caller gets the value that the act takes out, if it takes one
abbrev pub HandsOut : Act → Option Plain → Result (Option Json) ChangeRefused → Type 0
HandsOut act there result = IfOk result (λ out. option_map plain out ≡ handed_out act there)

-- ---- The state of a list of values after a `&mut` to one of them has ended.

-- the item that the token selects is the last value that was written
abbrev pub LendsItem : MutBor (List Json) → List ℕ → Option (MutBor Json) → Fml
LendsItem items token r = LendsSo (list_row the_row) the_row items r
    (λ new item. OnSome r (plain_items new ≡ with_item token (plain item) (plain_items items.now)))
    (λ new. plain_items new ≡ plain_items items.now)

-- the text has no such byte
abbrev pub Lacks : ℕ → List ℕ → Type 0
Lacks c text = (i : ℕ) → i < length text → slice_index text i ≢ c

-- the tokens so far, followed by those of the rest
abbrev pub after : {A : Type 0} → List A → Result (List A) PointerRefused → Result (List A) PointerRefused
after read rest = do
  more ← rest
  Ok (read ++ more)

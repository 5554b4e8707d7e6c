-- JSON Pointers (RFC 6901): a pointer is the list of its tokens.
use Rattle.std.specs.Prelude.{ℕ, ◌==◌, Bool, true, false, List, [], ◌∷◌, if◌then◌else◌, Option, Some, None, Result, Ok, Err, slice_get, option_and_then}
use Rattle.std.specs.Str.{all_ascii_digits}
use Rattle.std.specs.Str.Parse.{digits_value}
use Rattle.st_base.specs.Answers.{◌>>=◌}
use Rattle.st_plain.specs.Objects.{member_at, entries}
use Rattle.st_plain.specs.Plain.{Plain, list, object, Items}
use Rattle.st_jsonpatch.specs.declared.pointer.PointerRefused.{PointerRefused}
use Rattle.st_jsonpatch.specs.declared.pointer.PointerRefused.TheVariants.{BadPointer, WantOfMemory}

-- the meaning of `~` and this byte (section 4): `~0` is `~`, and `~1` is `/`
abbrev pub meaning : ℕ → Result ℕ PointerRefused
meaning b = if b == 48 then Ok 126 else if b == 49 then Ok 47 else Err BadPointer

-- The token of these bytes; the flag says that a `~` precedes them. There is none if `~` precedes any other byte, or
-- the end.
abbrev pub token_from : Bool → List ℕ → Result (List ℕ) PointerRefused
token_from false [] = Ok []
token_from true [] = Err BadPointer
token_from false (b ∷ bs) = if b == 126 then token_from true bs else (do
  token ← token_from false bs
  Ok (b ∷ token))
token_from true (b ∷ bs) = do
  meant ← meaning b
  token ← token_from false bs
  Ok (meant ∷ token)

-- the token with this spelling
abbrev pub token_of : List ℕ → Result (List ℕ) PointerRefused
token_of = token_from false

-- the pieces, with this byte before the first
abbrev pub begun_with : ℕ → List (List ℕ) → List (List ℕ)
begun_with b [] = (b ∷ []) ∷ []
begun_with b (piece ∷ pieces) = (b ∷ piece) ∷ pieces

-- the pieces between and after the `/` signs
abbrev pub pieces_of : List ℕ → List (List ℕ)
pieces_of [] = [] ∷ []
pieces_of (b ∷ bs) = if b == 47 then [] ∷ pieces_of bs else begun_with b (pieces_of bs)

-- the tokens of the pieces, or the first refusal
abbrev pub tokens_of : List (List ℕ) → Result (List (List ℕ)) PointerRefused
tokens_of [] = Ok []
tokens_of (piece ∷ pieces) = do
  token ← token_of piece
  tokens ← tokens_of pieces
  Ok (token ∷ tokens)

-- The pointer of a text, which is empty or starts with `/` (section 3).
abbrev pub pointer_of : List ℕ → Result (List (List ℕ)) PointerRefused
pointer_of [] = Ok []
pointer_of (b ∷ bs) = if b == 47 then tokens_of (pieces_of bs) else Err BadPointer

-- what a refusal says about the text: nothing, if memory ran out
abbrev pub refusal_of : PointerRefused → Option PointerRefused
refusal_of BadPointer = Some BadPointer
refusal_of WantOfMemory = None

-- ---- The entry that a token selects, and the value at a pointer (RFC 6901, section 4).

-- `0`, or digits of which the first is not 0
abbrev pub is_index : List ℕ → Bool
is_index [] = false
is_index (b ∷ []) = all_ascii_digits (b ∷ [])
is_index (b ∷ c ∷ bs) = if b == 48 then false else all_ascii_digits (b ∷ c ∷ bs)

-- the place in a list that a token names
abbrev pub index_of : List ℕ → Option ℕ
index_of token = if is_index token then Some (digits_value 10 token) else None

-- the item at the index of a token
abbrev pub item_at : List ℕ → Items → Option Plain
item_at token items = option_and_then (slice_get (entries items)) (index_of token)

-- The entry that a token selects: the item at that index, or the member of that name.
abbrev pub selected : List ℕ → Plain → Option Plain
selected token (list items) = item_at token items
selected token (object members) = member_at token members
selected token scalar = None

-- the value at a pointer
abbrev pub at : List (List ℕ) → Plain → Option Plain
at [] value = Some value
at (token ∷ path) value = option_and_then (at path) (selected token value)

-- Bytes as JSON with whole numbers.
use Rattle.std.specs.Prelude.{ℕ, ℤ, pos, negsuc, List, if◌then◌else◌, nat_le, Option, Some, None, ok_or, Result, Err, IfSome, ◌≡◌, option_map, option_and_then, Bool, true, false, [], ◌∷◌, is_some, unwrap_or}
use Rattle.std.specs.Result.{result_ok}
use Rattle.std.specs.Str.{is_utf8}
use Rattle.serde_json.specs.Data as data'
use Rattle.serde_json.specs.Read.{read}
use Rattle.st_plain.specs.Objects.{put, has_only, member_at, items_in, list_in, members_in, text_in}
use Rattle.st_plain.specs.Plain.{Plain, null, boolean, whole, text, list, object, Items, no_items, item, Members, no_members}
use Rattle.st_plain.specs.declared.respelling.ReadRefused.{ReadRefused}
use Rattle.st_plain.specs.declared.respelling.ReadRefused.TheVariants.{NotJson, NotWhole, WantOfMemory}

-- an integer from -(2^53 - 1) to 2^53 - 1
abbrev pub whole_integer : ℤ → Option ℤ
whole_integer (pos n) = if nat_le n 9007199254740991 then Some (pos n) else None
whole_integer (negsuc n) = if nat_le n 9007199254740990 then Some (negsuc n) else None

-- a number that `serde_json` read as an integer of 64 bits, not as a float
abbrev pub whole_number : data'.Num → Option ℤ
whole_number (data'.unsigned n) = whole_integer (pos n)
whole_number (data'.negative z) = whole_integer z
whole_number (data'.float x) = None

-- The value, if it has no float; each member is at its place in the order of names.
abbrev mutual
  pub whole_value : data'.Data → Option Plain
  whole_value data'.null = Some null
  whole_value (data'.boolean b) = Some (boolean b)
  whole_value (data'.number n) = option_map whole (whole_number n)
  whole_value (data'.string s) = Some (text s)
  whole_value (data'.array ds) = option_map list (whole_items ds)
  whole_value (data'.object ms) = option_map object (whole_members ms)

  pub whole_items : data'.Items → Option Items
  whole_items data'.no_items = Some no_items
  whole_items (data'.item d ds) = option_and_then (λ p. option_map (item p) (whole_items ds)) (whole_value d)

  pub whole_members : data'.Members → Option Members
  whole_members data'.no_members = Some no_members
  whole_members (data'.member k d ms) = option_and_then (λ p. option_map (put k p) (whole_members ms)) (whole_value d)

-- the JSON text in UTF-8 that the bytes are (RFC 8259), as `serde_json` reads it
abbrev pub data_of_bytes : List ℕ → Option data'.Data
data_of_bytes bytes = if is_utf8 bytes then read bytes else None

-- the same for the outcome of reading
abbrev pub json_of_data : Option data'.Data → Result Plain ReadRefused
json_of_data None = Err NotJson
json_of_data (Some value) = ok_or (whole_value value) NotWhole

-- The JSON value with whole numbers that the bytes are, if they are JSON and each number is whole.
abbrev pub json_of : List ℕ → Result Plain ReadRefused
json_of bytes = json_of_data (data_of_bytes bytes)

-- what a refusal says about the bytes: nothing, if memory ran out
abbrev pub refusal_of : ReadRefused → Option ReadRefused
refusal_of NotJson = Some NotJson
refusal_of NotWhole = Some NotWhole
refusal_of WantOfMemory = None

-- A refusal is the outcome defined for the bytes, unless memory ran out.
abbrev pub Refuses : Result Plain ReadRefused → ReadRefused → Type 0
Refuses says refused = IfSome (refusal_of refused) (λ refusal. says ≡ Err refusal)

-- ---- The shapes of JSON values (RFC 8259) that rules require. `None` is a missing value, so that each test is defined
-- for every file.

-- the JSON value of the bytes, if they are JSON with whole numbers
abbrev pub json_in : List ℕ → Option Plain
json_in bytes = result_ok (json_of bytes)

-- ---- members

-- the member of this name, if the value is an object that has one
abbrev pub member_in : List ℕ → Option Plain → Option Plain
member_in name there = option_and_then (member_at name) (option_and_then members_in there)

-- the text that is the member of this name
abbrev pub text_at : List ℕ → Option Plain → Option (List ℕ)
text_at name there = option_and_then text_in (member_in name there)

-- the members of the object that is the member of this name
abbrev pub object_at : List ℕ → Option Plain → Option Members
object_at name there = option_and_then members_in (member_in name there)

-- an object whose members all have one of these names
abbrev pub is_object_of : List (List ℕ) → Option Plain → Bool
is_object_of names (Some (object members)) = has_only names members
is_object_of names other = false

-- the value of the only member, if the value is an object with a member of this name and no other
abbrev pub only_member : List ℕ → Option Plain → Option Plain
only_member name there = if is_object_of (name ∷ []) there then member_in name there else None

-- the values of the two members, if the value is an object with members of these names and no other
abbrev pub both_members : List ℕ → List ℕ → Option Plain → Option (Plain × Plain)
both_members first second there =
    if is_object_of (first ∷ second ∷ []) there
    then option_and_then (λ one. option_map (λ other. (one, other)) (member_in second there)) (member_in first there)
    else None

-- ---- nothing, or a value of one kind

-- a text, or no value at all
abbrev pub is_text_if_there : Option Plain → Bool
is_text_if_there None = true
is_text_if_there (Some value) = is_some (text_in value)

-- a list, or no value at all
abbrev pub is_list_if_there : Option Plain → Bool
is_list_if_there None = true
is_list_if_there (Some value) = is_some (items_in value)

-- ---- entries

-- the entries of a list; a missing value and any other kind have none
abbrev pub entries_in : Option Plain → List Plain
entries_in there = unwrap_or (option_and_then list_in there) []

-- the entry of a list that has only one
abbrev pub only_of : List Plain → Option Plain
only_of (entry ∷ []) = Some entry
only_of others = None

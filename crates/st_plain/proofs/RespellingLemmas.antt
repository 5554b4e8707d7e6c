-- Canonical text that is written an item or a member at a time, each after those before it.
use Rattle.std.proofs.Common.{◌≡◌, ℕ, List, [], ◌∷◌, ◌++◌, Bool, true, false, Option, Some, None, option_map, Less, IfSome, refl, ap, ◌∙◌, ℤ, zero, suc, ◌-◌, ◌<◌, ◌≤◌, length, option_and_then, IfErr, Result, Ok, Err, sym, ap₂, subst}
use Rattle.std.proofs.lemmas.List.{append_assoc, append-nil}
use Rattle.std.specs.List.{AllByRecursion}
use Rattle.std.specs.Map.{keys_of}
use Rattle.std.specs.Prelude.{ok_or, unwrap_or}
use Rattle.std.specs.Str.{IsUtf8}
use Rattle.json.proofs.Grammar.{value_is, value-begin_array, value-begin_object, items_end, items_more, members_end, members_more, members_no_key}
use Rattle.json.specs.Json.{Parse, parse_map, after_end_array, read_key, items_step, items, members, value}
use Rattle.json.specs.Json as json
use Rattle.json.specs.Lex.{tokens}
use Rattle.json.specs.Token.{Token}
use Rattle.serde_json.specs.Data.{Data, Num}
use Rattle.serde_json.specs.Data as data'
use Rattle.serde_json.specs.Read.{converted, number_of, of_json, of_items, of_members, read}
use Rattle.st_plain.proofs.HeldLemmas.{has_no_left, has_no_right, no_mark}
use Rattle.st_plain.proofs.WalkLemmas.{read_again}
use Rattle.st_plain.proofs.NameLemmas.{greater_from_less, name_total}
use Rattle.st_plain.proofs.ReadableLemmas.{json_of-utf8}
use Rattle.st_plain.proofs.Compact.{IsUtf8-canonical}
use Rattle.st_plain.specs.Plain.{canonical, canonical_items, canonical_members, comma, Plain, IsWhole, whole, list, object, Items, item, Members, IsProper, ItemsAreProper, MembersAreProper}
use Rattle.st_plain.specs.Names.{name_cmp}
use Rattle.st_plain.specs.Objects.{items_of}
use Rattle.st_plain.specs.ReadAgain.{IsReadAgain, value_read}
use Rattle.st_plain.specs.Shapes.{json_of, json_of_data, whole_items, whole_value}
use Rattle.st_plain.specs.declared.respelling.ReadRefused.{ReadRefused}
use Rattle.st_plain.specs.declared.respelling.ReadRefused.TheVariants.{NotJson, NotWhole, WantOfMemory}
use Rattle.st_plain.specs.inside.Objects.{placed}
use Rattle.st_plain.specs.inside.Respelled.{HasNoMark, IsNoJson, IsWritten, Spells}

-- whether a comma precedes the element after these, if one precedes the first of them
abbrev pub after : {X : Type 0} → Bool → List X → Bool
after b [] = b
after b (x ∷ xs) = true

pub after_true : {X : Type 0} (xs : List X) → after true xs ≡ true
after_true [] = refl
after_true (x ∷ xs) = refl

pub after_more : {X : Type 0} (xs : List X) (x : X) → true ≡ after false (xs ++ x ∷ [])
after_more [] x = refl
after_more (y ∷ xs) x = refl

pub mapped : {A B : Type 0} (f : A → B) (P : B → Type 0) (there : Option A) → IfSome there (λ a. P (f a)) → IfSome (option_map f there) P
mapped f P None holds = holds
mapped f P (Some a) holds = holds

-- a text between brackets
pub in_brackets : (before inside one two : List ℕ) (left right : ℕ) → one ≡ before ++ left ∷ []
    → two ≡ one ++ inside → two ++ right ∷ [] ≡ before ++ (left ∷ (inside ++ right ∷ []))
in_brackets before inside one two left right first second =
    ap (λ text. text ++ right ∷ []) (second ∙ ap (λ text. text ++ inside) first)
    ∙ append_assoc (before ++ left ∷ []) inside (right ∷ []) ∙ append_assoc before (left ∷ []) (inside ++ right ∷ [])

-- ---- names that ascend

-- all names are below this one
abbrev pub AreBelow : {X : Type 0} → List ℕ → List (List ℕ × X) → Type 0
AreBelow k pairs = AllByRecursion (λ n. name_cmp n k ≡ Less) (keys_of pairs)

-- a name above the last one, if any, is above all
abbrev pub IsLast : {X : Type 0} → Option (List ℕ) → List (List ℕ × X) → Type 0
IsLast last pairs = (k : List ℕ) → IfSome last (λ name. name_cmp name k ≡ Less) → AreBelow k pairs

pub next_last : {X : Type 0} (name : List ℕ) (x : X) (pairs : List (List ℕ × X)) → AreBelow name pairs
    → IsLast (Some name) (pairs ++ (name, x) ∷ [])
next_last name x [] all = λ k less. (less, tt)
next_last name x (e ∷ pairs) all =
    λ k less. (name_total.trans e.0 name k all.0 less, next_last name x pairs all.1 k less)

pub placed_last : {X : Type 0} (k : List ℕ) (x : X) (pairs : List (List ℕ × X)) → AreBelow k pairs
    → placed (k, x) pairs ≡ pairs ++ (k, x) ∷ []
placed_last k x [] all = refl
placed_last k x (e ∷ pairs) all =
    rw (greater_from_less e.0 k all.0) (ap (λ rest. e ∷ rest) (placed_last k x pairs all.1))

-- ---- Data that is read from its tokens, and its canonical text, written an item at a time.

abbrev Tokens : Type 0
Tokens = List Token

-- ---- what was read, under a function

with_rest : {A B : Type 0} (f : A → B) (r : Tokens) (x : Option A)
    → option_map (λ b. (b, r)) (option_map f x) ≡ parse_map f (option_map (λ a. (a, r)) x)
with_rest f r None = refl
with_rest f r (Some a) = refl

record WasRead {A B : Type 0} (f : A → Option B) (read : Option (A × Tokens)) (b : B) (r : Tokens) : Type 0 where
  spelled : A
  is : read ≡ Some (spelled, r)
  gives : f spelled ≡ Some b

same_rest : {B : Type 0} (r s : Tokens) (x : Option B) (b : B) → option_map {U = B × Tokens} (λ y. (y, r)) x ≡ Some (b, s) → (r ≡ s) × (x ≡ Some b)
same_rest r s None b e = absurd (cc)
same_rest r s (Some y) b e = let same = ap (λ read. unwrap_or read (y, r)) e in (ap (λ p. p.1) same, ap (λ p. Some p.0) same)

was_read : {A B : Type 0} (f : A → Option B) (read : Option (A × Tokens)) (b : B) (r : Tokens) → converted f read ≡ Some (b, r)
    → WasRead f read b r
was_read f None b r e = absurd (cc)
was_read f (Some p) b r e =
    let both = same_rest p.1 r (f p.0) b e in
    record { spelled = p.0; is = ap (λ s. Some (p.0, s)) both.0; gives = both.1 }

-- ---- a value

-- the value read, if any, after conversion
array_read : (read : Option (json.Items × Tokens)) → converted of_json (parse_map json.array read) ≡ parse_map data'.array (converted of_items read)
array_read None = refl
array_read (Some p) = with_rest data'.array p.1 (of_items p.0)

object_read : (read : Option (json.Members × Tokens))
    → converted of_json (parse_map json.object read) ≡ parse_map data'.object (converted (λ ms. of_members ms data'.no_members) read)
object_read None = refl
object_read (Some p) = with_rest data'.object p.1 (of_members p.0 data'.no_members)

module _ (depth : ℕ) (old ts : Tokens) where
  pub null_data : old ≡ Token.null ∷ ts → converted of_json (value depth old) ≡ Some (data'.null, ts)
  null_data is = ap (converted of_json) (ap (value depth) is ∙ value_is depth _)

  pub boolean_data : (b : Bool) → old ≡ Token.boolean b ∷ ts → converted of_json (value depth old) ≡ Some (data'.boolean b, ts)
  boolean_data b is = ap (converted of_json) (ap (value depth) is ∙ value_is depth _)

  pub string_data : (s : List ℕ) → old ≡ Token.string s ∷ ts → converted of_json (value depth old) ≡ Some (data'.string s, ts)
  string_data s is = ap (converted of_json) (ap (value depth) is ∙ value_is depth _)

  pub number_data : (s : List ℕ) (there : Option Num) → old ≡ Token.number s ∷ ts → number_of s ≡ there
      → converted of_json (value depth old) ≡ option_map {U = Data × Tokens} (λ n. (data'.number n, ts)) there
  number_data s there is e =
      ap (converted of_json) (ap (value depth) is ∙ value_is depth _) ∙ ap (λ o. option_map {U = Data × Tokens} (λ d. (d, ts)) (option_map data'.number o)) e
      ∙ given there
    where
      given : (o : Option Num) → option_map {U = Data × Tokens} (λ d. (d, ts)) (option_map data'.number o) ≡ option_map (λ n. (data'.number n, ts)) o
      given None = refl
      given (Some n) = refl

  pub array_data : (there : Option (data'.Items × Tokens)) → old ≡ Token.begin_array ∷ ts → 0 < depth
      → converted of_items (items (value (depth - 1)) (length ts) ts) ≡ there
      → converted of_json (value depth old) ≡ parse_map data'.array there
  array_data there is deep e =
      ap (λ o. converted of_json (value depth o)) is ∙ ap (converted of_json) (value-begin_array depth ts deep)
      ∙ array_read (items (value (depth - 1)) (length ts) ts) ∙ ap (parse_map data'.array) e

  pub object_data : (there : Option (data'.Members × Tokens)) → old ≡ Token.begin_object ∷ ts → 0 < depth
      → converted (λ ms. of_members ms data'.no_members) (members (value (depth - 1)) (length ts) ts) ≡ there
      → converted of_json (value depth old) ≡ parse_map data'.object there
  object_data there is deep e =
      ap (λ o. converted of_json (value depth o)) is ∙ ap (converted of_json) (value-begin_object depth ts deep)
      ∙ object_read (members (value (depth - 1)) (length ts) ts) ∙ ap (parse_map data'.object) e

  pub too_deep_array : old ≡ Token.begin_array ∷ ts → depth ≡ 0 → converted of_json (value depth old) ≡ None
  unfolding value
  too_deep_array is none = ap (λ o. converted of_json (value depth o)) is ∙ ap (λ d. converted of_json (value d (Token.begin_array ∷ ts))) none

  pub too_deep_object : old ≡ Token.begin_object ∷ ts → depth ≡ 0 → converted of_json (value depth old) ≡ None
  unfolding value
  too_deep_object is none = ap (λ o. converted of_json (value depth o)) is ∙ ap (λ d. converted of_json (value d (Token.begin_object ∷ ts))) none

pub no_tokens : (depth : ℕ) (old : Tokens) → old ≡ [] → converted of_json (value depth old) ≡ None
no_tokens depth old is = ap (converted of_json) (ap (value depth) is ∙ value_is depth [])

-- ---- the text of a value

pub number_written : (there : Option ℤ) (before after : List ℕ) → IsWritten IsWhole (λ z. canonical (whole z)) there before after
    → IsWritten IsProper canonical (option_map whole there) before after
number_written None before after h = h
number_written (Some z) before after h = h

list_spelled : (there : Option Items) (t : List ℕ) → Spells ItemsAreProper (canonical_items false) there t
    → Spells IsProper canonical (option_map list there) (91 ∷ (t ++ 93 ∷ []))
list_spelled None t h = λ none. h (has_no_left t (93 ∷ []) none.1)
list_spelled (Some ps) t h = (h.0, ap (λ t. 91 ∷ (t ++ 93 ∷ [])) h.1)

pub list_written : (there : Option Items) (before one two three : List ℕ) → one ≡ before ++ 91 ∷ []
    → IsWritten ItemsAreProper (canonical_items false) there one two → three ≡ two ++ 93 ∷ []
    → IsWritten IsProper canonical (option_map list there) before three
list_written there before one two three first h third =
    (91 ∷ (h.0 ++ 93 ∷ []), third ∙ in_brackets before h.0 one two 91 93 first h.1, list_spelled there h.0 h.2)

object_spelled : (there : Option Members) (t : List ℕ) → Spells MembersAreProper (canonical_members false) there t
    → Spells IsProper canonical (option_map object there) (123 ∷ (t ++ 125 ∷ []))
object_spelled None t h = λ none. h (has_no_left t (125 ∷ []) none.1)
object_spelled (Some ms) t h = (h.0, ap (λ t. 123 ∷ (t ++ 125 ∷ [])) h.1)

pub object_written : (there : Option Members) (before one two three : List ℕ) → one ≡ before ++ 123 ∷ []
    → IsWritten MembersAreProper (canonical_members false) there one two → three ≡ two ++ 125 ∷ []
    → IsWritten IsProper canonical (option_map object there) before three
object_written there before one two three first h third =
    (123 ∷ (h.0 ++ 125 ∷ []), third ∙ in_brackets before h.0 one two 123 125 first h.1, object_spelled there h.0 h.2)

-- ---- items

none_converted : {B : Type 0} (r : Tokens) (x : Option B) → option_map {U = B × Tokens} (λ y. (y, r)) x ≡ None → x ≡ None
none_converted r None e = refl
none_converted r (Some y) e = absurd (cc)

with_item : (j : json.Json) (d : Data) → of_json j ≡ Some d → (o : Option (json.Items × Tokens)) → converted of_items (parse_map (json.item j) o)
    ≡ parse_map (data'.item d) (converted of_items o)
with_item j d e None = refl
with_item j d e (Some p) = rw e (with_rest (data'.item d) p.1 (of_items p.0))

without_item : (j : json.Json) → of_json j ≡ None → (o : Option (json.Items × Tokens)) → converted of_items (parse_map (json.item j) o) ≡ None
without_item j e None = refl
without_item j e (Some p) = rw e

-- the items before the others
abbrev pub items_before : List Data → data'.Items → data'.Items
items_before [] rest = rest
items_before (d ∷ ds) rest = data'.item d (items_before ds rest)

pub items_before-nil : (ds : List Data) (d : Data) (rest : data'.Items) → items_before (ds ++ d ∷ []) rest ≡ items_before ds (data'.item d rest)
items_before-nil [] d rest = refl
items_before-nil (e ∷ ds) d rest = ap (data'.item e) (items_before-nil ds d rest)

one_more_item : (ds : List Data) (d : Data) (o : Option (data'.Items × Tokens))
    → parse_map (items_before ds) (parse_map (data'.item d) o) ≡ parse_map (items_before (ds ++ d ∷ [])) o
one_more_item ds d None = refl
one_more_item ds d (Some p) = ap (λ is. Some (is, p.1)) (sym (items_before-nil ds d p.0))

pub none_before : (o : Option (data'.Items × Tokens)) → o ≡ parse_map (items_before []) o
none_before None = refl
none_before (Some p) = refl

module _ (p : Parse json.Json) (n : ℕ) (ts : Tokens) where
  pub next_item_data : (ds : List Data) (d : Data) (r : Tokens) → 0 < n → after_end_array ts ≡ None → converted of_json (p ts) ≡ Some (d, r)
      → parse_map (items_before ds) (converted of_items (items p n ts)) ≡ parse_map (items_before (ds ++ d ∷ [])) (converted of_items (items p (n - 1) r))
  next_item_data ds d r some going e =
      let first = was_read of_json (p ts) d r e in
      let step = ap (converted of_items) (items_more p n ts r first.spelled some going first.is) ∙ with_item first.spelled d first.gives _ in
      ap (parse_map (items_before ds)) step ∙ one_more_item ds d _

  no_item : (more : Parse json.Items) (o : Option (json.Json × Tokens)) → converted of_json o ≡ None
      → converted of_items (option_and_then (λ q. parse_map (json.item q.0) (more q.1)) o) ≡ None
  no_item more None e = refl
  no_item more (Some q) e = without_item q.0 (none_converted q.1 (of_json q.0) e) (more q.1)

  pub items_data_over : (ds : List Data) (r : Tokens) → length ts ≤ n → after_end_array ts ≡ Some r
      → parse_map (items_before ds) (converted of_items (items p n ts)) ≡ Some (items_before ds data'.no_items, r)
  items_data_over ds r enough e = ap (λ o. parse_map (items_before ds) (converted of_items o)) (items_end p n ts r enough e)

pub item_refused : (p : Parse json.Json) (n : ℕ) (ts : Tokens) (ds : List Data) → after_end_array ts ≡ None → converted of_json (p ts) ≡ None
    → parse_map (items_before ds) (converted of_items (items p n ts)) ≡ None
unfolding items
item_refused p zero ts ds going e = refl
item_refused p (suc n) ts ds going e =
    ap (parse_map (items_before ds)) (ap (λ o. converted of_items (items_step p (items p n) ts o)) going ∙ no_item p n ts (items p n) (p ts) e)

-- ---- the text of items

-- the plain values, if all are whole
abbrev pub wholes : List Data → Option (List Plain)
wholes [] = Some []
wholes (d ∷ ds) = option_and_then (λ p. option_map (λ ps. p ∷ ps) (wholes ds)) (whole_value d)

put_before : (p : Plain) (there : Option (List Plain)) → option_map (item p) (option_map items_of there) ≡ option_map items_of (option_map (λ ps. p ∷ ps) there)
put_before p None = refl
put_before p (Some ps) = refl

first_whole : (there : Option Plain) (rest : Option (List Plain))
    → option_and_then (λ p. option_map (item p) (option_map items_of rest)) there
    ≡ option_map items_of (option_and_then (λ p. option_map (λ ps. p ∷ ps) rest) there)
first_whole None rest = refl
first_whole (Some p) rest = put_before p rest

pub whole_items_are : (ds : List Data) → whole_items (items_before ds data'.no_items) ≡ option_map items_of (wholes ds)
whole_items_are [] = refl
whole_items_are (d ∷ ds) =
    ap (λ rest. option_and_then (λ p. option_map (item p) rest) (whole_value d)) (whole_items_are ds) ∙ first_whole (whole_value d) (wholes ds)

-- one more after the others
abbrev with_last : Option Plain → Option (List Plain) → Option (List Plain)
with_last there rest = option_and_then (λ ps. option_map (λ p. ps ++ p ∷ []) there) rest

moved : (first there : Option Plain) (rest : Option (List Plain))
    → option_and_then (λ p. option_map (λ ps. p ∷ ps) (with_last there rest)) first
    ≡ with_last there (option_and_then (λ p. option_map (λ ps. p ∷ ps) rest) first)
moved None there rest = refl
moved (Some p) there None = refl
moved (Some p) None (Some ps) = refl
moved (Some p) (Some q) (Some ps) = refl

alone : (there : Option Plain) → option_and_then (λ p. option_map (λ ps. p ∷ ps) (Some [])) there ≡ with_last there (Some [])
alone None = refl
alone (Some p) = refl

wholes_more : (ds : List Data) (d : Data) → wholes (ds ++ d ∷ []) ≡ with_last (whole_value d) (wholes ds)
wholes_more [] d = alone (whole_value d)
wholes_more (e ∷ ds) d =
    ap (λ rest. option_and_then (λ p. option_map (λ ps. p ∷ ps) rest) (whole_value e)) (wholes_more ds d) ∙ moved (whole_value e) (whole_value d) (wholes ds)

proper_more : (ps : List Plain) (p : Plain) → ItemsAreProper (items_of ps) → IsProper p → ItemsAreProper (items_of (ps ++ p ∷ []))
proper_more [] p h one = (one, tt)
proper_more (q ∷ ps) p h one = (h.0, proper_more ps p h.1 one)

text_more : (b : Bool) (ps : List Plain) (p : Plain)
    → canonical_items b (items_of (ps ++ p ∷ [])) ≡ canonical_items b (items_of ps) ++ (comma (after b ps) ++ canonical p)
text_more b [] p = ap (λ text. comma b ++ text) (append-nil (canonical p))
text_more b (q ∷ ps) p =
    let rest = text_more true ps p ∙ ap (λ c. canonical_items true (items_of ps) ++ (comma c ++ canonical p)) (after_true ps) in
    ap (λ text. comma b ++ (canonical q ++ text)) rest
    ∙ sym (ap (λ text. comma b ++ text) (append_assoc (canonical q) (canonical_items true (items_of ps)) (comma true ++ canonical p)))
    ∙ sym (append_assoc (comma b) (canonical q ++ canonical_items true (items_of ps)) (comma true ++ canonical p))

-- These items are proper, and `c` says whether a comma precedes the next one.
abbrev pub ItemsStand : Bool → List Plain → Type 0
ItemsStand c ps = ItemsAreProper (items_of ps) × (c ≡ after false ps)

abbrev pub items_text : List Plain → List ℕ
items_text ps = canonical_items false (items_of ps)

module _ (before out first last : List ℕ) (c : Bool) (one : first ≡ out ++ comma c) where
  added_more : (added more : List ℕ) → out ≡ before ++ added → last ≡ first ++ more → last ≡ before ++ (added ++ (comma c ++ more))
  added_more added more was new =
      new ∙ ap (λ text. text ++ more) (one ∙ ap (λ text. text ++ comma c) was)
      ∙ append_assoc (before ++ added) (comma c) more ∙ append_assoc before added (comma c ++ more)

  more_spelled : (rest : Option (List Plain)) (there : Option Plain) (xs ys : List ℕ) → Spells (ItemsStand c) items_text rest xs
      → Spells IsProper canonical there ys → Spells (ItemsStand true) items_text (with_last there rest) (xs ++ (comma c ++ ys))
  more_spelled None there xs ys h g = λ none. h (has_no_left xs (comma c ++ ys) none)
  more_spelled (Some ps) None xs ys h g = λ none. g (has_no_right (comma c) ys (has_no_right xs (comma c ++ ys) none))
  more_spelled (Some ps) (Some p) xs ys h g = (
    (proper_more ps p h.0.0 g.0, after_more ps p),
    ap₂ (λ x y. x ++ (comma c ++ y)) h.1 g.1 ∙ ap (λ d. items_text ps ++ (comma d ++ canonical p)) h.0.1 ∙ sym (text_more false ps p),
  )

  -- a comma and the next item were written
  pub items_written_more : (ds : List Data) (d : Data) → IsWritten (ItemsStand c) items_text (wholes ds) before out
      → IsWritten IsProper canonical (whole_value d) first last → IsWritten (ItemsStand true) items_text (wholes (ds ++ d ∷ [])) before last
  items_written_more ds d h g =
      subst (λ there. IsWritten (ItemsStand true) items_text there before last) (sym (wholes_more ds d))
      (h.0 ++ (comma c ++ g.0), added_more h.0 g.0 h.1 g.1, more_spelled (wholes ds) (whole_value d) h.0 g.0 h.2 g.2)

all_at : (there : Option (List Plain)) (c : Bool) (before out : List ℕ) → IsWritten (ItemsStand c) items_text there before out
    → IsWritten ItemsAreProper (canonical_items false) (option_map items_of there) before out
all_at None c before out h = h
all_at (Some ps) c before out h = (h.0, h.1, (h.2.0.0, h.2.1))

pub items_written : (ds : List Data) (c : Bool) (before out : List ℕ) → IsWritten (ItemsStand c) items_text (wholes ds) before out
    → IsWritten ItemsAreProper (canonical_items false) (whole_items (items_before ds data'.no_items)) before out
items_written ds c before out h =
    subst (λ there. IsWritten ItemsAreProper (canonical_items false) there before out) (sym (whole_items_are ds)) (all_at (wholes ds) c before out h)

-- ---- members

with_member : (k : List ℕ) (j : json.Json) (d : Data) (old : data'.Members) → of_json j ≡ Some d → (o : Option (json.Members × Tokens))
    → converted (λ ms. of_members ms old) (parse_map (json.member k j) o) ≡ converted (λ ms. of_members ms (data'.put k d old)) o
with_member k j d old e None = refl
with_member k j d old e (Some p) = rw e refl

without_member : (k : List ℕ) (j : json.Json) (old : data'.Members) → of_json j ≡ None → (o : Option (json.Members × Tokens))
    → converted (λ ms. of_members ms old) (parse_map (json.member k j) o) ≡ None
without_member k j old e None = refl
without_member k j old e (Some p) = rw e

no_member : (k : List ℕ) (old : data'.Members) (more : Parse json.Members) (o : Option (json.Json × Tokens)) → converted of_json o ≡ None
    → converted (λ ms. of_members ms old) (option_and_then (λ q. parse_map (json.member k q.0) (more q.1)) o) ≡ None
no_member k old more None e = refl
no_member k old more (Some q) e = without_member k q.0 old (none_converted q.1 (of_json q.0) e) (more q.1)

pub member_refused : (old : data'.Members) (p : Parse json.Json) (n : ℕ) (ts s : Tokens) (k : List ℕ) → read_key ts ≡ Some (Some k, s)
    → converted of_json (p s) ≡ None → converted (λ ms. of_members ms old) (members p n ts) ≡ None
unfolding members
member_refused old p zero ts s k named e = refl
member_refused old p (suc n) ts s k named e = rw named (no_member k old (members p n) (p s) e)

module _ (old : data'.Members) (p : Parse json.Json) (n : ℕ) (ts : Tokens) where
  pub next_member_data : (s r : Tokens) (k : List ℕ) (d : Data) → 0 < n → read_key ts ≡ Some (Some k, s) → converted of_json (p s) ≡ Some (d, r)
      → converted (λ ms. of_members ms old) (members p n ts) ≡ converted (λ ms. of_members ms (data'.put k d old)) (members p (n - 1) r)
  next_member_data s r k d some named e =
      let first = was_read of_json (p s) d r e in
      ap (converted (λ ms. of_members ms old)) (members_more p n k ts s r first.spelled some named first.is) ∙ with_member k first.spelled d old first.gives _

  pub key_refused : read_key ts ≡ None → converted (λ ms. of_members ms old) (members p n ts) ≡ None
  key_refused e = ap (converted (λ ms. of_members ms old)) (members_no_key p n ts e)

  pub members_data_over : (r : Tokens) → length ts ≤ n → read_key ts ≡ Some (None, r)
      → converted (λ ms. of_members ms old) (members p n ts) ≡ Some (old, r)
  members_data_over r enough e = ap (converted (λ ms. of_members ms old)) (members_end p n ts r enough e)

-- ---- a refusal that is passed on

said_further : (X Y : Type 0) (refused : ReadRefused) → IsNoJson X refused → (X → Y) → IsNoJson Y refused
said_further X Y NotJson h further = further h
said_further X Y NotWhole h further = h
said_further X Y WantOfMemory h further = tt

pub handed_on : {A : Type 0} (X Y : Type 0) (result : Result A ReadRefused) (refused : ReadRefused) → result ≡ Err refused
    → IsNoJson X refused → (X → Y) → IfErr result (IsNoJson Y)
handed_on {A} X Y result refused is h further = subst (λ (r : Result A ReadRefused). IfErr r (IsNoJson Y)) (sym is) (said_further X Y refused h further)

-- ---- the whole text

-- the data of a text: its value, if no tokens remain
abbrev data_at_end : Option (json.Json × Tokens) → Option Data
data_at_end there = option_and_then of_json (option_and_then (λ p. json.if_last p.0 p.1) there)

pub text_is_data : (bytes : List ℕ) (d : Data) → IsUtf8 bytes → converted of_json (value 127 (tokens bytes)) ≡ Some (d, [])
    → json_of bytes ≡ ok_or (whole_value d) NotWhole
text_is_data bytes d utf8 e =
    let all = was_read of_json (value 127 (tokens bytes)) d [] e in
    json_of-utf8 bytes utf8 ∙ ap json_of_data (ap data_at_end all.is ∙ all.gives)

-- every number in it is whole
pub text_is_whole : (bytes out : List ℕ) (there : Option Plain) → json_of bytes ≡ ok_or there NotWhole → IsWritten IsProper canonical there [] out
    → HasNoMark out → IsReadAgain out × (json_of bytes ≡ Ok (value_read (json_of out)))
text_is_whole bytes out None read h none = absurd (h.2 (subst HasNoMark h.1 none))
text_is_whole bytes out (Some p) read h none = read_again bytes out p h.2.0 read (h.1 ∙ h.2.1)

-- a number is not whole
pub text_is_not_whole : (bytes out : List ℕ) (there : Option Plain) → json_of bytes ≡ ok_or there NotWhole → IsWritten IsProper canonical there [] out
    → (HasNoMark out → ⊥) → json_of bytes ≡ Err NotWhole
text_is_not_whole bytes out None read h some = read
text_is_not_whole bytes out (Some p) read h some =
    absurd (some (subst HasNoMark (sym (h.1 ∙ h.2.1)) (no_mark (canonical p) (IsUtf8-canonical p h.2.0))))

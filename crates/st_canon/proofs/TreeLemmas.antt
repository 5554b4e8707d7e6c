-- Items and members that are converted one after another.
use Rattle.std.proofs.Common.{◌≡◌, ℕ, List, [], ◌∷◌, ◌++◌, map, String, Global, string_bytes, Option, Some, None, option_map, Result, Less, Equal, refl, sym, ap, ◌∙◌, subst, append-nil, append_assoc, is_eq, true, false, zero, suc, ◌<◌, ◌≤◌, length, get_or, arith, take, drop, set, ◌↔◌, ◌+◌}
use Rattle.std.proofs.lemmas.List.{length-map, map-append, map-set, take-map, drop-map}
use Rattle.std.proofs.lemmas.Map.Text.{is_eq-slice_cmp}
use Rattle.std.proofs.lemmas.Slice.Eq.{bytes_eq-Decides}
use Rattle.std.proofs.lemmas.Str.{IsUtf8-string_bytes}
use Rattle.std.specs.List.{AllByRecursion, insert, remove}
use Rattle.std.specs.List.Sorted.{IsStrictlySortedBy}
use Rattle.std.specs.Map.{keys_of}
use Rattle.std.specs.Prelude.{ok_or}
use Rattle.std.specs.Str.{bytes_eq, IsUtf8}
use Rattle.std.specs.String.{string_cmp}
use Rattle.serde_json.specs.Data.{Data}
use Rattle.serde_json.specs.Read.{read}
use Rattle.serde_json.specs.View.{view, items_view, members_view}
use Rattle.serde_json.specs.declared.value.Value.{Value}
use denote.Param.Weighed.{most}
use mathlib.Core.Bool.{true≢false}
use Rattle.st_base.specs.Answers.{GivesAs}
use Rattle.st_plain.proofs.ListedLemmas.{items_after, items_after-nil, items_after_push, entries-items_of}
use Rattle.st_plain.proofs.NameLemmas.{same_from_tied}
use Rattle.st_plain.proofs.ReadableLemmas.{json_of-utf8}
use Rattle.st_plain.specs.Objects.{put, entries, items_of}
use Rattle.st_plain.specs.Names.{name_cmp}
use Rattle.st_plain.specs.Plain.{Items, item, Members, no_members, member}
use Rattle.st_plain.specs.Shapes.{json_of, json_of_data, refusal_of, whole_value, whole_items, whole_members}
use Rattle.st_plain.specs.declared.respelling.ReadRefused.{ReadRefused}
use Rattle.st_plain.specs.declared.respelling.ReadRefused.TheVariants.{NotWhole}
use Rattle.st_plain.specs.inside.Objects.{in_order, AreApart, NamesDiffer}
use Rattle.st_canon.proofs.MemberLemmas.{plain_members-placed}
use Rattle.st_canon.specs.View.{plain, plain_items, plain_members}
use Rattle.st_canon.specs.declared.value.Json.{Json}

-- a value that was read is converted
pub gives_converted : (bytes : List ℕ) (d : Data) (r : Result Json ReadRefused) → IsUtf8 bytes → read bytes ≡ Some d
    → GivesAs plain refusal_of (ok_or (whole_value d) NotWhole) r → GivesAs plain refusal_of (json_of bytes) r
gives_converted bytes d r utf8 is h =
    subst (λ says. GivesAs plain refusal_of says r) (sym (json_of-utf8 bytes utf8 ∙ ap json_of_data is)) h

-- ---- items

pub plain_pushed : (js : List Json) (j : Json) → map plain js ++ plain j ∷ [] ≡ map plain (js ++ j ∷ [])
plain_pushed [] j = refl
plain_pushed (k ∷ js) j = ap (λ ps. plain k ∷ ps) (plain_pushed js j)

item_pushed : (js : List Json) (j : Json) (o : Option Items)
    → option_map (items_after (map plain js)) (option_map (item (plain j)) o) ≡ option_map (items_after (map plain (js ++ j ∷ []))) o
item_pushed js j None = refl
item_pushed js j (Some rest) = ap Some (sym (items_after_push (map plain js) (plain j) rest) ∙ ap (λ ps. items_after ps rest) (plain_pushed js j))

-- these items were converted, and the others remain
abbrev pub ItemsSoFar : List Value → List Value → List Json → Type 0
ItemsSoFar all left js =
    whole_items (items_view all) ≡ option_map (items_after (map plain js)) (whole_items (items_view left))

module _ (all left : List Value) (js : List Json) (v : Value) (so_far : ItemsSoFar all (v ∷ left) js) where
  pub one_more_item : (j : Json) → whole_value (view v) ≡ Some (plain j) → ItemsSoFar all left (js ++ j ∷ [])
  one_more_item j w =
      let step : whole_items (items_view (v ∷ left)) ≡ option_map (item (plain j)) (whole_items (items_view left)) = rw w refl in
      so_far ∙ ap (option_map (items_after (map plain js))) step ∙ item_pushed js j _

pub all_items : (all : List Value) (js : List Json) → ItemsSoFar all [] js → whole_items (items_view all) ≡ Some (plain_items js)
all_items all js so_far = so_far ∙ ap Some (items_after-nil (map plain js))

-- ---- members

abbrev Entry : Type 0
Entry = String Global × Value

abbrev Pairs : Type 0
Pairs = List (List ℕ × Json)

-- the pairs put among the others, the last one first
abbrev pub puts : Pairs → Members → Members
puts [] rest = rest
puts (e ∷ es) rest = put e.0 (plain e.1) (puts es rest)

puts_push : (es : Pairs) (e : List ℕ × Json) (rest : Members)
    → puts (es ++ e ∷ []) rest ≡ puts es (put e.0 (plain e.1) rest)
puts_push [] e rest = refl
puts_push (f ∷ es) e rest = ap (put f.0 (plain f.1)) (puts_push es e rest)

member_pushed : (es : Pairs) (e : List ℕ × Json) (o : Option Members)
    → option_map (puts es) (option_map (put e.0 (plain e.1)) o) ≡ option_map (puts (es ++ e ∷ [])) o
member_pushed es e None = refl
member_pushed es e (Some rest) = ap Some (sym (puts_push es e rest))

puts_in_order : (es : Pairs) → puts es no_members ≡ plain_members (in_order es)
puts_in_order [] = refl
puts_in_order (e ∷ es) =
    ap (put e.0 (plain e.1)) (puts_in_order es) ∙ sym (plain_members-placed e.0 e.1 (in_order es))

-- these members of the map were converted, and the other entries remain
abbrev pub MembersSoFar : List Entry → List Entry → Pairs → Type 0
MembersSoFar all left es = whole_members (members_view all) ≡ option_map (puts es) (whole_members (members_view left))

abbrev pub names_in : List Entry → List (List ℕ)
names_in entries = map (λ e. string_bytes e.0) entries

module _ (all left : List Entry) (es : Pairs) (name : String Global) (v : Value) (so_far : MembersSoFar all ((name, v) ∷ left) es) where
  pub one_more_member : (k : List ℕ) (j : Json) → k ≡ string_bytes name → whole_value (view v) ≡ Some (plain j)
      → MembersSoFar all left (es ++ (k, j) ∷ [])
  one_more_member k j named w =
      let step : whole_members (members_view ((name, v) ∷ left)) ≡ option_map (put k (plain j)) (whole_members (members_view left)) = rw (w, named) refl in
      so_far ∙ ap (option_map (puts es)) step ∙ member_pushed es (k, j) (whole_members (members_view left))

pub all_members : (all : List Entry) (es : Pairs) → MembersSoFar all [] es
    → whole_members (members_view all) ≡ Some (plain_members (in_order es))
all_members all es so_far = so_far ∙ ap Some (puts_in_order es)

-- ---- the names of a map differ

apart_from_below : (s t : String Global) → string_cmp s t ≡ Less → name_cmp (string_bytes s) (string_bytes t) ≡ Equal
    → ⊥
apart_from_below s t below tied =
    let same = same_from_tied (string_bytes s) (string_bytes t) (IsUtf8-string_bytes s) (IsUtf8-string_bytes t) tied in
    let equal : bytes_eq (string_bytes s) (string_bytes t) ≡ true = (bytes_eq-Decides (string_bytes s) (string_bytes t)).1 same in
    let test : is_eq (string_cmp s t) ≡ bytes_eq (string_bytes s) (string_bytes t) = is_eq-slice_cmp (string_bytes s) (string_bytes t) in
    let not : is_eq (string_cmp s t) ≡ false = ap is_eq below in
    true≢false (sym equal ∙ sym test ∙ not)

all_apart : (s : String Global) (entries : List Entry) → AllByRecursion (λ t. string_cmp s t ≡ Less) (keys_of entries)
    → AllByRecursion (λ n. name_cmp (string_bytes s) n ≡ Equal → ⊥) (names_in entries)
all_apart s [] all = tt
all_apart s (e ∷ es) all = (apart_from_below s e.0 all.0, all_apart s es all.1)

apart_from_sorted : (entries : List Entry) → IsStrictlySortedBy string_cmp (keys_of entries)
    → AreApart (names_in entries)
unfolding IsStrictlySortedBy
apart_from_sorted [] sorted = tt
apart_from_sorted (e ∷ es) sorted = (all_apart e.0 es sorted.0, apart_from_sorted es sorted.1)

pub names_differ : (entries left : List Entry) (es : Pairs) → IsStrictlySortedBy string_cmp (keys_of entries)
    → left ≡ [] → names_in entries ≡ keys_of es ++ names_in left → NamesDiffer es
names_differ entries left es sorted none names =
    let same : names_in entries ≡ keys_of es = names ∙ ap (λ l. keys_of es ++ names_in l) none ∙ append-nil (keys_of es) in
    subst AreApart same (apart_from_sorted entries sorted)

pub one_more_name : (names next : List (List ℕ)) (es : Pairs) (k : List ℕ) (j : Json)
    → names ≡ keys_of es ++ k ∷ next → names ≡ keys_of (es ++ (k, j) ∷ []) ++ next
one_more_name names next es k j so_far =
    so_far ∙ sym (append_assoc (keys_of es) (k ∷ []) next) ∙ ap (λ l. l ++ next) (sym (keys_pushed es))
  where
    keys_pushed : (fs : Pairs) → keys_of (fs ++ (k, j) ∷ []) ≡ keys_of fs ++ k ∷ []
    keys_pushed [] = refl
    keys_pushed (f ∷ fs) = ap (λ l. f.0 ∷ l) (keys_pushed fs)

-- ---- A member nests no deeper than the deepest.

pub value_below : {K X : Type 0} (f : X → ℕ) (es : List (K × X)) (i : ℕ) (d : K × X) → i < length es
    → f (get_or es i d).1 ≤ most f (map (λ x. x.1) es)
value_below f [] i d lt = absurd (omega arith)
value_below f (e ∷ es) zero d lt = omega arith
value_below f (e ∷ es) (suc i) d lt = omega (arith, value_below f es i d (omega arith))

-- ---- The effect of an edit of a list of values on the plain items.

pub entries-plain_items : (values : List Json) → entries (plain_items values) ≡ map plain values
entries-plain_items values = entries-items_of (map plain values)

pub length-entries : (values : List Json) → length (entries (plain_items values)) ≡ length values
length-entries values = ap length (entries-plain_items values) ∙ length-map values plain

pub plain_items-set : (values : List Json) (i : ℕ) (v : Json)
    → plain_items (set values i v) ≡ items_of (set (entries (plain_items values)) i (plain v))
plain_items-set values i v = ap items_of (map-set plain values i v ∙ ap (λ l. set l i (plain v)) (sym (entries-plain_items values)))

pub plain_items-insert : (values : List Json) (i : ℕ) (v : Json)
    → plain_items (insert values i v) ≡ items_of (insert (entries (plain_items values)) i (plain v))
plain_items-insert values i v = ap items_of
    (map-append plain (take i values) (v ∷ drop i values) ∙ rw (← take-map plain i values, ← drop-map plain i values) refl
    ∙ ap (λ l. insert l i (plain v)) (sym (entries-plain_items values)))

pub plain_items-remove : (values : List Json) (i : ℕ)
    → plain_items (remove values i) ≡ items_of (remove (entries (plain_items values)) i)
plain_items-remove values i = ap items_of
    (map-append plain (take i values) (drop (suc i) values) ∙ rw (← take-map plain i values, ← drop-map plain (suc i) values) refl
    ∙ ap (λ l. remove l i) (sym (entries-plain_items values)))

pub ruleset entries_listed = (entries-plain_items)

-- ---- Items and members that are compared one after another.

pub same_length : (xs ys : List Json) → plain_items xs ≡ plain_items ys → length xs ≡ length ys
same_length xs ys same = sym (length-entries xs) ∙ ap (λ ps. length (entries ps)) same ∙ length-entries ys

member_count : Members → ℕ
member_count no_members = 0
member_count (member n p ms) = suc (member_count ms)

member_count-plain_members : (es : List (List ℕ × Json)) → member_count (plain_members es) ≡ length es
unfolding member_count
member_count-plain_members [] = refl
member_count-plain_members (e ∷ es) = ap suc (member_count-plain_members es)

pub same_count : (es fs : List (List ℕ × Json)) → plain_members es ≡ plain_members fs → length es ≡ length fs
same_count es fs same = sym (member_count-plain_members es) ∙ ap member_count same ∙ member_count-plain_members fs

module _ (es fs : List (List ℕ × Json)) (i : ℕ) (e f : List ℕ × Json) (W : Type 0) (first : drop i es ≡ e ∷ drop (i + 1) es)
    (second : drop i fs ≡ f ∷ drop (i + 1) fs) (so_far : (plain_members (drop i es) ≡ plain_members (drop i fs)) ↔ W) where
  both : W → member e.0 (plain e.1) (plain_members (drop (i + 1) es)) ≡ member f.0 (plain f.1) (plain_members (drop (i + 1) fs))
  both whole = sym (ap plain_members first) ∙ so_far.1 whole ∙ ap plain_members second

  -- if the whole values are the same, so are these names
  pub name_here : W → e.0 ≡ f.0
  name_here whole = let b = both whole in cc

  pub same_so_far : e.0 ≡ f.0 → plain e.1 ≡ plain f.1 → (plain_members (drop (i + 1) es) ≡ plain_members (drop (i + 1) fs)) ↔ W
  same_so_far named valued = (
    λ rest.
        let same : member e.0 (plain e.1) (plain_members (drop (i + 1) es)) ≡ member f.0 (plain f.1) (plain_members (drop (i + 1) fs)) = cc in
        so_far.0 (ap plain_members first ∙ same ∙ sym (ap plain_members second)),
    λ whole. let b = both whole in cc,
  )

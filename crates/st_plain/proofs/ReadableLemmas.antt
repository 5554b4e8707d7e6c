-- Bytes as JSON, by what `serde_json` makes of them.
use Rattle.std.proofs.Common.{◌≡◌, ℕ, List, Bool, true, false, Option, Some, None, Ok, Err, if◌then◌else◌, refl, ap, ◌≤◌, [], option_map, option_and_then, Result, sym, ◌∙◌, append-nil, arith, ◌+◌, ◌∷◌, Less, Equal, Greater}
use Rattle.std.proofs.lemmas.Bool.Decides.{nat_tests}
use Rattle.std.proofs.lemmas.Int.{ints}
use Rattle.std.proofs.lemmas.Str.{IsUtf8-from_is_utf8, is_utf8-from_IsUtf8}
use Rattle.std.specs.List.{AllByRecursion}
use Rattle.std.specs.Ordering.{match_ordering}
use Rattle.std.specs.Prelude.{ok_or, ℤ, pos, negsuc, nat_le, max, IfSome}
use Rattle.std.specs.Result.{result_ok}
use Rattle.std.specs.Str.{IsUtf8, is_utf8}
use Rattle.json.proofs.Found.{one_reading}
use Rattle.json.proofs.Printed.Trees.{value-json_tokens}
use Rattle.json.specs.Json.{Json, value as json_value, if_last}
use Rattle.json.specs.Lex.{tokens}
use Rattle.json.specs.Token.{Token}
use Rattle.json.specs.Tree.{depth, json_tokens}
use Rattle.serde_json.proofs.Numbers.{number_of-decimal, number_of-negative}
use Rattle.serde_json.specs.Data as data'
use Rattle.serde_json.specs.Find.{of_integer}
use Rattle.serde_json.specs.Read.{read, number_of, of_json, of_items, of_members}
use Rattle.serde_json.specs.Written.{outline, items_outline, members_outline, number_text}
use Rattle.st_plain.proofs.Compact.{tokens-canonical, depth-outline, data_of, items_data, members_data, IsUtf8-canonical}
use Rattle.st_plain.proofs.NameLemmas.{less_from_greater, name_total, AllFresh, all_fresh, all_fresh_put, adds, adds_all, whole_put}
use Rattle.st_plain.specs.Plain.{canonical, IsWhole, Plain, null, boolean, whole, text, list, object, Items, no_items, item, Members, no_members, member, IsProper, ItemsAreProper, MembersAreProper, AllAbove}
use Rattle.st_plain.specs.Measures.{depth_of, items_depth, members_depth}
use Rattle.st_plain.specs.Objects.{put, put_some, some_list, some_listed, some_object, with_some, items_of}
use Rattle.st_plain.specs.Names.{name_cmp}
use Rattle.st_plain.specs.Shapes.{json_of, json_of_data, whole_items, whole_members, whole_value, json_in}
use Rattle.st_plain.specs.declared.respelling.ReadRefused.{ReadRefused}
use Rattle.st_plain.specs.declared.respelling.ReadRefused.TheVariants.{NotJson, NotWhole}

pub json_of-utf8 : (bytes : List ℕ) → IsUtf8 bytes → json_of bytes ≡ json_of_data (read bytes)
json_of-utf8 bytes utf8 = ap (λ b. json_of_data (if b then read bytes else None)) (is_utf8-from_IsUtf8 bytes utf8)

refused_at : (bytes : List ℕ) (b : Bool) → is_utf8 bytes ≡ b → (IsUtf8 bytes → read bytes ≡ None)
    → json_of_data (if b then read bytes else None) ≡ Err NotJson
refused_at bytes true is none = ap json_of_data (none (IsUtf8-from_is_utf8 bytes is))
refused_at bytes false is none = refl

pub refused : (bytes : List ℕ) → (IsUtf8 bytes → read bytes ≡ None) → json_of bytes ≡ Err NotJson
refused bytes none = refused_at bytes (is_utf8 bytes) refl none

-- a value that is returned has whole numbers
pub whole_from : {P : Type 0} (o : Option P) (p : P) → ok_or o NotWhole ≡ Ok p → o ≡ Some p
whole_from None p h = cc
whole_from (Some q) p h = cc

-- ---- Canonical text reads back as its value, and no two values have the same text.

within : {X : Type 0} (n k : ℕ) (x : X) → n ≤ k → (if nat_le n k then Some x else None) ≡ Some x
within n k x h = grind (arith, nat_tests)

-- the JSON is some data, and that data is the value
abbrev IsBack : Option data'.Data → Plain → Type 0
IsBack o p = (d : data'.Data) × (o ≡ Some d) × (whole_value d ≡ Some p)

number_back : (z : ℤ) → IsWhole z
    → IsBack (option_map data'.number (number_of (number_text (of_integer z)))) (whole z)
number_back (pos n) h =
    let small : n ≤ 9007199254740991 = omega (arith, ints, h.1) in (
      data'.number (data'.unsigned n),
      ap (option_map data'.number) (number_of-decimal n (omega arith)),
      ap (option_map whole)
          (within n 9007199254740991 (pos n) small),
    )
number_back (negsuc n) h =
    let small : n ≤ 9007199254740990 = omega (arith, ints, h.0) in (
      data'.number (data'.negative (negsuc n)),
      ap (option_map data'.number) (number_of-negative n (omega arith)),
      ap (option_map whole)
          (within n 9007199254740990 (negsuc n) small),
    )

abbrev ItemsAreBack : Items → Type 0
ItemsAreBack ps =
    (ds : data'.Items) × (of_items (items_outline (items_data ps)) ≡ Some ds) × (whole_items ds ≡ Some ps)

abbrev MembersAreBack : Members → data'.Members → Type 0
MembersAreBack ms found =
    (ds : data'.Members) × (of_members (members_outline (members_data ms)) found ≡ Some ds) × (whole_members ds ≡ option_map (adds ms) (whole_members found))

same_members : (o : Option Members) → o ≡ option_map (adds no_members) o
same_members None = refl
same_members (Some ms) = refl

one_more : (n : List ℕ) (p : Plain) (ms : Members) (o : Option Members) (put : Members → Members)
    → ((f : Members) → adds (member n p ms) f ≡ adds ms (put f))
    → option_map (adds ms) (option_map put o) ≡ option_map (adds (member n p ms)) o
one_more n p ms None put same = refl
one_more n p ms (Some f) put same = ap Some (sym (same f))

mutual
  back : (p : Plain) → IsProper p → IsBack (of_json (outline (data_of p))) p
  back null h = (data'.null, refl, refl)
  back (boolean b) h = (data'.boolean b, refl, refl)
  back (whole z) h = number_back z h
  back (text t) h = (data'.string t, refl, refl)
  back (list ps) h = let r = items_back ps h in (data'.array r.0, ap (option_map data'.array) r.1, ap (option_map list) r.2)
  back (object ms) h =
      let r = members_back ms h data'.no_members (all_fresh ms) in
      (data'.object r.0, ap (option_map data'.object) r.1, ap (option_map object) (r.2 ∙ ap Some (adds_all ms h)))

  items_back : (ps : Items) → ItemsAreProper ps → ItemsAreBack ps
  items_back no_items h = (data'.no_items, refl, refl)
  items_back (item p ps) h =
      let a = back p h.0 in
      let b = items_back ps h.1 in
      (data'.item a.0 b.0, rw (a.1, b.1) refl, rw (a.2, b.2) refl)

  members_back : (ms : Members) → MembersAreProper ms → (found : data'.Members) → AllFresh ms found
      → MembersAreBack ms found
  members_back no_members h found fresh = (found, refl, same_members (whole_members found))
  members_back (member n p ms) h found fresh =
      let a = back p h.2 in
      let b = members_back ms h.3 (data'.put n a.0 found) (all_fresh_put ms n a.0 found h.1 fresh.1) in
      (b.0, rw a.1 b.1, b.2 ∙ ap (option_map (adds ms)) (whole_put n a.0 p found a.2 fresh.0) ∙ one_more n p ms (whole_members found) _ (λ f. refl))

-- the tokens of the text are read as the JSON of the value, at any depth that suffices
parsed : (p : Plain) (n : ℕ) → IsProper p → depth (outline (data_of p)) ≤ n
    → json_value n (tokens (canonical p)) ≡ Some (outline (data_of p), [])
parsed p n h enough =
    let j = outline (data_of p) in
    ap (json_value n) (tokens-canonical p h ∙ sym (append-nil (json_tokens j))) ∙ value-json_tokens j n [] enough

read-canonical : (p : Plain) → IsProper p → depth (outline (data_of p)) ≤ 127
    → read (canonical p) ≡ of_json (outline (data_of p))
read-canonical p h shallow =
    ap (λ o. option_and_then of_json (option_and_then (λ q. if_last q.0 q.1) o)) (parsed p 127 h shallow)

pub back_within_outline : (p : Plain) → IsProper p → depth (outline (data_of p)) ≤ 127 → json_of (canonical p) ≡ Ok p
back_within_outline p h shallow =
    let b = back p h in
    json_of-utf8 (canonical p) (IsUtf8-canonical p h) ∙ ap json_of_data (read-canonical p h shallow ∙ b.1) ∙ ap (λ o. ok_or o NotWhole) b.2

pub reads_back : (p : Plain) → IsProper p → depth_of p ≤ 127 → json_of (canonical p) ≡ Ok p
reads_back p h shallow = back_within_outline p h (omega (arith, depth-outline p))

-- whatever value the text is read as, however deep it nests, is this one
from_tokens : (p : Plain) (found : Option (Json × List Token)) → IsProper p
    → ((x : Json × List Token) → found ≡ Some x → Some x ≡ Some (outline (data_of p), []))
    → (q : Plain) → json_of_data (option_and_then of_json (option_and_then (λ r. if_last r.0 r.1) found)) ≡ Ok q → q ≡ p
from_tokens p None h one q e = cc
from_tokens p (Some x) h one q e =
    let b = back p h in
    let whole = ap (λ o. json_of_data (option_and_then of_json (option_and_then (λ r. if_last r.0 r.1) o))) (one x refl) ∙ ap json_of_data b.1
    ∙ ap (λ o. ok_or o NotWhole) b.2 in
    let same : ◌≡◌ {A = Result Plain ReadRefused} (Ok q) (Ok p) = sym e ∙ whole in
    cc

pub reads_as : (p q : Plain) → IsProper p → json_of (canonical p) ≡ Ok q → q ≡ p
reads_as p q h e =
    let n = depth (outline (data_of p)) in
    let text = json_of-utf8 (canonical p) (IsUtf8-canonical p h) in
    from_tokens p (json_value 127 (tokens (canonical p))) h
    (λ x here. one_reading 127 n (tokens (canonical p)) x (outline (data_of p), []) here (parsed p n h (omega arith))) q (sym text ∙ e)

first_same : {A B : Type 0} {a b : A} {x y : B} → ◌≡◌ {A = Option (A × B)} (Some (a, x)) (Some (b, y)) → a ≡ b
first_same {A} {B} {a} {b} {x} {y} e = let pairs : ◌≡◌ {A = A × B} (a, x) (b, y) = cc in ap (λ r. r.0) pairs

pub same_value : (p q : Plain) → IsProper p → IsProper q → canonical p ≡ canonical q → p ≡ q
same_value p q h g same =
    let n = max (depth (outline (data_of p))) (depth (outline (data_of q))) in
    let first = parsed p n h (omega arith) in
    let second = parsed q n g (omega arith) in
    let both : json_value n (tokens (canonical p)) ≡ json_value n (tokens (canonical q)) = ap (λ t. json_value n (tokens t)) same in
    let outlines : outline (data_of p) ≡ outline (data_of q) = first_same (sym first ∙ both ∙ second) in
    let a = back p h in
    let b = back q g in
    let found : Some a.0 ≡ Some b.0 = sym a.1 ∙ ap of_json outlines ∙ b.1 in
    let inside : a.0 ≡ b.0 = cc in
    let plains : Some p ≡ Some q = sym a.2 ∙ ap whole_value inside ∙ b.2 in
    cc

-- ---- Values that are proper and shallow enough for their canonical text to be read again: objects of listed members,
-- optional lists and objects.

-- a proper value that nests at most this deep
abbrev pub IsReadable : ℕ → Plain → Type 0
IsReadable most p = IsProper p × (depth_of p ≤ most)

-- the same for an optional value
abbrev pub IsReadableThere : ℕ → Option Plain → Type 0
IsReadableThere most there = IfSome there (IsReadable most)

-- the same for each value among members
abbrev pub MembersAreReadable : ℕ → Members → Type 0
MembersAreReadable most ms = MembersAreProper ms × (members_depth ms ≤ most)

-- the canonical text of a readable value is read as this value
pub json_again : (p : Plain) → IsReadable 127 p → json_in (canonical p) ≡ Some p
json_again p readable = ap result_ok (reads_back p readable.0 readable.1)

pub deeper : (few many : ℕ) (p : Plain) → few ≤ many → IsReadable few p → IsReadable many p
deeper few many p within readable = (readable.0, omega (arith, readable.1))

-- ---- members put

above_put : (below name : List ℕ) (p : Plain) (ms : Members) → name_cmp below name ≡ Less → AllAbove below ms → AllAbove below (put name p ms)
above_put below name p no_members less above = (less, tt)
above_put below name p (member n q ms) less above = elim (name_cmp name n) as
    (λ o. AllAbove below (match_ordering o (member name p (member n q ms)) (member name p ms) (member n q (put name p ms)))) [
      | Less ↦ (less, above)
      | Equal ↦ (less, above.1)
      | Greater ↦ (above.0, above_put below name p ms less above.1)
    ]

above_less : (name n : List ℕ) (ms : Members) → name_cmp name n ≡ Less → AllAbove n ms → AllAbove name ms
above_less name n no_members less above = tt
above_less name n (member m p ms) less above = (name_total.trans name n m less above.0, above_less name n ms less above.1)

above_tied : (name n : List ℕ) (ms : Members) → name_cmp name n ≡ Equal → AllAbove n ms → AllAbove name ms
above_tied name n no_members tied above = tt
above_tied name n (member m p ms) tied above = (name_total.congr name n m tied ∙ above.0, above_tied name n ms tied above.1)

put_proper : (name : List ℕ) (p : Plain) (ms : Members) → IsUtf8 name → IsProper p → MembersAreProper ms → MembersAreProper (put name p ms)
put_proper name p no_members utf8 proper others = (utf8, tt, proper, tt)
put_proper name p (member n q ms) utf8 proper others = elim (name_cmp name n) as
    (λ o. name_cmp name n ≡ o → MembersAreProper (match_ordering o (member name p (member n q ms)) (member name p ms) (member n q (put name p ms)))) [
      | Less ↦ λ is. (utf8, (is, above_less name n ms is others.1), proper, others)
      | Equal ↦ λ is. (utf8, above_tied name n ms is others.1, proper, others.3)
      | Greater ↦ λ is. (others.0, above_put n name p ms (less_from_greater name n is) others.1, others.2, put_proper name p ms utf8 proper others.3)
    ] refl

put_depth : (most : ℕ) (name : List ℕ) (p : Plain) (ms : Members) → depth_of p ≤ most → members_depth ms ≤ most → members_depth (put name p ms) ≤ most
put_depth most name p no_members within others = omega arith
put_depth most name p (member n q ms) within others =
    let later : members_depth ms ≤ most = omega arith in
    let first : depth_of q ≤ most = omega arith in
    elim (name_cmp name n) as (λ o. members_depth (match_ordering o (member name p (member n q ms)) (member name p ms) (member n q (put name p ms))) ≤ most) [
      | Less ↦ omega arith
      | Equal ↦ omega arith
      | Greater ↦ omega (arith, put_depth most name p ms within later)
    ]

-- optional members, each with a name in UTF-8
abbrev pub PairsAreReadable : ℕ → List (List ℕ × Option Plain) → Type 0
PairsAreReadable most pairs = AllByRecursion (λ pair. IsUtf8 pair.0 × IsReadableThere most pair.1) pairs

put_some_readable : (most : ℕ) (name : List ℕ) (there : Option Plain) (ms : Members) → IsUtf8 name → IsReadableThere most there
    → MembersAreReadable most ms → MembersAreReadable most (put_some name there ms)
unfolding put_some
put_some_readable most name None ms utf8 there others = others
put_some_readable most name (Some p) ms utf8 there others =
    (put_proper name p ms utf8 there.0 others.0, put_depth most name p ms there.1 others.1)

with_some_readable : (most : ℕ) (pairs : List (List ℕ × Option Plain)) (ms : Members) → PairsAreReadable most pairs
    → MembersAreReadable most ms → MembersAreReadable most (with_some pairs ms)
with_some_readable most [] ms all others = others
with_some_readable most (pair ∷ pairs) ms all others =
    with_some_readable most pairs (put_some pair.0 pair.1 ms) all.1 (put_some_readable most pair.0 pair.1 ms all.0.0 all.0.1 others)

-- listed members are readable if each value is
pub listed_readable : (most : ℕ) (pairs : List (List ℕ × Option Plain)) → PairsAreReadable most pairs → MembersAreReadable most (some_listed pairs)
listed_readable most pairs all = with_some_readable most pairs no_members all (tt, omega arith)

-- ---- values built from others

pub object_readable : (most : ℕ) (ms : Members) → MembersAreReadable most ms → IsReadable (most + 1) (object ms)
object_readable most ms all = (all.0, omega (arith, all.1))

pub object_there : (most : ℕ) (ms : Members) → MembersAreReadable most ms → IsReadableThere (most + 1) (some_object ms)
unfolding some_object
object_there most no_members all = tt
object_there most (member n p ms) all = object_readable most (member n p ms) all

items_readable : (most : ℕ) (entries : List Plain) → AllByRecursion (IsReadable most) entries
    → ItemsAreProper (items_of entries) × (items_depth (items_of entries) ≤ most)
items_readable most [] all = (tt, omega arith)
items_readable most (entry ∷ entries) all =
    let later = items_readable most entries all.1 in
    ((all.0.0, later.0), omega (arith, all.0.1, later.1))

pub list_there : (most : ℕ) (entries : List Plain) → AllByRecursion (IsReadable most) entries → IsReadableThere (most + 1) (some_list entries)
unfolding some_list
list_there most [] all = tt
list_there most (entry ∷ entries) all =
    let items = items_readable most (entry ∷ entries) all in
    (items.0, omega (arith, items.1))

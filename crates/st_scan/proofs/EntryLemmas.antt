-- The first byte of a canonical text, and the text after a comma.
use Rattle.std.proofs.Common.{◌≡◌, ℕ, ◌<◌, ◌≤◌, true, false, cond, List, [], ◌∷◌, ◌++◌, length, arith, ◌∙◌, Option, Some, None, option_map, refl, ap, sym, subst, append_assoc, length-append, ◌↔◌, Bool}
use Rattle.std.proofs.lemmas.Bool.{and_parts}
use Rattle.std.specs.List.{list_all}
use Rattle.std.specs.Prelude.{nat_eq, is_some, unwrap_or, IsTrue}
use Rattle.st_plain.proofs.ScalarLemmas.{IsScalar, is_inner, not_closing_list, scalar_whole}
use Rattle.st_plain.specs.Plain.{canonical, canonical_items, canonical_members, quoted, Plain, null, boolean, whole, text, list, object, Items, no_items, item, Members, no_members, member, IsProper}
use Rattle.st_plain.specs.Objects.{has_only, member_at, entries, items_in, members_in}
use Rattle.st_plain.specs.Shapes.{entries_in, only_of, is_object_of, member_in}
use Rattle.st_plain.specs.ReadAgain.{starts, Splits, can_follow, behind_first}
use Rattle.st_plain.specs.inside.Walk.{behind_comma}
use Rattle.st_scan.proofs.ContentLemmas.{is_list_here, list_kind, is_object_here, object_kind}
use Rattle.st_scan.proofs.TextLemmas.{is_text, value_of-text}
use Rattle.st_scan.specs.Standing.{IsText, IsTextOf, entries_left, value_of, members_left}
use Rattle.st_scan.specs.inside.Standing.{IsNextEntry, IsNextMember}

pub some_canonical : (p : Plain) → IsProper p → 0 < length (canonical p)
some_canonical null proper = omega arith
some_canonical (boolean true) proper = omega arith
some_canonical (boolean false) proper = omega arith
some_canonical (whole z) proper = (scalar_whole z proper).some
some_canonical (text t) proper = omega arith
some_canonical (list ps) proper = omega arith
some_canonical (object ms) proper = omega arith

pub no_longer : (bytes : List ℕ) → length (behind_comma bytes) ≤ length bytes
no_longer [] = omega arith
no_longer (b ∷ bs) = elim (nat_eq b 44) as (λ t. length (cond t bs (b ∷ bs)) ≤ length (b ∷ bs)) [ true ↦ omega arith | false ↦ omega arith ]

not_closing_scalar : (bytes rest : List ℕ) → IsScalar bytes → starts 93 (bytes ++ rest) ≡ false
not_closing_scalar [] rest scalar = absurd (omega (arith, scalar.some))
not_closing_scalar (b ∷ bytes) rest scalar = not_closing_list b (and_parts (is_inner b) (list_all is_inner bytes) scalar.inner).0

-- no value starts with a closing bracket
pub not_closing : (p : Plain) (rest : List ℕ) → IsProper p → starts 93 (canonical p ++ rest) ≡ true → ⊥
not_closing null rest proper closing = cc
not_closing (boolean true) rest proper closing = cc
not_closing (boolean false) rest proper closing = cc
not_closing (whole z) rest proper closing = let apart = not_closing_scalar _ rest (scalar_whole z proper) in cc
not_closing (text t) rest proper closing = cc
not_closing (list ps) rest proper closing = cc
not_closing (object ms) rest proper closing = cc

-- ---- The first remaining entry of a list.

-- the text after the first item of a list
abbrev items_behind : Items → List ℕ
items_behind ps = canonical_items true ps ++ 93 ∷ []

items_follow : (ps : Items) → can_follow (items_behind ps) ≡ true
items_follow no_items = refl
items_follow (item p ps) = refl

items_again : (ps : Items) → canonical (list ps) ≡ 91 ∷ behind_comma (items_behind ps)
items_again no_items = refl
items_again (item p ps) = refl

entries_left-list : (left : List ℕ) (ps : Items) → IsTextOf (91 ∷ left) (list ps) → entries_left left ≡ entries ps
unfolding entries_left
entries_left-list left ps is = ap (λ v. entries_in (Some v)) (value_of-text (91 ∷ left) (list ps) is)

entry_next : (left entry rest : List ℕ) (p : Plain) (ps : Items) → IsTextOf (91 ∷ left) (list (item p ps)) → left ≡ canonical p ++ items_behind ps
    → Splits left entry rest → IsNextEntry left entry (behind_comma rest)
entry_next left entry rest p ps is parts splits =
    let cut = splits p (items_behind ps) is.proper.0 parts (items_follow ps) in
    let first : IsTextOf entry p = record { proper = is.proper.0; shallow = omega (arith, is.shallow); spelled = sym cut.0 } in
    let others : IsTextOf (91 ∷ behind_comma rest) (list ps) = record {
      proper = is.proper.1;
      shallow = omega (arith, is.shallow);
      spelled = items_again ps ∙ ap (λ bytes. 91 ∷ behind_comma bytes) (sym cut.1);
    } in
    let all = entries_left-list left (item p ps) is in
    let here = value_of-text entry p first in
    let there = entries_left-list (behind_comma rest) ps others in
    record {
      first = is_text entry p first;
      others = is_text (91 ∷ behind_comma rest) (list ps) others;
      listed = cc;
      shorter = omega (arith, no_longer rest, some_canonical p is.proper.0, ap length parts, ap length cut.1, length-append (canonical p) (items_behind ps));
    }

entry_of : (left entry rest : List ℕ) (ps : Items) → IsTextOf (91 ∷ left) (list ps) → starts 93 left ≡ false
    → Splits left entry rest → IsNextEntry left entry (behind_comma rest)
entry_of left entry rest no_items is some splits =
    let same : 93 ∷ [] ≡ left = let e = is.spelled in cc in
    let closed = ap (starts 93) same in
    cc
entry_of left entry rest (item p ps) is some splits =
    let same : (canonical p ++ canonical_items true ps) ++ 93 ∷ [] ≡ left = let e = is.spelled in cc in
    entry_next left entry rest p ps is (sym same ∙ append_assoc (canonical p) (canonical_items true ps) (93 ∷ [])) splits

as_list : (left : List ℕ) → IsText (91 ∷ left) → (ps : Items) × IsTextOf (91 ∷ left) (list ps)
as_list left is = let here = is_list_here (91 ∷ left) is refl in (here.0, subst (IsTextOf (91 ∷ left)) here.1 is)

pub next_entry : (left entry rest : List ℕ) → IsText (91 ∷ left) → starts 93 left ≡ false
    → Splits left entry rest → IsNextEntry left entry (behind_comma rest)
next_entry left entry rest is some splits = let here = as_list left is in entry_of left entry rest here.0 here.1 some splits

none_of : (left : List ℕ) (ps : Items) → IsTextOf (91 ∷ left) (list ps) → starts 93 left ≡ true → entries_left left ≡ []
none_of left no_items is none = entries_left-list left no_items is
none_of left (item p ps) is none =
    let same : (canonical p ++ canonical_items true ps) ++ 93 ∷ [] ≡ left = let e = is.spelled in cc in
    let first = ap (starts 93) (append_assoc (canonical p) (canonical_items true ps) (93 ∷ [])) in
    absurd (not_closing p (canonical_items true ps ++ 93 ∷ []) is.proper.0 (sym first ∙ ap (starts 93) same ∙ none))

pub no_entry : (left : List ℕ) → IsText (91 ∷ left) → starts 93 left ≡ true → entries_left left ≡ []
no_entry left is none = let here = as_list left is in none_of left here.0 here.1 none

some_of : (left : List ℕ) (ps : Items) → IsTextOf (91 ∷ left) (list ps) → starts 93 left ≡ false
    → (p : Plain) × (ps : List Plain) × (entries_left left ≡ p ∷ ps)
some_of left no_items is some =
    let same : 93 ∷ [] ≡ left = let e = is.spelled in cc in
    let closed = ap (starts 93) same in
    absurd cc
some_of left (item p ps) is some = (p, entries ps, entries_left-list left (item p ps) is)

some_entry : (left : List ℕ) → IsText (91 ∷ left) → starts 93 left ≡ false → (p : Plain) × (ps : List Plain) × (entries_left left ≡ p ∷ ps)
some_entry left is some = let here = as_list left is in some_of left here.0 here.1 some

-- ---- one entry and no other

pub one_entry : (left entry rest : List ℕ) → IsNextEntry left entry rest → starts 93 rest ≡ true → only_of (entries_left left) ≡ Some (value_of entry)
one_entry left entry rest next none = rw (next.listed, no_entry rest next.others none) refl

pub two_entries : (left entry rest : List ℕ) → IsNextEntry left entry rest → starts 93 rest ≡ false → only_of (entries_left left) ≡ None
two_entries left entry rest next some = let second = some_entry rest next.others some in rw (next.listed, second.2) refl

-- ---- a list

pub at_list : (bytes left : List ℕ) → bytes ≡ 91 ∷ left → entries_left left ≡ entries_in (Some (value_of bytes))
unfolding entries_left
at_list bytes left same = ap (λ found. entries_in (Some (value_of found))) (sym same)

no_items_in : (there : Option Items) → is_some there ≡ false → unwrap_or (option_map entries there) [] ≡ []
no_items_in None none = refl
no_items_in (Some ps) none = cc

pub no_list : (bytes : List ℕ) → IsText bytes → starts 91 bytes ≡ false → entries_in (Some (value_of bytes)) ≡ []
no_list bytes is apart = no_items_in (items_in (value_of bytes)) (sym (list_kind bytes is) ∙ apart)

pub empty_list : IsText (91 ∷ 93 ∷ [])
empty_list = is_text (91 ∷ 93 ∷ []) (list no_items) (record { proper = tt; shallow = omega arith; spelled = refl })

pub none_left : entries_left (93 ∷ []) ≡ []
none_left = no_entry (93 ∷ []) empty_list refl

-- ---- The first remaining member of an object.

-- the text after the first member of an object
abbrev members_behind : Members → List ℕ
members_behind ms = canonical_members true ms ++ 125 ∷ []

members_follow : (ms : Members) → can_follow (members_behind ms) ≡ true
members_follow no_members = refl
members_follow (member n p ms) = refl

members_again : (ms : Members) → canonical (object ms) ≡ 123 ∷ behind_comma (members_behind ms)
members_again no_members = refl
members_again (member n p ms) = refl

members_left-object : (left : List ℕ) (ms : Members) → IsTextOf (123 ∷ left) (object ms) → members_left left ≡ ms
unfolding members_left
members_left-object left ms is = ap (λ v. unwrap_or (members_in v) no_members) (value_of-text (123 ∷ left) (object ms) is)

same_member : (n : List ℕ) (p q : Plain) (ms ns : Members) → p ≡ q → ms ≡ ns → member n p ms ≡ member n q ns
same_member n p q ms ns same others = cc

-- a name, a colon and a value, before the other members
abbrev member_text : List ℕ → Plain → Members → List ℕ
member_text n p ms = quoted n ++ 58 ∷ (canonical p ++ members_behind ms)

shorter : (n value behind left rest : List ℕ) → left ≡ quoted n ++ 58 ∷ (value ++ behind) → rest ≡ behind → length (behind_comma rest) < length left
shorter n value behind left rest parts same =
    omega (arith, no_longer rest, ap length parts, ap length same, length-append (quoted n) (58 ∷ (value ++ behind)), length-append value behind)

as_object : (left : List ℕ) → IsText (123 ∷ left) → (ms : Members) × IsTextOf (123 ∷ left) (object ms)
as_object left is = let here = is_object_here (123 ∷ left) is refl in (here.0, subst (IsTextOf (123 ∷ left)) here.1 is)

module _ (left name after value rest : List ℕ) (splits : Splits left name after) (again : Splits (behind_first after) value rest) where
  member_next : (n : List ℕ) (p : Plain) (ms : Members) → IsTextOf (123 ∷ left) (object (member n p ms)) → left ≡ member_text n p ms
      → IsNextMember left name value (behind_comma rest)
  member_next n p ms is parts =
      let cut = splits (text n) (58 ∷ (canonical p ++ members_behind ms)) is.proper.0 parts refl in
      let behind = again p (members_behind ms) is.proper.2 (ap behind_first cut.1) (members_follow ms) in
      let first : IsTextOf value p = record { proper = is.proper.2; shallow = omega (arith, is.shallow); spelled = sym behind.0 } in
      let others : IsTextOf (123 ∷ behind_comma rest) (object ms) = record {
        proper = is.proper.3;
        shallow = omega (arith, is.shallow);
        spelled = members_again ms ∙ ap (λ bytes. 123 ∷ behind_comma bytes) (sym behind.1);
      } in
      record {
        word = n;
        utf8 = is.proper.0;
        named = cut.0;
        first = is_text value p first;
        others = is_text (123 ∷ behind_comma rest) (object ms) others;
        listed = members_left-object left (member n p ms) is
            ∙ same_member n p _ ms _ (sym (value_of-text value p first)) (sym (members_left-object (behind_comma rest) ms others));
        shorter = shorter n (canonical p) (members_behind ms) left rest parts behind.1;
      }

  member_of : (ms : Members) → IsTextOf (123 ∷ left) (object ms) → starts 125 left ≡ false
      → IsNextMember left name value (behind_comma rest)
  member_of no_members is some =
      let same : 125 ∷ [] ≡ left = let e = is.spelled in cc in
      let closed = ap (starts 125) same in
      cc
  member_of (member n p ms) is some =
      let same : (quoted n ++ 58 ∷ (canonical p ++ canonical_members true ms)) ++ 125 ∷ [] ≡ left = let e = is.spelled in cc in
      let parts = sym same ∙ append_assoc (quoted n) (58 ∷ (canonical p ++ canonical_members true ms)) (125 ∷ [])
      ∙ ap (λ bytes. quoted n ++ 58 ∷ bytes) (append_assoc (canonical p) (canonical_members true ms) (125 ∷ [])) in
      member_next n p ms is parts

  pub next_member : IsText (123 ∷ left) → starts 125 left ≡ false
      → IsNextMember left name value (behind_comma rest)
  next_member is some = let here = as_object left is in member_of here.0 here.1 some

no_member_of : (left : List ℕ) (ms : Members) → IsTextOf (123 ∷ left) (object ms) → starts 125 left ≡ true → members_left left ≡ no_members
no_member_of left no_members is none = members_left-object left no_members is
no_member_of left (member n p ms) is none =
    let same : (quoted n ++ 58 ∷ (canonical p ++ canonical_members true ms)) ++ 125 ∷ [] ≡ left = let e = is.spelled in cc in
    let quote = ap (starts 125) same in
    cc

pub no_member : (left : List ℕ) → IsText (123 ∷ left) → starts 125 left ≡ true → members_left left ≡ no_members
no_member left is none = let here = as_object left is in no_member_of left here.0 here.1 none

-- the value of an object's text is the object of the members after its brace
pub object_left : (left : List ℕ) → IsText (123 ∷ left) → value_of (123 ∷ left) ≡ object (members_left left)
object_left left is =
    let here = as_object left is in
    value_of-text (123 ∷ left) (object here.0) here.1 ∙ ap object (sym (members_left-object left here.0 here.1))

closed_of : (left : List ℕ) (ms : Members) → IsTextOf (123 ∷ left) (object ms) → members_left left ≡ no_members → starts 125 left ≡ true
closed_of left no_members is none =
    let same : 125 ∷ [] ≡ left = let e = is.spelled in cc in
    sym (ap (starts 125) same)
closed_of left (member n p ms) is none = let apart = sym (members_left-object left (member n p ms) is) ∙ none in cc

-- no member remains if and only if the closing brace is next
pub no_member_left : (left : List ℕ) (closed : Bool) → IsText (123 ∷ left) → closed ≡ starts 125 left → IsTrue closed ↔ (members_left left ≡ no_members)
no_member_left left closed is test =
    let here = as_object left is in (λ yes. no_member left is (sym test ∙ yes), λ none. test ∙ closed_of left here.0 here.1 none)

-- ---- a text that is an object, or none

none_in : (members : Option Members) → is_some members ≡ false → members ≡ None
none_in None none = refl
none_in (Some ms) none = cc

pub not_object : (bytes : List ℕ) → IsText bytes → starts 123 bytes ≡ false → members_in (value_of bytes) ≡ None
not_object bytes is apart = none_in (members_in (value_of bytes)) (sym (object_kind bytes is) ∙ apart)

pub at_object : (bytes left : List ℕ) → IsText bytes → bytes ≡ 123 ∷ left → value_of bytes ≡ object (members_left left)
at_object bytes left is same = ap value_of same ∙ object_left left (subst IsText same is)

module _ (bytes left : List ℕ) (is : IsText bytes) (same : bytes ≡ 123 ∷ left) where
  pub at_member : (name : List ℕ) (found : Option Plain) → member_at name (members_left left) ≡ found → found ≡ member_in name (Some (value_of bytes))
  at_member name found here = sym here ∙ sym (ap (λ p. member_in name (Some p)) (at_object bytes left is same))

  pub at_object_of : (names : List (List ℕ)) (found : Bool) → found ≡ has_only names (members_left left) → found ≡ is_object_of names (Some (value_of bytes))
  at_object_of names found here = here ∙ sym (ap (λ p. is_object_of names (Some p)) (at_object bytes left is same))

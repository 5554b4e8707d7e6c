-- The first byte of a canonical text determines its kind.
use Rattle.std.proofs.Common.{◌≡◌, ◌∙◌, ℕ, true, false, List, [], ◌∷◌, refl, ap, sym, ◌↔◌, Bool, Some, subst, ◌+◌, ◌≤◌, ◌++◌, arith, drop}
use Rattle.std.proofs.lemmas.Bool.{and_parts}
use Rattle.std.proofs.lemmas.List.Sums.{sum_by-append, sum_by-cons}
use Rattle.std.proofs.lemmas.Simd.{chunk-drop}
use Rattle.std.specs.List.{list_all, count_by}
use Rattle.std.specs.Prelude.{is_some, IsTrue, cond}
use Rattle.std.specs.Str.{IsUtf8}
use lib.Lanes.{chunk}
use Rattle.st_plain.proofs.HeldLemmas.{name_is}
use Rattle.st_plain.proofs.QuotedLemmas.{name_turned, named_quoted}
use Rattle.st_plain.proofs.ScalarLemmas.{IsScalar, is_inner, not_quote, not_list, not_object, scalar_whole}
use Rattle.st_plain.specs.Plain.{canonical, quoted, canonical_items, canonical_members, comma, Plain, null, boolean, whole, text, list, object, Items, Members, no_items, item, no_members, member, IsProper}
use Rattle.st_plain.specs.Measures.{depth_of, items_depth, members_depth, opening_count}
use Rattle.st_plain.specs.Objects.{name_in, items_in, members_in, text_in}
use Rattle.st_plain.specs.ReadAgain.{starts, behind_first, opens}
use Rattle.st_scan.specs.Standing.{IsText, value_of}
use Rattle.st_scan.specs.Texts.{is_text_of}

scalar_quote : (bytes : List ℕ) → IsScalar bytes → starts 34 bytes ≡ false
scalar_quote [] scalar = refl
scalar_quote (b ∷ bytes) scalar = not_quote b (and_parts (is_inner b) (list_all is_inner bytes) scalar.inner).0

scalar_list : (bytes : List ℕ) → IsScalar bytes → starts 91 bytes ≡ false
scalar_list [] scalar = refl
scalar_list (b ∷ bytes) scalar = not_list b (and_parts (is_inner b) (list_all is_inner bytes) scalar.inner).0

scalar_object : (bytes : List ℕ) → IsScalar bytes → starts 123 bytes ≡ false
scalar_object [] scalar = refl
scalar_object (b ∷ bytes) scalar = not_object b (and_parts (is_inner b) (list_all is_inner bytes) scalar.inner).0

text_starts : (p : Plain) → IsProper p → starts 34 (canonical p) ≡ is_some (text_in p)
text_starts null proper = refl
text_starts (boolean true) proper = refl
text_starts (boolean false) proper = refl
text_starts (whole z) proper = scalar_quote _ (scalar_whole z proper)
text_starts (text t) proper = refl
text_starts (list ps) proper = refl
text_starts (object ms) proper = refl

list_starts : (p : Plain) → IsProper p → starts 91 (canonical p) ≡ is_some (items_in p)
list_starts null proper = refl
list_starts (boolean true) proper = refl
list_starts (boolean false) proper = refl
list_starts (whole z) proper = scalar_list _ (scalar_whole z proper)
list_starts (text t) proper = refl
list_starts (list ps) proper = refl
list_starts (object ms) proper = refl

object_starts : (p : Plain) → IsProper p → starts 123 (canonical p) ≡ is_some (members_in p)
object_starts null proper = refl
object_starts (boolean true) proper = refl
object_starts (boolean false) proper = refl
object_starts (whole z) proper = scalar_object _ (scalar_whole z proper)
object_starts (text t) proper = refl
object_starts (list ps) proper = refl
object_starts (object ms) proper = refl

pub text_kind : (bytes : List ℕ) → IsText bytes → starts 34 bytes ≡ is_some (text_in (value_of bytes))
text_kind bytes is = ap (starts 34) (sym is.spelled) ∙ text_starts (value_of bytes) is.proper

pub list_kind : (bytes : List ℕ) → IsText bytes → starts 91 bytes ≡ is_some (items_in (value_of bytes))
list_kind bytes is = ap (starts 91) (sym is.spelled) ∙ list_starts (value_of bytes) is.proper

pub object_kind : (bytes : List ℕ) → IsText bytes → starts 123 bytes ≡ is_some (members_in (value_of bytes))
object_kind bytes is = ap (starts 123) (sym is.spelled) ∙ object_starts (value_of bytes) is.proper

-- ---- the value, by its kind

pub text_there : (p : Plain) → is_some (text_in p) ≡ true → (t : List ℕ) × (p ≡ text t)
text_there null some = cc
text_there (boolean b) some = cc
text_there (whole z) some = cc
text_there (text t) some = (t, refl)
text_there (list ps) some = cc
text_there (object ms) some = cc

list_there : (p : Plain) → is_some (items_in p) ≡ true → (ps : Items) × (p ≡ list ps)
list_there null some = cc
list_there (boolean b) some = cc
list_there (whole z) some = cc
list_there (text t) some = cc
list_there (list ps) some = (ps, refl)
list_there (object ms) some = cc

object_there : (p : Plain) → is_some (members_in p) ≡ true → (ms : Members) × (p ≡ object ms)
object_there null some = cc
object_there (boolean b) some = cc
object_there (whole z) some = cc
object_there (text t) some = cc
object_there (list ps) some = cc
object_there (object ms) some = (ms, refl)

pub is_list_here : (bytes : List ℕ) → IsText bytes → starts 91 bytes ≡ true → (ps : Items) × (value_of bytes ≡ list ps)
is_list_here bytes is here = list_there (value_of bytes) (sym (list_kind bytes is) ∙ here)

pub is_object_here : (bytes : List ℕ) → IsText bytes → starts 123 bytes ≡ true → (ms : Members) × (value_of bytes ≡ object ms)
is_object_here bytes is here = object_there (value_of bytes) (sym (object_kind bytes is) ∙ here)

-- ---- Texts, from their written form.

-- the word of a text, and its written form
record IsWord (bytes : List ℕ) : Type 0 where
  pub word : List ℕ
  pub is : value_of bytes ≡ text word
  pub written : bytes ≡ quoted word

word_of : (bytes : List ℕ) → IsText bytes → is_some (text_in (value_of bytes)) ≡ true → IsWord bytes
word_of bytes is some =
    let here = text_there (value_of bytes) some in
    record { word = here.0; is = here.1; written = sym is.spelled ∙ ap canonical here.1 }

-- whether a text is a word, from whether it is the written form of the word
pub text_tells : (found : Bool) (bytes word : List ℕ) → IsText bytes → IsUtf8 word → is_some (text_in (value_of bytes)) ≡ true
    → (IsTrue found ↔ (bytes ≡ quoted word)) → found ≡ is_text_of word (value_of bytes)
text_tells found bytes word is utf8 some tells =
    let here = word_of bytes is some in
    let proper : IsUtf8 here.word = subst IsProper here.is is.proper in
    named_quoted found bytes word here.word utf8 proper here.written tells ∙ name_turned word here.word ∙ sym (ap (is_text_of word) here.is)

-- the value of a text, read from after its quotation mark
pub word_inside : (bytes : List ℕ) → IsText bytes → is_some (text_in (value_of bytes)) ≡ true
    → (Some (name_in (behind_first bytes)) ≡ text_in (value_of bytes)) × IsUtf8 (name_in (behind_first bytes))
word_inside bytes is some =
    let here = word_of bytes is some in
    let same : name_in (behind_first bytes) ≡ here.word = ap (λ b. name_in (behind_first b)) here.written ∙ name_is here.word [] in
    let utf8 : IsUtf8 here.word = subst IsProper here.is is.proper in
    (ap Some same ∙ sym (ap text_in here.is), subst IsUtf8 (sym same) utf8)

-- ---- A value nests no deeper than the number of opening brackets and braces in its canonical text.

joined : (xs ys : List ℕ) → opening_count (xs ++ ys) ≡ opening_count xs + opening_count ys
joined xs ys = sum_by-append (λ byte. cond (opens byte) 1 0) xs ys

-- the next sixteen bytes, and the bytes after them
pub counted_near : (xs : List ℕ) → count_by opens (chunk 0 16 xs) + opening_count (drop 16 xs) ≡ opening_count xs
counted_near xs = sym (joined (chunk 0 16 xs) (drop 16 xs)) ∙ ap opening_count (sym (chunk-drop 0 16 xs))

behind : (byte : ℕ) (xs : List ℕ) → opening_count xs ≤ opening_count (byte ∷ xs)
behind byte xs = omega (arith, sum_by-cons (λ byte. cond (opens byte) 1 0) byte xs)

within_list : (xs : List ℕ) → opening_count xs + 1 ≤ opening_count (91 ∷ (xs ++ 93 ∷ []))
within_list xs = omega (arith, sum_by-cons (λ byte. cond (opens byte) 1 0) 91 (xs ++ 93 ∷ []), joined xs (93 ∷ []))

within_object : (xs : List ℕ) → opening_count xs + 1 ≤ opening_count (123 ∷ (xs ++ 125 ∷ []))
within_object xs = omega (arith, sum_by-cons (λ byte. cond (opens byte) 1 0) 123 (xs ++ 125 ∷ []), joined xs (125 ∷ []))

mutual
  value_opens : (p : Plain) → depth_of p ≤ opening_count (canonical p) + 1
  value_opens null = omega arith
  value_opens (boolean b) = omega arith
  value_opens (whole z) = omega arith
  value_opens (text t) = omega arith
  value_opens (list ps) = omega (arith, items_open false ps, within_list (canonical_items false ps))
  value_opens (object ms) = omega (arith, members_open false ms, within_object (canonical_members false ms))

  items_open : (b : Bool) (ps : Items) → items_depth ps ≤ opening_count (canonical_items b ps) + 1
  items_open b no_items = omega arith
  items_open b (item p ps) =
      omega (
        arith,
        value_opens p,
        items_open true ps,
        joined (comma b) (canonical p ++ canonical_items true ps),
        joined (canonical p) (canonical_items true ps),
      )

  members_open : (b : Bool) (ms : Members) → members_depth ms ≤ opening_count (canonical_members b ms) + 1
  members_open b no_members = omega arith
  members_open b (member k p ms) =
      omega (
        arith,
        value_opens p,
        members_open true ms,
        joined (comma b) (quoted k ++ (58 ∷ (canonical p ++ canonical_members true ms))),
        joined (quoted k) (58 ∷ (canonical p ++ canonical_members true ms)),
        behind 58 (canonical p ++ canonical_members true ms),
        joined (canonical p) (canonical_members true ms),
      )

pub depth_within : (spelled : List ℕ) → IsText spelled → depth_of (value_of spelled) ≤ opening_count spelled + 1
depth_within spelled is = subst (λ bytes. depth_of (value_of spelled) ≤ opening_count bytes + 1) is.spelled (value_opens (value_of spelled))

-- A plain value as `serde_json` has it, its members in the order of their names.
use Rattle.std.proofs.Common.{◌≡◌, ℕ, ◌≤◌, List, [], ◌∷◌, ◌++◌, Bool, true, false, refl, sym, ap, ◌∙◌, append_assoc, arith, subst, IsUtf8}
use Rattle.std.proofs.lemmas.Bool.Decides.{nat_tests}
use Rattle.std.proofs.lemmas.Fmt.{IsAscii-signed}
use Rattle.std.proofs.lemmas.Int.{ints}
use Rattle.std.proofs.lemmas.Str.{IsUtf8-append, IsUtf8-from_ascii, IsUtf8-nil}
use Rattle.std.specs.Fmt.{signed_decimal}
use Rattle.std.specs.List.{flat_map}
use Rattle.std.specs.Prelude.{ℤ, pos, negsuc}
use Rattle.json.proofs.Printed.Decimals.{IsNumber-decimal, IsNumber-signed_decimal}
use Rattle.json.proofs.Printed.Tokens.{tokens-print}
use Rattle.json.proofs.Printed.Trees.{ArePrintable-json_tokens}
use Rattle.json.proofs.Printed.Utf8.{IsUtf8-are_ascii, IsUtf8-quoted}
use Rattle.json.specs.Lex.{tokens}
use Rattle.json.specs.Print.{IsNumber}
use Rattle.json.specs.Print as print
use Rattle.json.specs.Tree.{HasNumbers, ItemsHaveNumbers, MembersHaveNumbers, depth, json_tokens}
use Rattle.json.specs.Tree as tree
use Rattle.serde_json.proofs.Texts.{print-outline}
use Rattle.serde_json.specs.Data as data'
use Rattle.serde_json.specs.Find.{of_integer}
use Rattle.serde_json.specs.Written.{compact_text, items_text, members_text, outline, items_outline, members_outline}
use Rattle.st_plain.specs.Plain.{canonical, canonical_items, canonical_members, escape, quoted, comma, Plain, null, boolean, whole, text, list, object, Items, no_items, item, Members, no_members, member, IsWhole, IsProper, ItemsAreProper, MembersAreProper}
use Rattle.st_plain.specs.Measures.{depth_of, items_depth, members_depth}

abbrev mutual
  pub data_of : Plain → data'.Data
  data_of null = data'.null
  data_of (boolean b) = data'.boolean b
  data_of (whole z) = data'.number (of_integer z)
  data_of (text t) = data'.string t
  data_of (list ps) = data'.array (items_data ps)
  data_of (object ms) = data'.object (members_data ms)

  pub items_data : Items → data'.Items
  items_data no_items = data'.no_items
  items_data (item p ps) = data'.item (data_of p) (items_data ps)

  pub members_data : Members → data'.Members
  members_data no_members = data'.no_members
  members_data (member n p ms) = data'.member n (data_of p) (members_data ms)

-- ---- The canonical text is the compact text of `serde_json`, so it has the tokens of the value.

same_escape : (b : ℕ) → escape b ≡ print.escape_byte b
unfolding escape print.escape_byte
same_escape b = grind (arith, nat_tests)

pub same_escapes : (t : List ℕ) → flat_map escape t ≡ print.escape t
same_escapes [] = refl
same_escapes (b ∷ t) = rw (same_escape b, same_escapes t) refl

pub same_quoted : (t : List ℕ) → quoted t ≡ print.quoted t
same_quoted t = ap (λ s. 34 ∷ (s ++ 34 ∷ [])) (same_escapes t)

mutual
  canonical-compact : (p : Plain) → canonical p ≡ compact_text (data_of p)
  canonical-compact null = refl
  canonical-compact (boolean true) = refl
  canonical-compact (boolean false) = refl
  canonical-compact (whole (pos n)) = refl
  canonical-compact (whole (negsuc n)) = refl
  canonical-compact (text t) = same_quoted t
  canonical-compact (list ps) = ap (λ s. 91 ∷ s) (items-compact false ps)
  canonical-compact (object ms) = ap (λ s. 123 ∷ s) (members-compact false ms)

  items-compact : (b : Bool) (ps : Items) → canonical_items b ps ++ 93 ∷ [] ≡ items_text b (items_data ps)
  items-compact b no_items = refl
  items-compact true (item p ps) = simp append_assoc (rw (canonical-compact p, items-compact true ps) refl)
  items-compact false (item p ps) = simp append_assoc (rw (canonical-compact p, items-compact true ps) refl)

  members-compact : (b : Bool) (ms : Members) → canonical_members b ms ++ 125 ∷ [] ≡ members_text b (members_data ms)
  members-compact b no_members = refl
  members-compact true (member n p ms) =
      simp append_assoc (rw (same_escapes n, canonical-compact p, members-compact true ms) refl)
  members-compact false (member n p ms) =
      simp append_assoc (rw (same_escapes n, canonical-compact p, members-compact true ms) refl)

is_number : (z : ℤ) → IsWhole z → IsNumber (signed_decimal z)
is_number (pos n) h = IsNumber-decimal n (omega (arith, ints, h.1))
is_number (negsuc n) h = IsNumber-signed_decimal (negsuc n) (omega (arith, ints, h.0))

mutual
  numbers : (p : Plain) → IsProper p → HasNumbers (outline (data_of p))
  numbers null h = tt
  numbers (boolean b) h = tt
  numbers (whole (pos n)) h = is_number (pos n) h
  numbers (whole (negsuc n)) h = is_number (negsuc n) h
  numbers (text t) h = tt
  numbers (list ps) h = items_numbers ps h
  numbers (object ms) h = members_numbers ms h

  items_numbers : (ps : Items) → ItemsAreProper ps → ItemsHaveNumbers (items_outline (items_data ps))
  items_numbers no_items h = tt
  items_numbers (item p ps) h = (numbers p h.0, items_numbers ps h.1)

  members_numbers : (ms : Members) → MembersAreProper ms → MembersHaveNumbers (members_outline (members_data ms))
  members_numbers no_members h = tt
  members_numbers (member n p ms) h = (numbers p h.2, members_numbers ms h.3)

pub tokens-canonical : (p : Plain) → IsProper p → tokens (canonical p) ≡ json_tokens (outline (data_of p))
tokens-canonical p h =
    ap tokens (canonical-compact p ∙ sym (print-outline (data_of p)))
    ∙ tokens-print _ (ArePrintable-json_tokens _ (numbers p h))

-- ---- the brackets nest no deeper than the value
mutual
  pub depth-outline : (p : Plain) → depth (outline (data_of p)) ≤ depth_of p
  depth-outline null = omega arith
  depth-outline (boolean b) = omega arith
  depth-outline (whole (pos n)) = omega arith
  depth-outline (whole (negsuc n)) = omega arith
  depth-outline (text t) = omega arith
  depth-outline (list ps) = omega (arith, items_depth-outline ps)
  depth-outline (object ms) = omega (arith, members_depth-outline ms)

  items_depth-outline : (ps : Items) → tree.items_depth (items_outline (items_data ps)) ≤ items_depth ps
  items_depth-outline no_items = omega arith
  items_depth-outline (item p ps) = omega (arith, depth-outline p, items_depth-outline ps)

  members_depth-outline : (ms : Members) → tree.members_depth (members_outline (members_data ms)) ≤ members_depth ms
  members_depth-outline no_members = omega arith
  members_depth-outline (member n p ms) = omega (arith, depth-outline p, members_depth-outline ms)

-- ---- The canonical text of a proper value is UTF-8.

utf8_quoted : (t : List ℕ) → IsUtf8 t → IsUtf8 (quoted t)
utf8_quoted t u = subst IsUtf8 (sym (same_quoted t)) (IsUtf8-quoted t u)

utf8_comma : (b : Bool) → IsUtf8 (comma b)
utf8_comma true = IsUtf8-are_ascii (44 ∷ []) refl
utf8_comma false = IsUtf8-nil

utf8_whole : (z : ℤ) → IsWhole z → IsUtf8 (signed_decimal z)
utf8_whole (pos n) h = IsUtf8-from_ascii _ (IsAscii-signed (pos n) (omega (arith, ints, h.1)))
utf8_whole (negsuc n) h = IsUtf8-from_ascii _ (IsAscii-signed (negsuc n) (omega (arith, ints, h.0)))

-- one ASCII byte before and one after
between : (a b : ℕ) (t : List ℕ) → IsUtf8 (a ∷ []) → IsUtf8 (b ∷ []) → IsUtf8 t → IsUtf8 (a ∷ (t ++ b ∷ []))
between a b t u v h = IsUtf8-append (a ∷ []) (t ++ b ∷ []) u (IsUtf8-append t (b ∷ []) h v)

mutual
  pub IsUtf8-canonical : (p : Plain) → IsProper p → IsUtf8 (canonical p)
  IsUtf8-canonical null h = IsUtf8-are_ascii (canonical null) refl
  IsUtf8-canonical (boolean true) h = IsUtf8-are_ascii (canonical (boolean true)) refl
  IsUtf8-canonical (boolean false) h = IsUtf8-are_ascii (canonical (boolean false)) refl
  IsUtf8-canonical (whole z) h = utf8_whole z h
  IsUtf8-canonical (text t) h = utf8_quoted t h
  IsUtf8-canonical (list ps) h =
      between 91 93 (canonical_items false ps) (IsUtf8-are_ascii (91 ∷ []) refl) (IsUtf8-are_ascii (93 ∷ []) refl) (utf8_items false ps h)
  IsUtf8-canonical (object ms) h =
      between 123 125 (canonical_members false ms) (IsUtf8-are_ascii (123 ∷ []) refl) (IsUtf8-are_ascii (125 ∷ []) refl) (utf8_members false ms h)

  utf8_items : (b : Bool) (ps : Items) → ItemsAreProper ps → IsUtf8 (canonical_items b ps)
  utf8_items b no_items h = IsUtf8-nil
  utf8_items b (item p ps) h =
      IsUtf8-append (comma b) _ (utf8_comma b) (IsUtf8-append (canonical p) _ (IsUtf8-canonical p h.0) (utf8_items true ps h.1))

  utf8_members : (b : Bool) (ms : Members) → MembersAreProper ms → IsUtf8 (canonical_members b ms)
  utf8_members b no_members h = IsUtf8-nil
  utf8_members b (member n p ms) h = IsUtf8-append (comma b) _ (utf8_comma b)
      (IsUtf8-append (quoted n) _ (utf8_quoted n h.0)
      (IsUtf8-append (58 ∷ []) _ (IsUtf8-are_ascii (58 ∷ []) refl) (IsUtf8-append (canonical p) _ (IsUtf8-canonical p h.2) (utf8_members true ms h.3))))

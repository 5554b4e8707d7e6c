-- A walk over the canonical text of a value passes exactly that text.
use Rattle.std.proofs.Common.{◌≡◌, ◌∙◌, ℕ, ◌+◌, ◌-◌, Bool, true, false, not, cond, List, [], ◌∷◌, ◌++◌, length, take, refl, ap, arith, append_assoc, length-append, ◌≤◌, max, Option, Some, None, option_map, option_and_then, Ok, IfSome, sym, subst, if◌then◌else◌}
use Rattle.std.proofs.Math.Seq.{take-append_seam}
use Rattle.std.proofs.lemmas.Bool.Decides.{nat_tests}
use Rattle.std.specs.List.{flat_map}
use Rattle.std.specs.Ordering.{match_ordering}
use Rattle.std.specs.Prelude.{◌&&◌, ◌==◌, ◌/◌, ◌%◌, nat_lt, suc, pos, negsuc}
use Rattle.std.specs.Str.{is_utf8}
use Rattle.json.specs.Tree as tree
use Rattle.serde_json.proofs.Nesting.{depth-read}
use Rattle.serde_json.specs.Data.{Data}
use Rattle.serde_json.specs.Data as data'
use Rattle.serde_json.specs.Read.{read}
use Rattle.serde_json.specs.Written.{outline, items_outline, members_outline}
use Rattle.st_plain.proofs.ReadableLemmas.{back_within_outline, whole_from}
use Rattle.st_plain.proofs.Compact.{data_of, items_data, members_data}
use Rattle.st_plain.proofs.NameLemmas.{by_order}
use Rattle.st_plain.proofs.ScalarLemmas.{scalar_null, scalar_true, scalar_false, scalar_whole, behind_value-scalar, brackets-scalar}
use Rattle.st_plain.specs.Plain.{canonical, canonical_items, canonical_members, comma, escape, hex_digit, quoted, Plain, null, boolean, whole, text, list, object, Items, no_items, item, Members, no_members, member, IsProper, ItemsAreProper, MembersAreProper}
use Rattle.st_plain.specs.Measures.{nests, items_nest, members_nest}
use Rattle.st_plain.specs.Objects.{put}
use Rattle.st_plain.specs.Names.{name_cmp}
use Rattle.st_plain.specs.ReadAgain.{IsReadAgain, value_read, can_follow}
use Rattle.st_plain.specs.Shapes.{json_of, json_of_data, whole_items, whole_members, whole_number, whole_value}
use Rattle.st_plain.specs.inside.Walk.{outside, in_text, behind_brackets, behind_text, behind_value}

-- ---- texts

-- how a text writes a byte: as itself, two bytes, or six
pub data IsEscape : ℕ → List ℕ → Type 0 where
  bare : (b : ℕ) → (b == 34) ≡ false → (b == 92) ≡ false → IsEscape b (b ∷ [])
  short : (b c : ℕ) → IsEscape b (92 ∷ c ∷ [])
  long : (b h l : ℕ) → ((h == 34) ≡ false) × ((h == 92) ≡ false) → ((l == 34) ≡ false) × ((l == 92) ≡ false) → IsEscape b (92 ∷ 117 ∷ 48 ∷ 48 ∷ h ∷ l ∷ [])

pub either_way : (P : List ℕ → Type 0) (t : Bool) (x y : List ℕ) → (t ≡ true → P x) → (t ≡ false → P y) → P (cond t x y)
either_way P true x y first second = first refl
either_way P false x y first second = second refl

hex_apart : (d : ℕ) → ((hex_digit d == 34) ≡ false) × ((hex_digit d == 92) ≡ false)
hex_apart d = (grind (arith, nat_tests), grind (arith, nat_tests))

pub escape_is : (b : ℕ) → IsEscape b (escape b)
unfolding escape
escape_is b =
    either_way (IsEscape b) (b == 34) _ _ (λ _. short b 34) (λ quote.
    either_way (IsEscape b) (b == 92) _ _ (λ _. short b 92) (λ back.
    either_way (IsEscape b) (b == 8) _ _ (λ _. short b 98) (λ _.
    either_way (IsEscape b) (b == 9) _ _ (λ _. short b 116) (λ _.
    either_way (IsEscape b) (b == 10) _ _ (λ _. short b 110) (λ _.
    either_way (IsEscape b) (b == 12) _ _ (λ _. short b 102) (λ _.
    either_way (IsEscape b) (b == 13) _ _ (λ _. short b 114) (λ _.
    either_way (IsEscape b) (nat_lt b 32) _ _ (λ _. long b _ _ (hex_apart (b / 16)) (hex_apart (b % 16))) (λ _. bare b quote back))))))))

past_escape : (b : ℕ) (bytes rest : List ℕ) → IsEscape b bytes → behind_text false (bytes ++ rest) ≡ behind_text false rest
unfolding behind_text
past_escape b bytes rest (bare _ quote back) = rw (quote, back) refl
past_escape b bytes rest (short _ c) = refl
past_escape b bytes rest (long _ h l high low) = rw (high.0, high.1, low.0, low.1) refl

pub behind_text-text : (t rest : List ℕ) → behind_text false (flat_map escape t ++ 34 ∷ rest) ≡ rest
unfolding behind_text
behind_text-text [] rest = refl
behind_text-text (b ∷ t) rest =
    ap (behind_text false) (append_assoc (escape b) (flat_map escape t) (34 ∷ rest))
    ∙ past_escape b (escape b) (flat_map escape t ++ 34 ∷ rest) (escape_is b)
    ∙ behind_text-text t rest

-- among brackets a text is skipped as by itself
pub brackets_behind_text : (depth : ℕ) (escaped : Bool) (bytes : List ℕ)
    → behind_brackets depth (in_text escaped) bytes ≡ behind_brackets depth outside (behind_text escaped bytes)
unfolding behind_brackets behind_text
brackets_behind_text depth escaped [] = refl
brackets_behind_text depth escaped (b ∷ bs) =
    let later = brackets_behind_text depth (not escaped && b == 92) bs in
    elim (not escaped && b == 34) as (λ t. cond t (behind_brackets depth outside bs) (behind_brackets depth (in_text (not escaped && b == 92)) bs)
    ≡ behind_brackets depth outside (cond t bs (behind_text (not escaped && b == 92) bs))) [ true ↦ refl | false ↦ later ]

-- ---- among brackets

-- a walk among brackets passes it at any depth, and has the same depth after it
abbrev IsPassed : List ℕ → Type 0
IsPassed bytes = (depth : ℕ) (rest : List ℕ) → behind_brackets depth outside (bytes ++ rest) ≡ behind_brackets depth outside rest

passed-append : (xs ys : List ℕ) → IsPassed xs → IsPassed ys → IsPassed (xs ++ ys)
passed-append xs ys first second depth rest =
    ap (behind_brackets depth outside) (append_assoc xs ys rest) ∙ first depth (ys ++ rest) ∙ second depth rest

passed-text : (t : List ℕ) → IsPassed (quoted t)
unfolding behind_brackets
passed-text t depth rest =
    ap (behind_brackets depth (in_text false)) (append_assoc (flat_map escape t) (34 ∷ []) rest)
    ∙ brackets_behind_text depth false (flat_map escape t ++ 34 ∷ rest)
    ∙ ap (behind_brackets depth outside) (behind_text-text t rest)

passed-comma : (b : Bool) → IsPassed (comma b)
unfolding behind_brackets
passed-comma false depth rest = refl
passed-comma true depth rest = refl

passed-colon : (bytes : List ℕ) → IsPassed bytes → IsPassed (58 ∷ bytes)
unfolding behind_brackets
passed-colon bytes passed depth rest = passed depth rest

closed : (depth : ℕ) (rest : List ℕ)
    → cond ((depth + 1) == 0) rest (behind_brackets ((depth + 1) - 1) outside rest) ≡ behind_brackets depth outside rest
closed depth rest =
    let apart : ((depth + 1) == 0) ≡ false = grind (arith, nat_tests) in
    let back : (depth + 1) - 1 ≡ depth = omega arith in
    rw (apart, back) refl

passed-list : (inside : List ℕ) → IsPassed inside → IsPassed (91 ∷ (inside ++ 93 ∷ []))
unfolding behind_brackets
passed-list inside passed depth rest =
    ap (behind_brackets (depth + 1) outside) (append_assoc inside (93 ∷ []) rest) ∙ passed (depth + 1) (93 ∷ rest) ∙ closed depth rest

passed-object : (inside : List ℕ) → IsPassed inside → IsPassed (123 ∷ (inside ++ 125 ∷ []))
unfolding behind_brackets
passed-object inside passed depth rest =
    ap (behind_brackets (depth + 1) outside) (append_assoc inside (125 ∷ []) rest) ∙ passed (depth + 1) (125 ∷ rest) ∙ closed depth rest

mutual
  passed : (p : Plain) → IsProper p → IsPassed (canonical p)
  passed null proper = λ depth rest. brackets-scalar depth (canonical null) rest scalar_null
  passed (boolean true) proper = λ depth rest. brackets-scalar depth (canonical (boolean true)) rest scalar_true
  passed (boolean false) proper = λ depth rest. brackets-scalar depth (canonical (boolean false)) rest scalar_false
  passed (whole z) proper = λ depth rest. brackets-scalar depth (canonical (whole z)) rest (scalar_whole z proper)
  passed (text t) proper = passed-text t
  passed (list ps) proper = passed-list (canonical_items false ps) (passed_items false ps proper)
  passed (object ms) proper = passed-object (canonical_members false ms) (passed_members false ms proper)

  passed_items : (b : Bool) (ps : Items) → ItemsAreProper ps → IsPassed (canonical_items b ps)
  passed_items b no_items proper = λ depth rest. refl
  passed_items b (item p ps) proper =
      passed-append (comma b) _ (passed-comma b) (passed-append (canonical p) _ (passed p proper.0) (passed_items true ps proper.1))

  passed_members : (b : Bool) (ms : Members) → MembersAreProper ms → IsPassed (canonical_members b ms)
  passed_members b no_members proper = λ depth rest. refl
  passed_members b (member n p ms) proper =
      let behind = passed-append (canonical p) _ (passed p proper.2) (passed_members true ms proper.3) in
      passed-append (comma b) _ (passed-comma b) (passed-append (quoted n) _ (passed-text n) (passed-colon _ behind))

-- ---- by itself

closed_list : (inside rest : List ℕ) → IsPassed inside → behind_brackets 0 outside ((inside ++ 93 ∷ []) ++ rest) ≡ rest
unfolding behind_brackets
closed_list inside rest inside_passed =
    ap (behind_brackets 0 outside) (append_assoc inside (93 ∷ []) rest) ∙ inside_passed 0 (93 ∷ rest)

closed_object : (inside rest : List ℕ) → IsPassed inside → behind_brackets 0 outside ((inside ++ 125 ∷ []) ++ rest) ≡ rest
unfolding behind_brackets
closed_object inside rest inside_passed =
    ap (behind_brackets 0 outside) (append_assoc inside (125 ∷ []) rest) ∙ inside_passed 0 (125 ∷ rest)

pub behind_value-canonical : (p : Plain) (rest : List ℕ) → IsProper p → can_follow rest ≡ true → behind_value (canonical p ++ rest) ≡ rest
unfolding behind_value
behind_value-canonical null rest proper follow = behind_value-scalar (canonical null) rest scalar_null follow
behind_value-canonical (boolean true) rest proper follow = behind_value-scalar (canonical (boolean true)) rest scalar_true follow
behind_value-canonical (boolean false) rest proper follow = behind_value-scalar (canonical (boolean false)) rest scalar_false follow
behind_value-canonical (whole z) rest proper follow = behind_value-scalar (canonical (whole z)) rest (scalar_whole z proper) follow
behind_value-canonical (text t) rest proper follow =
    ap (behind_text false) (append_assoc (flat_map escape t) (34 ∷ []) rest) ∙ behind_text-text t rest
behind_value-canonical (list ps) rest proper follow = closed_list (canonical_items false ps) rest (passed_items false ps proper)
behind_value-canonical (object ms) rest proper follow = closed_object (canonical_members false ms) rest (passed_members false ms proper)

-- the text before a rest that was found
pub cut_before : (all front rest found : List ℕ) → all ≡ front ++ rest → found ≡ rest → take (length all - length found) all ≡ front
cut_before all front rest found parts same =
    let size : length all - length found ≡ length front = omega (arith, ap length parts, ap length same, length-append front rest) in
    ap (λ n. take n all) size ∙ ap (take (length front)) parts ∙ take-append_seam front rest

-- ---- A value that was read nests no deeper than the reader allows, so its canonical text and that of each part are read
-- again.

-- ---- the brackets of the text nest as deep as the value does
mutual
  outline_nests : (p : Plain) → tree.depth (outline (data_of p)) ≤ nests p
  outline_nests null = omega arith
  outline_nests (boolean b) = omega arith
  outline_nests (whole (pos n)) = omega arith
  outline_nests (whole (negsuc n)) = omega arith
  outline_nests (text t) = omega arith
  outline_nests (list ps) = omega (arith, items_outline_nest ps)
  outline_nests (object ms) = omega (arith, members_outline_nest ms)

  items_outline_nest : (ps : Items) → tree.items_depth (items_outline (items_data ps)) ≤ items_nest ps
  items_outline_nest no_items = omega arith
  items_outline_nest (item p ps) = omega (arith, outline_nests p, items_outline_nest ps)

  members_outline_nest : (ms : Members) → tree.members_depth (members_outline (members_data ms)) ≤ members_nest ms
  members_outline_nest no_members = omega arith
  members_outline_nest (member n p ms) = omega (arith, outline_nests p, members_outline_nest ms)

pub back_within : (p : Plain) → IsProper p → nests p ≤ 127 → json_of (canonical p) ≡ Ok p
back_within p proper within = back_within_outline p proper (omega (arith, outline_nests p, within))

-- ---- a whole value nests no deeper than its data

chained : {A B : Type 0} (P : A → Type 0) (Q : B → Type 0) (f : A → Option B) (there : Option A) → IfSome there P
    → ((a : A) → P a → IfSome (f a) Q) → IfSome (option_and_then f there) Q
chained P Q f None holds next = tt
chained P Q f (Some a) holds next = next a holds

any_mapped : {A B : Type 0} (Q : B → Type 0) (f : A → B) (there : Option A) → ((a : A) → Q (f a)) → IfSome (option_map f there) Q
any_mapped Q f None all = tt
any_mapped Q f (Some a) all = all a

put_within : (k : List ℕ) (p : Plain) (ms : Members) (n : ℕ) → nests p ≤ n → members_nest ms ≤ n → members_nest (put k p ms) ≤ n
put_within k p no_members n one all = omega (arith, one, all)
put_within k p (member l q ms) n one all =
    by_order (λ o. members_nest (match_ordering o (member k p (member l q ms)) (member k p ms) (member l q (put k p ms))) ≤ n) (name_cmp k l)
    (λ is. omega (arith, one, all)) (λ is. omega (arith, one, all))
    (λ is. let rest = put_within k p ms n one (omega (arith, all)) in omega (arith, all, rest))

mutual
  whole_within : (d : Data) → IfSome (whole_value d) (λ p. nests p ≤ data'.depth d)
  whole_within data'.null = omega arith
  whole_within (data'.boolean b) = omega arith
  whole_within (data'.number n) = any_mapped (λ p. nests p ≤ 0) whole (whole_number n) (λ z. omega arith)
  whole_within (data'.string s) = omega arith
  whole_within (data'.array ds) =
      chained (λ ps. items_nest ps ≤ data'.items_depth ds) (λ p. nests p ≤ suc (data'.items_depth ds)) (λ ps. Some (list ps)) (whole_items ds) (items_within ds)
      (λ ps within. omega (arith, within))
  whole_within (data'.object ms) =
      chained (λ qs. members_nest qs ≤ data'.members_depth ms) (λ p. nests p ≤ suc (data'.members_depth ms)) (λ qs. Some (object qs)) (whole_members ms)
      (members_within ms)
      (λ qs within. omega (arith, within))

  items_within : (ds : data'.Items) → IfSome (whole_items ds) (λ ps. items_nest ps ≤ data'.items_depth ds)
  items_within data'.no_items = omega arith
  items_within (data'.item d ds) =
      chained (λ p. nests p ≤ data'.depth d) (λ ps. items_nest ps ≤ max (data'.depth d) (data'.items_depth ds)) (λ p. option_map (item p) (whole_items ds))
      (whole_value d) (whole_within d)
      (λ p one. chained (λ ps. items_nest ps ≤ data'.items_depth ds) (λ ps. items_nest ps ≤ max (data'.depth d) (data'.items_depth ds))
      (λ ps. Some (item p ps)) (whole_items ds) (items_within ds)
      (λ ps all. omega (arith, one, all)))

  members_within : (ms : data'.Members) → IfSome (whole_members ms) (λ qs. members_nest qs ≤ data'.members_depth ms)
  members_within data'.no_members = omega arith
  members_within (data'.member k d ms) =
      chained (λ p. nests p ≤ data'.depth d) (λ qs. members_nest qs ≤ max (data'.depth d) (data'.members_depth ms))
      (λ p. option_map (put k p) (whole_members ms)) (whole_value d) (whole_within d)
      (λ p one. chained (λ qs. members_nest qs ≤ data'.members_depth ms) (λ qs. members_nest qs ≤ max (data'.depth d) (data'.members_depth ms))
      (λ qs. Some (put k p qs)) (whole_members ms) (members_within ms)
      (λ qs all. put_within k p qs (max (data'.depth d) (data'.members_depth ms)) (omega (arith, one)) (omega (arith, all))))

-- ---- values that were read

of_data : (bytes : List ℕ) (utf8 : Bool) (p : Plain) → json_of_data (if utf8 then read bytes else None) ≡ Ok p
    → (d : Data) × (read bytes ≡ Some d) × (whole_value d ≡ Some p)
of_data bytes false p gives = cc
of_data bytes true p gives = found (read bytes) refl gives where
  found : (o : Option Data) → read bytes ≡ o → json_of_data o ≡ Ok p → (d : Data) × (read bytes ≡ Some d) × (whole_value d ≡ Some p)
  found None is gives = cc
  found (Some d) is gives = (d, is, whole_from (whole_value d) p gives)

pub nests_of_read : (bytes : List ℕ) (p : Plain) → json_of bytes ≡ Ok p → nests p ≤ 127
nests_of_read bytes p gives =
    let made = of_data bytes (is_utf8 bytes) p gives in
    let deep = depth-read bytes made.0 made.1 in
    let within = subst (λ o. IfSome o (λ q. nests q ≤ data'.depth made.0)) made.2 (whole_within made.0) in
    omega (arith, deep, within)

-- the canonical text of a value that was read is read as that value
pub read_again : (bytes written : List ℕ) (p : Plain) → IsProper p → json_of bytes ≡ Ok p → written ≡ canonical p
    → IsReadAgain written × (json_of bytes ≡ Ok (value_read (json_of written)))
read_again bytes written p proper is same =
    let again : json_of written ≡ Ok p = ap json_of same ∙ back_within p proper (nests_of_read bytes p is) in
    rw again ((proper, refl, sym same), is)

-- Members in a text: their names, their order, and that both stay while the text grows.
use Rattle.std.proofs.Common.{◌≡◌, ℕ, ◌+◌, ◌-◌, ◌*◌, ◌/◌, ◌%◌, ◌<◌, ◌≤◌, ◌==◌, ◌⊎◌, inl, inr, nat_lt, cond, Bool, true, false, List, [], ◌∷◌, ◌++◌, drop, length, map, Some, None, is_eq, refl, sym, ap, ap₂, ◌∙◌, subst, arith, append_assoc}
use Rattle.std.specs.Prelude.{take}
use Rattle.std.specs.List.{AllByRecursion, flat_map}
use Rattle.std.specs.Str.{IsUtf8}
use Rattle.std.proofs.lemmas.Bool.{and_parts, false_from_ne_true, eqb-true}
use Rattle.std.proofs.lemmas.Bool.Decides.{nat_tests}
use Rattle.std.proofs.lemmas.List.{drop_at, take_at}
use Rattle.st_plain.specs.Plain.{escape, hex_digit, quoted}
use Rattle.st_plain.specs.Objects.{digit_of, name_in}
use Rattle.st_plain.specs.inside.Objects.{IsHeld, between, entry_at, is_again, name_at, once, ranks_cmp, firsts, is_same}
use Rattle.st_plain.specs.Names.{name_cmp}
use Rattle.st_plain.specs.inside.Respelled.{HasNoMark, mark}
use Rattle.st_plain.proofs.RankLemmas.{names_ranked}
use Rattle.st_plain.proofs.WalkLemmas.{either_way}
use lib.Utf8.{encode, encodes, next, scalar, scalars, scalar_cases}

-- ---- no text has the mark

apart : (b : ℕ) → b < 255 → (b == mark) ≡ false
apart b small = false_from_ne_true (b == mark) (λ same. let is = eqb-true b mark same in omega (arith, small, is))

none_both : (xs ys : List ℕ) → HasNoMark xs → HasNoMark ys → HasNoMark (xs ++ ys)
none_both [] ys first second = second
none_both (x ∷ xs) ys first second = (first.0, none_both xs ys first.1 second)

pub has_no_left : (xs ys : List ℕ) → HasNoMark (xs ++ ys) → HasNoMark xs
has_no_left [] ys none = tt
has_no_left (x ∷ xs) ys none = (none.0, has_no_left xs ys none.1)

pub has_no_right : (xs ys : List ℕ) → HasNoMark (xs ++ ys) → HasNoMark ys
has_no_right [] ys none = none
has_no_right (x ∷ xs) ys none = has_no_right xs ys none.1

-- the bytes of a character
none_chosen : (c : ℕ) (one two three : Bool) → nat_lt c 128 ≡ one → nat_lt c 2048 ≡ two → nat_lt c 65536 ≡ three → c < 1114112
    → HasNoMark (cond one (c ∷ []) (cond two ((192 + c / 64) ∷ next c ∷ [])
    (cond three ((224 + c / 4096) ∷ next (c / 64) ∷ next c ∷ []) ((240 + c / 262144) ∷ next (c / 4096) ∷ next (c / 64) ∷ next c ∷ []))))
none_chosen c true two three e f g small =
    let low : c < 128 = grind (arith, nat_tests) in
    (apart _ (omega arith), tt)
none_chosen c false true three e f g small =
    let low : c < 2048 = grind (arith, nat_tests) in
    (apart _ (omega arith), (apart _ (omega arith), tt))
none_chosen c false false true e f g small =
    let low : c < 65536 = grind (arith, nat_tests) in
    (apart _ (omega arith), (apart _ (omega arith), (apart _ (omega arith), tt)))
none_chosen c false false false e f g small = (apart _ (omega arith), (apart _ (omega arith), (apart _ (omega arith), (apart _ (omega arith), tt))))

none_one : (c : ℕ) → c < 1114112 → HasNoMark (encode c)
unfolding encode
none_one c small = none_chosen c (nat_lt c 128) (nat_lt c 2048) (nat_lt c 65536) refl refl refl small

small_scalar : (c : ℕ) → (c < 55296) ⊎ ((57344 ≤ c) × (c < 1114112)) → c < 1114112
small_scalar c (inl low) = omega arith
small_scalar c (inr high) = high.1

none_all : (cs : List ℕ) → scalars cs ≡ true → HasNoMark (encodes cs)
none_all [] e = tt
none_all (c ∷ cs) e =
    let parts = and_parts (scalar c) (scalars cs) e in
    none_both (encode c) (encodes cs) (none_one c (small_scalar c (scalar_cases c parts.0))) (none_all cs parts.1)

pub no_mark : (text : List ℕ) → IsUtf8 text → HasNoMark text
no_mark text utf8 = subst HasNoMark utf8.1.1 (none_all utf8.0 utf8.1.0)

-- ---- names, as a text escapes them

digit_is : (d : ℕ) (low : Bool) → nat_lt d 10 ≡ low → d < 16 → digit_of (hex_digit d) ≡ d
digit_is d true is small =
    let less : d < 10 = grind (arith, nat_tests) in
    let digit : nat_lt (48 + d) 58 ≡ true = grind (arith, nat_tests) in
    rw (is, digit) (omega arith)
digit_is d false is small =
    let more : 10 ≤ d = grind (arith, nat_tests) in
    let letter : nat_lt (87 + d) 58 ≡ false = grind (arith, nat_tests) in
    rw (is, letter) (omega arith)

high_is : (d : ℕ) → d < 2 → hex_digit d ≡ 48 + d
high_is d small = let low : nat_lt d 10 ≡ true = grind (arith, nat_tests) in rw low refl

control_is : (b : ℕ) → b < 32 → (hex_digit (b / 16) % 2) * 16 + digit_of (hex_digit (b % 16)) ≡ b
control_is b small =
    let high = high_is (b / 16) (omega arith) in
    let low = digit_is (b % 16) (nat_lt (b % 16) 10) refl (omega arith) in
    rw (high, low) (omega arith)

past_byte : (b : ℕ) (x : List ℕ) → name_in (escape b ++ x) ≡ b ∷ name_in x
unfolding escape
past_byte b x =
    let P : List ℕ → Type 0 = λ bytes. name_in (bytes ++ x) ≡ b ∷ name_in x in
    let is : (c : ℕ) → (b == c) ≡ true → c ∷ name_in x ≡ b ∷ name_in x = λ c e. ap (λ d. d ∷ name_in x) (sym (eqb-true b c e)) in
    either_way P (b == 34) _ _ (is 34) (λ quote.
    either_way P (b == 92) _ _ (is 92) (λ back.
    either_way P (b == 8) _ _ (is 8) (λ _.
    either_way P (b == 9) _ _ (is 9) (λ _.
    either_way P (b == 10) _ _ (is 10) (λ _.
    either_way P (b == 12) _ _ (is 12) (λ _.
    either_way P (b == 13) _ _ (is 13) (λ _.
    either_way P (nat_lt b 32) _ _ (λ low. ap (λ d. d ∷ name_in x) (control_is b (grind (arith, nat_tests)))) (λ _. rw (quote, back) refl))))))))

pub name_is : (k rest : List ℕ) → name_in (flat_map escape k ++ 34 ∷ rest) ≡ k
name_is [] rest = refl
name_is (b ∷ k) rest =
    ap name_in (append_assoc (escape b) (flat_map escape k) (34 ∷ rest)) ∙ past_byte b (flat_map escape k ++ 34 ∷ rest)
    ∙ ap (λ l. b ∷ l) (name_is k rest)

-- ---- what a text holds

behind_held : (text : List ℕ) (place : ℕ × ℕ) (held : IsHeld text place)
    → drop place.0 text ≡ (quoted held.name ++ held.inside) ++ held.rest
behind_held text place held =
    ap (λ n. drop n text) held.begins ∙ ap (drop (length held.front)) held.is
    ∙ drop_at held.front ((quoted held.name ++ held.inside) ++ held.rest) (length held.front) refl

name_held : (text : List ℕ) (place : ℕ × ℕ) (held : IsHeld text place) → name_at text place.0 ≡ held.name
unfolding name_at
name_held text place held =
    let here = behind_held text place held
    ∙ append_assoc (quoted held.name) held.inside held.rest ∙ append_assoc (34 ∷ flat_map escape held.name) (34 ∷ []) (held.inside ++ held.rest) in
    ap (λ t. name_in (drop 1 t)) here ∙ name_is held.name (held.inside ++ held.rest)

pub entry_held : (text : List ℕ) (place : ℕ × ℕ) (held : IsHeld text place) → entry_at text place ≡ (held.name, quoted held.name ++ held.inside)
unfolding between
entry_held text place held =
    let all = quoted held.name ++ held.inside in
    let size : length all ≡ place.1 - place.0 = omega (arith, held.begins, held.ends) in
    ap₂ (λ name bytes. (name, bytes)) (name_held text place held)
    (ap (take (place.1 - place.0)) (behind_held text place held) ∙ take_at all held.rest (place.1 - place.0) size)

-- ---- the order of the names in a text

abbrev pub IsNamed : List ℕ → ℕ × ℕ → Type 0
IsNamed text place = IsUtf8 (name_at text place.0)

named_held : (text : List ℕ) (place : ℕ × ℕ) → IsHeld text place → IsNamed text place
named_held text place held = subst IsUtf8 (sym (name_held text place held)) held.utf8

pub held_order : (text : List ℕ) (first second : ℕ × ℕ) → IsHeld text first → IsHeld text second
    → ranks_cmp (name_at text first.0) (name_at text second.0) ≡ name_cmp (name_at text first.0) (name_at text second.0)
held_order text first second a b =
    sym (names_ranked (name_at text first.0) (name_at text second.0) (named_held text first a) (named_held text second b))

-- the members that are written, and the first of each name
module _ (text : List ℕ) where
  once_at : (again : Bool) (p : ℕ × ℕ) (ls ms : List (List ℕ)) (fs gs : List (List ℕ × List ℕ)) → ls ≡ map (λ e. e.1) fs → ms ≡ map (λ e. e.1) gs
      → cond again ls (between text p ∷ ms) ≡ map (λ e. e.1) (cond again fs (entry_at text p ∷ gs))
  once_at true p ls ms fs gs first second = first
  once_at false p ls ms fs gs first second = ap (λ l. between text p ∷ l) second

  once_after : (l : ℕ × ℕ) (places : List (ℕ × ℕ)) → IsHeld text l → AllByRecursion (IsHeld text) places
      → once text (Some l.0) places ≡ map (λ e. e.1) (firsts (Some (name_at text l.0)) (map (entry_at text) places))
  once_after l [] last held = refl
  once_after l (p ∷ ps) last held =
      let same : is_again text (Some l.0) p.0 ≡ is_same (Some (name_at text l.0)) (name_at text p.0) = ap is_eq (held_order text l p last held.0) in
      once_at (is_again text (Some l.0) p.0) p _ _ _ _ (once_after l ps last held.1) (once_after p ps held.0 held.1)
      ∙ ap (λ t. map (λ e. e.1) (cond t (firsts (Some (name_at text l.0)) (map (entry_at text) ps))
      (entry_at text p ∷ firsts (Some (name_at text p.0)) (map (entry_at text) ps)))) same

  pub once_held : (places : List (ℕ × ℕ)) → AllByRecursion (IsHeld text) places
      → once text None places ≡ map (λ e. e.1) (firsts None (map (entry_at text) places))
  once_held [] held = refl
  once_held (p ∷ ps) held = ap (λ l. between text p ∷ l) (once_after p ps held.0 held.1)

-- ---- a text that is appended to

module _ (old new more : List ℕ) (grown : new ≡ old ++ more) where
  held_stays : (place : ℕ × ℕ) → IsHeld old place → IsHeld new place
  held_stays place held = record {
    front = held.front;
    name = held.name;
    inside = held.inside;
    rest = held.rest ++ more;
    is = grown ∙ ap (λ t. t ++ more) held.is ∙ append_assoc held.front ((quoted held.name ++ held.inside) ++ held.rest) more
        ∙ ap (λ t. held.front ++ t) (append_assoc (quoted held.name ++ held.inside) held.rest more);
    begins = held.begins;
    ends = held.ends;
    utf8 = held.utf8;
  }

  pub all_stay : (places : List (ℕ × ℕ)) → AllByRecursion (IsHeld old) places → AllByRecursion (IsHeld new) places
  all_stay [] held = tt
  all_stay (place ∷ places) held = (held_stays place held.0, all_stay places held.1)

  pub entries_stay : (places : List (ℕ × ℕ)) → AllByRecursion (IsHeld old) places → map (entry_at new) places ≡ map (entry_at old) places
  unfolding held_stays
  entries_stay [] held = refl
  entries_stay (place ∷ places) held =
      ap₂ (λ e es. e ∷ es) (entry_held new place (held_stays place held.0) ∙ sym (entry_held old place held.0)) (entries_stay places held.1)

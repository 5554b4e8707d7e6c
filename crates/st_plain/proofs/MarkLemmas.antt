-- Inside a text, the bytes before the first quotation mark or backslash are skipped at once.
use Rattle.std.proofs.Common.{◌≡◌, ◌∙◌, ℕ, zero, suc, ◌+◌, ◌<◌, ◌≤◌, Bool, true, false, List, [], ◌∷◌, length, drop, Some, None, refl, ap, arith, add-one, drop-cons, ◌*◌, ◌%◌, ◌^◌, not, cond, map, replicate, bit_or, sym, inl, inr, ◌++◌, take, get_or-take}
use Rattle.std.proofs.lemmas.Bool.{false_from_ne_true, cases_eq}
use Rattle.std.proofs.lemmas.List.{drop_all, length-drop, length-map, length-take-le, take-append-drop}
use Rattle.std.proofs.lemmas.List.Concat.{flat_map-append}
use Rattle.std.proofs.lemmas.List.Sums.{prefix_len-le-length}
use Rattle.std.proofs.lemmas.Simd.{length-chunk, mask_l-mod, none_from_empty_mask, run_in_chunk_fails, run_in_chunk_stops, zip2_of_maps, zip2_splat}
use Rattle.std.specs.List.{prefix_len, flat_map}
use Rattle.std.specs.Prelude.{◌==◌, ◌||◌, slice_index, nat_lt}
use Rattle.std.specs.Simd.Lanes.{chunk, mask_l, top, zip2}
use Rattle.json.proofs.Printed.Plain.{escape_on_plain}
use Rattle.json.specs.Run.{is_stop, is_plain}
use Rattle.json.specs.Written.{PlainBetween}
use Rattle.memchr.specs.Find.{IsFirstByte, is_byte2}
use Rattle.st_plain.proofs.Compact.{same_escapes}
use Rattle.st_plain.specs.Plain.{escape}
use Rattle.st_plain.specs.inside.Walk.{IsNextMark, behind_text}

neither : (x y : Bool) → (x || y) ≡ false → (x ≡ false) × (y ≡ false)
neither true y e = cc
neither false y e = (refl, e)

-- a byte that is no mark is skipped
past_byte : (b : ℕ) (bs : List ℕ) → is_byte2 34 92 b ≡ false → behind_text false (b ∷ bs) ≡ behind_text false bs
unfolding behind_text
past_byte b bs other =
    let apart = neither (b == 34) (b == 92) other in
    rw (apart.0, apart.1) refl

pub past_bytes : (at : ℕ) (bytes : List ℕ) → at ≤ length bytes → ((k : ℕ) → k < at → is_byte2 34 92 (slice_index bytes k) ≡ false)
    → behind_text false bytes ≡ behind_text false (drop at bytes)
past_bytes zero bytes within others = refl
past_bytes (suc at) [] within others = refl
past_bytes (suc at) (b ∷ bs) within others =
    past_byte b bs (others 0 (omega arith)) ∙ past_bytes at bs (omega (arith, within)) (λ k below. others (suc k) (omega (arith, below)))

-- the search finds the next mark
pub found_mark : (bytes : List ℕ) (at : ℕ) → IsFirstByte (is_byte2 34 92) bytes (Some at)
    → IsNextMark bytes (slice_index bytes at) (drop (at + 1) bytes)
found_mark bytes at first =
    let high : at < length bytes = first.0.high in
    let others : (k : ℕ) → k < at → is_byte2 34 92 (slice_index bytes k) ≡ false =
    λ k below. false_from_ne_true _ (first.0.before k (omega arith) below) in
    let here : drop at bytes ≡ slice_index bytes at ∷ drop (at + 1) bytes = drop-cons bytes at 0 high ∙ rw add-one refl in
    record {
      passed = past_bytes at bytes (omega (arith, high)) others ∙ ap (behind_text false) here;
      is = first.1;
      shorter = let left = length-drop (at + 1) bytes in omega (arith, left, high);
    }

pub no_mark : (bytes : List ℕ) → IsFirstByte (is_byte2 34 92) bytes None → behind_text false bytes ≡ []
unfolding behind_text
no_mark bytes none =
    past_bytes (length bytes) bytes (omega arith) (λ k below. false_from_ne_true _ (none k (omega arith) below))
    ∙ ap (behind_text false) (drop_all (length bytes) bytes (omega arith))

-- ---- Bytes of a text that are searched in one step for quotation marks and backslashes.

-- ---- the mask

abbrev pub hit : ℕ → ℕ → ℕ
hit a b = cond (a == b) 255 0

either : (s t : Bool) → top 7 (bit_or (cond s 255 0) (cond t 255 0)) ≡ s || t
either true true = refl
either true false = refl
either false true = refl
either false false = refl

module _ (a b : ℕ) where
  each : (xs : List ℕ) → map (top 7) (map (λ x. bit_or (hit x a) (hit x b)) xs) ≡ map (is_byte2 a b) xs
  each [] = refl
  each (x ∷ xs) = λ i. either (x == a) (x == b) i ∷ each xs i

  pub lanes_marked : (step : List ℕ) (n : ℕ) → length step ≡ n → n ≤ 64
      → mask_l (map (top 7) (zip2 bit_or (zip2 hit step (replicate n a)) (zip2 hit step (replicate n b)))) % 2 ^ 64 ≡ mask_l (map (is_byte2 a b) step)
  lanes_marked step n long few =
      let lanes = zip2_of_maps bit_or (λ x. hit x a) (λ x. hit x b) step (zip2_splat hit step n a long) (zip2_splat hit step n b long) in
      ap (λ them. mask_l (map (top 7) them) % 2 ^ 64) lanes
      ∙ ap (λ them. mask_l them % 2 ^ 64) (each step)
      ∙ mask_l-mod (map (is_byte2 a b) step) 64 (omega (arith, length-map step (is_byte2 a b), long, few))

-- ---- the first that is set

unset : (b : Bool) (n l m : ℕ) → n ≤ l → cond (not b) (1 + n) 0 ≡ suc l → (n ≡ l → m ≡ 0) → cond b 1 0 + 2 * m ≡ 0
unset true n l m within whole behind = absurd (omega arith)
unset false n l m within whole behind = omega (arith, behind (omega arith))

none_set : (xs : List ℕ) → prefix_len (λ x. not (is_byte2 34 92 x)) xs ≡ length xs → mask_l (map (is_byte2 34 92) xs) ≡ 0
none_set [] whole = refl
none_set (x ∷ xs) whole =
    unset (is_byte2 34 92 x) _ (length xs) _ (prefix_len-le-length (λ y. not (is_byte2 34 92 y)) xs) whole (none_set xs)

pub first_near : (bytes : List ℕ) (n at : ℕ) → n ≤ length bytes → 0 < mask_l (map (is_byte2 34 92) (chunk 0 n bytes))
    → at ≡ prefix_len (λ x. not (is_byte2 34 92 x)) (chunk 0 n bytes) → IsFirstByte (is_byte2 34 92) bytes (Some at)
first_near bytes n at room some counted =
    let long = length-chunk 0 n bytes (omega (arith, room)) in
    let within = prefix_len-le-length (λ x. not (is_byte2 34 92 x)) (chunk 0 n bytes) in
    let short : at < n = elim (cases_eq at n) [
      | inl same ↦ absurd (omega (arith, some, none_set (chunk 0 n bytes) (sym counted ∙ same ∙ sym long)))
      | inr apart ↦ omega (arith, counted, within, long)
    ] in
    let passed = run_in_chunk_fails (is_byte2 34 92) bytes 0 n at 0 (omega (arith, room)) counted in
    let here : 0 + at ≡ at = omega arith in
    let found = run_in_chunk_stops (is_byte2 34 92) bytes 0 n at 0 (omega (arith, room)) counted short in
    let stops = ap (λ k. is_byte2 34 92 (slice_index bytes k)) (sym here) ∙ found in (
      record {
        low = omega arith;
        high = omega (arith, short, room);
        before = λ k low below yes. let no = passed k low (omega (arith, below)) in cc;
      },
      stops,
    )

pub nothing_near : (bytes : List ℕ) (n : ℕ) → n ≤ length bytes → mask_l (map (is_byte2 34 92) (chunk 0 n bytes)) ≡ 0
    → behind_text false bytes ≡ behind_text false (drop n bytes)
nothing_near bytes n room none =
    past_bytes n bytes room (λ k below. none_from_empty_mask (is_byte2 34 92) bytes 0 n 0 (omega (arith, room)) none k (omega arith) (omega (arith, below)))

-- ---- Bytes of a text that are searched in one step for bytes to escape.

abbrev below : ℕ → ℕ → ℕ
below a b = cond (nat_lt a b) 255 0

any : (s t u : Bool) → top 7 (bit_or (bit_or (cond s 255 0) (cond t 255 0)) (cond u 255 0)) ≡ s || t || u
any true true true = refl
any true true false = refl
any true false true = refl
any true false false = refl
any false true true = refl
any false true false = refl
any false false true = refl
any false false false = refl

each_stop : (xs : List ℕ) → map (top 7) (map (λ x. bit_or (bit_or (hit x 34) (hit x 92)) (below x 32)) xs) ≡ map is_stop xs
each_stop [] = refl
each_stop (x ∷ xs) = λ i. any (x == 34) (x == 92) (nat_lt x 32) i ∷ each_stop xs i

pub lanes_stop : (step : List ℕ) (n : ℕ) → length step ≡ n → n ≤ 64
    → mask_l (map (top 7) (zip2 bit_or (zip2 bit_or (zip2 hit step (replicate n 34)) (zip2 hit step (replicate n 92))) (zip2 below step (replicate n 32)))) % 2 ^ 64
    ≡ mask_l (map is_stop step)
lanes_stop step n long few =
    let marks = zip2_of_maps bit_or (λ x. hit x 34) (λ x. hit x 92) step (zip2_splat hit step n 34 long) (zip2_splat hit step n 92 long) in
    let lanes = zip2_of_maps bit_or (λ x. bit_or (hit x 34) (hit x 92)) (λ x. below x 32) step marks (zip2_splat below step n 32 long) in
    ap (λ them. mask_l (map (top 7) them) % 2 ^ 64) lanes
    ∙ ap (λ them. mask_l them % 2 ^ 64) (each_stop step)
    ∙ mask_l-mod (map is_stop step) 64 (omega (arith, length-map step is_stop, long, few))

-- if no bit is set, no byte of the step is escaped
pub all_plain : (bytes : List ℕ) (at n : ℕ) → at + n ≤ length bytes → mask_l (map is_stop (chunk at n bytes)) ≡ 0 → PlainBetween bytes at (at + n)
all_plain bytes at n room none = λ k low high. ap not (none_from_empty_mask is_stop bytes at n 0 room none k low high)

-- else the bytes before the first set bit
pub first_plain : (bytes : List ℕ) (at n span : ℕ) → at + n ≤ length bytes → span ≡ prefix_len (λ x. not (is_stop x)) (chunk at n bytes)
    → PlainBetween bytes at (at + span)
first_plain bytes at n span room counted = λ k low high. ap not (run_in_chunk_fails is_stop bytes at n span 0 room counted k low high)

-- ---- Bytes of a text that need no escape.

-- a prefix without an escaped byte
pub plain_front : (xs : List ℕ) (n : ℕ) → n ≤ length xs → PlainBetween xs 0 n → flat_map escape (take n xs) ≡ take n xs
plain_front xs n within plain =
    let long = length-take-le n xs within in
    let front : PlainBetween (take n xs) 0 (length (take n xs)) = λ k low high. ap is_plain (get_or-take n xs k 0 (omega (arith, long)))
    ∙ plain k low (omega (arith, long)) in
    same_escapes (take n xs) ∙ escape_on_plain true (take n xs) front

-- the prefix unchanged, and the rest escaped
pub span_first : (xs : List ℕ) (n : ℕ) → n ≤ length xs → PlainBetween xs 0 n
    → flat_map escape xs ≡ take n xs ++ flat_map escape (drop n xs)
span_first xs n within plain =
    ap (flat_map escape) (sym (take-append-drop n xs))
    ∙ flat_map-append escape (take n xs) (drop n xs)
    ∙ ap (λ front. front ++ flat_map escape (drop n xs)) (plain_front xs n within plain)

-- The images of a blank disk while it is formatted.
use Rattle.std.proofs.Common.{◌≡◌, ◌∙◌, inl, inr, ⊎_elim, ℕ, List, Err, ap, ◌+◌, ◌<◌, ◌≤◌, Bool, true, false, [], ◌∷◌, ◌++◌, length, get_or, take, drop, replicate, not, Ok, sym, subst, refl, arith, append_assoc, length-append, ◌≢◌, ◌-◌}
use Rattle.std.proofs.Math.Seq.{take-append-add}
use Rattle.std.proofs.lemmas.Bool.{cases_eq}
use Rattle.std.proofs.lemmas.List.{drop-drop, drop-replicate, drop_at, get_or-take, length-drop, length-replicate, length-take-le, replicate-append-replicate, take-replicate, take_at, get_or-drop, take_more, take-append-drop}
use Rattle.st_base.specs.Answers.{holds_or}
use Rattle.st_io.proofs.HistoryLemmas.{then_on, weaker, over, goes_on, le_or_lt}
use Rattle.st_io.specs.Past.{Past, AddsNone, GoesOn, Leaves, AddsNoImage, Images, Follow, KeepsSpent}
use Rattle.st_io.specs.Histories.{Torn, Holds}
use Rattle.st_lms.specs.Tree.{SecretKey, IsSecretKey}
use Rattle.st_vault.proofs.ImageLemmas.{key_of_header-header_of, length-header_of, same_key, IsVault, Parts, kind-blank, unformatted-short, unformatted-shut, nonzero-zeros}
use Rattle.st_vault.proofs.OpeningLemmas.{opened-parts, OpensAs, opens_as, blank-opened, spent_below}
use Rattle.st_vault.proofs.RunLemmas.{next_behind}
use Rattle.st_vault.proofs.SpentLemmas.{spent-whole, spent-none, is_spent, marked, same_front, same_parts}
use Rattle.st_vault.specs.Formatting.{IsBlankOrNew, IsOldOrFresh, IsFresh, IsNew, behind_gate, formatted_image, unformatted, zeros}
use Rattle.st_vault.specs.Image.{IsSpent, header_of, is_formatted, key_in, key_of_header, kind_of, map_in, next_counter, nonzero_from, one_past, open_gate, spent, count_of, new_vault, VaultValue, vault_after}
use Rattle.st_vault.specs.Image.Kind.{Blank}
use Rattle.st_vault.specs.Vault.{AllOpenAs, opened, IsBeforeOrAfter}
use Rattle.st_vault.specs.declared.formatting.FormatRefused.TheVariants.{Formatted}
use Rattle.st_vault.specs.declared.opening.OpenRefused.TheVariants as refused
use Rattle.st_vault.specs.inside.Formatting.{IsFilled, IsOldOrBlank, IsShut}

-- a call that adds no image
pub blank_stays : (key : SecretKey) (a b : Past) → AllOpenAs (Err refused.Blank) a → GoesOn a b → AddsNone a b → Leaves (IsBlankOrNew key) a b
blank_stays key a b all goes none = record { goes = goes; each = λ x left. inl (all x (none x left)) }

old_or_fresh : (key : SecretKey) (old image : List ℕ) → opened old ≡ Err refused.Blank → IsOldOrFresh key old image → IsBlankOrNew key image
old_or_fresh key old image blank = ⊎_elim
    (λ same. inl (ap opened same ∙ blank))
    (λ fresh. ⊎_elim (λ is_blank. inl (blank-opened image is_blank)) (λ new. inr new.opens) fresh.1)

-- and then the steps
pub blank_or_new : (key : SecretKey) (old : List ℕ) (a b c : Past) → opened old ≡ Err refused.Blank → Leaves (IsBlankOrNew key) a b
    → Leaves (IsOldOrFresh key old) b c → Leaves (IsBlankOrNew key) a c
blank_or_new key old a b c blank first second =
    then_on (IsBlankOrNew key) a b c first
    (weaker (IsOldOrFresh key old) (IsBlankOrNew key) b c second (λ x is. old_or_fresh key old x blank is))

-- ---- The effects of the steps of formatting.

-- ---- the gate is shut over a disk of too few bytes

pub shutting : (old image : List ℕ) → length old < 64 → Torn 0 1 old image → IsOldOrBlank old image
shutting old image short torn =
    inr (kind-blank old (unformatted-short old short), kind-blank image (unformatted-short image (omega (arith, short, torn.no_longer))))

pub shut : (old image : List ℕ) → Holds 0 (0 ∷ []) old image → IsShut image
shut old image holds = record {
  there = let long = ap length holds in omega (arith, long);
  gate = λ is. let zero : get_or image 0 0 ≡ 0 = ap (λ l. get_or l 0 0) holds in omega (arith, is, zero);
}

-- ---- everything after it is written

take-front : (n m : ℕ) (xs ys : List ℕ) → n ≡ length xs + m → take n (xs ++ ys) ≡ xs ++ take m ys
take-front n m xs ys is = ap (λ k. take k (xs ++ ys)) is ∙ take-append-add xs ys m

-- the written bytes are a header and zeros
pub row_is : (key : SecretKey) → IsSecretKey key → count_of key ≤ 1024
    → take (63 + count_of key) (header_of key ++ drop 56 (zeros 1087)) ≡ header_of key ++ zeros (7 + count_of key)
unfolding zeros
row_is key known small =
    let header = header_of key in
    let count = count_of key in
    let long = length-header_of key known in
    let behind : drop 56 (replicate 1087 0) ≡ replicate 1031 0 = drop-replicate 56 1087 0 in
    let cut : take (7 + count) (replicate 1031 0) ≡ replicate (7 + count) 0 = take-replicate (7 + count) 1031 0 (omega arith) in
    take-front (63 + count) (7 + count) header (drop 56 (replicate 1087 0)) (omega (arith, long)) ∙ ap (λ l. header ++ take (7 + count) l) behind ∙ ap (λ l. header ++ l) cut

-- a stop leaves the gate shut
pub filling : (n : ℕ) (old image : List ℕ) → IsShut old → Torn 1 n old image → kind_of image ≡ Blank
filling n old image is torn =
    let same : get_or image 0 0 ≡ get_or old 0 0 = sym (get_or-take 1 image 0 0 (omega arith)) ∙ ap (λ l. get_or l 0 0) torn.before ∙ get_or-take 1 old 0 0 (omega arith) in
    kind-blank image (unformatted-shut image (λ gate. is.gate (sym same ∙ gate)))

pub filled : (key : SecretKey) (old image : List ℕ) → IsSecretKey key → IsShut old → Holds 1 (header_of key ++ zeros (7 + count_of key)) old image
    → IsFilled key image
unfolding zeros
filled key old image known is holds =
    let header = header_of key in
    let count = count_of key in
    let seven : List ℕ = replicate 7 0 in
    let map : List ℕ = replicate count 0 in
    let map_long : length map ≡ count = length-replicate {A = ℕ} count 0 in
    let seven_long : length seven ≡ 7 = length-replicate {A = ℕ} 7 0 in
    let bytes = header ++ replicate (7 + count) 0 in
    let rest = drop (1 + length bytes) old in
    let one : length (take 1 old) ≡ 1 = length-take-le 1 old is.there in
    let split : replicate (7 + count) 0 ≡ seven ++ map = sym (replicate-append-replicate 7 count 0) in
    let whole : image ≡ take 1 old ++ (header ++ (seven ++ (map ++ rest)))
    = holds ∙ append_assoc (take 1 old) bytes rest ∙ ap (λ l. take 1 old ++ (header ++ l ++ rest)) split
    ∙ ap (λ l. take 1 old ++ l) (append_assoc header (seven ++ map) rest) ∙ ap (λ l. take 1 old ++ (header ++ l)) (append_assoc seven map rest) in
    let behind : drop 1 image ≡ header ++ (seven ++ (map ++ rest)) = ap (drop 1) whole ∙ drop_at (take 1 old) _ 1 one in
    let after : drop 64 image ≡ map ++ rest
    = sym (drop-drop 63 1 image) ∙ ap (drop 63) behind ∙ sym (drop-drop 7 56 (header ++ (seven ++ (map ++ rest)))) ∙ ap (drop 7) (drop_at header _ 56 (length-header_of key known)) ∙ drop_at seven (map ++ rest) 7 seven_long in
    record {
      known = known;
      long = omega (arith, ap length after, length-drop 64 image, length-append map rest, map_long, ap length behind, length-drop 1 image, length-append header (seven ++ (map ++ rest)), length-header_of key known);
      key_is = ap key_of_header behind ∙ key_of_header-header_of key (seven ++ (map ++ rest)) known;
      map_is = ap (take count) after ∙ take_at map rest count map_long;
    }

-- and the bytes after the gate
pub filled_behind : (key : SecretKey) (old image : List ℕ) → IsSecretKey key → IsShut old → Holds 1 (header_of key ++ zeros (7 + count_of key)) old image
    → drop 1 image ≡ behind_gate key old
unfolding zeros
filled_behind key old image known is holds =
    let count = count_of key in
    let row = header_of key ++ replicate (7 + count) 0 in
    let one : length (take 1 old) ≡ 1 = length-take-le 1 old is.there in
    let zeros_long : length (replicate {A = ℕ} (7 + count) 0) ≡ 7 + count = length-replicate {A = ℕ} (7 + count) 0 in
    let long : 1 + length row ≡ 64 + count = omega (arith, length-append (header_of key) (replicate (7 + count) 0), length-header_of key known, zeros_long) in
    ap (drop 1) (holds ∙ append_assoc (take 1 old) row (drop (1 + length row) old)) ∙ drop_at (take 1 old) _ 1 one ∙ ap (λ n. row ++ drop n old) long

-- ---- the gate is opened

next_none : (image : List ℕ) → spent image ≡ [] → next_counter image ≡ 0
unfolding next_counter
next_none image none = ap one_past none

-- a filled image whose gate is open is a new vault
pub opened_over : (key : SecretKey) (old image : List ℕ) → IsFilled key old → length old ≤ length image → drop 1 image ≡ drop 1 old
    → get_or image 0 0 ≡ open_gate → IsNew key image
unfolding zeros
opened_over key old image is longer same gate =
    let key_is : key_in image ≡ key = ap key_of_header same ∙ is.key_is in
    let long : 64 + count_of key ≤ length image = omega (arith, is.long, longer) in
    let maps : map_in (count_of key) image ≡ replicate (count_of key) 0
    = ap (take (count_of key)) (sym (drop-drop 63 1 image) ∙ ap (drop 63) same ∙ drop-drop 63 1 old) ∙ is.map_is in
    let parts : Parts image = record {
      opened = record { long = omega (arith, long); gate = gate };
      vault = subst (λ k. IsVault k (length image)) (sym key_is) (record { ots = is.known.ots; tree = is.known.tree; long = long });
    } in
    let none : spent image ≡ [] = spent-whole image parts ∙ ap (λ k. nonzero_from 0 (map_in (count_of k) image)) key_is ∙ ap (nonzero_from 0) maps ∙ nonzero-zeros 0 (count_of key) in
    record {
      opens = opened-parts image (new_vault key) (record { parts = parts; key_is = key_is; next_is = next_none image none });
      unspent = none;
    }

-- a stop leaves it shut, or open over a new vault
pub opening : (key : SecretKey) (old image : List ℕ) → IsFilled key old → Torn 0 1 old image → IsFresh key image
opening key old image is torn = ⊎_elim
    (λ gate. inr (opened_over key old image is torn.no_shorter torn.after gate))
    (λ shut. inl (kind-blank image (unformatted-shut image shut)))
    (cases_eq (get_or image 0 0) open_gate)

pub opened_by : (key : SecretKey) (old image : List ℕ) → IsFilled key old → Holds 0 (open_gate ∷ []) old image → IsNew key image
opened_by key old image is holds =
    let long = ap length holds in
    opened_over key old image is (omega (arith, long, length-drop 1 old, is.long)) (ap (drop 1) holds) (ap (λ l. get_or l 0 0) holds)

-- ---- the whole

-- the bytes after the gate, and then the gate
pub made_bytes : (key : SecretKey) (old filled image : List ℕ) → drop 1 filled ≡ behind_gate key old → image ≡ open_gate ∷ drop 1 filled
    → image ≡ formatted_image key old
made_bytes key old filled image behind opened = opened ∙ ap (λ l. open_gate ∷ l) behind

-- if the gate was shut first
pub formatted_bytes : (key : SecretKey) (old mid image : List ℕ) → drop 1 mid ≡ drop 1 old → image ≡ formatted_image key mid
    → image ≡ formatted_image key old
formatted_bytes key old mid image same made =
    let count = count_of key in
    let sum : 1 + (63 + count) ≡ 64 + count = omega arith in
    let rest : drop (1 + (63 + count)) mid ≡ drop (1 + (63 + count)) old
    = sym (drop-drop (63 + count) 1 mid) ∙ ap (drop (63 + count)) same ∙ drop-drop (63 + count) 1 old in
    made ∙ ap (λ l. open_gate ∷ ((header_of key ++ zeros (7 + count)) ++ l)) (rw sum at rest)

-- if the gate was shut at first, the result may be fresh
pub blank_or_fresh : (key : SecretKey) (old image : List ℕ) → IsOldOrBlank old image → IsOldOrFresh key old image
blank_or_fresh key old image = ⊎_elim (λ same. inl same) (λ blank. inr (blank.0, inl blank.1))

-- and spent counters stay spent: a blank disk has none, and another stays the same
pub spent_on : (key : SecretKey) (old image : List ℕ) (q : ℕ) → IsSpent old q → IsOldOrFresh key old image → IsSpent image q
spent_on key old image q there = ⊎_elim
    (λ same. subst (λ l. IsSpent l q) (sym same) there)
    (λ fresh. absurd (spent-none old q fresh.0 there))

-- over the first sync and the steps
pub formatting_keeps : (key : SecretKey) (old : List ℕ) (a b c : Past) → Images a old → AddsNoImage a b
    → Leaves (IsOldOrFresh key old) b c → KeepsSpent IsSpent a c
formatting_keeps key old a b c image adds leaves = record {
  goes = goes_on a b c adds.goes leaves.goes;
  stays = λ q all x left. ⊎_elim
      (λ before. all x (adds.none x before))
      (λ since. spent_on key old x q (all old image) (leaves.each x since))
      (leaves.goes.splits a.now x adds.goes.later left);
}

-- ---- the gate, shut in steps

pub unformatted-not : (image : List ℕ) → is_formatted image ≡ true → unformatted image ≡ Err Formatted
unformatted-not image is = ap (λ test. holds_or (not test) Formatted) is

pub unformatted-ok : (image : List ℕ) → is_formatted image ≡ false → unformatted image ≡ Ok tt
unformatted-ok image isnt = ap (λ test. holds_or (not test) Formatted) isnt

pub short-ok : (image : List ℕ) → length image < 64 → unformatted image ≡ Ok tt
short-ok image short = unformatted-ok image (unformatted-short image short)

pub shut-ok : (image : List ℕ) → IsShut image → unformatted image ≡ Ok tt
shut-ok image is = unformatted-ok image (unformatted-shut image is.gate)

-- reading a short disk, and the write over it
pub shut_moments : (a b c : Past) (old : List ℕ) → Leaves (λ x. x ≡ old) a b → length old < 64
    → GoesOn b c → Follow (Torn 0 1) b c → Leaves (IsOldOrBlank old) a c
shut_moments a b c old looked short goes follow =
    let only = λ (x : List ℕ) (left : Images b x). looked.each x (b.earlier a.now b.now x looked.goes.later left) in
    then_on (IsOldOrBlank old) a b c (weaker (λ x. x ≡ old) (IsOldOrBlank old) a b looked (λ x same. inl same))
    (weaker (Torn 0 1 old) (IsOldOrBlank old) b c (over (Torn 0 1) b c old only goes follow) (λ x torn. shutting old x short torn))

-- ---- shut, filled and opened

pub ok_blank : (image : List ℕ) (done : Unit {0}) → unformatted image ≡ Ok done → kind_of image ≡ Blank
ok_blank image done is = kind-blank image (by_test (is_formatted image) refl is)
  where
    by_test : (test : Bool) → is_formatted image ≡ test → holds_or (not test) Formatted ≡ Ok done → is_formatted image ≡ false
    by_test true found same = absurd (cc)
    by_test false found same = found

pub made_moments : (key : SecretKey) (old : List ℕ) (a b c : Past) → kind_of old ≡ Blank
    → Leaves (IsOldOrBlank old) a b → Leaves (IsFresh key) b c → Leaves (IsOldOrFresh key old) a c
made_moments key old a b c blank first second =
    then_on (IsOldOrFresh key old) a b c
    (weaker (IsOldOrBlank old) (IsOldOrFresh key old) a b first (blank_or_fresh key old))
    (weaker (IsFresh key) (IsOldOrFresh key old) b c second (λ x fresh. inr (blank, fresh)))

-- ---- The possible images after an interrupted reservation: the vault unchanged, or after its next counter.

-- two lists that are the same at a place and around it
same_around : (at : ℕ) (x y : List ℕ) → at < length x → at < length y → take at x ≡ take at y → get_or x at 0 ≡ get_or y at 0
    → drop (at + 1) x ≡ drop (at + 1) y → x ≡ y
same_around at x y in_x in_y before here behind =
    let front : take (at + 1) x ≡ take (at + 1) y
    = take_more x at 0 in_x ∙ ap (λ byte. take at x ++ byte ∷ []) here ∙ ap (λ (l : List ℕ). l ++ get_or y at 0 ∷ []) before ∙ sym (take_more y at 0 in_y) in
    sym (take-append-drop (at + 1) x) ∙ ap (λ (l : List ℕ). l ++ drop (at + 1) x) front ∙ ap (λ (l : List ℕ). take (at + 1) y ++ l) behind
    ∙ take-append-drop (at + 1) y

module _ (vault : VaultValue) (old : List ℕ) (opens : opened old ≡ Ok vault) (left : vault.next < count_of vault.key)
    (new : List ℕ) (torn : Torn (64 + vault.next) 1 old new) where
  at : ℕ
  at = 64 + vault.next

  was : OpensAs vault old
  was = opens_as old vault opens

  inside : 64 + vault.next < length old
  inside = omega (arith, left, subst (λ k. 64 + count_of k ≤ length old) was.key_is was.parts.vault.long)

  front : take 64 new ≡ take 64 old
  front = same_front (64 + vault.next) 64 old new (omega arith) torn.before

  key : key_in new ≡ vault.key
  key = same_key new old (same_front 64 57 old new (omega arith) front) ∙ was.key_is

  parts : Parts new
  parts = same_parts old new front torn.no_shorter was.parts

  -- the byte was 0, since the next counter was not spent
  was_zero : get_or old (64 + vault.next) 0 ≡ 0
  was_zero = ⊎_elim
      (λ zero. zero)
      (λ mark.
      let there : IsSpent old vault.next = is_spent old vault.next (record {
        parts = was.parts;
        below = subst (λ k. vault.next < count_of k) (sym was.key_is) left;
        mark = mark;
      }) in
      absurd (omega (arith, spent_below old vault.next there, was.next_is)))
      (cases_eq (get_or old (64 + vault.next) 0) 0)

  -- if it is 0 again, nothing has changed
  unchanged : get_or new (64 + vault.next) 0 ≡ 0 → new ≡ old
  unchanged zero =
      same_around (64 + vault.next) new old (omega (arith, inside, torn.no_shorter)) inside torn.before (zero ∙ sym was_zero) torn.after

  behind_same : (q : ℕ) → vault.next < q → get_or new (64 + q) 0 ≡ get_or old (64 + q) 0
  behind_same q above =
      let n = q - (vault.next + 1) in
      let place : 64 + vault.next + 1 + n ≡ 64 + q = omega (arith, above) in
      ap (λ p. get_or new p 0) (sym place) ∙ sym (get_or-drop (64 + vault.next + 1) new n 0) ∙ ap (λ (l : List ℕ). get_or l n 0) torn.after
      ∙ get_or-drop (64 + vault.next + 1) old n 0 ∙ ap (λ p. get_or old p 0) place

  -- if it is not, the next counter is spent, and none after it
  below_next : (q : ℕ) → IsSpent new q → q < vault.next + 1
  below_next q there = ⊎_elim
      (λ le. omega (arith, le))
      (λ above.
      let is = marked new q there in
      let before : IsSpent old q = is_spent old q (record {
        parts = was.parts;
        below = subst (λ k. q < count_of k) (key ∙ sym was.key_is) is.below;
        mark = λ zero. is.mark (behind_same q above ∙ zero);
      }) in
      absurd (omega (arith, spent_below old q before, was.next_is, above)))
      (le_or_lt q vault.next)

  spent_next : get_or new (64 + vault.next) 0 ≢ 0 → opened new ≡ Ok (vault_after vault)
  spent_next mark =
      let there : IsSpent new vault.next = is_spent new vault.next (record {
        parts = parts;
        below = subst (λ k. vault.next < count_of k) (sym key) left;
        mark = mark;
      }) in
      opened-parts new (vault_after vault) (record { parts = parts; key_is = key; next_is = next_behind new vault.next there below_next })

  pub torn_opens : IsBeforeOrAfter vault new
  torn_opens = ⊎_elim
      (λ zero. inl (ap opened (unchanged zero) ∙ opens))
      (λ mark. inr (spent_next mark))
      (cases_eq (get_or new (64 + vault.next) 0) 0)

-- over the whole call
pub torn_moments : (vault : VaultValue) (a b : Past) → vault.next < count_of vault.key → AllOpenAs (Ok vault) a
    → GoesOn a b → Follow (Torn (64 + vault.next) 1) a b → Leaves (IsBeforeOrAfter vault) a b
torn_moments vault a b left all goes follow = record {
  goes = goes;
  each = λ x since. let from = follow x since in torn_opens vault from.0 (all from.0 from.1) left x from.2;
}

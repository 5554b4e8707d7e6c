-- Which counters are spent in an image, by its bytes.
use Rattle.std.proofs.Common.{◌≡◌, ◌≢◌, ◌∙◌, ℕ, ◌+◌, ◌<◌, ◌≤◌, List, length, get_or, take, drop, ap, refl, sym, subst, arith}
use Rattle.std.proofs.lemmas.List.{get_or-drop, get_or-take, length-drop, length-take, take-take}
use Rattle.std.specs.List.{Contains}
use Rattle.st_io.specs.Histories.{Torn}
use Rattle.st_vault.proofs.ImageLemmas.{same_key, IsVault, Parts, kind-whole, whole-kind, none_in, nonzero-marked, marked-nonzero}
use Rattle.st_vault.specs.Image.{IsSpent, Kind, key_in, kind_of, map_in, nonzero_from, spent, spent_by_kind, count_of}
use Rattle.st_vault.specs.Image.Kind.{Blank, Damaged, Whole}

-- the spent counters of a vault
pub spent-whole : (image : List ℕ) → Parts image → spent image ≡ nonzero_from 0 (map_in (count_of (key_in image)) image)
unfolding spent
spent-whole image parts = ap spent_by_kind (kind-whole image parts)

-- an image that is not a vault has no spent counter
pub spent-none : (image : List ℕ) (q : ℕ) → kind_of image ≡ Blank → IsSpent image q → ⊥
unfolding spent
spent-none image q blank there = none_in q (subst (λ kind. Contains (spent_by_kind kind) q) blank there)

-- a spent counter, by the bytes
pub record IsMarkedIn (image : List ℕ) (q : ℕ) : Type 0 where
  pub parts : Parts image
  pub below : q < count_of (key_in image)
  pub mark : get_or image (64 + q) 0 ≢ 0

pub length-map_in : (count : ℕ) (image : List ℕ) → 64 + count ≤ length image → length (map_in count image) ≡ count
length-map_in count image long = omega (arith, length-take count (drop 64 image), length-drop 64 image, long)

pub map_in-at : (count : ℕ) (image : List ℕ) (q : ℕ) → q < count → get_or (map_in count image) q 0 ≡ get_or image (64 + q) 0
map_in-at count image q below = get_or-take count (drop 64 image) q 0 below ∙ get_or-drop 64 image q 0

pub marked : (image : List ℕ) (q : ℕ) → IsSpent image q → IsMarkedIn image q
unfolding spent
marked image q there = by_kind (kind_of image) refl there
  where
    by_kind : (kind : Kind) → kind_of image ≡ kind → Contains (spent_by_kind kind) q → IsMarkedIn image q
    by_kind Blank is never = absurd (none_in q never)
    by_kind Damaged is never = absurd (none_in q never)
    by_kind (Whole key map) is there =
        let whole = whole-kind image key map is in
        let count = count_of (key_in image) in
        let mark = marked-nonzero 0 map q there in
        let at : q ≡ mark.at = omega (arith, mark.is) in
        let long : length map ≡ count = ap length (sym whole.map_is) ∙ length-map_in count image whole.parts.vault.long in
        let below : q < count = omega (arith, at, mark.within, long) in
        record {
          parts = whole.parts;
          below = below;
          mark = λ zero. mark.mark (ap (λ n. get_or map n 0) (sym at) ∙ ap (λ l. get_or l q 0) (sym whole.map_is) ∙ map_in-at count image q below ∙ zero);
        }

pub is_spent : (image : List ℕ) (q : ℕ) → IsMarkedIn image q → IsSpent image q
is_spent image q is =
    let count = count_of (key_in image) in
    let within : q < length (map_in count image) = omega (arith, is.below, length-map_in count image is.parts.vault.long) in
    let nonzero : get_or (map_in count image) q 0 ≢ 0 = λ zero. is.mark (sym (map_in-at count image q is.below) ∙ zero) in
    let at : 0 + q ≡ q = omega arith in
    subst (λ l. Contains l q) (sym (spent-whole image is.parts))
    (subst (Contains (nonzero_from 0 (map_in count image))) at (nonzero-marked 0 (map_in count image) q within nonzero))

-- ---- an interrupted write into the map

-- bytes before the write stay
before_torn : (at n : ℕ) (old new : List ℕ) → Torn at n old new → (i : ℕ) → i < at → get_or new i 0 ≡ get_or old i 0
before_torn at n old new torn i below =
    sym (get_or-take at new i 0 below) ∙ ap (λ l. get_or l i 0) torn.before ∙ get_or-take at old i 0 below

-- the two have the same first bytes
pub same_front : (at n : ℕ) (old new : List ℕ) → n ≤ at → take at new ≡ take at old → take n new ≡ take n old
same_front at n old new le same = sym (take-take n at new le) ∙ ap (take n) same ∙ take-take n at old le

-- a longer image with the same first 64 bytes is a vault too
pub same_parts : (old new : List ℕ) → take 64 new ≡ take 64 old → length old ≤ length new → Parts old → Parts new
same_parts old new same longer parts =
    let key : key_in new ≡ key_in old = same_key new old (same_front 64 57 old new (omega arith) same) in
    let gate : get_or new 0 0 ≡ get_or old 0 0 = sym (get_or-take 64 new 0 0 (omega arith)) ∙ ap (λ l. get_or l 0 0) same ∙ get_or-take 64 old 0 0 (omega arith) in
    record {
      opened = record { long = omega (arith, parts.opened.long, longer); gate = gate ∙ parts.opened.gate };
      vault = subst (λ k. IsVault k (length new)) (sym key) (record {
        ots = parts.vault.ots;
        tree = parts.vault.tree;
        long = omega (arith, parts.vault.long, longer);
      });
    }

-- a counter below the one whose byte is written stays spent
pub stays_spent : (n q : ℕ) (old new : List ℕ) → q < n → Torn (64 + n) 1 old new → IsSpent old q → IsSpent new q
stays_spent n q old new below torn there =
    let was = marked old q there in
    let front : take 64 new ≡ take 64 old = same_front (64 + n) 64 old new (omega arith) torn.before in
    let key : key_in new ≡ key_in old = same_key new old (same_front 64 57 old new (omega arith) front) in
    is_spent new q (record {
      parts = same_parts old new front torn.no_shorter was.parts;
      below = subst (λ k. q < count_of k) (sym key) was.below;
      mark = λ zero. was.mark (sym (before_torn (64 + n) 1 old new torn (64 + q) (omega (arith, below))) ∙ zero);
    })

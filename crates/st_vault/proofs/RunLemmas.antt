-- One counter is spent: the effects of the write and the sync.
use Rattle.std.proofs.Common.{◌≡◌, ⊎_elim, ◌∙◌, ℕ, suc, ◌+◌, ◌<◌, ◌≤◌, List, [], ◌∷◌, ◌++◌, length, get_or, take, drop, set, ap, sym, subst, arith, append_assoc, zero}
use Rattle.std.proofs.lemmas.Bool.{cases_eq}
use Rattle.std.proofs.lemmas.List.{get_or-set_other, get_or-set_same, length-set, set_split, take-set-le}
use Rattle.std.specs.Prelude.{Ok}
use Rattle.st_io.proofs.HistoryLemmas.{le_or_lt}
use Rattle.st_io.specs.Past.{Past, Images, GoesOn, Follow, KeepsSpent, SpentInAll}
use Rattle.st_io.specs.Histories.{Torn, Holds}
use Rattle.st_vault.proofs.ImageLemmas.{same_key, Parts, one_past-last}
use Rattle.st_vault.proofs.OpeningLemmas.{OpensAs, opened-parts, opens_as, spent_below, still_spent}
use Rattle.st_vault.proofs.SpentLemmas.{is_spent, marked, same_front, same_parts, stays_spent}
use Rattle.st_vault.specs.Image.{IsSpent, key_in, next_counter, spent, VaultValue, count_of, vault_after}
use Rattle.st_vault.specs.Vault.{opened, Runs, SpendsFirst, GoesOnFrom, NoneTwice}

-- the next counter is after a last spent one
pub next_behind : (image : List ℕ) (last : ℕ) → IsSpent image last → ((q : ℕ) → IsSpent image q → q < last + 1) → next_counter image ≡ last + 1
unfolding next_counter
next_behind image last there below = one_past-last (spent image) last there below

module _ (vault : VaultValue) (old : List ℕ) (opens : opened old ≡ Ok vault) where
  is_open : OpensAs vault old
  is_open = opens_as old vault opens

  long : vault.next < count_of vault.key → 64 + vault.next < length old
  long left = omega (arith, left, subst (λ k. 64 + count_of k ≤ length old) is_open.key_is is_open.parts.vault.long)

  -- the byte of the next counter is in the image
  pub fits : vault.next < count_of vault.key → 64 + vault.next ≤ length old
  fits left = omega (arith, long left)

  -- the next counter is not spent
  pub unspent : IsSpent old vault.next → ⊥
  unspent there = omega (arith, spent_below old vault.next there, is_open.next_is)

  -- the image with that byte
  abbrev marked_image : List ℕ
  marked_image = set old (64 + vault.next) 1

  as_set : (new : List ℕ) → vault.next < count_of vault.key → Holds (64 + vault.next) (1 ∷ []) old new → new ≡ marked_image
  as_set new left holds =
      let at = 64 + vault.next in
      let behind : at + length {A = ℕ} (1 ∷ []) ≡ suc at = omega arith in
      holds ∙ append_assoc (take at old) (1 ∷ []) (drop (at + length {A = ℕ} (1 ∷ [])) old) ∙ ap (λ n. take at old ++ 1 ∷ drop n old) behind
      ∙ sym (set_split old at 1 (long left))

  front : take 64 marked_image ≡ take 64 old
  front = take-set-le 64 old (64 + vault.next) 1 (omega arith)

  key : key_in marked_image ≡ vault.key
  key = same_key marked_image old (same_front 64 57 old marked_image (omega arith) front) ∙ is_open.key_is

  parts : Parts marked_image
  parts = same_parts old marked_image front (omega (arith, length-set old (64 + vault.next) 1)) is_open.parts

  next_spent : vault.next < count_of vault.key → IsSpent marked_image vault.next
  next_spent left =
      let one : get_or marked_image (64 + vault.next) 0 ≡ 1 = get_or-set_same old (64 + vault.next) 1 0 (long left) in
      is_spent marked_image vault.next (record {
        parts = parts;
        below = subst (λ k. vault.next < count_of k) (sym key) left;
        mark = λ zero. omega (arith, one, zero);
      })

  below_next : (q : ℕ) → IsSpent marked_image q → q < vault.next + 1
  below_next q there = ⊎_elim
      (λ same. omega (arith, same))
      (λ other.
      let is = marked marked_image q there in
      let elsewhere : get_or marked_image (64 + q) 0 ≡ get_or old (64 + q) 0 = get_or-set_other old (64 + vault.next) (64 + q) 1 0 (λ same. other (omega (arith, same))) in
      let was : IsSpent old q = is_spent old q (record {
        parts = is_open.parts;
        below = subst (λ k. q < count_of k) (key ∙ sym is_open.key_is) is.below;
        mark = λ zero. is.mark (elsewhere ∙ zero);
      }) in
      omega (arith, spent_below old q was, is_open.next_is))
      (cases_eq q vault.next)

  -- after the write the contents are the vault after its next counter, and that is spent
  pub written : (place : ℕ) (new : List ℕ) → place ≡ vault.next → vault.next < count_of vault.key → Holds (64 + place) (1 ∷ []) old new
      → (opened new ≡ Ok (vault_after vault)) × IsSpent new vault.next
  written place new here left holds =
      let is = sym (as_set new left (subst (λ n. Holds (64 + n) (1 ∷ []) old new) here holds)) in
      let opens_after : opened marked_image ≡ Ok (vault_after vault) = opened-parts marked_image (vault_after vault) (record {
        parts = parts;
        key_is = key;
        next_is = next_behind marked_image vault.next (next_spent left) below_next;
      }) in
      (subst (λ l. opened l ≡ Ok (vault_after vault)) is opens_after, subst (λ l. IsSpent l vault.next) is (next_spent left))

  -- complete or interrupted, the write keeps the counters spent in every image
  pub after_write : (place : ℕ) (a b : Past) → place ≡ vault.next → Images a old → GoesOn a b → Follow (Torn (64 + place) 1) a b → KeepsSpent IsSpent a b
  after_write place a b here image goes follow = record {
    goes = goes;
    stays = λ q all x left.
        let from = follow x left in
        stays_spent place q from.0 x (omega (arith, here, spent_below old q (all old image), is_open.next_is)) from.2 (all from.0 from.1);
  }

-- ---- In runs that start where the previous one stopped, no counter is released twice.

module _ {Device : Type 0} (past : Device → Past) (runs : Runs Device) (spends : (n : ℕ) → SpendsFirst past runs n) (begins : (n : ℕ) → GoesOnFrom past runs n) (i q : ℕ) where
  -- a counter spent where a run stopped is spent where each later one starts
  carried : (j : ℕ) → i < j → SpentInAll IsSpent (past (runs.stop i)) q → SpentInAll IsSpent (past (runs.start j)) q
  carried zero lt all image there = absurd (omega (arith, lt))
  carried (suc m) lt all image there = ⊎_elim
      (λ le.
      let same : i ≡ m = omega (arith, lt, le) in
      subst (λ n. SpentInAll IsSpent (past (runs.stop n)) q) same all image (begins m image there))
      (λ more. still_spent (past (runs.start m)) (past (runs.stop m)) q (spends m).keeps (carried m more all) image (begins m image there))
      (le_or_lt m i)

pub none_twice : {Device : Type 0} (past : Device → Past) → NoneTwice past
none_twice past runs spends begins i j q lt first second =
    (spends j).new q second (carried past runs spends begins i q j lt ((spends i).spent q first))

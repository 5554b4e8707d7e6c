-- One line of the wallet.
use Rattle.std.proofs.Common.{◌≡◌, ◌∙◌, inl, inr, ⊎_elim, ℕ, List, [], ◌∷◌, Option, Some, None, Result, refl, subst, sym}
use Rattle.std.specs.Prelude.{IsSome}
use Rattle.std.proofs.Math.Path.{subst₂}
use Rattle.std.proofs.lemmas.Bool.{false≢true}
use Rattle.st_io.specs.Past.{Past, Images, Leaves, KeepsSpent, SpentInAll, storage}
use Rattle.st_io.specs.Histories.{IfTold}
use Rattle.st_drive.specs.OnDisk.{GaveUpOnDisk, IsTold, RanOnDisk, Store}
use Rattle.st_drive.specs.Spending.{spending}
use Rattle.st_drive.specs.inside.OnDisk.{StandsForEither}
use Rattle.st_drive.proofs.SpendingLemmas.{gave_up_spending, has_spent}
use Rattle.st_vault.specs.Image.{IsSpent}
use Rattle.st_wallet.specs.Drafts.{Found, IsFoundOn, opens}
use Rattle.st_wallet.specs.Machine.{answered, AllFound, HasStepped, IsBeforeOrAfter, IsCounterSpent, StepsOn}
use Rattle.st_wallet.specs.declared.signing_vault.WalletRefused.{WalletRefused}
use Rattle.st_wallet_lines.specs.Run.{wallet_spender}

-- a fact that does not depend on the contents
pub told_of : (P : Type 0) (told : Option (List ℕ)) → IsSome told → IfTold told (λ image. P) → P
told_of P None some fact = absurd (false≢true some)
told_of P (Some image) some fact = fact image refl

-- the counter of a reply is spent
spent_by : (counter : Option ℕ) (past : Past) → IsCounterSpent counter past → (q : ℕ) → counter ≡ Some q → SpentInAll IsSpent past q
spent_by counter past spent q is = subst (λ c. IsCounterSpent c past) is spent

-- the state of each image is that of the contents
same_found : (told : Option (List ℕ)) (past : Past) (found before : Found) → IsSome told → IfTold told (Images past) → IsFoundOn told found
    → AllFound before past → opens before ≡ opens found
same_found None past found before some is_image is all = absurd (false≢true some)
same_found (Some image) past found before some is_image is all = sym (all image (is_image image refl)) ∙ is image refl

module _ {D : Type 0} (store : Store D) (faults : D → ℕ) (found : Found) (line : List ℕ) (a b : D) (result : Result (Found × List ℕ) WalletRefused)
    (is_image : IfTold (store.reads a) (Images (store.past a))) (is : IsFoundOn (store.reads a) found)
    (steps : StepsOn found (answered found line) (storage store.reads store.past faults a b) result) {self : Found} (viewed : found ≡ self) where
  stays : IsTold store a → KeepsSpent IsSpent (store.past a) (store.past b)
  stays told = told_of (KeepsSpent IsSpent (store.past a) (store.past b)) (store.reads a) told steps.stays

  -- all images have the state of this wallet, if they have one
  all_found : IsTold store a → (before : Found) → AllFound before (store.past a) → AllFound found (store.past a)
  all_found told before all image left =
      all image left ∙ same_found (store.reads a) (store.past a) found before told is_image is all

  moments : IsTold store a → (before : Found) → AllFound before (store.past a)
      → Leaves (StandsForEither wallet_spender before (answered found line).next) (store.past a) (store.past b)
  moments told before all =
      let left = told_of (AllFound found (store.past a) → Leaves (IsBeforeOrAfter found (answered found line).next) (store.past a) (store.past b))
      (store.reads a) told steps.moments (all_found told before all) in
      let same = same_found (store.reads a) (store.past a) found before told is_image is all in
      record { goes = left.goes; each = λ image since. ⊎_elim (λ was. inl (was ∙ sym same)) inr (left.each image since) }

  pub ran_line : (next : Found) {after : Found} → after ≡ next → HasStepped found (answered found line) (storage store.reads store.past faults a b) next
      → IfTold (store.reads a) (λ image. next ≡ (answered found line).next)
      → RanOnDisk (spending wallet_spender) store self (tt, a) (line ∷ []) after (tt, b)
  ran_line next same has came =
      subst₂ (λ (x y : Found). RanOnDisk (spending wallet_spender) store x (tt, a) (line ∷ []) y (tt, b)) viewed (sym same)
      (has_spent wallet_spender (record {
        effect = tt;
        told = λ t. told_of (IsSome (store.reads b)) (store.reads a) t has.told;
        came = λ t. told_of (next ≡ (answered found line).next) (store.reads a) t came;
        stays = stays;
        given = λ t. spent_by (answered found line).counter (store.past b)
            (told_of (IsCounterSpent (answered found line).counter (store.past b)) (store.reads a) t has.spent);
        moments = moments;
        now = λ t before all.
            let then = told_of (AllFound found (store.past a) → AllFound next (store.past b)) (store.reads b)
            (told_of (IsSome (store.reads b)) (store.reads a) t has.told) has.all_found (all_found t before all) in
            subst (λ (f : Found). AllFound f (store.past b)) (told_of (next ≡ (answered found line).next) (store.reads a) t came) then;
      }))

  pub gave_line : GaveUpOnDisk (spending wallet_spender) store self (tt, a) (line ∷ []) (tt, b)
  gave_line = subst (λ (x : Found). GaveUpOnDisk (spending wallet_spender) store x (tt, a) (line ∷ []) (tt, b)) viewed
      (gave_up_spending wallet_spender (record { effect = tt; stays = stays; moments = moments }))

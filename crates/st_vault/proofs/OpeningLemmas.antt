-- The result of opening an image, by its kind.
use Rattle.std.proofs.Common.{◌≡◌, ◌≢◌, ◌∙◌, ℕ, ◌+◌, ◌≤◌, ◌<◌, false, List, length, get_or, drop, take, IfSome, Result, Ok, Err, ap, refl, sym, subst, arith, not}
use Rattle.std.proofs.lemmas.Bool.{false_from_ne_true}
use Rattle.std.proofs.lemmas.List.{drop-take, get_or-take, take-take}
use Rattle.st_base.specs.Answers.{◌>>=◌, ◌>>◌, holds_or}
use Rattle.st_io.specs.Past.{Past, KeepsSpent, SpentInAll, Storage}
use Rattle.st_lms.specs.Tree.{SecretKey}
use Rattle.st_vault.proofs.ImageLemmas.{key_of_header-take, IsOpen, IsVault, Parts, formatted-open, kind-blank, kind-damaged, kind-whole, unformatted-short, unformatted-shut, vault-whole, whole-kind, blank-unformatted, one_past-above}
use Rattle.st_vault.proofs.SpentLemmas.{spent-whole, marked}
use Rattle.st_vault.specs.Formatting.{formatted}
use Rattle.st_vault.specs.Image.{Kind, is_whole, key_in, key_of_header, kind_of, map_in, next_counter, nonzero_from, one_past, open_gate, IsSpent, spent, VaultValue, count_of, new_vault}
use Rattle.st_vault.specs.Image.Kind.{Blank, Damaged, Whole}
use Rattle.st_vault.specs.Vault.{key_by_kind, key_of, opened, refusal_of, HasSpent, MaySpend}
use Rattle.st_vault.specs.declared.formatting.FormatRefused.TheVariants.{Formatted}
use Rattle.st_vault.specs.declared.opening.OpenRefused.{OpenRefused}
use Rattle.st_vault.specs.declared.opening.OpenRefused.TheVariants as refused

-- ---- the key

pub key-short : (image : List ℕ) → length image < 64 → key_of image ≡ Err refused.Blank
unfolding key_of
key-short image short = ap key_by_kind (kind-blank image (unformatted-short image short))

-- by the first 64 bytes
pub record IsHead (head image : List ℕ) : Type 0 where
  pub is : take 64 image ≡ head
  pub long : 64 ≤ length image

head_gate : (head image : List ℕ) → IsHead head image → get_or image 0 0 ≡ get_or head 0 0
head_gate head image is = sym (get_or-take 64 image 0 0 (omega arith)) ∙ ap (λ l. get_or l 0 0) is.is

pub head_key : (head image : List ℕ) → IsHead head image → key_in image ≡ key_of_header (drop 1 head)
head_key head image is =
    let header : take 63 (drop 1 image) ≡ drop 1 head = sym (drop-take 1 63 image) ∙ ap (drop 1) is.is in
    let more : key_of_header (take 63 (drop 1 image)) ≡ key_of_header (drop 1 image)
    = sym (key_of_header-take (take 63 (drop 1 image))) ∙ ap key_of_header (take-take 56 63 (drop 1 image) (omega arith)) ∙ key_of_header-take (drop 1 image) in
    sym more ∙ ap key_of_header header

pub key-shut : (head image : List ℕ) → IsHead head image → get_or head 0 0 ≢ open_gate → key_of image ≡ Err refused.Blank
unfolding key_of
key-shut head image is shut = ap key_by_kind (kind-blank image (unformatted-shut image (λ gate. shut (sym (head_gate head image is) ∙ gate))))

pub key-damaged : (head image : List ℕ) → IsHead head image → get_or head 0 0 ≡ open_gate
    → (IsVault (key_of_header (drop 1 head)) (length image) → ⊥) → key_of image ≡ Err refused.Damaged
unfolding key_of
key-damaged head image is gate wrong =
    let opened : IsOpen image = record { long = is.long; gate = head_gate head image is ∙ gate } in
    let isnt : is_whole (key_in image) (length image) ≡ false = false_from_ne_true (is_whole (key_in image) (length image))
    (λ whole. wrong (subst (λ k. IsVault k (length image)) (head_key head image is) (vault-whole (key_in image) (length image) whole))) in
    ap key_by_kind (kind-damaged image (formatted-open image opened) isnt)

pub key-whole : (head image : List ℕ) → IsHead head image → get_or head 0 0 ≡ open_gate
    → IsVault (key_of_header (drop 1 head)) (length image) → key_of image ≡ Ok (key_of_header (drop 1 head))
unfolding key_of
key-whole head image is gate vault =
    let key = head_key head image is in
    let parts : Parts image = record {
      opened = record { long = is.long; gate = head_gate head image is ∙ gate };
      vault = subst (λ k. IsVault k (length image)) (sym key) vault;
    } in
    ap key_by_kind (kind-whole image parts) ∙ ap Ok key

-- ---- the vault

pub record IsKeyOf (key : SecretKey) (image : List ℕ) : Type 0 where
  pub parts : Parts image
  pub key_is : key_in image ≡ key

-- an image that has a key is a vault's
pub key-parts : (image : List ℕ) (key : SecretKey) → key_of image ≡ Ok key → IsKeyOf key image
unfolding key_of
key-parts image key has = by_kind (kind_of image) refl has
  where
    by_kind : (kind : Kind) → kind_of image ≡ kind → key_by_kind kind ≡ Ok key → IsKeyOf key image
    by_kind Blank is same = absurd (cc)
    by_kind Damaged is same = absurd (cc)
    by_kind (Whole found map) is same =
        let whole = whole-kind image found map is in
        record { parts = whole.parts; key_is = whole.key_is ∙ cc }

pub long_enough : (image : List ℕ) (key : SecretKey) → key_of image ≡ Ok key → 64 + count_of key ≤ length image
long_enough image key has =
    let is = key-parts image key has in
    subst (λ k. 64 + count_of k ≤ length image) is.key_is is.parts.vault.long

pub next_counter-whole : (image : List ℕ) → Parts image → next_counter image ≡ one_past (nonzero_from 0 (map_in (count_of (key_in image)) image))
unfolding next_counter
next_counter-whole image parts = ap one_past (spent-whole image parts)

-- the vault of a key, and of the map that is read for it
pub opened-map : (image : List ℕ) (key : SecretKey) (next : ℕ) → key_of image ≡ Ok key
    → next ≡ one_past (nonzero_from 0 (map_in (count_of key) image)) → opened image ≡ Ok (record { key = key; next = next })
unfolding opened
opened-map image key next has is =
    let from = key-parts image key has in
    let counts : next_counter image ≡ next
    = next_counter-whole image from.parts ∙ ap (λ k. one_past (nonzero_from 0 (map_in (count_of k) image))) from.key_is ∙ sym is in
    rw (has, counts) refl

-- an image that is not a vault is not opened
pub opened-err : (image : List ℕ) (refusal : OpenRefused) → key_of image ≡ Err refusal → opened image ≡ Err refusal
unfolding opened
opened-err image refusal none = rw none refl

-- the result of opening an image, in parts
pub record OpensAs (vault : VaultValue) (image : List ℕ) : Type 0 where
  pub parts : Parts image
  pub key_is : key_in image ≡ vault.key
  pub next_is : next_counter image ≡ vault.next

pub opens_as : (image : List ℕ) (vault : VaultValue) → opened image ≡ Ok vault → OpensAs vault image
unfolding opened
opens_as image vault is = by_key (key_of image) refl is
  where
    by_key : (found : Result SecretKey OpenRefused) → key_of image ≡ found
        → (do
          key ← found
          Ok (record { key = key; next = next_counter image })) ≡ Ok vault
        → OpensAs vault image
    by_key (Err refusal) has same = absurd (cc)
    by_key (Ok key) has same =
        let from = key-parts image key has in
        let vault_is : record { key = key; next = next_counter image } ≡ vault = cc in
        record { parts = from.parts; key_is = from.key_is ∙ ap (λ v. v.key) vault_is; next_is = ap (λ v. v.next) vault_is }

pub opened-parts : (image : List ℕ) (vault : VaultValue) → OpensAs vault image → opened image ≡ Ok vault
unfolding opened key_of
opened-parts image vault is =
    let has : key_by_kind (kind_of image) ≡ Ok vault.key = ap key_by_kind (kind-whole image is.parts) ∙ ap Ok is.key_is in
    rw (has, is.next_is) refl

-- the refusal of the key is that of the vault
pub err-opened : (image : List ℕ) (error : OpenRefused) → IfSome (refusal_of error) (λ refusal. key_of image ≡ Err refusal)
    → IfSome (refusal_of error) (λ refusal. opened image ≡ Err refusal)
err-opened image refused.Blank none = opened-err image refused.Blank none
err-opened image refused.Damaged none = opened-err image refused.Damaged none
err-opened image refused.DiskFault none = tt

-- ---- For crates above: spent counters over several calls, which they are, and the kind of an image from the result of
-- opening it.

-- a counter spent in every image is spent in every image after a run that keeps it
pub still_spent : (a b : Past) (q : ℕ) → KeepsSpent IsSpent a b → SpentInAll IsSpent a q → SpentInAll IsSpent b q
still_spent a b q keeps all x image = keeps.stays q all x (b.earlier a.now b.now x keeps.goes.later image)

-- what a call may spend or has spent, of an equal vault
module _ {own vault : VaultValue} {disk : Storage} (is : own ≡ vault) where
  pub may_as : MaySpend own disk → MaySpend vault disk
  may_as = subst (λ (v : VaultValue). MaySpend v disk) is

  pub spent_as : {given : VaultValue} → HasSpent own given disk → HasSpent vault given disk
  spent_as {given} = subst (λ (v : VaultValue). HasSpent v given disk) is

-- ---- which counters are spent

-- spent counters are below the next counter
pub spent_below : (image : List ℕ) (q : ℕ) → IsSpent image q → q < next_counter image
unfolding next_counter
spent_below image q there = one_past-above (spent image) q there

-- which is that of the vault in the image
pub next_opened : (image : List ℕ) (vault : VaultValue) → opened image ≡ Ok vault → next_counter image ≡ vault.next
next_opened image vault is = (opens_as image vault is).next_is

-- an image that does not open has no spent counter
pub none_spent : (image : List ℕ) (q : ℕ) (refusal : OpenRefused) → opened image ≡ Err refusal → IsSpent image q → ⊥
none_spent image q refusal none there =
    let vault : VaultValue = record { key = key_in image; next = next_counter image } in
    let is : opened image ≡ Ok vault = opened-parts image vault (record { parts = (marked image q there).parts; key_is = refl; next_is = refl }) in
    cc

-- ---- the kind of an image

-- the result of opening an image of this kind
abbrev opened_kind : List ℕ → Kind → Result VaultValue OpenRefused
opened_kind image kind = do
  key ← key_by_kind kind
  let vault : VaultValue = record { key = key; next = next_counter image }
  Ok vault

opened-by : (image : List ℕ) → opened image ≡ opened_kind image (kind_of image)
unfolding opened key_of
opened-by image = refl

pub opened-blank : (image : List ℕ) → opened image ≡ Err refused.Blank → kind_of image ≡ Blank
opened-blank image is = by_kind (kind_of image) refl (sym (opened-by image) ∙ is)
  where
    by_kind : (kind : Kind) → kind_of image ≡ kind → opened_kind image kind ≡ Err refused.Blank → kind_of image ≡ Blank
    by_kind Blank blank same = blank
    by_kind Damaged damaged same = absurd (cc)
    by_kind (Whole key map) whole same = absurd (cc)

-- opening an image never gives a fault
pub never_faulty : (image : List ℕ) → opened image ≡ Err refused.DiskFault → ⊥
never_faulty image is = by_kind (kind_of image) (sym (opened-by image) ∙ is)
  where
    by_kind : (kind : Kind) → opened_kind image kind ≡ Err refused.DiskFault → ⊥
    by_kind Blank same = absurd (cc)
    by_kind Damaged same = absurd (cc)
    by_kind (Whole key map) same = absurd (cc)

pub blank-opened : (image : List ℕ) → kind_of image ≡ Blank → opened image ≡ Err refused.Blank
unfolding key_of
blank-opened image blank = opened-err image refused.Blank (ap key_by_kind blank)

-- a disk that opens as blank may be formatted
pub formatted-blank : (key : SecretKey) (image : List ℕ) → opened image ≡ Err refused.Blank → formatted key image ≡ Ok (new_vault key)
formatted-blank key image is =
    ap (λ test. holds_or (not test) Formatted >> Ok (new_vault key)) (blank-unformatted image (opened-blank image is))

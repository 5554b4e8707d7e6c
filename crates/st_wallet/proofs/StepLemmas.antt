-- A line that is truncated after its first excess byte is answered like the whole line (`cut_answered`).
use Rattle.std.proofs.Common.{◌≡◌, ◌∙◌, ℕ, ◌+◌, ◌≤◌, Bool, true, false, nat_le, List, length, take, Result, Err, refl, sym, ap, arith, length-take, take_all, inl, ◌<◌, codes, Option, Some, None, Ok, IfSome, subst, if◌then◌else◌}
use Rattle.std.proofs.lemmas.Bool.{false≢true}
use Rattle.std.proofs.lemmas.Bool.Decides.{nat_tests}
use Rattle.std.specs.Prelude.{IfOk, IsErr}
use Rattle.st_base.specs.Answers.{◌>>◌, holds_or}
use Rattle.st_base.specs.Texts.{first_word, other_words}
use Rattle.st_io.proofs.HistoryLemmas.{stands}
use Rattle.st_io.specs.Past.{Past, Leaves, Only, Storage}
use Rattle.st_lms.specs.Tree.{SecretKey}
use Rattle.st_vault.proofs.OpeningLemmas.{formatted-blank}
use Rattle.st_vault.specs.Formatting.{formatted, refusal_of}
use Rattle.st_vault.specs.Vault.{opened, HasSpent, MaySpend}
use Rattle.st_vault.specs.Image.{VaultValue, left_of, vault_after}
use Rattle.st_vault.specs.declared.formatting.FormatRefused.{FormatRefused}
use Rattle.st_vault.specs.declared.formatting.FormatRefused.TheVariants.{Formatted}
use Rattle.st_vault.specs.declared.opening.OpenRefused.TheVariants as refused_as
use Rattle.st_wallet.specs.Command.{command_of, command_of_words, longest_line, space}
use Rattle.st_wallet.specs.Machine.{next_in, answered, answered_read, refused, taken, taken_if_left, AllFound, HasStepped, IsBeforeOrAfter, StepsOn}
use Rattle.st_wallet.specs.Drafts.{Found, opens}
use Rattle.st_wallet.specs.Drafts.Found.{Opened}
use Rattle.st_wallet.specs.declared.command.Command.{Command}
use Rattle.st_wallet.specs.declared.command.LineCause.{LineCause}
use Rattle.st_wallet.specs.declared.command.LineCause.TheVariants as line_is
use Rattle.st_wallet.specs.declared.signing_vault.WalletRefused.{WalletRefused}

-- a line that is short enough is not truncated
uncut : (most : ℕ) (line : List ℕ) → nat_le (length line) most ≡ true → take (most + 1) line ≡ line
uncut most line short =
    let fits : length line ≤ most + 1 = grind (arith, nat_tests) in
    take_all (most + 1) line fits

-- a line that is too long stays so
still_long : (most : ℕ) (line : List ℕ) → nat_le (length line) most ≡ false → nat_le (length (take (most + 1) line)) most ≡ false
still_long most line long = grind (arith, nat_tests, length-take)

refused_long : (fits : Bool) (next : Result Command LineCause) → fits ≡ false → (holds_or fits line_is.Long >> next) ≡ Err line_is.Long
refused_long fits next long = rw long refl

by_length : (line : List ℕ) (fits : Bool) → nat_le (length line) longest_line ≡ fits
    → command_of (take (longest_line + 1) line) ≡ command_of line
by_length line true short = ap command_of (uncut longest_line line short)
by_length line false long =
    refused_long _ _ (still_long longest_line line long)
    ∙ sym (refused_long (nat_le (length line) longest_line) (command_of_words (first_word space line) (other_words space line)) long)

cut_command : (line : List ℕ) → command_of (take (longest_line + 1) line) ≡ command_of line
cut_command line = by_length line (nat_le (length line) longest_line) refl

pub cut_answered : (found : Found) (line : List ℕ) → answered found (take (longest_line + 1) line) ≡ answered found line
cut_answered found line = ap (answered_read found) (cut_command line)

-- ---- The effect of a line on the disk. Where the disk is not called, the search finds it.

-- ---- the disk stays

-- a stop leaves the state of the disk
pub moments_standing : (p : Past) (before after : Found) → AllFound before p → Leaves (IsBeforeOrAfter before after) p p
moments_standing p before after all = record { goes = stands p; each = λ x left. inl (all x left) }

-- the contents of a disk are its only image
pub only_found : (found : Found) (past : Past) (image : List ℕ) → opened image ≡ opens found → Only past image → AllFound found past
only_found found past image is only x left = ap opened (only x left) ∙ is

-- ---- the next counter of a vault

rises : (vault : VaultValue) → Opened (vault_after vault) ≡ Opened vault → ⊥
rises vault same = let next : vault.next + 1 ≡ vault.next = ap next_in same in omega (arith, next)

-- it is taken if it is left
is_taken : (vault : VaultValue) (text : List ℕ) → 0 < left_of vault → taken_if_left vault text ≡ taken vault text
is_taken vault text left = by_test (nat_le 1 (left_of vault)) refl
  where
    by_test : (test : Bool) → nat_le 1 (left_of vault) ≡ test
        → (if test then taken vault text else refused (Opened vault) (codes "exhausted")) ≡ taken vault text
    by_test true is = refl
    by_test false is = absurd (grind (arith, nat_tests))

module _ {own vault : VaultValue} {disk : Storage} (text : List ℕ) (is : own ≡ vault) (left : 0 < left_of own) (may : MaySpend own disk) where
  spends : {result : Result (Found × List ℕ) WalletRefused} → IfOk result (λ done. HasStepped (Opened own) (taken own text) disk done.0)
      → StepsOn (Opened vault) (taken_if_left vault text) disk result
  spends {result} done = subst (λ (v : VaultValue). StepsOn (Opened v) (taken_if_left v text) disk result) is
      (subst (λ answer. StepsOn (Opened own) answer disk result) (sym (is_taken own text left)) (record {
        untouched = λ same. absurd (rises own same);
        moments = λ image told all. may.moments all;
        stays = may.stays;
        done = done;
      }))

  -- there is no reply, and the counter may be spent
  pub unsigned : (result : Result (Found × List ℕ) WalletRefused) → IsErr result → StepsOn (Opened vault) (taken_if_left vault text) disk result
  unsigned (Ok done) err = absurd (false≢true err)
  unsigned (Err error) err = spends {result = Err error} tt

  -- the counter is spent, and this is the wallet after it
  pub signed : {given : VaultValue} (done : Found × List ℕ) → HasSpent own given disk → done.0 ≡ Opened given
      → StepsOn (Opened vault) (taken_if_left vault text) disk (Ok done)
  signed done has found = spends {result = Ok done} (record {
    reads = λ image told. has.reads image told ∙ ap opens (sym found);
    told = has.told;
    fresh = has.unspent;
    spent = has.spent;
    all_found = λ image told all x there. ap opened (has.durable image told x there) ∙ has.reads image told ∙ ap opens (sym found);
  })

-- ---- formatting

-- a disk that reveals its contents, and opened as blank, is not formatted
pub not_formatted : (key : SecretKey) (image : List ℕ) (refused : FormatRefused) → opened image ≡ Err refused_as.Blank → refused ≡ Formatted
    → IfSome (refusal_of refused) (λ refusal. formatted key image ≡ Err refusal) → ⊥
not_formatted key image refused blank is gives =
    let says : formatted key image ≡ Err Formatted
    = subst (λ refused. IfSome (refusal_of refused) (λ refusal. formatted key image ≡ Err refusal)) is gives in
    let done = formatted-blank key image blank in
    cc

-- a disk does not reveal its contents if any contents would be a contradiction
pub untold_if : (told : Option (List ℕ)) → ((image : List ℕ) → told ≡ Some image → ⊥) → told ≡ None
untold_if None never = refl
untold_if (Some image) never = absurd (never image refl)

-- A run of the wallet, from before its disk is opened:
--     replies_are       the replies by the driver's rules are those of the reference machine
--     opened_run        the properties if the disk was opened
--     unopened_run      and if it could not be opened
use Rattle.std.proofs.Common.{◌≡◌, ◌∙◌, inl, inr, ◌++◌, ◌≤◌, ℕ, List, [], ◌∷◌, Option, Some, None, Result, Ok, is_some, refl, ap, sym, subst, arith}
use Rattle.std.proofs.lemmas.Bool.{false≢true}
use Rattle.std.specs.Prelude.{IsSome}
use Rattle.st_io.specs.Past.{Rose, Past, Storage, storage}
use Rattle.st_drive.specs.Lines.{all_lines, Streams, Tells}
use Rattle.st_drive.specs.OnDisk.{AllHold, IsTold, Store, disk_meaning, replies}
use Rattle.st_drive.specs.inside.OnDisk.{Opens, RunLeaves}
use Rattle.st_drive.specs.Runs.{course}
use Rattle.st_drive.specs.Spending.{EndsOpened, spending}
use Rattle.st_drive.specs.inside.Parts.{Unread}
use Rattle.st_drive.specs.Tables.{AnsweredFirst, AnswersLines}
use Rattle.st_drive.proofs.LineLemmas.{answered_input, answered_source, nothing_written}
use Rattle.st_drive.proofs.OnDiskLemmas.{leaves_on_disk, run_on_disk, run_opens}
use Rattle.st_drive.proofs.RunLemmas.{none_in}
use Rattle.st_drive.proofs.SpendingLemmas.{all_after, ends_opened, ends_standing, keeps_numbers, keeps_standing, kept_numbers, loses_one, spending_opened, spending_opens, stays_spent}
use Rattle.st_drive.proofs.TableLemmas.{IsUnread, lines_by, not_begun, rose_before}
use Rattle.st_vault.specs.Vault.{opened}
use Rattle.st_wallet.proofs.CountersLemmas.{found_is, found_opens, spent_lie_below}
use Rattle.st_wallet.specs.Machine.{next_in, answered, replies as found_replies, OpensOn}
use Rattle.st_wallet.specs.Drafts.{Found, IsFoundOn, found_in, opens}
use Rattle.st_wallet.specs.declared.signing_vault.WalletRefused.{WalletRefused}
use Rattle.st_wallet_lines.specs.Run.{KeepsVault, WalletEnds, WalletFrom, WalletRun, found_told, wallet_course, wallet_spender}
use Rattle.st_wallet_lines.specs.inside.Run.{next_laws, number_laws}

pub replies_are : (found : Found) (lines : List (List ℕ)) → replies (spending wallet_spender) found lines ≡ found_replies found lines
replies_are found [] = refl
replies_are found (line ∷ lines) = ap (λ more. (answered found line).reply ++ more) (replies_are (answered found line).next lines)

replies_told : (found : Found) (told : Option (List ℕ)) → IsSome told → IsFoundOn told found → (lines : List (List ℕ))
    → replies (spending wallet_spender) found lines ≡ found_replies (found_told told) lines
replies_told found None some is lines = absurd (false≢true some)
replies_told found (Some image) some is lines =
    replies_are found lines ∙ ap (λ f. found_replies f lines) (found_is image found (is image refl))

-- ---- the end of a run

-- the effects of a run on the spent numbers and on the wallet
pub record Leaving (image : List ℕ) (lines : List (List ℕ)) (written : List ℕ) (old new : Past) : Type 0 where
  pub numbers : (k : List ℕ) → AllHold (spending wallet_spender) (inl k) old
      → RunLeaves (spending wallet_spender) (found_in image) (inl k) lines written old new
  pub wallet : RunLeaves (spending wallet_spender) (found_in image) (inr (found_in image)) lines written old new

ends_of : {image input written : List ℕ} {old new : Past} → Leaving image (all_lines input) written old new
    → WalletEnds image input written old new
ends_of {image} {input} {written} {old} {new} leaving = record {
  counters = kept_numbers wallet_spender (found_in image) (all_lines input) written old new leaving.numbers next_in number_laws image (spent_lie_below image);
  vault = ends_standing wallet_spender (found_in image) (all_lines input) written old new leaving.wallet;
  loses_one = loses_one wallet_spender next_laws (found_in image) (all_lines input) written old new leaving.wallet;
  runs = keeps_numbers wallet_spender (found_in image) (all_lines input) written old new leaving.numbers next_in number_laws image (spent_lie_below image);
}

vault_of : {image written : List ℕ} {old new : Past} (input : List ℕ) → Leaving image (all_lines input) written old new → KeepsVault image input old new
vault_of {image} {written} {old} {new} input leaving =
    keeps_standing wallet_spender (found_in image) (all_lines input) written old new leaving.wallet

-- the opening of the disk
opens_standing : {disk : Storage} {result : Result Found WalletRefused} (image : List ℕ) → disk.reads ≡ Some image → OpensOn disk result
    → Opens (spending wallet_spender) (inr (found_in image)) disk.before disk.behind
opens_standing image told opens = record {
  goes = opens.as_it_was.images.goes;
  moments = λ x left. inl (opens.as_it_was.images.none x left);
  synced = λ x left. opens.synced image told x left ∙ found_opens image;
}

-- ---- the disk could not be opened

pub unopened_run : {limit : ℕ} {io : Streams} {disk : Storage} {result : Result Found WalletRefused} → disk.failed → Unread io
    → io.source_kept × io.sink_kept → OpensOn disk result → WalletRun limit io disk 4
unopened_run {limit} {io} {disk} failed unread kept opens =
    let late : IsUnread disk.failed 4 = search arith in
    let leaving : (image : List ℕ) → disk.reads ≡ Some image → (lines : List (List ℕ)) → Leaving image lines [] disk.before disk.behind =
    λ image told lines. record {
      numbers = spending_opened wallet_spender (found_in image) lines disk.before disk.behind opens.stays;
      wallet = run_opens (spending wallet_spender) (found_in image) (inr (found_in image)) lines disk.before disk.behind
          (opens_standing image told opens);
    } in
    record {
      lines = not_begun late unread (wallet_course disk.reads) tt (λ some. refl) refl;
      opened = inl kept;
      from = λ image told. record {
        stays = opens.stays;
        vault = λ input had. vault_of input (leaving image told (all_lines input));
        ends = λ input written tells. subst (λ w. WalletEnds image input w disk.before disk.behind) (sym (nothing_written tells unread.holds_is))
            (ends_of (leaving image told (all_lines input)));
      };
    }

-- ---- it was opened, and lines were answered

module _ {D : Type 0} (store : Store D) (faults : D → ℕ) {a b d : D} {found : Found} {limit : ℕ} {io : Streams} {status : ℕ}
    (opening : OpensOn (storage store.reads store.past faults a b) (Ok found)) (later : faults a ≤ faults b)
    (answered : AnswersLines (course (disk_meaning (spending wallet_spender) store) found (tt, b) (tt, d)) limit io (Rose (faults b) (faults d)) status) where
  leaving : {image : List ℕ} → store.reads a ≡ Some image → (lines : List (List ℕ)) (written : List ℕ)
      → AnsweredFirst (course (disk_meaning (spending wallet_spender) store) found (tt, b) (tt, d)) written lines
      → Leaving image lines written (store.past a) (store.past d)
  leaving {image} told lines written first =
      let old = store.past a in
      let same = opening.as_it_was.reads ∙ told in
      let still : IsTold store b = ap is_some same in
      let is = found_is image found (opening.found image told) in
      let stood : Opens (spending wallet_spender) (inr found) old (store.past b) =
      subst (λ (f : Found). Opens (spending wallet_spender) (inr f) old (store.past b)) (sym is) (opens_standing image told opening) in
      record {
        numbers = λ k all. subst (λ f. RunLeaves (spending wallet_spender) f (inl k) lines written old (store.past d)) is
            (run_on_disk (spending wallet_spender) store still first (inl k) old
            (spending_opens wallet_spender k old (store.past b) opening.stays all) (all_after wallet_spender k old (store.past b) opening.stays all));
        wallet = subst (λ (f : Found). RunLeaves (spending wallet_spender) f (inr f) lines written old (store.past d)) is
            (run_on_disk (spending wallet_spender) store still first (inr found) old stood (opening.all_found image same));
      }

  ends_of_opened : {image : List ℕ} → store.reads a ≡ Some image → (input written : List ℕ) → Tells io input written
      → EndsOpened wallet_spender (found_in image) (all_lines input) written (store.past d)
  ends_of_opened {image} told input written tells =
      let lines = all_lines input in
      let same = opening.as_it_was.reads ∙ told in
      let still : IsTold store b = ap is_some same in
      let first = answered_input answered.table tells in
      subst (λ (f : Found). EndsOpened wallet_spender f lines written (store.past d)) (found_is image found (opening.found image told))
      (ends_opened wallet_spender found lines written (store.past b) (store.past d)
      (leaves_on_disk (spending wallet_spender) store still first (inr found) (opening.all_found image same)))

  from_opened : {image : List ℕ} → store.reads a ≡ Some image → WalletFrom image io (storage store.reads store.past faults a d)
  from_opened {image} told =
      let table = answered.table in
      let taken = all_lines table.took.taken in
      let so_far = leaving told taken table.written table.so_far.of_taken in
      record {
        stays = record {
          goes = (so_far.numbers [] (λ x is q has. absurd (none_in q has))).goes;
          stays = stays_spent wallet_spender (found_in image) taken table.written (store.past a) (store.past d) so_far.numbers;
        };
        vault = λ input had. vault_of input (leaving told (all_lines input) table.written (answered_source table had));
        ends = λ input written tells. ends_of (leaving told (all_lines input) written (answered_input table tells));
      }

  pub opened_run : WalletRun limit io (storage store.reads store.past faults a d) status
  opened_run = record {
    lines = lines_by (record {
      told = λ some. ap is_some opening.as_it_was.reads ∙ some;
      prompt = λ now. tt;
      answers = λ some lines. replies_told found (store.reads a) some opening.found lines;
      ran_over = λ lines ran. tt;
      gave_up_over = λ lines gave. tt;
    }) (rose_before (faults a) (faults b) (faults d) later) answered;
    opened = inr (λ image told. ends_of_opened told);
    from = λ image told. from_opened told;
  }

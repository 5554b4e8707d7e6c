-- The wallet as a machine that spends a number on its disk, the counter, before it releases it with a reply.
use Rattle.std.proofs.Common.{inl, inr, ap, arith}
use Rattle.std.specs.Prelude.{◌≡◌, ℕ, ◌+◌, ◌⊎◌, ⊤, List, Some, None, IsSome, ◌++◌, take}
use Rattle.std.specs.declared.option.Option.{Option}
use Rattle.st_io.specs.Past.{Images, Only, Past, KeepsSpent, Storage}
use Rattle.st_io.specs.Histories.{IfTold}
use Rattle.st_vault.specs.Image.{IsSpent}
use Rattle.st_vault.specs.Vault.{opened}
use Rattle.st_wallet.proofs.StepLemmas.{cut_answered}
use Rattle.st_wallet.specs.Command.{longest_line}
use Rattle.st_wallet.specs.Machine.{next_in, answered, replies, Answered}
use Rattle.st_wallet.specs.Drafts.{Found, opens, found_in}
use Rattle.st_wallet.specs.Drafts.Found.{Blank}
use Rattle.st_drive.specs.DiskLaws.{disk_laws}
use Rattle.st_drive.specs.Lines.{all_lines, Laws, Streams, Tells}
use Rattle.st_drive.specs.OnDisk.{any_effect, RulesLaws, Store, any_effect_laws, disk_meaning}
use Rattle.st_drive.specs.Tables.{KeepsNumbers, Run, AnswersLines}
use Rattle.st_drive.specs.Runs.{Course}
use Rattle.st_drive.specs.Spending.{Spender, EndsOpened, EndsStanding, KeepsStanding, KeptNumbers, LosesOne, run_of, listed, spending}

-- how many bytes of a line are kept: one more than a line may have, to recognize a longer one
abbrev pub kept_of_line : ℕ
kept_of_line = longest_line + 1

-- Its replies, states and counters are those of the reference machine, and an image has the state that it opens as:
-- blank, damaged, or a vault with its key and its next counter.
abbrev pub wallet_spender : Spender Found (Unit {0})
wallet_spender = record {
  reply = λ found line. (answered found line).reply;
  next = λ found line. (answered found line).next;
  number = λ found line. (answered found line).counter;
  spent = IsSpent;
  stands = λ found image. opened image ≡ opens found;
  effect = any_effect;
}

-- ---- A run of the wallet over an input: its replies, the counters that it releases, and the vault on the disk
-- afterwards.

-- the state of a disk by its contents; if it doesn't reveal them, nothing is said about replies
abbrev pub found_told : Option (List ℕ) → Found
found_told None = Blank
found_told (Some image) = found_in image

-- The course of a run from a disk with these contents: each reply is written before the next line is executed.
abbrev pub wallet_course : Option (List ℕ) → Course
wallet_course told = record {
  told = IsSome told;
  prompt = ⊤;
  answers = replies (found_told told);
  ran_over = λ lines. ⊤;
  gave_up_over = λ lines. ⊤;
}

-- A counter is released if at least the first byte of its reply was written. No released counter was spent at the
-- start, no two are equal, and each is spent in every image at the end.
abbrev pub KeptCounters : (image input written : List ℕ) → Past → Type 0
KeptCounters image input written new = KeptNumbers wallet_spender (found_in image) image (all_lines input) written new

-- such a run, to an image that a stop at its end may leave
abbrev pub wallet_run : (image input written left : List ℕ) → Run
wallet_run image input written left = run_of wallet_spender (found_in image) image (all_lines input) written left

-- The vault is durable. At each moment an image is one of the start, or opens as the state of the wallet after a
-- prefix of the lines: blank, or a vault with that key and that next counter. From the first successful sync on it is
-- the latter.
abbrev pub KeepsVault : (image input : List ℕ) → (old new : Past) → Type 0
KeepsVault image input old new = KeepsStanding wallet_spender (found_in image) (all_lines input) old new

-- At the end that prefix has each line with a written byte of its reply, and at most one more.
abbrev pub EndsWithVault : (image input written : List ℕ) → (old new : Past) → Type 0
EndsWithVault image input written old new = EndsStanding wallet_spender (found_in image) (all_lines input) written old new

-- A stop loses at most one counter: one that is spent at the end was below the next one at the start, or was
-- released, or is the one after those.
abbrev pub LosesOneCounter : (image input written : List ℕ) → (old new : Past) → Type 0
LosesOneCounter image input written old new = LosesOne wallet_spender next_in (found_in image) (all_lines input) written old new

-- ---- the properties of a run

-- at its end, from an input and the written bytes
pub record WalletEnds (image input written : List ℕ) (old new : Past) : Type 0 where
  -- the released counters were not spent before, no two are equal, and each is spent in every image
  pub counters : KeptCounters image input written new
  -- the disk has the state of the wallet after all lines with a written byte of their reply, and at most one more
  pub vault : EndsWithVault image input written old new
  -- so a stop loses at most one counter
  pub loses_one : LosesOneCounter image input written old new
  -- so it is one of the runs that release no counter twice, to each image that a stop at its end may leave
  pub runs : Only old image → (left : List ℕ) → Images new left → KeepsNumbers IsSpent (wallet_run image input written left)

-- from a disk whose contents are this image
pub record WalletFrom (image : List ℕ) (io : Streams) (disk : Storage) : Type 0 where
  -- counters spent in every image before the run are so in every image at each moment of it
  pub stays : KeepsSpent IsSpent disk.before disk.behind
  -- at each moment the disk has its earlier state, or that of the wallet after a prefix of the lines
  pub vault : (input : List ℕ) → io.had ≡ Some input → KeepsVault image input disk.before disk.behind
  -- and at the end, for any status
  pub ends : (input written : List ℕ) → Tells io input written → WalletEnds image input written disk.before disk.behind

-- The properties of each run of the wallet: it answers the lines of the source, and more if the disk reveals its
-- contents.
pub record WalletRun (limit : ℕ) (io : Streams) (disk : Storage) (status : ℕ) : Type 0 where
  pub lines : AnswersLines (wallet_course disk.reads) limit io disk.failed status
  -- the disk is opened before anything is read or written: if it can't be opened, nothing is; else each image at the
  -- end has the state of the wallet after such a prefix of the lines
  pub opened : (io.source_kept × io.sink_kept)
      ⊎ IfTold disk.reads (λ image. (input written : List ℕ) → Tells io input written
      → EndsOpened wallet_spender (found_in image) (all_lines input) written disk.behind)
  pub from : IfTold disk.reads (λ image. WalletFrom image io disk)

-- ---- The laws of the wallet as a machine on a disk.

cut_kept : (found : Found) (kept : List ℕ ⊎ Found) (line : List ℕ)
    → (spending wallet_spender).keep found kept (take kept_of_line line) ≡ (spending wallet_spender).keep found kept line
cut_kept found (inl numbers) line = ap (λ (answer : Answered). inl (numbers ++ listed answer.counter)) (cut_answered found line)
cut_kept found (inr before) line = ap (λ (answer : Answered). inr answer.next) (cut_answered found line)

wallet_laws : RulesLaws (spending wallet_spender) kept_of_line
wallet_laws = record {
  positive = omega arith;
  cut_reply = λ found line short. ap (λ answer. answer.reply) (cut_answered found line);
  cut_next = λ found line short. ap (λ answer. answer.next) (cut_answered found line);
  cut_keep = λ found kept line short. cut_kept found kept line;
  effect = any_effect_laws kept_of_line;
}

-- the laws of the machine over any disk
pub machine_laws : {D : Type 0} (store : Store D) → Laws (disk_meaning (spending wallet_spender) store) kept_of_line
machine_laws store = disk_laws (spending wallet_spender) store wallet_laws

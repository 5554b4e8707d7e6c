-- Effects of the lines of four nodes compose, and a truncated line is answered like the whole one.
use Rattle.std.specs.Prelude.{◌≡◌, refl, ℕ, ◌+◌, ◌≤◌, Bool, true, false, nat_le, List, [], ◌∷◌, ◌++◌, length, take, Result, Err}
use Rattle.std.proofs.Common.{◌∙◌, ap, sym, subst, arith, length-take, take_all}
use Rattle.std.proofs.lemmas.Bool.Decides.{nat_tests}
use Rattle.st_base.specs.Answers.{◌>>◌, holds_or}
use Rattle.st_base.specs.Work.{WorkValue}
use Rattle.st_base.specs.Texts.{first_word, other_words}
use Rattle.st_drive.specs.Lines.{Laws}
use Rattle.st_network.specs.Exchange.{Answered, after, answered, answered_step, replies, step_of, step_of_words, Network, longest_line, space}
use Rattle.st_network.specs.Run.{kept_of_line, network_meaning, DueOver, accepted_in, proofs_in, proofs_of_step}
use Rattle.st_exchange.specs.Peer.{Peer, StaysDue, anchors_told}
use Rattle.st_network.specs.declared.command.Cause.{Cause}
use Rattle.st_network.specs.declared.command.Cause.TheVariants as cause
use Rattle.st_network.specs.declared.letters.Step.{Step}

-- a line that is short enough is not truncated
uncut : (most : ℕ) (line : List ℕ) → nat_le (length line) most ≡ true → take (most + 1) line ≡ line
uncut most line short =
    let fits : length line ≤ most + 1 = grind (arith, nat_tests) in
    take_all (most + 1) line fits

-- a line that is too long stays so
still_long : (most : ℕ) (line : List ℕ) → nat_le (length line) most ≡ false → nat_le (length (take (most + 1) line)) most ≡ false
still_long most line long = grind (arith, nat_tests, length-take)

refused_long : (fits : Bool) (next : Result Step Cause) → fits ≡ false → (holds_or fits cause.Long >> next) ≡ Err cause.Long
refused_long fits next long = rw long refl

by_length : {M : Type 0} (peer : Peer M) (network : Network M) (line : List ℕ) (fits : Bool) → nat_le (length line) longest_line ≡ fits
    → step_of peer network (take (longest_line + 1) line) ≡ step_of peer network line
by_length peer network line true short = ap (step_of peer network) (uncut longest_line line short)
by_length peer network line false long =
    let words = step_of_words peer network (first_word space line) (other_words space line) in
    refused_long _ _ (still_long longest_line line long) ∙ sym (refused_long (nat_le (length line) longest_line) words long)

cut_answered : {M : Type 0} (peer : Peer M) (network : Network M) (line : List ℕ) → answered peer network (take kept_of_line line) ≡ answered peer network line
cut_answered peer network line = ap (answered_step peer network) (by_length peer network line (nat_le (length line) longest_line) refl)

pub after-append : {M : Type 0} (peer : Peer M) (network : Network M) (lines more : List (List ℕ)) → after peer network (lines ++ more) ≡ after peer (after peer network lines) more
after-append peer network [] more = refl
after-append peer network (line ∷ lines) more = after-append peer (answered peer network line).next lines more

-- ---- counts

module _ {M : Type 0} (peer : Peer M) where
  pub accepted-append : (network : Network M) (lines more : List (List ℕ))
      → accepted_in peer network (lines ++ more) ≡ accepted_in peer network lines + accepted_in peer (after peer network lines) more
  accepted-append network [] more = omega arith
  accepted-append network (line ∷ lines) more = omega (arith, accepted-append (answered peer network line).next lines more)

  pub proofs-append : (network : Network M) (lines more : List (List ℕ))
      → proofs_in peer network (lines ++ more) ≡ proofs_in peer network lines + proofs_in peer (after peer network lines) more
  proofs-append network [] more = omega arith
  proofs-append network (line ∷ lines) more = omega (arith, proofs-append (answered peer network line).next lines more)

  cut_due : (network later : Network M) (line : List ℕ) (old new : WorkValue)
      → DueOver peer network (take kept_of_line line ∷ []) later old new → DueOver peer network (line ∷ []) later old new
  cut_due network later line old new due =
      subst (λ (step : Result Step Cause). StaysDue peer network.nodes later.nodes
      (anchors_told (answered_step peer network step).reply + 0) (proofs_of_step peer network step + 0) old new)
      (by_length peer network line (nat_le (length line) longest_line) refl) due

  due_more : (network next last : Network M) (lines more : List (List ℕ)) (old mid new : WorkValue) → next ≡ after peer network lines
      → DueOver peer network lines next old mid → DueOver peer next more last mid new → DueOver peer network (lines ++ more) last old new
  due_more network next last lines more old mid new came first second = record {
    files = omega (arith, first.files, second.files, accepted-append network lines more, ap (λ (next : Network M). accepted_in peer next more) came);
    proofs = omega (arith, first.proofs, second.proofs, proofs-append network lines more, ap (λ (next : Network M). proofs_in peer next more) came);
  }

pub network_laws : {M : Type 0} (peer : Peer M) → Laws (network_meaning peer) kept_of_line
network_laws peer = record {
  silent = λ network. refl;
  positive = omega arith;
  cut_answers = λ network line more short. ap (λ (answer : Answered _). answer.reply ++ replies peer answer.next more) (cut_answered peer network line);
  cut_ran = λ network next work counted line short ran. record {
    came = ran.came ∙ ap (λ (answer : Answered _). answer.next) (cut_answered peer network line);
    due = cut_due peer network next line work.0 counted.0 ran.due;
  };
  cut_gave_up = λ network work counted line short due. (due.0, cut_due peer network due.0 line work.0 counted.0 due.1);
  told_stays = λ network next work counted lines ran told. told;
  ran_none = λ network work. record { came = refl; due = record { files = omega arith; proofs = omega arith } };
  ran_more = λ network next last old mid new lines more first second. record {
    came = second.came ∙ ap (λ (reached : Network _). after peer reached more) first.came ∙ sym (after-append peer network lines more);
    due = due_more peer network next last lines more old.0 mid.0 new.0 first.came first.due second.due;
  };
  gave_up_more = λ network next old mid new lines more first due.
      (due.0, due_more peer network next due.0 lines more old.0 mid.0 new.0 first.came first.due due.1);
}

use Rattle.std.proofs.Common.{◌∙◌, ap, sym, subst, arith}
use Rattle.std.specs.Prelude.{⊤, ◌≤◌, ◌-◌, Option, Some, ℕ, List, ◌+◌, ◌≡◌, refl, [], ◌++◌}
use Rattle.st_base.specs.Work.{WorkValue}
use Rattle.st_node.proofs.ChangedLemmas.{changing_short}
use Rattle.st_node.proofs.LawLemmas.{line_keeps, after-append, cut_due, due_more, due_none}
use Rattle.st_node.proofs.ReplyLemmas.{cut_after, cut_replies, cut_answered}
use Rattle.st_node.specs.Laws.{is_changing}
use Rattle.st_node.specs.Command.{longest_line}
use Rattle.st_node.specs.Machine.{Machine, replies, after, new_machine}
use Rattle.st_node.specs.Work.{DueOver}
use Rattle.st_node.specs.inside.Changed.{HasFew}
use Rattle.st_drive.specs.Lines.{all_lines, Meaning, Laws}
use Rattle.st_generate.specs.Plan.{most_rounds}
use Rattle.st_journal_lines.specs.Answering.{AnsweringLaws, Idles}
use Rattle.st_cli.specs.Invocation.{max_input}
use Rattle.st_cli.specs.Runs.{node_answering, node_replies, RanLines}
use Rattle.st_cli.specs.declared.command_line.Invocation.{Invocation}
use Rattle.st_cli.specs.declared.command_line.Invocation.TheVariants.{Node, Journalled, Generate}
use Rattle.st_cli.specs.declared.command_line.NodeOptions.{NodeOptions}

-- the limit and the number of rounds of a form are within their bounds
abbrev pub IsBounded : Option Invocation → Type 0
IsBounded (Some (Node options)) = options.limit ≤ max_input
IsBounded (Some (Journalled options)) = options.limit ≤ max_input
IsBounded (Some (Generate plan)) = plan.rounds ≤ most_rounds
IsBounded invocation = ⊤

-- the replies to all lines of an input
abbrev pub replies_to : NodeOptions → List ℕ → List ℕ
replies_to options input = node_replies options (all_lines input)

-- how many bytes of a line are kept: one more than a line may have, to recognize a longer one
abbrev pub kept_of_line : ℕ
kept_of_line = longest_line + 1

-- The meaning of a node for a run: it replies as the reference machine does, and counts no more than was due.
abbrev pub node_meaning : Meaning Machine (WorkValue × Unit {0})
node_meaning = record {
  answers = replies;
  told = λ work. ⊤;
  ran = RanLines;
  gave_up = λ machine work lines counted. DueOver machine lines work.0 counted.0;
  prompt = ⊥;
}

-- ---- Effects of a node's lines compose, and a truncated line is answered like the whole one.

-- work due over some lines, and then over more after the machine that they leave
due_then : (machine next : Machine) (lines more : List (List ℕ)) (old mid new : WorkValue) → next ≡ after machine lines
    → DueOver machine lines old mid → DueOver next more mid new → DueOver machine (lines ++ more) old new
due_then machine next lines more old mid new came first second =
    due_more machine lines more old mid new first (subst (λ (reached : Machine). DueOver reached more mid new) came second)

pub node_laws : Laws node_meaning kept_of_line
node_laws = record {
  silent = λ machine. refl;
  positive = omega arith;
  cut_answers = λ machine line more short. cut_replies machine line more;
  cut_ran = λ machine next work counted line short ran. record {
    came = ran.came ∙ cut_after machine line [];
    due = cut_due machine line work.0 counted.0 ran.due;
  };
  cut_gave_up = λ machine work counted line short due. cut_due machine line work.0 counted.0 due;
  told_stays = λ machine next work counted lines ran told. told;
  ran_none = λ machine work. record { came = refl; due = due_none machine work.0 };
  ran_more = λ machine next last old mid new lines more first second. record {
    came = second.came ∙ ap (λ (reached : Machine). after reached more) first.came ∙ sym (after-append machine lines more);
    due = due_then machine next lines more old.0 mid.0 new.0 first.came first.due second.due;
  };
  gave_up_more = λ machine next old mid new lines more first due. due_then machine next lines more old.0 mid.0 new.0 first.came first.due due;
}

-- ---- The laws of a node as a machine that replay restores.

pub answering_laws : AnsweringLaws node_answering kept_of_line
answering_laws = record {
  whole = omega arith;
  short = changing_short;
  cut_reply = λ machine line short. ap (λ answer. answer.reply) (cut_answered machine line);
  cut_next = λ machine line short. ap (λ answer. answer.next) (cut_answered machine line);
  cut_changes = λ machine line short. ap (λ answer. is_changing answer.reply) (cut_answered machine line);
  effect = record {
    cut_ran = λ m n c d line short ran. node_laws.cut_ran m n (c, tt) (d, tt) line short ran;
    cut_gave_up = λ m c d line short gave. node_laws.cut_gave_up m (c, tt) (d, tt) line short gave;
    ran_none = λ m c. node_laws.ran_none m (c, tt);
    ran_more = λ m n o c d e lines more first then. node_laws.ran_more m n o (c, tt) (d, tt) (e, tt) lines more first then;
    gave_up_more = λ m n c d e lines more first then. node_laws.gave_up_more m n (c, tt) (d, tt) (e, tt) lines more first then;
  };
  gave_up_behind = λ m n c d line ran. ran.due;
}

-- a line whose reply does not have the form of a change leaves each machine that replay restores
pub node_idles : Idles node_answering new_machine HasFew
node_idles = record {
  starts = λ schedule. omega arith;
  stays = λ machine line few. (line_keeps machine line).few few;
  idle = λ machine line few none. (line_keeps machine line).idle few none;
}

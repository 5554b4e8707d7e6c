use Rattle.std.proofs.Common.{◌≡◌, ◌∙◌, ◌+◌, ◌<◌, ℕ, List, length, [], ◌∷◌, Ok, Some, refl, ap, sym, subst, arith}
use Rattle.std.specs.Prelude.{IfSome}
use Rattle.st_io.proofs.HistoryLemmas.{still_as_it_was, stands}
use Rattle.st_journal.specs.Opening.{Comes, coming, left_of, put_before}
use Rattle.st_journal_lines.proofs.ReplayLemmas.{first_gave, first_within, gave_within, ran_all, refused_as, replayed_all, replayed_more, replayed_none, stayed_within}
use Rattle.st_journal_lines.proofs.running.replay.Goals as goal

pub records-init : goal.records-init
records-init g c = record {
  reading = c.requires;
  replayed = λ image told. replayed_none g.met.N.Replayable.laws c.args.machine c.args.context.now c.args.opening.place image (coming c.args.opening image);
  left = λ left. left;
  as_it_was = record { reads = refl; images = record { goes = stands _; none = λ x left. left } };
  later = omega arith;
}

pub records-preserved : goal.records-preserved
records-preserved g c = record {
  reading = c.next.ensures.reading;
  replayed = λ image told.
      let place = subst (λ next. IfSome next (λ (body : List ℕ). c.next.new.self.place ≡ c.records.opening.place + (5 + length body))) c.in-Ok-Some.field-0-is c.in-Ok-Some.ensures.place in
      let came = subst (λ next. Comes (coming c.records.opening image) (coming c.next.new.self image) (Ok next)) c.in-Ok-Some.field-0-is
      (c.in-Ok-Some.ensures.comes image (c.records.invariant.as_it_was.reads ∙ told)) in
      replayed_more g.met.N.Replayable.laws (c.records.invariant.replayed image told)
      (record {
        split = came ∙ ap (λ l. put_before (l ∷ []) (coming c.next.new.self image)) (sym c.as_slice.ensures);
        stand = (
          c.in-Ok-Some.ensures.gives image (c.records.invariant.as_it_was.reads ∙ told) ∙ ap Some c.in-Ok-Some.field-0-is
              ∙ ap (λ l. Some (Some l)) (sym c.as_slice.ensures),
          place ∙ ap (λ l. c.records.opening.place + (5 + length l)) (sym c.as_slice.ensures),
        );
      }) c.in-Ok.ensures.next c.in-Ok.ensures.ran;
  left = λ left.
      let less = subst (λ next. IfSome next (λ body. left_of c.next.new.self < left_of c.records.opening)) c.in-Ok-Some.field-0-is c.in-Ok-Some.ensures.shorter in
      c.records.invariant.left (omega (arith, less));
  as_it_was = still_as_it_was c.records.invariant.as_it_was c.next.ensures.as_it_was;
  later = omega (arith, c.records.invariant.later, c.next.ensures.cause.later);
}

pub returns-in-Ok-None-clause-gives : goal.returns-in-Ok-None-clause-gives
returns-in-Ok-None-clause-gives g c image told =
    let came = subst (λ next. Comes (coming c.records.opening image) (coming c.next.new.self image) (Ok next)) c.in-Ok-None.field-0-is
    (c.in-Ok-None.ensures.comes image (c.records.invariant.as_it_was.reads ∙ told)) in
    replayed_all g.met.N.Replayable.laws (c.records.invariant.replayed image told) came ∙ ap (λ lines. Ok lines.0) (sym c.new.ensures)

pub returns-in-Ok-None-clause-ran : goal.returns-in-Ok-None-clause-ran
returns-in-Ok-None-clause-ran g c image told r is =
    let came = subst (λ next. Comes (coming c.records.opening image) (coming c.next.new.self image) (Ok next)) c.in-Ok-None.field-0-is
    (c.in-Ok-None.ensures.comes image (c.records.invariant.as_it_was.reads ∙ told)) in
    subst (λ lines. g.N.Replayable.answering.effect.ran c.args.machine c.args.context.now r lines.0 c.records.context) (sym c.new.ensures)
    (ran_all g.met.N.Replayable.laws (c.records.invariant.replayed image told) came r is)

pub returns-in-Err-answer-clause-gave_up : goal.returns-in-Err-answer-clause-gave_up
returns-in-Err-answer-clause-gave_up g c image told r is =
    let came = subst (λ next. Comes (coming c.records.opening image) (coming c.next.new.self image) (Ok next)) c.in-Ok-Some.field-0-is
    (c.in-Ok-Some.ensures.comes image (c.records.invariant.as_it_was.reads ∙ told)) in
    gave_within g.met.N.Replayable.laws (c.records.invariant.replayed image told) (coming c.next.new.self image)
    (came ∙ ap (λ l. put_before (l ∷ []) (coming c.next.new.self image)) (sym c.as_slice.ensures))
    c.in-Err-answer.ensures.gave_up r is

pub returns-in-Err-clause-gives : goal.returns-in-Err-clause-gives
returns-in-Err-clause-gives g c image told =
    refused_as g.met.N.Replayable.laws (c.records.invariant.replayed image told) (coming c.next.new.self image) c.in-Err.refused
    (c.in-Err.ensures.comes image (c.records.invariant.as_it_was.reads ∙ told))

pub returns-in-Err-clause-gave_up : goal.returns-in-Err-clause-gave_up
returns-in-Err-clause-gave_up g c image told r is =
    stayed_within g.met.N.Replayable.laws (c.records.invariant.replayed image told) r is

pub returns-in-Err-answer-clause-within : goal.returns-in-Err-answer-clause-within
returns-in-Err-answer-clause-within g c image told =
    first_gave g.met.N.Replayable.laws (c.records.invariant.replayed image told)
    (c.in-Ok-Some.ensures.gives image (c.records.invariant.as_it_was.reads ∙ told) ∙ ap Some c.in-Ok-Some.field-0-is ∙ ap (λ l. Some (Some l)) (sym c.as_slice.ensures))
    c.in-Err-answer.ensures.gave_up

pub returns-in-Err-clause-within : goal.returns-in-Err-clause-within
returns-in-Err-clause-within g c image told = first_within g.met.N.Replayable.laws (c.records.invariant.replayed image told)

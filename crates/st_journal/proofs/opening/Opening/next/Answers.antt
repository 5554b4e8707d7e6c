use Rattle.std.proofs.Common.{◌∙◌, ◌+◌, ◌<◌, [], ◌∷◌, length, Some, Err, ap, sym, subst, arith}
use Rattle.std.specs.Prelude.{IfSome}
use Rattle.st_journal.proofs.OpeningLemmas.{closed_none, comes_by, records_next, records_none, reading_on, ready_behind}
use Rattle.st_journal.proofs.AppendLemmas.{ready_only}
use Rattle.st_journal.specs.Opening.{put_before, records_from}
use Rattle.st_journal.proofs.opening.Opening.next.Goals as goal

pub returns-then-self-clause-comes : goal.returns-then-self-clause-comes
returns-then-self-clause-comes g c image told =
    records_none c.args.self.now.place image (c.requires.reading.closed image told (omega (arith, c.if-self.true)))

pub returns-then-self-clause-ready : goal.returns-then-self-clause-ready
returns-then-self-clause-ready g c none =
    ready_only c.args.self.now.place _ _
    (λ image told.
    c.requires.reading.gate image told
    ∙ closed_none c.args.self.now.place image (c.requires.reading.closed image told (omega (arith, c.if-self.true))))
    c.requires.reading.only

pub returns-in-Ok-Some-clause-reading : goal.returns-in-Ok-Some-clause-reading
returns-in-Ok-Some-clause-reading g c =
    let place = c.args.self.now.place in
    let len = c.args.self.now.len in
    let fits : place + 5 + length c.in-Ok-Some.body < len =
    subst (λ next. IfSome next (λ body. place + 5 + length body < len)) c.in-Ok-Some.field-0-is c.in-Ok-Some.ensures.fits in
    reading_on c.requires.reading c.read_record.ensures.as_it_was.reads c.read_record.ensures.as_it_was.images c.read_record.new.window c.as_slice.result.now
    (omega (arith, fits, ap length c.as_slice.ensures))
    (λ image told. c.in-Ok-Some.ensures.gives image told ∙ ap Some c.in-Ok-Some.field-0-is ∙ ap (λ b. Some (Some b)) (sym c.as_slice.ensures))
    c.read_record.ensures.sound c.read_record.ensures.shows

pub returns-in-Ok-Some-clause-comes : goal.returns-in-Ok-Some-clause-comes
returns-in-Ok-Some-clause-comes g c image told =
    let place = c.args.self.now.place in
    records_next place image c.in-Ok-Some.body (c.in-Ok-Some.ensures.gives image told ∙ ap Some c.in-Ok-Some.field-0-is)
    ∙ ap (λ b. put_before (c.in-Ok-Some.body ∷ []) (records_from (place + (5 + length b)) image)) (sym c.as_slice.ensures)

pub returns-in-Ok-None-clause-comes : goal.returns-in-Ok-None-clause-comes
returns-in-Ok-None-clause-comes g c image told =
    records_none c.args.self.now.place image (c.in-Ok-None.ensures.gives image told ∙ ap Some c.in-Ok-None.field-0-is)

pub returns-in-Ok-None-clause-ready : goal.returns-in-Ok-None-clause-ready
returns-in-Ok-None-clause-ready g c none =
    ready_behind c.requires.reading c.read_record.ensures.as_it_was.reads c.read_record.ensures.as_it_was.images
    (λ image told. c.in-Ok-None.ensures.gives image told ∙ ap Some c.in-Ok-None.field-0-is)

pub returns-in-Err-clause-comes : goal.returns-in-Err-clause-comes
returns-in-Err-clause-comes g c image told =
    comes_by c.args.self.now.place image (Err c.in-Err.refused) (c.in-Err.ensures.gives image told)

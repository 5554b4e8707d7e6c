use Rattle.std.proofs.Common.{◌∙◌, take, drop, Ok, ap, sym, subst, arith, length-drop}
use Rattle.std.proofs.lemmas.List.{drop-drop}
use Rattle.st_io.proofs.HistoryLemmas.{still_as_it_was}
use Rattle.st_journal.proofs.OpeningLemmas.{closed_record, refused_record, whole_record}
use Rattle.st_journal.specs.inside.Heads.{HeadIs}
use Rattle.st_journal.proofs.window.read_record.Goals as goal

pub returns-in-Ok-clause-gives : goal.returns-in-Ok-clause-gives
returns-in-Ok-clause-gives g c image told =
    let from = drop c.args.place image in
    whole_record c.in-Ok-Some.n from c.in-Ok.body (omega (arith, c.requires.inside, c.requires.len image told, length-drop c.args.place image))
    (subst (λ head. HeadIs from (Ok head)) c.in-Ok-Some.field-0-is (c.in-Ok-Some.ensures.gives image told))
    (c.in-Ok.ensures.bytes image (c.read_head.ensures.as_it_was.reads ∙ told) ∙ ap (take c.in-Ok-Some.n) (sym (drop-drop 5 c.args.place image)))

pub returns-in-Ok-None-clause-gives : goal.returns-in-Ok-None-clause-gives
returns-in-Ok-None-clause-gives g c image told =
    let from = drop c.args.place image in
    closed_record from (omega (arith, c.requires.inside, c.requires.len image told, length-drop c.args.place image))
    (subst (λ head. HeadIs from (Ok head)) c.in-Ok-None.field-0-is (c.in-Ok-None.ensures.gives image told))

pub returns-in-Err-clause-gives : goal.returns-in-Err-clause-gives
returns-in-Err-clause-gives g c image told =
    refused_record (drop c.args.place image) c.in-Err.refused (omega (arith, c.requires.inside, c.requires.len image told, length-drop c.args.place image))
    (c.in-Err.ensures.gives image told)

pub returns-in-Err-read_bytes-clause-as_it_was : goal.returns-in-Err-read_bytes-clause-as_it_was
returns-in-Err-read_bytes-clause-as_it_was g c = still_as_it_was c.read_head.ensures.as_it_was c.read_bytes.ensures.as_it_was

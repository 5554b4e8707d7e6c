use Rattle.std.proofs.Common.{◌≡◌, ◌+◌, ◌≤◌, [], ◌∷◌, length, option_map, ap, subst, arith}
use Rattle.std.proofs.lemmas.Result.{on_ok_weaker}
use Rattle.st_io.proofs.HistoryLemmas.{length_overwritten, over, then_on, turns_on, turns_weaker, weaker}
use Rattle.st_io.specs.Histories.{Holds, Torn}
use Rattle.st_journal.proofs.AppendLemmas.{both, fits, alike, first_moments, second_moments, written}
use Rattle.st_journal.specs.Image.{found, open_gate, records, IsBeforeOrAfter, row_of}
use Rattle.st_journal.specs.inside.Heads.{put_last}
use Rattle.st_journal.proofs.journal.write_record.Goals as goal

pub write_synced-requires : goal.write_synced-requires
write_synced-requires g c old told = fits c.args.end old (c.requires.ready.gate old told)

pub write_synced-requires-2 : goal.write_synced-requires-2
write_synced-requires-2 g c laid told =
    let from = c.in_ok-write_synced.ensures.written.back laid told in
    let within : c.args.end + 1 ≤ length from.0 = fits c.args.end from.0 (c.requires.ready.gate from.0 from.1) in
    omega (arith, within, ap length from.2, length_overwritten (c.args.end + 1) c.args.row.now from.0 within)

pub returns-in_err-write_synced-clause-moments : goal.returns-in_err-write_synced-clause-moments
returns-in_err-write_synced-clause-moments g c old told =
    first_moments c.args.end _ old c.args.body.now _ _ (alike c.args.end _ _ old c.requires.ready told)
    (record { goes = c.write_synced.ensures.time; each = c.write_synced.ensures.images })

pub returns-clause-moments : goal.returns-clause-moments
returns-clause-moments g c old told =
    let is = alike c.args.end _ _ old c.requires.ready told in
    let laid = c.in_ok-write_synced.ensures.written.forward old told in
    let holds = subst (λ row. Holds (c.args.end + 1) row old laid.0) c.requires.row laid.2 in
    then_on (IsBeforeOrAfter (records old) c.args.body.now) _ _ _
    (first_moments c.args.end _ old c.args.body.now _ _ is (record { goes = c.write_synced.ensures.time; each = c.write_synced.ensures.images }))
    (second_moments c.args.end old c.args.body.now _ _ is.ends (omega (arith, c.requires.body))
    (weaker (Torn c.args.end 1 laid.0) _ _ _
    (over (Torn c.args.end 1) _ _ laid.0 (c.in_ok-write_synced.ensures.durable laid.0 laid.1) c.write_synced-2.ensures.time c.write_synced-2.ensures.images)
    (λ x torn. subst (λ l. Torn c.args.end 1 l x) holds torn)))

pub returns-clause-stands : goal.returns-clause-stands
returns-clause-stands g c =
    let end = c.args.end in
    on_ok_weaker c.write_synced-2.result
    (λ second. turns_weaker _ _ _ (Holds end (open_gate ∷ row_of c.args.body.now)) (λ old new told by.
    both end (row_of c.args.body.now) old by.0 new (fits end old (c.requires.ready.gate old told)) (subst (λ row. Holds (end + 1) row old by.0) c.requires.row by.1) by.2)
    (turns_on _ _ _ (Holds (end + 1) c.args.row.now) (Holds end (open_gate ∷ [])) c.in_ok-write_synced.ensures.written second))
    c.write_synced-2.ensures.written

pub returns-clause-written : goal.returns-clause-written
returns-clause-written g c =
    let body = c.args.body.now in
    let end = c.args.end in
    on_ok_weaker c.write_synced-2.result
    (λ second. turns_weaker _ _ _ (λ old new. found new ≡ option_map (put_last body) (found old)) (λ old new told by.
    written end old body new (alike end _ _ old c.requires.ready told).ends (omega (arith, c.requires.body))
    (subst (λ l. Holds end (open_gate ∷ []) l new) (subst (λ row. Holds (end + 1) row old by.0) c.requires.row by.1) by.2))
    (turns_on _ _ _ (Holds (end + 1) c.args.row.now) (Holds end (open_gate ∷ [])) c.in_ok-write_synced.ensures.written second))
    c.write_synced-2.ensures.written

use Rattle.std.proofs.Common.{◌≡◌, ◌∙◌, [], ap, arith, subst, sym}
use Rattle.std.proofs.lemmas.List.{nil_from_length}
use Rattle.st_observer.specs.inside.Steps.{is_among}
use Rattle.st_observer.specs.Observed.{is_waiting}
use Rattle.st_observer.specs.declared.kept.Kept.{Kept}
use Rattle.st_observer.proofs.WorkLemmas.{IsBoundWhere}
use Rattle.st_observer.proofs.GoingLemmas.{going-end}
use Rattle.st_observer.proofs.changes.settle_waiting.Goals as goal

pub returns-then-len-eq0-clause-state : goal.returns-then-len-eq0-clause-state
returns-then-len-eq0-clause-state c =
    let empty : c.in_ok-entries.entries ≡ [] = nil_from_length c.in_ok-entries.entries (omega (arith, c.len.ensures)) in
    record {
      is = going-end c.requires.going
          (λ n. sym (ap (λ (k : Kept). is_waiting c.args.uri.now n k.waiting) c.get.ensures) ∙ sym (c.in_ok-entries.ensures.those n)
          ∙ ap (λ xs. is_among xs n) empty);
      none = c.requires.none;
    }

pub returns-in_err-later-clause-few : goal.returns-in_err-later-clause-few
returns-in_err-later-clause-few c = λ names covers.
    subst (λ (k : Kept). IsBoundWhere c.args.ledger.now c.args.content.now (is_among c.as_slice.result.now) k c.args.work.now c.settle_those.new.work)
    c.take.ensures c.settle_those.ensures.few names
    (λ n entry found one. covers n entry found (sym (ap (λ xs. is_among xs n) c.as_slice.ensures ∙ c.in_ok-entries.ensures.those n
    ∙ ap (λ (k : Kept). is_waiting c.args.uri.now n k.waiting) c.get.ensures) ∙ one))

pub returns-clause-few : goal.returns-clause-few
returns-clause-few c = λ names covers.
    subst (λ (k : Kept). IsBoundWhere c.args.ledger.now c.args.content.now (is_among c.as_slice.result.now) k c.args.work.now c.settle_those.new.work)
    c.take.ensures c.settle_those.ensures.few names
    (λ n entry found one. covers n entry found (sym (ap (λ xs. is_among xs n) c.as_slice.ensures ∙ c.in_ok-entries.ensures.those n
    ∙ ap (λ (k : Kept). is_waiting c.args.uri.now n k.waiting) c.get.ensures) ∙ one))

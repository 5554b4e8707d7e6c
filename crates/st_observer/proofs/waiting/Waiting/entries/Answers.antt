use Rattle.std.proofs.Common.{◌≡◌, ◌∙◌, eqb, ap, sym}
use Rattle.std.specs.List.{list_any}
use Rattle.st_observer.specs.Observed.{is_waiting, waiting_for}
use Rattle.st_observer.specs.inside.Waiting.{seen}
use Rattle.st_observer.proofs.WaitingLemmas.{ascends-none, numbers-found, numbers_in}
use Rattle.st_observer.proofs.waiting.Waiting.entries.Goals as goal

pub returns-in-Some-clause-those : goal.returns-in-Some-clause-those
returns-in-Some-clause-those c = λ n.
    let found : waiting_for c.in_ok-key.key (seen c.self.inside.files.entries) ≡ c.in_ok-listed-in-Some.field-0 =
    numbers-found c.in_ok-key.key c.self.inside.files.entries c.in_ok-key.ensures.read c.self.invariant
    ∙ ap numbers_in (sym c.in-Some.ensures.value) ∙ sym c.in_ok-listed-in-Some.ensures.value in
    sym (ap (λ numbers. list_any (λ m. eqb m n) numbers) found) ∙ (λ i. is_waiting (c.in_ok-key.ensures.value i) n (c.self.view_is i))

pub returns-clause-those : goal.returns-clause-those
returns-clause-those c = λ n.
    let found : waiting_for c.in_ok-key.key (seen c.self.inside.files.entries) ≡ c.new-in-None.result =
    numbers-found c.in_ok-key.key c.self.inside.files.entries c.in_ok-key.ensures.read c.self.invariant
    ∙ ap numbers_in (sym c.in-None.ensures.value) ∙ sym c.new-in-None.ensures in
    sym (ap (λ numbers. list_any (λ m. eqb m n) numbers) found) ∙ (λ i. is_waiting (c.in_ok-key.ensures.value i) n (c.self.view_is i))

pub returns-clause-once : goal.returns-clause-once
returns-clause-once c = rw c.new-in-None.ensures (ascends-none _)

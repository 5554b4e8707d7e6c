use Rattle.std.proofs.Common.{◌≡◌, ◌∙◌, [], refl, sym, subst, ap}
use Rattle.std.proofs.lemmas.List.{nil_from_length}
use Rattle.std.specs.Vec.Iter.{into_iter_items}
use Rattle.st_batch.specs.Laws.{AreNamed}
use Rattle.st_node.proofs.ContentLemmas.{arrivals_next, arrivals_none}
use Rattle.st_node.specs.Machine.{all_arrived}
use Rattle.st_node.specs.Work.{ArrivalsCounts}
use Rattle.st_observer.specs.Observed.{Observed, arrived}
use Rattle.st_node.proofs.batches.take_files.Goals as goal

pub loop-file-init : goal.loop-file-init
loop-file-init c =
    rw (c.into_iter-file-iterator.ensures.into_iter_gives.0 ∙ c.into_vec-file-items.ensures)
    record { named = c.requires; state = refl; counts = λ new others. others }

pub loop-file-preserved : goal.loop-file-preserved
loop-file-preserved c =
    let rest = into_iter_items c.next.new.self in
    let split = c.in-Some.ensures.steps.0 in
    record {
      named = (subst AreNamed split c.loop-file.invariant.named).1;
      state =
          ap (λ (next : Observed). all_arrived rest next) c.in_ok-next.ensures.state
          ∙ sym (ap (λ left. all_arrived left c.loop-file.taken) split) ∙ c.loop-file.invariant.state;
      counts = λ new others. c.loop-file.invariant.counts new
          (subst (λ left. ArrivalsCounts c.loop-file.taken left c.loop-file.work new) (sym split)
          (arrivals_next c.loop-file.taken c.in-Some.file rest c.arrive_under.ensures.few
          (subst (λ next. ArrivalsCounts next rest c.arrive_under.new.work new) c.in_ok-next.ensures.state others)));
    }

pub arrive_under-requires : goal.arrive_under-requires
arrive_under-requires c = (subst AreNamed c.in-Some.ensures.steps.0 c.loop-file.invariant.named).0

pub returns-in_err-next-clause-counts : goal.returns-in_err-next-clause-counts
returns-in_err-next-clause-counts c =
    let rest = into_iter_items c.next.new.self in
    let none = arrivals_none (arrived c.in-Some.file.bytes c.loop-file.taken) rest c.arrive_under.new.work in
    c.loop-file.invariant.counts c.arrive_under.new.work
    (subst (λ left. ArrivalsCounts c.loop-file.taken left c.loop-file.work c.arrive_under.new.work) (sym c.in-Some.ensures.steps.0)
    (arrivals_next c.loop-file.taken c.in-Some.file rest c.arrive_under.ensures.few none))

pub returns-clause-state : goal.returns-clause-state
returns-clause-state c =
    let none : into_iter_items c.loop-file.file-iterator ≡ [] = nil_from_length _ (sym c.loop-file.file-iterator.rest.ok.0 ∙ c.in-None.ensures.steps.0) in
    sym (ap (λ left. all_arrived left c.loop-file.taken) none) ∙ c.loop-file.invariant.state

pub returns-clause-counts : goal.returns-clause-counts
returns-clause-counts c =
    c.loop-file.invariant.counts c.loop-file.work (arrivals_none c.loop-file.taken (into_iter_items c.loop-file.file-iterator) c.loop-file.work)

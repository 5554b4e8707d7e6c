use Rattle.st_observer.proofs.ObserverLemmas.{append-leaves, arrival-leaves, cut-leaves, operations-decide}
use Rattle.st_observer.proofs.observer.isolation_law.Goals as goal

pub returns : goal.returns
returns c = record {
  operations_decide = operations-decide;
  append_leaves = append-leaves;
  cut_leaves = cut-leaves;
  arrival_leaves = arrival-leaves;
}

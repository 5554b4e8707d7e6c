use Rattle.std.proofs.Common.{ap}
use Rattle.st_observer.specs.declared.held.Steps.{Steps}
use Rattle.st_observer.proofs.StoredLemmas.{cut_operations}
use Rattle.st_observer.proofs.kept.Kept.cut.Goals as goal

pub returns : goal.returns
returns c = record {
  bounds = c.in_ok-forget_from.ensures.bounds;
  waits = c.in_ok-forget_from.ensures.waits;
  schedule = ap (λ (steps : Steps). steps.schedule) c.in_ok-index.ensures.folder;
  operations = λ suffix. cut_operations c.args.n suffix c.args.self.index.items c.in_ok-index.index.items (c.in_ok-index.ensures.items suffix);
  changes = c.in_ok-index.ensures.changes;
}

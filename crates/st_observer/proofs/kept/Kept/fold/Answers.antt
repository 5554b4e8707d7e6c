use Rattle.std.proofs.Common.{ap, refl, subst, sym}
use Rattle.st_observer.specs.inside.Steps.{Folds}
use Rattle.st_observer.specs.declared.kept.Kept.{Kept}
use Rattle.st_observer.specs.declared.held.Steps.{Steps}
use Rattle.st_observer.proofs.StoredLemmas.{covers-itself, same_operations}
use Rattle.st_observer.proofs.kept.Kept.fold.Goals as goal

pub returns-clause-step : goal.returns-clause-step
returns-clause-step c =
    subst (λ (kept : Kept). Folds c.args.self kept) (sym c.in_ok-new.ensures) (record {
      bounds = refl;
      waiting = refl;
      schedule = ap (λ (steps : Steps). steps.schedule) c.in_ok-index.ensures.folder;
      operations = λ suffix. same_operations suffix c.args.self.index.items c.in_ok-index.index.items (c.in_ok-index.ensures.items suffix);
      none = c.in_ok-index.ensures.changes;
    })

pub returns-clause-reads : goal.returns-clause-reads
returns-clause-reads c =
    let bound = c.fold.ensures.few c.args.self.index.changes (covers-itself c.args.self.index.changes) in
    record { least = bound.least; read = bound.files; opened = bound.proofs }

pub returns-in_err-new-clause-reads : goal.returns-in_err-new-clause-reads
returns-in_err-new-clause-reads c =
    let bound = c.fold.ensures.few c.args.self.index.changes (covers-itself c.args.self.index.changes) in
    record { least = bound.least; read = bound.files; opened = bound.proofs }

pub returns-in_err-index-clause-reads : goal.returns-in_err-index-clause-reads
returns-in_err-index-clause-reads c =
    let bound = c.fold.ensures.few c.args.self.index.changes (covers-itself c.args.self.index.changes) in
    record { least = bound.least; read = bound.files; opened = bound.proofs }

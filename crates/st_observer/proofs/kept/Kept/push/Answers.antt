use Rattle.std.proofs.Common.{◌∙◌, ap, arith, sym}
use Rattle.std.proofs.lemmas.List.{get_or_past}
use Rattle.st_anchor.specs.States.{role_states}
use Rattle.st_observer.specs.Work.{unknown}
use Rattle.st_observer.specs.Observed.{one_misses}
use Rattle.st_observer.proofs.OperationsLemmas.{needs_none}
use Rattle.st_observer.proofs.kept.Kept.push.Goals as goal

pub turn-requires : goal.turn-requires
turn-requires c = λ uri.
    c.requires.waits.each uri c.args.n
    ∙ ap (one_misses uri)
    (ap role_states (get_or_past c.args.self.bounds.items c.args.n unknown (omega (arith, c.requires.number))) ∙ needs_none ∙ sym c.no_roles.ensures)

use Rattle.std.proofs.Common.{◌≡◌, ◌∙◌, ℕ, List, ap, set, set-set, subst, sym}
use Rattle.st_anchor.specs.Gives.{newly_decided, newly_opened, given}
use Rattle.st_anchor.specs.States.{WorkedAtMost, role_states}
use Rattle.st_anchor.specs.BoundValue.{BoundValue, known_from}
use Rattle.st_anchor.specs.declared.part.RoleState.{RoleState}
use Rattle.st_base.specs.Work.{WorkValue}
use Rattle.st_content.specs.Files.{Files}
use Rattle.st_observer.specs.Work.{bound_at, GrewAtMost}
use Rattle.st_observer.specs.inside.Steps.{PutsGiven}
use Rattle.st_observer.specs.inside.Waiting.{TurnsTo}
use Rattle.st_observer.specs.Observed.{one_misses}
use Rattle.st_observer.proofs.WorkLemmas.{grew-only}
use Rattle.st_observer.proofs.kept.Kept.settle.Goals as goal

-- what one entry adds was counted, wherever it ended
settle-few : (files : Files) (bounds : List BoundValue) (n : ℕ) {start : BoundValue} → start ≡ bound_at n bounds → {old new : WorkValue}
    → WorkedAtMost (newly_decided files start) (newly_opened files start) old new
    → GrewAtMost (newly_decided files (bound_at n bounds)) (newly_opened files (bound_at n bounds)) 0 old new
settle-few files bounds n out {old} {new} few =
    subst (λ (b : BoundValue). GrewAtMost (newly_decided files b) (newly_opened files b) 0 old new) out (grew-only few)

pub returns-clause-step : goal.returns-clause-step
returns-clause-step c =
    let n = c.args.n in
    let bounds = c.args.self.bounds.items in
    let settled : c.in_ok-bound.bound ≡ known_from c.args.content.now (bound_at n bounds) =
    c.in_ok-bound.ensures.value ∙ ap (known_from c.args.content.now) c.replaced-bound.ensures.value in
    record {
      bounds = c.replaced-meanwhile.ensures.rest ∙ ap (λ xs. set xs n c.in_ok-bound.bound) c.replaced-bound.ensures.rest
          ∙ set-set bounds n c.in_ok-meanwhile.meanwhile c.in_ok-bound.bound ∙ ap (set bounds n) settled;
      waits = subst (λ (roles : List RoleState). TurnsTo n roles c.args.self.waiting c.turn.new.self) (c.roles_of.ensures ∙ ap role_states settled)
          c.in_ok-turn.ensures;
      states = subst (λ (b : BoundValue). PutsGiven n c.args.height (given b) c.args.self.index c.in_ok-index.index) settled c.in_ok-index.ensures;
    }

pub returns-clause-few : goal.returns-clause-few
returns-clause-few c = settle-few c.args.content.now c.args.self.bounds.items c.args.n c.replaced-bound.ensures.value c.in_ok-bound.ensures.few

pub returns-in_err-index-clause-few : goal.returns-in_err-index-clause-few
returns-in_err-index-clause-few c = settle-few c.args.content.now c.args.self.bounds.items c.args.n c.replaced-bound.ensures.value c.in_ok-bound.ensures.few

pub returns-in_err-turn-clause-few : goal.returns-in_err-turn-clause-few
returns-in_err-turn-clause-few c = settle-few c.args.content.now c.args.self.bounds.items c.args.n c.replaced-bound.ensures.value c.in_ok-bound.ensures.few

pub returns-in_err-bound-clause-few : goal.returns-in_err-bound-clause-few
returns-in_err-bound-clause-few c = settle-few c.args.content.now c.args.self.bounds.items c.args.n c.replaced-bound.ensures.value c.in_err-bound.ensures.few

pub turn-requires : goal.turn-requires
turn-requires c = λ uri.
    c.requires.waits.each uri c.args.n
    ∙ ap (one_misses uri) (ap role_states (sym c.replaced-bound.ensures.value) ∙ sym c.roles_of-before.ensures)

use Rattle.std.proofs.Common.{◌-◌, arith, refl}
use Rattle.st_observer.proofs.ObserverLemmas.{taken-first, taken-length, taken-turn, taken-waits}
use Rattle.st_observer.proofs.changes.forget_from.Goals as goal

pub turn-requires : goal.turn-requires
turn-requires c =
    taken-turn c.args.bounds.now.items c.forgetting.bounds.items c.take_last-roles.new.bounds.items c.forgetting.left (c.forgetting.left - 1)
    c.forgetting.invariant.bounds c.forgetting.invariant.number (omega arith) refl c.take_last-roles.ensures.rest
    c.take_last-roles.result c.forgetting.waiting c.take_last-roles.ensures.roles c.forgetting.invariant.waits

pub forgetting-preserved : goal.forgetting-preserved
forgetting-preserved c = record {
  within = omega arith;
  number =
      taken-length c.args.bounds.now.items c.forgetting.bounds.items c.take_last-roles.new.bounds.items c.forgetting.left (c.forgetting.left - 1)
      c.forgetting.invariant.bounds c.forgetting.invariant.number (omega arith) refl c.take_last-roles.ensures.rest;
  bounds =
      taken-first c.args.bounds.now.items c.forgetting.bounds.items c.take_last-roles.new.bounds.items c.forgetting.left (c.forgetting.left - 1)
      c.forgetting.invariant.bounds c.forgetting.invariant.number (omega arith) refl c.take_last-roles.ensures.rest;
  waits =
      taken-waits c.args.bounds.now.items c.forgetting.bounds.items c.take_last-roles.new.bounds.items c.forgetting.left (c.forgetting.left - 1)
      c.forgetting.invariant.bounds c.forgetting.invariant.number (omega arith) refl c.take_last-roles.ensures.rest
      c.no_roles.result c.forgetting.waiting c.turn.new.self c.no_roles.ensures c.in_ok-turn.ensures c.forgetting.invariant.waits;
}

use Rattle.std.proofs.Common.{◌≡◌, false, subst}
use Rattle.st_base.specs.Lists.{has_twice}
use Rattle.st_hash.specs.Hash.{same_hash}
use Rattle.st_anchor.specs.Gives.{given, suffixes_given}
use Rattle.st_anchor.proofs.GivesLemmas.{given-once}
use Rattle.st_anchor.proofs.bound.Bound.give.Goals as goal

pub returns-in_err-give_below-in-Is-clause-once : goal.returns-in_err-give_below-in-Is-clause-once
returns-in_err-give_below-in-Is-clause-once c =
    subst (λ bound. has_twice same_hash (suffixes_given (given bound)) ≡ false) c.self.view_is
    (given-once (record { context = c.self.inside.context; core = c.self.inside.core }) c.self.invariant)

pub returns-in_ok-give_below-in-Is-clause-once : goal.returns-in_ok-give_below-in-Is-clause-once
returns-in_ok-give_below-in-Is-clause-once c =
    subst (λ bound. has_twice same_hash (suffixes_given (given bound)) ≡ false) c.self.view_is
    (given-once (record { context = c.self.inside.context; core = c.self.inside.core }) c.self.invariant)

use Rattle.std.proofs.Common.{◌≡◌, ◌∙◌, ap, subst, rules}
use Rattle.st_io.specs.Histories.{crashed, DiskHistory}
use Rattle.st_io.specs.inside.Histories.{AllBeganWithin}
use Rattle.st_io.proofs.CrashLemmas.{is_image_of, newest_crash}
use Rattle.st_io.proofs.history.History.crash.Goals as goal

pub returns-clause-image : goal.returns-clause-image
returns-clause-image c =
    let is : c.in_ok-crash_of.field-0 ≡ crashed c.args.pick c.args.self.now.first c.args.self.now.steps = search rules in
    let within = subst (λ (h : DiskHistory). AllBeganWithin h.first h.steps) c.self.view_is c.self.invariant.within in
    is_image_of c.args.pick c.args.self.now within c.in_ok-crash_of.field-0 is

pub returns-clause-newest : goal.returns-clause-newest
returns-clause-newest c new =
    let is : c.in_ok-crash_of.field-0 ≡ crashed c.args.pick c.args.self.now.first c.args.self.now.steps = search rules in
    is ∙ ap (λ pick. crashed pick c.args.self.now.first c.args.self.now.steps) new ∙ newest_crash c.args.self.now.first c.args.self.now.steps

use Rattle.std.specs.Prelude.{◌-◌, Option, Some, None, ℕ, nat_le, if◌then◌else◌, Result}
use Rattle.st_base.specs.Work.{WorkValue}
use Rattle.st_exchange.specs.Peer.{Peer, StaysDue, anchors_told}
use Rattle.st_network.specs.Exchange.{answered_step, Network}
use Rattle.st_network.specs.Run.{proofs_of_step}
use Rattle.st_network.specs.declared.command.Cause.{Cause}
use Rattle.st_network.specs.declared.command.StepRefused.{StepRefused}
use Rattle.st_network.specs.declared.command.StepRefused.TheVariants as refused_is
use Rattle.st_network.specs.declared.letters.Step.{Step}

-- the cause of an error, if it has one
abbrev pub cause_of : StepRefused → Option Cause
cause_of (refused_is.Refused why) = Some why
cause_of refused_is.WantOfMemory = None

-- the room that remains after this many bytes, if they fit
abbrev pub less : ℕ → ℕ → Option ℕ
less room bytes = if nat_le bytes room then Some (room - bytes) else None

-- ---- work still due

-- a step, or its refusal, counts no more than is due before it and than it adds
abbrev pub StepDue : {M : Type 0} → Peer M → Network M → Result Step Cause → (old new : WorkValue) → Type 0
StepDue peer network step =
    StaysDue peer network.nodes (answered_step peer network step).next.nodes (anchors_told (answered_step peer network step).reply)
    (proofs_of_step peer network step)

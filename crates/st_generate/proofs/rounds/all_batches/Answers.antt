use Rattle.std.proofs.Common.{◌∙◌, map, ap, arith}
use Rattle.st_generate.proofs.SummaryLemmas.{batch_next}
use Rattle.st_generate.specs.Summary.{batched}
use Rattle.st_generate.specs.Talk.{told}
use Rattle.st_generate.specs.declared.rounds.Batches.{Batches}
use Rattle.st_workload.specs.inside.Identity.{line_of}
use Rattle.st_generate.proofs.rounds.all_batches.Goals as goal

pub rounds-preserved : goal.rounds-preserved
rounds-preserved g c =
    let lines = map (line_of c.rounds.round) c.args.identities.now in
    c.in_ok-next.ensures
    ∙ ap (λ (before : Batches _). batched g.N.Peer.peer c.rounds.round (told g.N.Peer.peer lines before.talk) before) c.rounds.invariant
    ∙ batch_next g.N.Peer.peer c.args.plan c.rounds.round c.args.identities.now c.requires.identities (omega (arith, c.rounds-test.true))

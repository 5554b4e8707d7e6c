use Rattle.std.proofs.Common.{◌≡◌, ◌∙◌, ap, arith}
use Rattle.st_generate.proofs.SummaryLemmas.{ask_next, count_is}
use Rattle.st_generate.specs.Summary.{all_asked, asked, resolve_line}
use Rattle.st_generate.specs.declared.ends.Ends.{Ends}
use Rattle.st_generate.proofs.ends.ask_all.Goals as goal

pub identities-preserved : goal.identities-preserved
identities-preserved g c =
    c.in_ok-next.ensures
    ∙ ap (λ (ends : Ends _). asked g.N.Peer.peer (resolve_line c.identity-item.result.suffix) ends) c.identities.invariant
    ∙ ask_next c.args.plan.seed c.args.plan.dids c.args.plan.rounds c.args.identities.now c.requires g.N.Peer.peer
    c.identities.identity-index c.identity-item.result c.args.ends c.identities-test.true c.identity-item.is

pub returns : goal.returns
returns g c =
    let all : c.identities.identity-index ≡ c.args.plan.dids =
    omega (arith, c.identities-test.false, c.identities.auto.identity-index-end, count_is c.args.plan.seed c.args.plan.dids c.args.plan.rounds c.args.identities.now c.requires) in
    c.identities.invariant ∙ ap (λ n. all_asked g.N.Peer.peer c.args.plan.seed n c.args.ends) all

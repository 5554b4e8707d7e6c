use Rattle.std.proofs.Common.{◌∙◌, ℕ, ◌+◌, List, drop, map, ap, sym}
use Rattle.std.proofs.lemmas.List.{drop_all}
use Rattle.st_base.proofs.ListLemmas.{next_item}
use Rattle.st_workload.specs.inside.Identity.{line_of}
use Rattle.st_generate.specs.Talk.{TalkValue, tell, told}
use Rattle.st_workload.specs.declared.identity.Identity.{Identity}
use Rattle.st_generate.proofs.rounds.tell_round.Goals as goal

pub identities-preserved : goal.identities-preserved
identities-preserved g c =
    let rest = drop (c.identities.identity-index + 1) c.args.identities.now in
    ap (λ (talk : TalkValue _). told g.N.Peer.peer (map (line_of c.args.round) rest) talk)
    (c.in_ok-next.ensures.0 ∙ ap (λ (line : List ℕ). tell g.N.Peer.peer line c.identities.talk) c.line_of.ensures)
    ∙ sym (ap (λ (items : List Identity). told g.N.Peer.peer (map (line_of c.args.round) items) c.identities.talk)
    (next_item c.args.identities.now c.identities.identity-index c.identity-item.result c.identities-test.true c.identity-item.is))
    ∙ c.identities.invariant

pub returns : goal.returns
returns g c =
    sym (ap (λ (items : List Identity). told g.N.Peer.peer (map (line_of c.args.round) items) c.identities.talk)
    (drop_all c.identities.identity-index c.args.identities.now c.identities-test.false))
    ∙ c.identities.invariant

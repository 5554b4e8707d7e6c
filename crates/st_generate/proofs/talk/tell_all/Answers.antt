use Rattle.std.proofs.Common.{◌∙◌, ℕ, ◌+◌, List, drop, ap, sym}
use Rattle.std.proofs.lemmas.List.{drop_all}
use Rattle.st_base.proofs.ListLemmas.{next_item}
use Rattle.st_generate.specs.Talk.{TalkValue, tell, told}
use Rattle.st_generate.proofs.talk.tell_all.Goals as goal

pub lines-preserved : goal.lines-preserved
lines-preserved g c =
    let rest = drop (c.lines.line-index + 1) c.args.lines.now in
    ap (λ (talk : TalkValue _). told g.N.Peer.peer rest talk)
    (c.in_ok-next.ensures.0 ∙ ap (λ (line : List ℕ). tell g.N.Peer.peer line c.lines.talk) c.as_slice.ensures)
    ∙ sym (ap (λ (items : List (List ℕ)). told g.N.Peer.peer items c.lines.talk)
    (next_item c.args.lines.now c.lines.line-index c.line-item.result c.lines-test.true c.line-item.is))
    ∙ c.lines.invariant

pub returns : goal.returns
returns g c =
    sym (ap (λ (items : List (List ℕ)). told g.N.Peer.peer items c.lines.talk)
    (drop_all c.lines.line-index c.args.lines.now c.lines-test.false))
    ∙ c.lines.invariant

use Rattle.std.proofs.Common.{◌≡◌, ◌∙◌, ℕ, ◌+◌, List, length, ap, arith, sym}
use Rattle.st_workload.proofs.OrderLemmas.{more_turns}
use Rattle.st_workload.specs.Identifier.{all_left, events, turn, turns, word}
use Rattle.st_workload.specs.declared.order.Feed.{Feed}
use Rattle.st_workload.proofs.order.events.Goals as goal

pub turns-preserved : goal.turns-preserved
turns-preserved c =
    c.in_ok-next.ensures ∙ ap (λ w. turn c.args.anchors.now w c.turns.feed) c.word-w.ensures
    ∙ ap (turn c.args.anchors.now (word c.args.seed c.args.stream c.turns.n)) c.turns.invariant
    ∙ sym (more_turns c.args.seed c.args.stream c.args.anchors.now c.turns.n _)

pub returns : goal.returns
unfolding events
returns c =
    let all : c.turns.n ≡ length c.args.anchors.now + length c.args.files =
    omega (arith, c.turns-test.false, c.turns.auto.n-end, ap (λ (files : List (List ℕ)). length files) c.as_slice.ensures) in
    ap (λ (feed : Feed). feed.lines)
    (c.turns.invariant
    ∙ ap (λ n. turns c.args.seed c.args.stream c.args.anchors.now n (all_left c.args.files)) all)

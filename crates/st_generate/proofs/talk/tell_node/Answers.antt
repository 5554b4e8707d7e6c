use Rattle.std.proofs.Common.{◌∙◌, ℕ, ◌+◌, ◌*◌, ◌≤◌, List, ap, arith}
use Rattle.st_generate.specs.inside.Codes.{IsPaid}
use Rattle.st_generate.specs.Talk.{counted}
use Rattle.st_generate.specs.declared.talk.Accepted.{Accepted}
use Rattle.st_generate.proofs.talk.tell_node.Goals as goal

pub returns-clause-node : goal.returns-clause-node
returns-clause-node g c = c.in_ok-node.ensures.next

pub returns-clause-reply : goal.returns-clause-reply
returns-clause-reply g c = c.in_ok-node.ensures.reply

pub returns-clause-accepted : goal.returns-clause-accepted
returns-clause-accepted g c =
    c.in_ok-accepted.ensures.0
    ∙ ap (λ (text : List ℕ). counted c.args.line.now text c.args.accepted) (c.as_slice.ensures ∙ c.in_ok-node.ensures.reply)

pub returns-clause-paid : goal.returns-clause-paid
unfolding IsPaid counted
returns-clause-paid g c =
    let peer = g.N.Peer.peer in
    let paid : c.args.read + peer.due c.args.node ≤ 5 * c.args.accepted.anchors = c.requires in
    omega (
      arith,
      paid,
      c.answer.ensures.due.files,
      ap peer.due c.in_ok-node.ensures.next,
      c.in_ok-accepted.ensures.1,
      c.files-before.ensures,
      c.files.ensures,
      ap (λ (all : Accepted). all.anchors) (returns-clause-accepted g c),
    )

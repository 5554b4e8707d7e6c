use Rattle.std.proofs.Common.{◌∙◌, ap}
use Rattle.st_generate.proofs.SummaryLemmas.{reply_is, tell_is}
use Rattle.st_generate.specs.Talk.{TalkValue, reply, tell}
use Rattle.st_generate.proofs.talk.Talk.tell.Goals as goal

pub invariant_of-talk : goal.invariant_of-talk
invariant_of-talk g c = c.in_ok-told.ensures.paid

pub returns : goal.returns
returns g c = (
  tell_is g.N.Peer.peer c.self.inside.node c.in_ok-told.told.node c.args.line.now c.self.inside.accepted c.in_ok-told.told.accepted
      c.in_ok-told.ensures.node c.in_ok-told.ensures.accepted
      ∙ ap (tell g.N.Peer.peer c.args.line.now) c.self.view_is,
  reply_is g.N.Peer.peer c.self.inside.node c.args.line.now c.in_ok-told.told.reply c.self.inside.accepted c.in_ok-told.ensures.reply
      ∙ ap (λ (talk : TalkValue _). reply g.N.Peer.peer talk c.args.line.now) c.self.view_is,
)

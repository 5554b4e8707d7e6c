use Rattle.std.proofs.Common.{◌∙◌, ℕ, List, [], ◌∷◌, ◌++◌, ap}
use Rattle.st_generate.proofs.SummaryLemmas.{same_batches}
use Rattle.st_generate.specs.Summary.{anchor_in, anchor_line, batched, content_lines, flush_line}
use Rattle.st_generate.specs.Talk.{TalkValue, reply, tell}
use Rattle.st_generate.proofs.rounds.batch.Goals as goal

pub returns : goal.returns
returns g c =
    let peer = g.N.Peer.peer in
    let batches = c.args.batches in
    let line = anchor_line c.args.round (anchor_in (reply peer c.in_ok-talk.talk flush_line)) in
    let anchor = c.in_ok-anchor.ensures
    ∙ ap (λ (text : List ℕ). anchor_line c.args.round text) (c.anchor_in.ensures ∙ ap anchor_in (c.as_slice.ensures ∙ c.in_ok-talk-2.ensures.1)) in
    same_batches _ (batched peer c.args.round c.in_ok-talk.talk batches)
    (c.in_ok-talk-3.ensures.0 ∙ ap (λ (text : List ℕ). tell peer text c.in_ok-talk-2.talk) (c.as_slice-2.ensures ∙ anchor)
    ∙ ap (tell peer line) c.in_ok-talk-2.ensures.0)
    (c.in_ok-push.ensures.ok ∙ ap (λ (text : List ℕ). batches.anchors ++ text ∷ []) anchor)
    (c.in_ok-push_files.ensures ∙ ap (λ (text : List ℕ). batches.files ++ content_lines text) (c.as_slice-3.ensures ∙ c.in_ok-talk-2.ensures.1))
    ∙ ap (λ (talk : TalkValue _). batched peer c.args.round talk batches) c.in_ok-talk.ensures

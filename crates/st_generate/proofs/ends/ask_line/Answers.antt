use Rattle.std.proofs.Common.{◌∙◌, ℕ, ◌+◌, List, ap}
use Rattle.std.specs.Prelude.{bytes_eq, codes}
use Rattle.st_generate.proofs.SummaryLemmas.{same_ends}
use Rattle.st_generate.specs.Summary.{asked}
use Rattle.st_generate.specs.Talk.{begins_with, one_if, reply}
use Rattle.st_generate.proofs.ends.ask_line.Goals as goal

pub returns : goal.returns
unfolding asked
returns g c =
    let ends = c.args.ends in
    let one = c.as_slice.ensures ∙ c.in_ok-first.ensures.1 in
    let other = c.as_slice-2.ensures ∙ c.in_ok-second.ensures.1 in
    same_ends _ (asked g.N.Peer.peer c.args.line.now ends) c.in_ok-first.ensures.0 c.in_ok-second.ensures.0
    (c.in_ok-resolved.ensures.0 ∙ ap (λ (text : List ℕ). ends.resolved + one_if (begins_with (codes "resolved") text)) other)
    (c.in_ok-resolved.ensures.1
    ∙ ap (λ (text : List ℕ). ends.agreed + one_if (bytes_eq text c.as_slice-2.result.now)) one
    ∙ ap (λ (text : List ℕ). ends.agreed + one_if (bytes_eq (reply g.N.Peer.peer ends.first c.args.line.now) text)) other)

use Rattle.std.proofs.Common.{◌∙◌, ◌++◌, ◌*◌, ap, arith, take}
use Rattle.sha2.specs.Sha256.{sha256}
use Rattle.st_lms.specs.OneTime.{d_pblc, key_of_ends, chains, one_time_number}
use Rattle.st_lms.specs.Strings.{u16str, u32str}
use Rattle.st_lms.proofs.ChainLemmas.{row_joined, sized}
use Rattle.st_lms.proofs.one_time.key_of_ends.Goals as goal

pub shared_ref_as_front-update : goal.shared_ref_as_front-update
shared_ref_as_front-update c =
    omega (arith, (sized (one_time_number c.args.kind) c.parameters.ensures.known).chain_count, c.parameters.ensures.chains, c.told-ends)

pub returns : goal.returns
unfolding key_of_ends
returns c = λ end is.
    let start = c.args.id.now ++ u32str c.args.q ++ u16str d_pblc in
    c.finalize.ensures (start ++ take (32 * c.parameters.result.chains) c.args.ends.now) (c.update.ensures start c.hasher-hasher.ensures)
    ∙ ap (λ n. sha256 (start ++ take (32 * n) c.args.ends.now)) c.parameters.ensures.chains
    ∙ ap (λ xs. sha256 (start ++ xs)) (row_joined c.args.ends.now end (chains (one_time_number c.args.kind)) is)

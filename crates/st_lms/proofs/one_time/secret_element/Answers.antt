use Rattle.std.proofs.Common.{◌∙◌, ◌++◌, ◌∷◌, [], ap, append_assoc}
use Rattle.sha2.specs.Sha256.{sha256}
use Rattle.st_lms.specs.OneTime.{secret_element}
use Rattle.st_lms.specs.Strings.{u16str, u32str}
use Rattle.st_lms.proofs.one_time.secret_element.Goals as goal

pub returns : goal.returns
unfolding secret_element
returns c =
    let start = c.args.id.now ++ u32str c.args.q ++ u16str c.args.i in
    c.finalize.ensures (start ++ (0xff ∷ []) ++ c.as_slice.result.now) (c.update-2.ensures (start ++ (0xff ∷ [])) (c.update.ensures start c.hasher-hasher.ensures))
    ∙ ap sha256 (append_assoc start (0xff ∷ []) c.as_slice.result.now)
    ∙ ap (λ seed. sha256 (start ++ 0xff ∷ seed)) c.as_slice.ensures

use Rattle.std.proofs.Common.{◌∙◌, ◌+◌, ◌^◌, ◌++◌, ap}
use Rattle.st_lms.specs.Tree.{SecretKey, path_from}
use Rattle.st_lms.specs.OneTime.{height}
use Rattle.st_lms.specs.Signature.{signature_of}
use Rattle.st_lms.specs.inside.Parts.{front_of}
use Rattle.st_lms.proofs.LawLemmas.{signature_of-IsSignature}
use Rattle.st_lms.proofs.signer.Signer.sign.Goals as goal

pub returns-clause-value : goal.returns-clause-value
unfolding signature_of front_of
returns-clause-value c =
    let secret = c.self.inside.secret in
    c.in_ok-push_kept_path.ensures
    ∙ ap (λ front. front ++ path_from secret 0 (2 ^ height secret.tree + c.args.q) (height secret.tree)) c.in_ok-signature.ensures
    ∙ ap (λ (secret : SecretKey). signature_of secret c.args.q c.args.message.now) c.self.view_is

pub returns-clause-verifies : goal.returns-clause-verifies
returns-clause-verifies c =
    rw (returns-clause-value c) (signature_of-IsSignature c.args.self.now c.args.q c.args.message.now c.requires)

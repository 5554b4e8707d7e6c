use Rattle.std.proofs.Common.{◌≡◌, ◌∙◌, List, ℕ, ap, arith}
use Rattle.st_lms.specs.Tree.{place_of, PublicKey, node}
use Rattle.st_lms.specs.OneTime.{height}
use Rattle.st_lms.specs.Signature.{public_of}
use Rattle.st_lms.specs.Strings.{value_at}
use Rattle.st_lms.proofs.TreeLemmas.{root_node}
use Rattle.st_lms.proofs.signer.Signer.public.Goals as goal

pub returns : goal.returns
unfolding public_of
returns c =
    let secret = c.self.inside.secret in
    let key : List ℕ → PublicKey = λ root. record { ots = secret.ots; tree = secret.tree; id = secret.id; root = root } in
    let value : c.kept_node-root.result ≡ value_at c.self.inside.nodes (place_of secret.tree 1) = rw c.as_slice.ensures at c.kept_node-root.ensures.value in
    let root : c.kept_node-root.result ≡ node secret (height secret.tree) 1 =
    value ∙ c.self.invariant.each (height secret.tree) 1 (root_node secret.tree c.kept_node-root.ensures.known) (omega arith) in
    c.public_with_root.ensures ∙ ap key root ∙ ap public_of c.self.view_is

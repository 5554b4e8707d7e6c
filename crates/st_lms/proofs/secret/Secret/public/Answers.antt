use Rattle.std.proofs.Common.{ap}
use Rattle.st_lms.specs.Tree.{PublicKey, SecretKey, node}
use Rattle.st_lms.specs.OneTime.{height}
use Rattle.st_lms.specs.Signature.{public_of}
use Rattle.st_lms.proofs.TreeLemmas.{root_node}
use Rattle.st_lms.proofs.secret.Secret.public.Goals as goal

pub node-root-requires : goal.node-root-requires
node-root-requires c = rw c.height.ensures.height (root_node c.args.self.now.tree c.height.ensures.known.tree)

pub returns-clause-value : goal.returns-clause-value
unfolding public_of
returns-clause-value c =
    let key : SecretKey → PublicKey = λ secret. record {
      ots = secret.ots;
      tree = secret.tree;
      id = secret.id;
      root = node c.args.self.now (height c.args.self.now.tree) 1;
    } in
    rw (c.node-root.ensures, c.height.ensures.height) (ap key c.self.view_is)

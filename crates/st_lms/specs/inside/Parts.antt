use Rattle.std.specs.Prelude.{◌≡◌, ◌<◌, ℕ, ◌^◌, List, ◌+◌, ◌++◌}
use Rattle.st_lms.specs.Tree.{PublicKey, SecretKey}
use Rattle.st_lms.specs.OneTime.{message_hash, checked, signed_values, height}
use Rattle.st_lms.specs.Signature.{SignatureParts, root_of, randomizer_of}
use Rattle.st_lms.specs.Strings.{u32str, str_to_u32}
use Rattle.st_lms.specs.declared.verification.Parts.{Parts}

-- the parts have the types of the public key and the number of one of its leaves, and give its root
pub record PartsHold (public : PublicKey) (message : List ℕ) (parts : SignatureParts) : Type 0 where
  pub ots : parts.ots ≡ u32str public.ots
  pub tree : parts.tree ≡ u32str public.tree
  pub in_tree : str_to_u32 parts.q < 2 ^ height public.tree
  pub root : root_of public (str_to_u32 parts.q) parts.randomizer parts.values parts.path message ≡ public.root

-- ---- The parts of a signature, as definitions see them.

-- the parts of a signature, each as a list of bytes
abbrev pub parts_seen : Parts → SignatureParts
parts_seen parts = record {
  q = parts.q.now;
  ots = parts.ots.now;
  randomizer = parts.randomizer.now;
  values = parts.values.now;
  tree = parts.tree.now;
  path = parts.path.now;
}

-- the part before the path of the signature of a message by the one-time key q of a secret
unfoldable pub front_of : SecretKey → ℕ → List ℕ → List ℕ
front_of secret q message =
    let digits = checked secret.ots (message_hash secret.id q (randomizer_of secret q) message) in
    u32str q ++ u32str secret.ots ++ randomizer_of secret q
    ++ signed_values secret.ots secret.id q secret.seed digits
    ++ u32str secret.tree

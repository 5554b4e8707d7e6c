-- Signatures and their keys (RFC 8554, sections 5.3 and 5.4).
use Rattle.std.proofs.Common.{◌∙◌, ap, refl}
use Rattle.std.specs.Prelude.{◌≡◌, ℕ, ◌+◌, ◌*◌, ◌^◌, ◌<◌, List, ◌++◌, length, Bool, ◌&&◌, nat_lt, take, drop, bytes_eq, ◌==◌, nat_le, if◌then◌else◌, Option, Some, None}
use Rattle.st_lms.specs.Tree.{PublicKey, SecretKey, one_time_type_in, tree_type_in, leaf, node, node_above, path_from}
use Rattle.st_lms.specs.OneTime.{message_hash, checked, candidate_key, secret_element, randomizer_place, signed_values, chains, height, one_time_number, tree_number, one_time_of, tree_of}
use Rattle.st_lms.specs.Strings.{u32str, str_to_u32}
use Rattle.st_lms.specs.declared.parameters.OneTimeType.{OneTimeType}
use Rattle.st_lms.specs.declared.parameters.OneTimeType.TheVariants.{Width1, Width2, Width4, Width8}
use Rattle.st_lms.specs.declared.parameters.TreeType.{TreeType}
use Rattle.st_lms.specs.declared.parameters.TreeType.TheVariants.{Height5, Height10}
use Rattle.st_lms.specs.declared.public.Public.TheInside as public
use Rattle.st_lms.specs.declared.secret.Secret.TheInside as secret

-- the root that is computed from the parts of a signature (5.4.2, algorithm 6a)
unfoldable pub root_of : PublicKey → ℕ → List ℕ → List ℕ → List ℕ → List ℕ → List ℕ
root_of public q randomizer values path message =
    let digits = checked public.ots (message_hash public.id q randomizer message) in
    let key = candidate_key public.ots public.id q digits values in
    let r = 2 ^ height public.tree + q in
    node_above public.id r (leaf public.id r key) path (height public.tree)

-- the bytes are a signature of the message under the public key: they consist of these parts, have the lengths and
-- the types of that key, and give its root
pub record IsSignature (public : PublicKey) (message signature : List ℕ) : Type 0 where
  pub q : ℕ
  pub randomizer : List ℕ
  pub values : List ℕ
  pub path : List ℕ
  pub whole : signature ≡
      u32str q ++ u32str public.ots ++ randomizer ++ values ++ u32str public.tree ++ path
  pub randomizer_long : length randomizer ≡ 32
  pub values_long : length values ≡ 32 * chains public.ots
  pub path_long : length path ≡ 32 * height public.tree
  pub in_tree : q < 2 ^ height public.tree
  pub root : root_of public q randomizer values path message ≡ public.root

-- the public key of a secret (5.3)
unfoldable pub public_of : SecretKey → PublicKey
public_of secret = record {
  ots = secret.ots;
  tree = secret.tree;
  id = secret.id;
  root = node secret (height secret.tree) 1;
}

-- the randomizer of a secret's signature with one-time key q
unfoldable pub randomizer_of : SecretKey → ℕ → List ℕ
randomizer_of secret q = secret_element secret.id q randomizer_place secret.seed

-- the signature of a message by the one-time key q of a secret (5.4.1)
unfoldable pub signature_of : SecretKey → ℕ → List ℕ → List ℕ
signature_of secret q message =
    let digits = checked secret.ots (message_hash secret.id q (randomizer_of secret q) message) in
    u32str q ++ u32str secret.ots ++ randomizer_of secret q
    ++ signed_values secret.ots secret.id q secret.seed digits
    ++ u32str secret.tree
    ++ path_from secret 0 (2 ^ height secret.tree + q) (height secret.tree)

-- ---- A signature, split into its parts (RFC 8554, section 5.4).

-- the strings of a signature, in this order
pub record SignatureParts : Type 0 where
  pub q : List ℕ
  pub ots : List ℕ
  pub randomizer : List ℕ
  pub values : List ℕ
  pub tree : List ℕ
  pub path : List ℕ

-- the parts of bytes, with n bytes of values
unfoldable pub parts_in : ℕ → List ℕ → SignatureParts
parts_in n signature =
    let behind = drop 4 (drop 4 signature) in
    let last = drop n (drop 32 behind) in
    record {
      q = take 4 signature;
      ots = take 4 (drop 4 signature);
      randomizer = take 32 behind;
      values = take n (drop 32 behind);
      tree = take 4 last;
      path = drop 4 last;
    }

-- the same as a test
abbrev pub parts_hold : PublicKey → List ℕ → SignatureParts → Bool
parts_hold public message parts =
    bytes_eq parts.ots (u32str public.ots)
    && (bytes_eq parts.tree (u32str public.tree)
    && (nat_lt (str_to_u32 parts.q) (2 ^ height public.tree)
    && bytes_eq (root_of public (str_to_u32 parts.q) parts.randomizer parts.values parts.path message) public.root))

-- ---- The fields of a key from its plain value.

one_time_of-number : (kind : OneTimeType) → one_time_of (one_time_number kind) ≡ kind
one_time_of-number Width1 = refl
one_time_of-number Width2 = refl
one_time_of-number Width4 = refl
one_time_of-number Width8 = refl

tree_of-number : (kind : TreeType) → tree_of (tree_number kind) ≡ kind
tree_of-number Height5 = refl
tree_of-number Height10 = refl

pub public_inverse : (a : public.Inside) →
    record a { ots = one_time_of (one_time_number a.ots); tree = tree_of (tree_number a.tree) } ≡ a
public_inverse a =
    ap (λ kind. record a { ots = kind; tree = tree_of (tree_number a.tree) }) (one_time_of-number a.ots)
    ∙ ap (λ kind. record a { tree = kind }) (tree_of-number a.tree)

pub secret_inverse : (a : secret.Inside) →
    record a { ots = one_time_of (one_time_number a.ots); tree = tree_of (tree_number a.tree) } ≡ a
secret_inverse a =
    ap (λ kind. record a { ots = kind; tree = tree_of (tree_number a.tree) }) (one_time_of-number a.ots)
    ∙ ap (λ kind. record a { tree = kind }) (tree_of-number a.tree)

-- ---- By computation: the public key in bytes, and whether bytes are a signature (RFC 8554).

-- the number of a one-time type that is supported
abbrev pub is_one_time_type : ℕ → Bool
is_one_time_type t = nat_le 1 t && nat_le t 4

-- the number of a tree type that is supported
abbrev pub is_tree_type : ℕ → Bool
is_tree_type t = nat_le 5 t && nat_le t 6

-- the public key in bytes (RFC 8554, section 5.3)
unfoldable pub public_in : List ℕ → Option PublicKey
public_in text =
    if (length text == 56) && (is_one_time_type (one_time_type_in text) && is_tree_type (tree_type_in text))
    then Some (record {
      ots = one_time_type_in text;
      tree = tree_type_in text;
      id = take 16 (drop 4 (drop 4 text));
      root = drop 16 (drop 4 (drop 4 text));
    }) else None

-- whether bytes are a signature of the message (section 5.4.2): they have the length of the public
-- key's types, and their parts hold
unfoldable pub is_signature : PublicKey → List ℕ → List ℕ → Bool
is_signature public message signature =
    (length signature == 44 + 32 * chains public.ots + 32 * height public.tree)
    && parts_hold public message (parts_in (32 * chains public.ots) signature)

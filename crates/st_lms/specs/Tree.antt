-- Keys as plain values (RFC 8554, sections 5.2 and 5.3).
use Rattle.std.specs.Prelude.{◌≡◌, ℕ, List, ◌++◌, length, take, drop, zero, suc, ◌+◌, ◌-◌, ◌*◌, ◌/◌, ◌%◌, ◌^◌, ◌<◌, ◌≤◌, ◌==◌, if◌then◌else◌, []}
use Rattle.sha2.specs.Sha256.{sha256}
use Rattle.st_lms.specs.OneTime.{one_time_public, IsOneTimeType, IsTreeType, height}
use Rattle.st_lms.specs.Strings.{u32str, str_to_u32, u16str, value_at}

-- a public key: its LM-OTS type, its LMS type, its identifier I, and the root T[1]
pub record PublicKey : Type 0 where
  pub ots : ℕ
  pub tree : ℕ
  pub id : List ℕ
  pub root : List ℕ

-- a secret key, all of whose one-time keys are derived from one seed (appendix A)
pub record SecretKey : Type 0 where
  pub ots : ℕ
  pub tree : ℕ
  pub id : List ℕ
  pub seed : List ℕ

-- the values that a public key has
pub record IsPublicKey (key : PublicKey) : Type 0 where
  pub ots : IsOneTimeType key.ots
  pub tree : IsTreeType key.tree
  pub id : length key.id ≡ 16
  pub root : length key.root ≡ 32

-- the values that a secret key has
pub record IsSecretKey (key : SecretKey) : Type 0 where
  pub ots : IsOneTimeType key.ots
  pub tree : IsTreeType key.tree
  pub id : length key.id ≡ 16
  pub seed : length key.seed ≡ 32

-- the 56 bytes of a public key (5.3)
unfoldable pub public_text : PublicKey → List ℕ
public_text key = u32str key.tree ++ u32str key.ots ++ key.id ++ key.root

-- the number of the tree type, the first field of a public key
unfoldable pub tree_type_in : List ℕ → ℕ
tree_type_in text = str_to_u32 (take 4 text)

-- the number of the one-time type, after that of the tree
unfoldable pub one_time_type_in : List ℕ → ℕ
one_time_type_in text = str_to_u32 (take 4 (drop 4 text))

-- a secret key of its four parts
abbrev pub secret_key : ℕ → ℕ → List ℕ → List ℕ → SecretKey
secret_key ots tree id seed = record { ots = ots; tree = tree; id = id; seed = seed }

-- ---- The tree over the one-time keys (RFC 8554, section 5). Its nodes are numbered from the root, which
-- is 1, and the nodes below r are 2 * r and 2 * r + 1. The height of a node is how many levels of the
-- tree are below it.

-- ---- domain separation of hashes (7.1)

-- of a leaf of the tree
abbrev pub d_leaf : ℕ
d_leaf = 0x8282

-- of an inner node of the tree
abbrev pub d_intr : ℕ
d_intr = 0x8383

-- ---- nodes (5.3)

-- leaf r, over a one-time public key
unfoldable pub leaf : List ℕ → ℕ → List ℕ → List ℕ
leaf id r key = sha256 (id ++ u32str r ++ u16str d_leaf ++ key)

-- node r, over the nodes below it
unfoldable pub inner : List ℕ → ℕ → List ℕ → List ℕ → List ℕ
inner id r left right = sha256 (id ++ u32str r ++ u16str d_intr ++ left ++ right)

-- node r of a secret's tree, which has height n
unfoldable pub node : SecretKey → ℕ → ℕ → List ℕ
node secret zero r =
    leaf secret.id r (one_time_public secret.ots secret.id (r - 2 ^ height secret.tree) secret.seed)
node secret (suc n) r = inner secret.id r (node secret n (2 * r)) (node secret n (2 * r + 1))

-- a tree of this type has a node r of height n
pub record IsNode (tree n r : ℕ) : Type 0 where
  pub known : IsTreeType tree
  pub level : n ≤ height tree
  pub low : 2 ^ (height tree - n) ≤ r
  pub high : r < 2 * 2 ^ (height tree - n)

-- ---- paths (5.4)

-- the node above r, from r and the other node below it
unfoldable pub parent : List ℕ → ℕ → List ℕ → List ℕ → List ℕ
parent id r node other = if r % 2 == 0 then inner id (r / 2) node other else inner id (r / 2) other node

-- the node n levels above r, from r and the siblings on the way
unfoldable pub node_above : List ℕ → ℕ → List ℕ → List ℕ → ℕ → List ℕ
node_above id r node path zero = node
node_above id r node path (suc n) =
    node_above id (r / 2) (parent id r node (take 32 path)) (drop 32 path) n

-- the other node below the node above r
unfoldable pub sibling : ℕ → ℕ
sibling r = if r % 2 == 0 then r + 1 else r - 1

-- the siblings on the way m levels up from node r of height n
unfoldable pub path_from : SecretKey → ℕ → ℕ → ℕ → List ℕ
path_from secret n r zero = []
path_from secret n r (suc m) = node secret n (sibling r) ++ path_from secret (suc n) (r / 2) m

-- ---- The stored nodes of a secret's tree: from the last leaf down to the root, whose number is 1.

-- one more than the number of the last leaf of a tree of this type
abbrev pub past_last : ℕ → ℕ
past_last tree = 2 * 2 ^ height tree

-- the place of node r
abbrev pub place_of : ℕ → ℕ → ℕ
place_of tree r = past_last tree - 1 - r

-- these bytes have the nodes from the last leaf down to node `first`
pub record HoldsFrom (secret : SecretKey) (first : ℕ) (nodes : List ℕ) : Type 0 where
  pub long : length nodes ≡ 32 * (past_last secret.tree - first)
  pub each : (n r : ℕ) → IsNode secret.tree n r → first ≤ r → value_at nodes (place_of secret.tree r) ≡ node secret n r

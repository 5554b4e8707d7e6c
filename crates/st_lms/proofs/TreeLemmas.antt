-- The nodes of a tree.
use Rattle.std.proofs.Common.{◌≡◌, ℕ, zero, suc, ◌+◌, ◌-◌, ◌*◌, ◌/◌, ◌%◌, ◌^◌, ◌<◌, ◌≤◌, [], ◌∷◌, slice_index, lit≤, inl, inr, arith, List, ◌++◌, take, drop, append_assoc, sym, ap, ◌∙◌, refl, length}
use Rattle.std.proofs.Math.Nat.{pow-suc, pow-le-pow_right}
use Rattle.std.proofs.lemmas.Bool.{cases_lt}
use Rattle.std.proofs.lemmas.List.{drop-drop, append-nil, length-append, length-drop, drop-append-le, take-append-le, drop_at, take_all}
use Rattle.std.proofs.lemmas.Nat.{pow_pos}
use Rattle.st_lms.specs.Tree.{HoldsFrom, past_last, place_of, SecretKey, IsNode, inner, node, sibling, node_above, parent, path_from}
use Rattle.st_lms.specs.OneTime.{IsTreeType, height}
use Rattle.st_lms.specs.Strings.{value_at}

-- every tree has a height of at most 10
pub height-small : (t : ℕ) → IsTreeType t → height t ≤ 10
unfolding height
height-small zero h = absurd (omega arith)
height-small (suc zero) h = absurd (omega arith)
height-small (suc (suc zero)) h = absurd (omega arith)
height-small (suc (suc (suc zero))) h = absurd (omega arith)
height-small (suc (suc (suc (suc zero)))) h = absurd (omega arith)
height-small (suc (suc (suc (suc (suc zero))))) h = omega arith
height-small (suc (suc (suc (suc (suc (suc zero)))))) h = omega arith
height-small (suc (suc (suc (suc (suc (suc (suc n))))))) h = absurd (omega arith)

-- a tree has few leaves
small_tree : (i : ℕ) → 2 ^ slice_index (5 ∷ 10 ∷ []) i ≤ 1024
small_tree zero = lit≤ tt
small_tree (suc zero) = lit≤ tt
small_tree (suc (suc i)) = lit≤ tt

pub small_leaf : (tree q : ℕ) → q < 2 ^ height tree → q < 2 ^ 32
unfolding height
small_leaf tree q below = omega (arith, small_tree (tree - 5))

-- one level lower there are twice as many nodes
doubled : (h n : ℕ) → suc n ≤ h → 2 ^ (h - n) ≡ 2 * 2 ^ (h - suc n)
doubled h n k =
    let e : h - n ≡ suc (h - suc n) = omega arith in
    rw (e, pow-suc) (omega arith)

-- the nodes that a tree has
pub left_node : (t n r : ℕ) → 0 < n → IsNode t n r → IsNode t (n - 1) (2 * r)
left_node t zero r some is = absurd (omega arith)
left_node t (suc n) r some is =
    let e : suc n - 1 ≡ n = omega arith in
    let double : 2 ^ (height t - n) ≡ 2 * 2 ^ (height t - suc n) = doubled (height t) n is.level in
    rw e (record { known = is.known; level = omega (arith, is.level); low = omega (arith, is.low); high = omega (arith, is.high) })

pub right_node : (t n r : ℕ) → 0 < n → IsNode t n r → IsNode t (n - 1) (2 * r + 1)
right_node t zero r some is = absurd (omega arith)
right_node t (suc n) r some is =
    let e : suc n - 1 ≡ n = omega arith in
    let double : 2 ^ (height t - n) ≡ 2 * 2 ^ (height t - suc n) = doubled (height t) n is.level in
    rw e (record { known = is.known; level = omega (arith, is.level); low = omega (arith, is.low); high = omega (arith, is.high) })

pub root_node : (t : ℕ) → IsTreeType t → IsNode t (height t) 1
root_node t k =
    let e : height t - height t ≡ 0 = omega arith in
    record { known = k; level = omega arith; low = rw e (omega arith); high = rw e (omega arith) }

pub leaf_node : (t q : ℕ) → IsTreeType t → q < 2 ^ height t → IsNode t 0 (2 ^ height t + q)
leaf_node t q k h =
    let e : height t - 0 ≡ height t = omega arith in
    record { known = k; level = omega arith; low = rw e (omega arith); high = rw e (omega arith) }

-- the numbers of nodes are small
pub node_small : (t n r : ℕ) → IsNode t n r → r < 2 ^ 11
node_small t n r is =
    let short : height t - n ≤ 10 = omega (arith, height-small t is.known) in
    let most : 2 ^ (height t - n) ≤ 2 ^ 10 = pow-le-pow_right {n = 2} (omega arith) short in
    omega (arith, is.high)

pub parent_node : (t n r : ℕ) → n < height t → IsNode t n r → IsNode t (n + 1) (r / 2)
parent_node t n r k is =
    let double : 2 ^ (height t - n) ≡ 2 * 2 ^ (height t - suc n) = doubled (height t) n (omega arith) in
    let e : height t - (n + 1) ≡ height t - suc n = omega arith in
    record {
      known = is.known;
      level = omega arith;
      low = rw e (omega (arith, is.low));
      high = rw e (omega (arith, is.high));
    }

-- a node from the two below it
pub node-level : (secret : SecretKey) (n r : ℕ) → 0 < n →
    inner secret.id r (node secret (n - 1) (2 * r)) (node secret (n - 1) (2 * r + 1)) ≡ node secret n r
unfolding node
node-level secret zero r some = absurd (omega arith)
node-level secret (suc n) r some = let e : suc n - 1 ≡ n = omega arith in rw e

pub sibling_node : (t n r : ℕ) → n < height t → IsNode t n r → IsNode t n (sibling r)
unfolding sibling
sibling_node t n r k is =
    let double : 2 ^ (height t - n) ≡ 2 * 2 ^ (height t - suc n) = doubled (height t) n (omega arith) in
    elim (cases_lt (r % 2) 1) [
      | inl below ↦
          let even : r % 2 ≡ 0 = omega arith in
          rw even (record { known = is.known; level = is.level; low = omega (arith, is.low); high = omega (arith, is.high) })
      | inr past ↦
          let odd : r % 2 ≡ 1 = omega arith in
          rw odd (record { known = is.known; level = is.level; low = omega (arith, is.low); high = omega (arith, is.high) })
    ]

-- ---- Following a path.

-- one more level
pub node_above-level : (id : List ℕ) (r : ℕ) (node path : List ℕ) (level levels : ℕ) → level < levels →
    node_above id (r / 2) (parent id r node (take 32 (drop (32 * level) path))) (drop (32 * (level + 1)) path) (levels - (level + 1))
    ≡ node_above id r node (drop (32 * level) path) (levels - level)
unfolding node_above
node_above-level id r node path level levels h =
    let left : levels - level ≡ suc (levels - (level + 1)) = omega arith in
    let at : 32 * (level + 1) ≡ 32 * level + 32 = omega arith in
    let more : drop (32 * (level + 1)) path ≡ drop 32 (drop (32 * level) path) =
    ap (λ n. drop n path) at ∙ sym (drop-drop 32 (32 * level) path) in
    rw left (ap (λ rest. node_above id (r / 2) (parent id r node (take 32 (drop (32 * level) path))) rest (levels - (level + 1))) more)

pub node_above-none : (id : List ℕ) (r : ℕ) (node path : List ℕ) → node_above id r node path 0 ≡ node
unfolding node_above
node_above-none id r node path = refl

-- progress in writing a path: the output, and the node whose sibling is next
pub record Way : Type 0 where
  pub out : List ℕ
  pub level : ℕ
  pub r : ℕ

-- the output and the remaining nodes are the whole path
pub record IsOnWay (secret : SecretKey) (whole : List ℕ) (way : Way) : Type 0 where
  pub at : IsNode secret.tree way.level way.r
  pub rest : way.out ++ path_from secret way.level way.r (height secret.tree - way.level) ≡ whole

path_from-level : (secret : SecretKey) (n r h : ℕ) → n < h →
    path_from secret n r (h - n) ≡ node secret n (sibling r) ++ path_from secret (n + 1) (r / 2) (h - (n + 1))
unfolding path_from
path_from-level secret n r h k =
    let left : h - n ≡ suc (h - (n + 1)) = omega arith in
    let next : n + 1 ≡ suc n = omega arith in
    rw (left, next)

-- the whole path of a leaf, after a prefix
abbrev pub whole_path : SecretKey → List ℕ → ℕ → List ℕ
whole_path secret start q = start ++ path_from secret 0 (2 ^ height secret.tree + q) (height secret.tree)

pub on_way_first : (secret : SecretKey) (start : List ℕ) (q : ℕ) → IsTreeType secret.tree
    → q < 2 ^ height secret.tree
    → IsOnWay secret (whole_path secret start q) (record { out = start; level = 0; r = 2 ^ height secret.tree + q })
on_way_first secret start q known below =
    let all : height secret.tree - 0 ≡ height secret.tree = omega arith in
    record { at = leaf_node secret.tree q known below; rest = rw all }

-- one level up
pub on_way_next : (secret : SecretKey) (whole : List ℕ) (way : Way) (out' : List ℕ) → way.level < height secret.tree
    → IsOnWay secret whole way → out' ≡ way.out ++ node secret way.level (sibling way.r)
    → IsOnWay secret whole (record { out = out'; level = way.level + 1; r = way.r / 2 })
on_way_next secret whole way out' below is e =
    let h = height secret.tree in
    let after = path_from secret (way.level + 1) (way.r / 2) (h - (way.level + 1)) in
    let more : path_from secret way.level way.r (h - way.level) ≡ node secret way.level (sibling way.r) ++ after = path_from-level secret way.level way.r h below in
    record {
      at = parent_node secret.tree way.level way.r below is.at;
      rest = ap (λ xs. xs ++ after) e
          ∙ append_assoc way.out (node secret way.level (sibling way.r)) after
          ∙ ap (λ xs. way.out ++ xs) (sym more) ∙ is.rest;
    }

-- at the root the output is complete
pub on_way_last : (secret : SecretKey) (whole : List ℕ) (way : Way) → height secret.tree ≤ way.level
    → IsOnWay secret whole way
    → way.out ≡ whole
unfolding path_from
on_way_last secret whole way past is =
    let none : height secret.tree - way.level ≡ 0 = omega arith in
    sym (append-nil way.out) ∙ (rw none at is.rest)

-- ---- Nodes stored in a row.

-- ---- strings of 32 bytes in a row

pub value_at-front : (row more : List ℕ) (i : ℕ) → 32 * i + 32 ≤ length row → value_at (row ++ more) i ≡ value_at row i
unfolding value_at
value_at-front row more i room =
    let left : 32 ≤ length (drop (32 * i) row) = omega (arith, length-drop (32 * i) row) in
    ap (take 32) (drop-append-le (32 * i) row more (omega arith)) ∙ take-append-le 32 (drop (32 * i) row) more left

pub value_at-last : (row last : List ℕ) (i : ℕ) → length row ≡ 32 * i → length last ≡ 32 → value_at (row ++ last) i ≡ last
unfolding value_at
value_at-last row last i before long =
    ap (take 32) (drop_at row last (32 * i) before) ∙ take_all 32 last (omega arith)

-- ---- numbers of nodes

-- each node has a number of at most the last
pub node_below : (t n r : ℕ) → IsNode t n r → r < past_last t
node_below t n r is =
    let less : height t - n ≤ height t = omega arith in
    let most : 2 ^ (height t - n) ≤ 2 ^ height t = pow-le-pow_right {n = 2} (omega arith) less in
    omega (arith, is.high)

-- and none has the number 0
pub node_some : (t n r : ℕ) → IsNode t n r → 1 ≤ r
node_some t n r is = let some : 0 < 2 ^ (height t - n) = pow_pos (height t - n) in omega (arith, is.low)

-- a node with the number of a leaf is one
pub leaf_level : (t n r : ℕ) → IsNode t n r → 2 ^ height t ≤ r → n ≡ 0
leaf_level t zero r is past = refl
leaf_level t (suc n) r is past =
    let less : suc (height t - suc n) ≤ height t = omega (arith, is.level) in
    let most : 2 ^ suc (height t - suc n) ≤ 2 ^ height t = pow-le-pow_right {n = 2} (omega arith) less in
    let twice : 2 ^ suc (height t - suc n) ≡ 2 ^ (height t - suc n) * 2 = pow-suc _ _ in
    absurd (omega (arith, is.high))

-- and one with a smaller number is not
pub inner_level : (t n r : ℕ) → IsNode t n r → r < 2 ^ height t → 0 < n
inner_level t zero r is below =
    let all : height t - 0 ≡ height t = omega arith in
    absurd (omega (arith, rw all at is.low))
inner_level t (suc n) r is below = omega arith

-- ---- stored nodes

-- none at first
pub holds_none : (secret : SecretKey) → HoldsFrom secret (past_last secret.tree) []
holds_none secret = record {
  long = omega arith;
  each = λ n r is past. absurd (omega (arith, node_below secret.tree n r is));
}

-- one more node
pub holds_next : (secret : SecretKey) (r : ℕ) (nodes next : List ℕ) → r < past_last secret.tree
    → HoldsFrom secret (r + 1) nodes
    → length next ≡ 32
    → ((n : ℕ) → IsNode secret.tree n r → next ≡ node secret n r)
    → HoldsFrom secret r (nodes ++ next)
holds_next secret r nodes next below holds long is_node = record {
  long = omega (arith, holds.long, long, length-append nodes next);
  each = λ n r' is past. elim (cases_lt r r') [
    | inl later ↦
        let under : r' < past_last secret.tree = node_below secret.tree n r' is in
        value_at-front nodes next (place_of secret.tree r') (omega (arith, holds.long)) ∙ holds.each n r' is (omega arith)
    | inr not_later ↦
        let same : r' ≡ r = omega arith in
        value_at-last nodes next (place_of secret.tree r') (omega (arith, holds.long)) long
        ∙ is_node n (rw same at is) ∙ ap (node secret n) (sym same)
  ];
}

-- a node computed from two stored ones
pub inner_of_kept : (secret : SecretKey) (r n : ℕ) (nodes : List ℕ) → 1 ≤ r → r < 2 ^ height secret.tree
    → HoldsFrom secret (r + 1) nodes
    → IsNode secret.tree n r
    → inner secret.id r (value_at nodes (place_of secret.tree (2 * r))) (value_at nodes (place_of secret.tree (2 * r + 1))) ≡ node secret n r
inner_of_kept secret r n nodes some below holds is =
    let up = inner_level secret.tree n r is below in
    let left = holds.each (n - 1) (2 * r) (left_node secret.tree n r up is) (omega arith) in
    let right = holds.each (n - 1) (2 * r + 1) (right_node secret.tree n r up is) (omega arith) in
    rw (left, right) (node-level secret n r up)

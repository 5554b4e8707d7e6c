-- The state of members after a `&mut` to the value of one of them has ended.
use Rattle.std.specs.Borrow.{Fml, RattleType, MutBor, LendsSo}
use Rattle.std.specs.Prelude.{◌≡◌, ℕ, List, Option, OnSome, ◌<◌, ◌≤◌, length, slice_index_or}
use Rattle.std.specs.declared.cmp.Ordering.TheVariants.{Less, Greater}
use Rattle.st_plain.specs.Names.{name_cmp}
use Rattle.st_plain.specs.inside.Objects.{placed}
use Rattle.st_canon.specs.contracts.object.Members.{the_row}

-- the member of this name has the last value that was written; without such a member nothing changes
abbrev pub lends_member : (T : RattleType) → MutBor (List (List ℕ × T.Denot)) → List ℕ → Option (MutBor T.Denot) → Fml
lends_member T s name r = LendsSo (the_row T) T s r (λ new value. OnSome r (new ≡ placed (name, value) s.now)) (λ new. new ≡ s.now)

-- ---- The place of a name among pairs whose names ascend, or the place to insert it.

-- the pair at this place has this name
pub record IsPlaceOf {X : Type 0} (name : List ℕ) (pairs : List (List ℕ × X)) (at : ℕ) : Type 0 where
  pub in_range : at < length pairs
  pub named : (d : List ℕ × X) → (slice_index_or pairs at d).0 ≡ name

-- the names before it are below, and those from it on above
pub record IsGapFor {X : Type 0} (name : List ℕ) (pairs : List (List ℕ × X)) (at : ℕ) : Type 0 where
  pub in_range : at ≤ length pairs
  pub below : (i : ℕ) (d : List ℕ × X) → i < at → name_cmp (slice_index_or pairs i d).0 name ≡ Less
  pub above : (i : ℕ) (d : List ℕ × X) → at ≤ i → i < length pairs
      → name_cmp (slice_index_or pairs i d).0 name ≡ Greater

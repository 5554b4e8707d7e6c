-- `Members` may contain the type that contains it, as an object of values inside a value. It is the list of its
-- pairs: only their values are contained, and the order of the names is kept with it.
use mathlib.Core.Path.{◌≡◌, refl, sym, ap, subst, ◌∙◌}
use mathlib.Core.Former.{Former, Count, Row, this, const, pair, list, via, children, list_count, list_put}
use Rattle.std.specs.Prelude.{ℕ, List, [], ◌∷◌, map, max}
use Rattle.std.specs.List.Sorted.{IsStrictlySortedBy, IsStrictlySortedBy-prop}
use Rattle.std.specs.Map.{keys_of, values_of}
use base.Stored.{code_map, coded_list, coded_ℕ, coded×, gcons}
use denote.RattleType.{RattleType}
use denote.HoleLaws.{Alike}
use denote.HolePlaces.{Recodes, struct_places, laid, stays}
use denote.Hole.Carrier.{listed}
use denote.Hole.Fix.{over}
use denote.Param.Nested.{deepest}
use denote.Param.Weighed.{Weighed, most, none_max, w_const, w_pair, List-puts}
use denote.Model.Placed.{view_places}
use denote.Struct.Tuple.{Tuple, tuple_type}
use Rattle.std.specs.formers.vec.Vec as vec
use Rattle.std.specs.declared.alloc.Global.{Global}
use Rattle.std.specs.contracts.alloc.Global as heap
use Rattle.std.specs.contracts.impls.GlobalAllocator.TheImpl.{ghosts}
use Rattle.st_base.specs.contracts.bytes.Text as text
use Rattle.st_plain.specs.Names.{name_cmp}
use Rattle.st_canon.specs.contracts.object.Members as M
use Rattle.st_canon.specs.contracts.object.Members.TheInside as I
use Rattle.st_canon.specs.declared.object.Members.TheInside.{Inside}
use Rattle.st_canon.specs.declared.object.Members.TheView.{view, invariant}

abbrev Name : Type 0
Name = List ℕ

-- a name, which contains nothing, and a value
abbrev named : Former {0} → Former {0}
named value = pair (const Name) value

-- the pair with its value mapped
abbrev with_value : {X Y : Type 0} → (X → Y) → Name × X → Name × Y
with_value h member = (member.0, h member.1)

-- the contents of members: a list of pairs of a name and a value
abbrev pub the_former : Former {0} → Former {0}
the_former value = list (named value)

pub deepest_values : {X : Type 0} (depth : X → ℕ) (members : List (Name × X)) → most (λ m. max 0 (depth m.1)) members ≡ most depth (values_of members)
deepest_values depth [] = refl
deepest_values depth (m ∷ ms) = λ i. max (sym (none_max (depth m.1)) i) (deepest_values depth ms i)

pub members_put : {value : Former {0}} (weighed : Weighed value) (X : Type 0) (depth : X → ℕ) (members : List (Name × value.Of X)) (n : Count) (t : Row X n)
    → deepest depth (list_count (named value) (map ((named value).shape X) members) n) (list_put (named value) X members n t)
    ≡ max (most (weighed.weight X depth) (values_of members)) (deepest depth n t)
members_put weighed X depth members n t = List-puts (w_pair (w_const Name) weighed) X depth members n t
    ∙ ap (λ a. max a (deepest depth n t)) (deepest_values (weighed.weight X depth) members)

-- they are as deep as the deepest of their values
abbrev pub the_weighed : {value : Former {0}} → Weighed value → Weighed (the_former value)
the_weighed weighed =
    record { weight = λ X depth members. most (weighed.weight X depth) (values_of members); puts = λ X depth members. members_put weighed X depth members }

pub the_empty : List (Name × ⊥)
the_empty = []

-- the values alone, in the order of the names
abbrev pub the_items : (X : Type 0) → List (Name × X) → List X
the_items X members = values_of members

pub the_items_listed : (X : Type 0) (members : List (Name × X)) → listed _ (children (the_former this) X members) ≡ the_items X members
the_items_listed X [] = refl
the_items_listed X (m ∷ ms) = ap (λ values. m.1 ∷ values) (the_items_listed X ms)

-- its representation: a struct with a vector of pairs
abbrev inside : Former {0}
inside = via (vec.the_former (named this) Global) Inside (λ X held. held.pairs) (λ X pairs. record { pairs = pairs }) (λ X held. refl) (λ X pairs. refl)

same_names : {X Y : Type 0} (h : X → Y) (members : List (Name × X)) → keys_of (map (with_value h) members) ≡ keys_of members
same_names h [] = refl
same_names h (m ∷ ms) = ap (λ names. m.0 ∷ names) (same_names h ms)

module _ (R S : RattleType) (h : R.Denot → S.Denot) where
  pair_places : Alike R S h → Alike (Tuple (text.the_row ∷ R ∷ [])) (Tuple (text.the_row ∷ S ∷ [])) (with_value h)
  pair_places alike = struct_places (tuple_type (text.the_row ∷ R ∷ [])) (tuple_type (text.the_row ∷ S ∷ [])) (λ name. name, (h, tt)) (with_value h)
      (λ d. refl) refl
      (stays text.the_row, (laid _ _ _ alike, tt))

  pub the_places : Alike R S h → Alike (M.the_row R) (M.the_row S) ((the_former this).map R.Denot S.Denot h)
  the_places alike = view_places inside (the_former this) view (λ X Y k u. refl) (λ X u. refl) R.Denot S.Denot h (M.the_row R).coded (M.the_row S).coded
      (invariant R.Denot) (invariant S.Denot) (λ u. IsStrictlySortedBy-prop name_cmp _) (λ u. IsStrictlySortedBy-prop name_cmp _)
      (λ u ascend. subst (IsStrictlySortedBy name_cmp) (sym (same_names h u.pairs.items)) ascend)
      (λ u ascend. subst (IsStrictlySortedBy name_cmp) (same_names h u.pairs.items) ascend)
      (over (I.the_row R)) (over (I.the_row S))
      (struct_places (I.the_type R) (I.the_type S) (vec.mapped (with_value h), tt) _ (λ d. refl) refl
      (laid _ _ _ (vec.the_places heap.the_row ghosts (Tuple (text.the_row ∷ R ∷ [])) (Tuple (text.the_row ∷ S ∷ [])) (with_value h) (pair_places alike)), tt))

  pub the_codes_placed : Recodes R S h → Recodes (M.the_row R) (M.the_row S) ((the_former this).map R.Denot S.Denot h)
  the_codes_placed recodes members =
      sym (code_map (coded× (coded_list coded_ℕ) R.coded).code (coded× (coded_list coded_ℕ) S.coded).code (with_value h)
      (λ m i. gcons ((coded_list coded_ℕ).code m.0) (sym (recodes m.1) i)) members)

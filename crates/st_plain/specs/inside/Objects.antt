use Rattle.std.specs.Cmp.Lexicographic.{slice_cmp}
use Rattle.std.specs.List.{AllByRecursion}
use Rattle.std.specs.List.Sorted.{IsStrictlySortedBy}
use Rattle.std.specs.Map.{keys_of}
use Rattle.std.specs.Ordering.{match_ordering, is_eq, nat_cmp}
use Rattle.std.specs.Prelude.{ℕ, Bool, true, false, ◌&&◌, ◌||◌, List, [], ◌∷◌, ◌++◌, Option, Some, None, is_some, ◌≡◌, ⊤, if◌then◌else◌, ◌+◌, ◌-◌, nat_lt, drop, take, map, reverse, length}
use Rattle.std.specs.Str.{IsUtf8}
use Rattle.std.specs.declared.cmp.Ordering.{Ordering}
use Rattle.std.specs.declared.cmp.Ordering.TheVariants.{Equal}
use Rattle.st_plain.specs.Plain.{canonical, comma, quoted, Plain, Members, no_members, member}
use Rattle.st_plain.specs.Objects.{name_in, text_there}
use Rattle.st_plain.specs.Names.{name_cmp}

-- ---- members in the order of their names

-- a member, if it has a value, before others
abbrev pub some_first : List ℕ → Option Plain → Members → Members
some_first name None others = others
some_first name (Some value) others = member name value others

-- those of these members that have a value, in the order of the list
abbrev pub members_some : List (List ℕ × Option Plain) → Members
members_some [] = no_members
members_some (pair ∷ pairs) = some_first pair.0 pair.1 (members_some pairs)

-- the pairs with this one, at its place in the order of names
abbrev pub inserted : List ℕ → Option Plain → List (List ℕ × Option Plain) → List (List ℕ × Option Plain)
inserted name value [] = (name, value) ∷ []
inserted name value (pair ∷ pairs) =
    match_ordering (name_cmp name pair.0) ((name, value) ∷ pair ∷ pairs) ((name, value) ∷ pairs) (pair ∷ inserted name value pairs)

-- the same of each of these pairs, one after another
abbrev pub sorted_among : List (List ℕ × Option Plain) → List (List ℕ × Option Plain) → List (List ℕ × Option Plain)
sorted_among [] others = others
sorted_among (pair ∷ pairs) others = sorted_among pairs (inserted pair.0 pair.1 others)

-- the name is below all of these
abbrev pub is_below : List ℕ → List (List ℕ × Option Plain) → Bool
is_below name [] = true
is_below name (pair ∷ pairs) = match_ordering (name_cmp name pair.0) (is_below name pairs) false false

-- the name is none of these, and all from the first above it on are above it
abbrev pub fits : List ℕ → List (List ℕ × Option Plain) → Bool
fits name [] = true
fits name (pair ∷ pairs) = match_ordering (name_cmp name pair.0) (is_below name pairs) false (fits name pairs)

-- each of these fits among the others and those before it
abbrev pub all_fit : List (List ℕ × Option Plain) → List (List ℕ × Option Plain) → Bool
all_fit [] others = true
all_fit (pair ∷ pairs) others = fits pair.0 others && all_fit pairs (inserted pair.0 pair.1 others)

-- ---- their text

-- the name of a member with a colon
abbrev pub name_text : List ℕ → List ℕ
name_text name = quoted name ++ 58 ∷ []

-- the text of an optional member, after a comma if one is due
abbrev pub member_text : Bool → List ℕ → Option Plain → List ℕ
member_text due name None = []
member_text due name (Some value) = comma due ++ (name_text name ++ canonical value)

-- the same for members one after another
abbrev pub members_text : Bool → List (List ℕ × Option Plain) → List ℕ
members_text due [] = []
members_text due (pair ∷ pairs) = member_text due pair.0 pair.1 ++ members_text (due || is_some pair.1) pairs

-- members before one that is always there: a comma after each
abbrev pub texts_before : List (List ℕ × Option Plain) → List ℕ → List ℕ
texts_before [] rest = rest
texts_before (pair ∷ pairs) rest = text_there (name_text pair.0) pair.1 (44 ∷ []) ++ texts_before pairs rest

-- members after one that is always there: a comma before each
abbrev pub texts_behind : List (List ℕ × Option Plain) → List ℕ → List ℕ
texts_behind [] rest = rest
texts_behind (pair ∷ pairs) rest = text_there (44 ∷ name_text pair.0) pair.1 [] ++ texts_behind pairs rest

-- an object with a member that is always there
abbrev pub listed_text : List (List ℕ × Option Plain) → List ℕ → Plain → List (List ℕ × Option Plain) → List ℕ
listed_text before name value behind =
    123 ∷ texts_before before (name_text name ++ (canonical value ++ texts_behind behind (125 ∷ [])))

-- ---- Pairs of a name and a value, sorted by name.

-- the pairs with this one, at its place in the order of names
abbrev pub placed : {X : Type 0} → List ℕ × X → List (List ℕ × X) → List (List ℕ × X)
placed pair [] = pair ∷ []
placed pair (e ∷ es) = match_ordering (name_cmp pair.0 e.0) (pair ∷ e ∷ es) (pair ∷ es) (e ∷ placed pair es)

-- the pairs in the order of their names; only the first of several with one name
abbrev pub in_order : {X : Type 0} → List (List ℕ × X) → List (List ℕ × X)
in_order [] = []
in_order (e ∷ es) = placed e (in_order es)

-- whether a name ties with the previous one, if any
abbrev pub is_same : Option (List ℕ) → List ℕ → Bool
is_same None name = false
is_same (Some last) name = is_eq (name_cmp last name)

-- The first alone of adjacent pairs with one name. Pairs that tie with the previous name are dropped.
abbrev pub firsts : {X : Type 0} → Option (List ℕ) → List (List ℕ × X) → List (List ℕ × X)
firsts last [] = []
firsts last (e ∷ es) = if is_same last e.0 then firsts last es else e ∷ firsts (Some e.0) es

-- the name ties with none of these
abbrev pub IsNew : List ℕ → List (List ℕ) → Type 0
IsNew name names = AllByRecursion (λ other. name_cmp name other ≡ Equal → ⊥) names

-- the name ties with none of the pairs
abbrev pub IsApart : {X : Type 0} → List ℕ → List (List ℕ × X) → Type 0
IsApart name pairs = IsNew name (keys_of pairs)

-- no two names tie in the order
abbrev pub AreApart : List (List ℕ) → Type 0
AreApart [] = ⊤
AreApart (name ∷ names) = IsNew name names × AreApart names

-- all names differ
abbrev pub NamesDiffer : {X : Type 0} → List (List ℕ × X) → Type 0
NamesDiffer pairs = AreApart (keys_of pairs)

-- the name after the quotation mark at a place
unfoldable pub name_at : List ℕ → ℕ → List ℕ
name_at text place = name_in (drop 1 (drop place text))

-- ---- the order of UTF-16 code units, byte by byte

-- The first byte of a four-byte character, which takes two surrogates, is below that of a character from U+E000 on.
abbrev pub rank : ℕ → ℕ
rank b = if nat_lt b 238 then b else if nat_lt b 240 then b + 7 else b

-- the order of two names given by their bytes in UTF-8: that of their UTF-16 code units
abbrev pub ranks_cmp : List ℕ → List ℕ → Ordering
ranks_cmp first second = slice_cmp nat_cmp (map rank first) (map rank second)

-- ---- members

-- the bytes between two places
unfoldable pub between : List ℕ → ℕ × ℕ → List ℕ
between text place = take (place.1 - place.0) (drop place.0 text)

-- a name, and all of the member
abbrev pub entry_at : List ℕ → ℕ × ℕ → List ℕ × List ℕ
entry_at text place = (name_at text place.0, between text place)

-- the members in the order of their names, only the last of several with one name
abbrev pub entries_in : List ℕ → List (ℕ × ℕ) → List (List ℕ × List ℕ)
entries_in text places = in_order (map (entry_at text) (reverse places))

-- texts with commas between them
abbrev pub joined : Bool → List (List ℕ) → List ℕ
joined b [] = []
joined b (t ∷ ts) = comma b ++ (t ++ joined true ts)

-- whether the name at a place ties with that of the member written last, if any
abbrev pub is_again : List ℕ → Option ℕ → ℕ → Bool
is_again text None place = false
is_again text (Some last) place = is_eq (ranks_cmp (name_at text last) (name_at text place))

-- the members at these places, without those whose names tie with that of the previous one
abbrev pub once : List ℕ → Option ℕ → List (ℕ × ℕ) → List (List ℕ)
once text last [] = []
once text last (p ∷ ps) = if is_again text last p.0 then once text last ps else between text p ∷ once text (Some p.0) ps

-- a member is there
pub record IsHeld (text : List ℕ) (place : ℕ × ℕ) : Type 0 where
  pub front : List ℕ
  pub name : List ℕ
  pub inside : List ℕ
  pub rest : List ℕ
  pub is : text ≡ front ++ ((quoted name ++ inside) ++ rest)
  pub begins : place.0 ≡ length front
  pub ends : place.1 ≡ length front + length (quoted name ++ inside)
  pub utf8 : IsUtf8 name

-- each name is below those after it
abbrev pub NamesAscend : {X : Type 0} → List (List ℕ × X) → Type 0
NamesAscend pairs = IsStrictlySortedBy name_cmp (keys_of pairs)

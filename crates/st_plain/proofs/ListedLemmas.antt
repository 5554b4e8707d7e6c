-- The canonical text of an object given by a list of members.
use Rattle.std.proofs.Common.{◌≡◌, ◌∙◌, ℕ, Bool, true, false, List, [], ◌∷◌, ◌++◌, Option, Some, None, Ordering, Less, Equal, Greater, refl, ap, append_assoc, cond, not, Result, Ok, Err, option_and_then, sym, subst}
use Rattle.std.proofs.lemmas.Bool.{and_parts}
use Rattle.std.specs.List.{list_all, list_any}
use Rattle.std.specs.Map.{keys_of, lookup}
use Rattle.std.specs.Ordering.{match_ordering}
use Rattle.std.specs.Prelude.{◌||◌, is_some, ◌&&◌}
use Rattle.std.specs.Result.{result_ok}
use Rattle.json.proofs.Printed.Utf8.{are_ascii}
use Rattle.st_plain.proofs.NameLemmas.{member_at-put_same, member_at-put_literal, same_from_is_name}
use Rattle.st_plain.specs.Plain.{canonical, canonical_members, comma, Plain, Members, member, Items, no_items, item, no_members}
use Rattle.st_plain.specs.Objects.{put, has_only, member_at, object_of_some, put_some, with_some, some_list, some_listed, some_object, entries, items_of}
use Rattle.st_plain.specs.Names.{name_cmp, is_name}
use Rattle.st_plain.specs.Shapes.{json_of, entries_in, json_in, member_in}
use Rattle.st_plain.specs.declared.respelling.ReadRefused.{ReadRefused}
use Rattle.st_plain.specs.inside.Objects.{all_fit, fits, inserted, is_below, listed_text, member_text, members_some, members_text, name_text, some_first, sorted_among, texts_before, texts_behind}

-- a name below all is below the first and below the rest
below_parts : (o : Ordering) (rest : Bool) → match_ordering o rest false false ≡ true → (o ≡ Less) × (rest ≡ true)
below_parts Less rest is = (refl, is)
below_parts Equal rest is = absurd (cc)
below_parts Greater rest is = absurd (cc)

-- a name below all is inserted first
put-below : (name : List ℕ) (p : Plain) (pairs : List (List ℕ × Option Plain)) → is_below name pairs ≡ true
    → put name p (members_some pairs) ≡ member name p (members_some pairs)
put-below name p [] below = refl
put-below name p ((n, None) ∷ pairs) below = put-below name p pairs (below_parts (name_cmp name n) (is_below name pairs) below).1
put-below name p ((n, Some q) ∷ pairs) below = rw (below_parts (name_cmp name n) (is_below name pairs) below).0 refl

-- past a name that is below
put_some-past : (name n : List ℕ) (o v : Option Plain) (ms : Members) → name_cmp name n ≡ Greater
    → put_some name o (some_first n v ms) ≡ some_first n v (put_some name o ms)
unfolding put_some
put_some-past name n None v ms past = refl
put_some-past name n (Some p) None ms past = refl
put_some-past name n (Some p) (Some q) ms past = rw past refl

-- before a name that is above
put_some-first : (name n : List ℕ) (o v : Option Plain) (pairs : List (List ℕ × Option Plain)) → name_cmp name n ≡ Less
    → is_below name pairs ≡ true
    → put_some name o (some_first n v (members_some pairs)) ≡ some_first name o (some_first n v (members_some pairs))
unfolding put_some
put_some-first name n None v pairs less below = refl
put_some-first name n (Some p) None pairs less below = put-below name p pairs below
put_some-first name n (Some p) (Some q) pairs less below = rw less refl

-- a member is inserted at its place in the order
put_some-fits : (name : List ℕ) (o : Option Plain) (pairs : List (List ℕ × Option Plain)) → fits name pairs ≡ true
    → put_some name o (members_some pairs) ≡ members_some (inserted name o pairs)
unfolding put_some
put_some-fits name None [] fit = refl
put_some-fits name (Some p) [] fit = refl
put_some-fits name o (pair ∷ pairs) fit =
    elim (name_cmp name pair.0) as (λ w. name_cmp name pair.0 ≡ w → match_ordering w (is_below name pairs) false (fits name pairs) ≡ true
    → put_some name o (some_first pair.0 pair.1 (members_some pairs))
    ≡ members_some (match_ordering w ((name, o) ∷ pair ∷ pairs) ((name, o) ∷ pairs) (pair ∷ inserted name o pairs))) [
      | Less ↦ λ is fit. put_some-first name pair.0 o pair.1 pairs is fit
      | Equal ↦ λ is fit. absurd (cc)
      | Greater ↦ λ is fit. put_some-past name pair.0 o pair.1 (members_some pairs) is
          ∙ ap (some_first pair.0 pair.1) (put_some-fits name o pairs fit)
    ] refl fit

with_some-fits : (pairs others : List (List ℕ × Option Plain)) → all_fit pairs others ≡ true
    → with_some pairs (members_some others) ≡ members_some (sorted_among pairs others)
with_some-fits [] others fit = refl
with_some-fits (pair ∷ pairs) others fit =
    let parts = and_parts (fits pair.0 others) (all_fit pairs (inserted pair.0 pair.1 others)) fit in
    ap (with_some pairs) (put_some-fits pair.0 pair.1 others parts.0)
    ∙ with_some-fits pairs (inserted pair.0 pair.1 others) parts.1

-- ---- their text

text-behind : (pairs : List (List ℕ × Option Plain)) (rest : List ℕ)
    → canonical_members true (members_some pairs) ++ rest ≡ texts_behind pairs rest
text-behind [] rest = refl
text-behind ((n, None) ∷ pairs) rest = text-behind pairs rest
text-behind ((n, Some p) ∷ pairs) rest = simp append_assoc (rw (← text-behind pairs rest) refl)

text-always : (name : List ℕ) (value : Plain) (behind : List (List ℕ × Option Plain)) (rest : List ℕ) (comes : Bool)
    → canonical_members comes (member name value (members_some behind)) ++ rest
    ≡ comma comes ++ (name_text name ++ (canonical value ++ texts_behind behind rest))
text-always name value behind rest comes = simp append_assoc (rw (← text-behind behind rest) refl)

text-before : (before : List (List ℕ × Option Plain)) (comes : Bool) (name : List ℕ) (value : Plain)
    (behind : List (List ℕ × Option Plain)) (rest last : List ℕ)
    → ((comes : Bool) → canonical_members comes (member name value (members_some behind)) ++ rest ≡ comma comes ++ last)
    → canonical_members comes (members_some (before ++ (name, Some value) ∷ behind)) ++ rest ≡ comma comes ++ texts_before before last
text-before [] comes name value behind rest last always = always comes
text-before ((n, None) ∷ before) comes name value behind rest last always = text-before before comes name value behind rest last always
text-before ((n, Some p) ∷ before) comes name value behind rest last always =
    simp append_assoc (rw (text-before before true name value behind rest last always) refl)

-- The text of an object with one listed member that is always there. Both premises are `refl` at literals.
pub canonical-listed : (pairs before : List (List ℕ × Option Plain)) (name : List ℕ) (value : Plain)
    (behind : List (List ℕ × Option Plain)) → all_fit pairs [] ≡ true
    → sorted_among pairs [] ≡ before ++ (name, Some value) ∷ behind
    → canonical (object_of_some pairs) ≡ listed_text before name value behind
canonical-listed pairs before name value behind fit sorted =
    let last = name_text name ++ (canonical value ++ texts_behind behind (125 ∷ [])) in
    ap (λ ms. 123 ∷ (canonical_members false ms ++ 125 ∷ [])) (with_some-fits pairs [] fit ∙ ap members_some sorted)
    ∙ ap (λ text. 123 ∷ text) (text-before before false name value behind (125 ∷ []) last (text-always name value behind (125 ∷ [])))

-- ---- members that are all optional

text-there : (due : Bool) (name : List ℕ) (there : Option Plain) (others : Members)
    → canonical_members due (some_first name there others) ≡ member_text due name there ++ canonical_members (due || is_some there) others
text-there true name None others = refl
text-there false name None others = refl
text-there true name (Some value) others = simp append_assoc
text-there false name (Some value) others = simp append_assoc

text-each : (due : Bool) (pairs : List (List ℕ × Option Plain)) → canonical_members due (members_some pairs) ≡ members_text due pairs
text-each due [] = refl
text-each due (pair ∷ pairs) =
    text-there due pair.0 pair.1 (members_some pairs) ∙ ap (λ text. member_text due pair.0 pair.1 ++ text) (text-each (due || is_some pair.1) pairs)

-- The text of an object whose members are all optional. Both premises are `refl` at literals.
pub canonical-sorted : (pairs sorted : List (List ℕ × Option Plain)) → all_fit pairs [] ≡ true → sorted_among pairs [] ≡ sorted
    → canonical (object_of_some pairs) ≡ 123 ∷ (members_text false sorted ++ 125 ∷ [])
canonical-sorted pairs sorted fit is =
    ap (λ ms. 123 ∷ (canonical_members false ms ++ 125 ∷ [])) (with_some-fits pairs [] fit ∙ ap members_some is)
    ∙ ap (λ text. 123 ∷ (text ++ 125 ∷ [])) (text-each false sorted)

-- ---- Items as a list, and items before others.

pub entries-items_of : (ps : List Plain) → entries (items_of ps) ≡ ps
entries-items_of [] = refl
entries-items_of (p ∷ ps) = ap (λ l. p ∷ l) (entries-items_of ps)

pub items_of-entries : (ps : Items) → items_of (entries ps) ≡ ps
items_of-entries no_items = refl
items_of-entries (item p ps) = ap (item p) (items_of-entries ps)

-- the items before the others
abbrev pub items_after : List Plain → Items → Items
items_after [] rest = rest
items_after (p ∷ ps) rest = item p (items_after ps rest)

pub items_after-nil : (ps : List Plain) → items_after ps no_items ≡ items_of ps
items_after-nil [] = refl
items_after-nil (p ∷ ps) = ap (item p) (items_after-nil ps)

pub items_after_push : (ps : List Plain) (p : Plain) (rest : Items) → items_after (ps ++ p ∷ []) rest ≡ items_after ps (item p rest)
items_after_push [] p rest = refl
items_after_push (q ∷ ps) p rest = ap (item q) (items_after_push ps p rest)

-- ---- Lookups in an object given by a list of members.

-- ---- lists and objects that are left out if they are empty

-- the entries of a list written from these are these
pub entries_in-some_list : (entries : List Plain) → entries_in (some_list entries) ≡ entries
unfolding some_list
entries_in-some_list [] = refl
entries_in-some_list (entry ∷ entries) = entries-items_of (entry ∷ entries)

-- the members of an object written from these are these
pub member_in-some_object : (name : List ℕ) (ms : Members) → member_in name (some_object ms) ≡ member_at name ms
unfolding some_object
member_in-some_object name no_members = refl
member_in-some_object name (member n p ms) = refl

-- ---- optional members

-- two different ASCII names; it computes if they are literals
abbrev pub is_apart : List ℕ → List ℕ → Bool
is_apart other name = are_ascii other && (are_ascii name && not (is_name other name))

-- the member is there if and only if it has a value
pub member_at-put_some_same : (name : List ℕ) (value : Option Plain) (ms : Members) → member_at name ms ≡ None
    → member_at name (put_some name value ms) ≡ value
unfolding put_some
member_at-put_some_same name None ms none = none
member_at-put_some_same name (Some p) ms none = member_at-put_same name p ms

-- other members stay
pub member_at-put_some_literal : (other name : List ℕ) (value : Option Plain) (ms : Members) → is_apart other name ≡ true
    → member_at other (put_some name value ms) ≡ member_at other ms
unfolding put_some
member_at-put_some_literal other name None ms apart = refl
member_at-put_some_literal other name (Some p) ms apart = member_at-put_literal other name p ms apart

-- a member is inserted among members of these names
has_only-put : (names : List (List ℕ)) (name : List ℕ) (p : Plain) (ms : Members) → list_any (is_name name) names ≡ true
    → has_only names ms ≡ true → has_only names (put name p ms) ≡ true
has_only-put names name p no_members among only = rw among refl
has_only-put names name p (member n q ms) among only =
    let parts = and_parts (list_any (is_name n) names) (has_only names ms) only in
    elim (name_cmp name n) as (λ o. has_only names (match_ordering o (member name p (member n q ms)) (member name p ms) (member n q (put name p ms))) ≡ true) [
      | Less ↦ rw among only
      | Equal ↦ rw among parts.1
      | Greater ↦ rw parts.0 (has_only-put names name p ms among parts.1)
    ]

has_only-put_some : (names : List (List ℕ)) (name : List ℕ) (value : Option Plain) (ms : Members) → list_any (is_name name) names ≡ true
    → has_only names ms ≡ true → has_only names (put_some name value ms) ≡ true
unfolding put_some
has_only-put_some names name None ms among only = only
has_only-put_some names name (Some p) ms among only = has_only-put names name p ms among only

-- ---- an object of listed members

-- ASCII names that all differ; it computes if they are literals
abbrev pub are_apart : List (List ℕ) → Bool
are_apart [] = true
are_apart (name ∷ names) = are_ascii name && (list_all (is_apart name) names && are_apart names)

listed_beside : (name : List ℕ) (pairs : List (List ℕ × Option Plain)) (ms : Members) → list_all (is_apart name) (keys_of pairs) ≡ true
    → member_at name (with_some pairs ms) ≡ member_at name ms
listed_beside name [] ms apart = refl
listed_beside name (pair ∷ pairs) ms apart =
    let parts = and_parts (is_apart name pair.0) (list_all (is_apart name) (keys_of pairs)) apart in
    listed_beside name pairs (put_some pair.0 pair.1 ms) parts.1 ∙ member_at-put_some_literal name pair.0 pair.1 ms parts.0

-- the value listed under a name, if any
abbrev pub value_listed : List ℕ → List (List ℕ × Option Plain) → Option Plain
value_listed name pairs = option_and_then (λ value. value) (lookup (is_name name) pairs)

listed_at : (name : List ℕ) (pairs : List (List ℕ × Option Plain)) (ms : Members) → are_ascii name ≡ true
    → are_apart (keys_of pairs) ≡ true → member_at name ms ≡ None → member_at name (with_some pairs ms) ≡ value_listed name pairs
listed_at name [] ms ascii apart none = none
listed_at name (pair ∷ pairs) ms ascii apart none =
    let first = and_parts (are_ascii pair.0) (list_all (is_apart pair.0) (keys_of pairs) && are_apart (keys_of pairs)) apart in
    let later = and_parts (list_all (is_apart pair.0) (keys_of pairs)) (are_apart (keys_of pairs)) first.1 in
    elim (is_name name pair.0) as (λ t. is_name name pair.0 ≡ t → member_at name (with_some pairs (put_some pair.0 pair.1 ms))
    ≡ option_and_then (λ value. value) (cond t (Some pair.1) (lookup (is_name name) pairs))) [
      | true ↦ λ is. let same : pair.0 ≡ name = sym (same_from_is_name name pair.0 is) in
          listed_beside name pairs (put_some pair.0 pair.1 ms) (subst (λ n. list_all (is_apart n) (keys_of pairs) ≡ true) same later.0)
          ∙ ap (λ n. member_at name (put_some n pair.1 ms)) same ∙ member_at-put_some_same name pair.1 ms none
      | false ↦ λ is. let beside : is_apart name pair.0 ≡ true = rw (ascii, first.0, is) refl in
          listed_at name pairs (put_some pair.0 pair.1 ms) ascii later.1 (member_at-put_some_literal name pair.0 pair.1 ms beside ∙ none)
    ] refl

-- An object of listed members has the listed value under each name. The premise is `refl` at literals.
pub member_at-some_listed : (name : List ℕ) (pairs : List (List ℕ × Option Plain))
    → (are_ascii name && are_apart (keys_of pairs)) ≡ true → member_at name (some_listed pairs) ≡ value_listed name pairs
member_at-some_listed name pairs named =
    let parts = and_parts (are_ascii name) (are_apart (keys_of pairs)) named in
    listed_at name pairs no_members parts.0 parts.1 refl

only_listed : (names : List (List ℕ)) (pairs : List (List ℕ × Option Plain)) (ms : Members)
    → list_all (λ name. list_any (is_name name) names) (keys_of pairs) ≡ true → has_only names ms ≡ true
    → has_only names (with_some pairs ms) ≡ true
only_listed names [] ms among only = only
only_listed names (pair ∷ pairs) ms among only =
    let parts = and_parts (list_any (is_name pair.0) names) (list_all (λ name. list_any (is_name name) names) (keys_of pairs)) among in
    only_listed names pairs (put_some pair.0 pair.1 ms) parts.1 (has_only-put_some names pair.0 pair.1 ms parts.0 only)

-- It has no other members than those listed. The premise is `refl` at literals.
pub has_only-some_listed : (names : List (List ℕ)) (pairs : List (List ℕ × Option Plain))
    → list_all (λ name. list_any (is_name name) names) (keys_of pairs) ≡ true → has_only names (some_listed pairs) ≡ true
has_only-some_listed names pairs among = only_listed names pairs no_members among refl

-- ---- values that were written

one_json : (reading : Result Plain ReadRefused) (p : Plain) → is_some (result_ok reading) ≡ true
    → ((q : Plain) → reading ≡ Ok q → q ≡ p) → result_ok reading ≡ Some p
one_json (Ok q) p some same = ap Some (same q refl)
one_json (Err e) p some same = cc

-- a text that is JSON and can be read only as this value
pub json_in-written : (file : List ℕ) (p : Plain) → is_some (json_in file) ≡ true → ((q : Plain) → json_of file ≡ Ok q → q ≡ p)
    → json_in file ≡ Some p
json_in-written file p some same = one_json (json_of file) p some same

-- Entries wait by what is known about them.
--     waits-turned    something else is known about one of them
use Rattle.std.proofs.Common.{◌≡◌, ◌≢◌, ◌∙◌, inl, inr, ℕ, List, sym, ap, ◌⊎◌, ◌≤◌, ◌↔◌, eqb, Bool, true, false, cond, ◌&&◌, ◌||◌, [], ◌∷◌, length, Option, Some, None, is_some, unwrap_or, option_map, Ordering, Less, Equal, Greater, nat_cmp, is_eq, ⊎_elim, refl, subst, arith}
use Rattle.std.proofs.lemmas.Bool.{cases_eq, eq-eqb, false_from_ne_true, or_cases, true≢false}
use Rattle.std.proofs.lemmas.Map.Lookups.{exact_bytes}
use Rattle.std.proofs.lemmas.Map.Made.{is_some-lookup, lookup-map_values}
use Rattle.std.specs.BTreeMap.{insert_entry, is_at}
use Rattle.std.specs.BTreeSet.{BTreeSet, contains}
use Rattle.std.specs.Cmp.{Equal-is, both_ways, nat_eq_equiv, tied_itself, unsigned_tied}
use Rattle.std.specs.List.{list_any}
use Rattle.std.specs.List.Sorted.{IsStrictlySortedBy}
use Rattle.std.specs.Map.{keys_of, lookup, remove_entry}
use Rattle.std.specs.Ordering.{match_ordering}
use Rattle.st_hash.proofs.HashLemmas.{same_hash-is, same_hash-itself}
use Rattle.st_hash.specs.Hash.{HashValue, hash_of_text_at, hash_text, same_hash, same_hash-equivalence}
use Rattle.st_anchor.specs.BoundValue.{BoundValue}
use Rattle.st_anchor.specs.States.{role_states}
use Rattle.st_anchor.specs.declared.part.RoleState.TheVariants.{Missing}
use Rattle.st_observer.specs.Work.{WaitsAgree, bound_at, roles_at}
use Rattle.st_observer.specs.Observed.{Waits, is_waiting, waiting_for, one_misses, text_cmp}
use Rattle.st_observer.specs.inside.Waiting.{TurnsTo, AreRead, AreRows, IsRead, IsRow, IsWaitedFor, SetsMissed, seen, text_cmp-total}

pub waits-turned : {n : ℕ} {before after : List BoundValue} {old new : Waits}
    → ((m : ℕ) → m ≢ n → bound_at m after ≡ bound_at m before)
    → TurnsTo n (roles_at n after) old new → WaitsAgree before old → WaitsAgree after new
waits-turned {n} {after = after} {new = new} others turns agree = record {
  each = λ uri m. elim (cases_eq m n) [
    | inl here ↦ ap (λ k. is_waiting uri k new) here ∙ turns.own uri ∙ ap (λ k. one_misses uri (roles_at k after)) (sym here)
    | inr other ↦
        turns.others uri m other ∙ agree.each uri m ∙ ap (λ bound. one_misses uri (role_states bound)) (sym (others m other))
  ];
}

-- ---- The entries that wait for a file, after the row of a URI was changed.
--     text-same, at-same        texts distinguish hashes that are read from them
--     rows-insert, rows-remove  the rows stay valid
--     sets-gone, sets-back      how a change of one row changes who waits
--     row-waited, rows-read     the row of a URI, and that it is read from its text

-- ---- different hashes have different texts

inside : (first second : HashValue) → Some first ≡ Some second → first ≡ second
inside first second same = ap (λ found. unwrap_or found first) same

-- hashes that are read from their texts are the same if their texts are
pub text-same : (first second : HashValue) → IsRead first → IsRead second → hash_text first ≡ hash_text second → first ≡ second
text-same first second one two same = inside first second (sym one ∙ ap (hash_of_text_at 2) same ∙ two)

-- so the order of texts finds exactly the same hash
at-same : (first second : HashValue) → IsRead first → IsRead second → is_at (text_cmp first) second ≡ same_hash first second
at-same first second one two =
    both_ways (is_at (text_cmp first) second) (same_hash first second)
    (λ found.
    let tied : text_cmp first second ≡ Equal = (Equal-is (text_cmp first second)).0 found in
    let is : first ≡ second = text-same first second one two (exact_bytes (hash_text first) (hash_text second) tied) in
    subst (λ hash. same_hash first hash ≡ true) is (same_hash-itself first))
    (λ same.
    let is : first ≡ second = same_hash-is first second same in
    subst (λ hash. is_at (text_cmp first) hash ≡ true) is (ap is_eq (tied_itself text_cmp-total first)))

some_or_not : (uri : HashValue) (found : Option HashValue) → (found ≡ Some uri) ⊎ (found ≡ Some uri → ⊥)
some_or_not uri None = inr (λ is. cc)
some_or_not uri (Some hash) =
    elim (same_hash hash uri) as (λ same. same_hash hash uri ≡ same → (Some hash ≡ Some uri) ⊎ (Some hash ≡ Some uri → ⊥)) [
      | true ↦ λ same. inl (ap Some (same_hash-is hash uri same))
      | false ↦ λ apart. inr (λ is. true≢false (sym (subst (λ other. same_hash hash other ≡ true) (inside hash uri is) (same_hash-itself hash)) ∙ apart))
    ] refl

read_or_not : (uri : HashValue) → IsRead uri ⊎ (IsRead uri → ⊥)
read_or_not uri = some_or_not uri (hash_of_text_at 2 (hash_text uri))

-- a hash that isn't read from its text differs from one that is
unread-apart : (first second : HashValue) → (IsRead first → ⊥) → IsRead second → same_hash first second ≡ false
unread-apart first second not is =
    false_from_ne_true (same_hash first second) (λ same. not (subst IsRead (sym (same_hash-is first second same)) is))

-- ---- rows by lookup

abbrev Rows : Type 0
Rows = List (HashValue × BTreeSet ℕ)

found_by_text : (uri : HashValue) (rows : Rows) → IsRead uri → AreRows rows
    → lookup (is_at (text_cmp uri)) rows ≡ lookup (same_hash uri) rows
found_by_text uri [] is are = refl
found_by_text uri (row ∷ rows) is are =
    λ i. cond (at-same uri row.0 is are.0.read i) (Some row.1) (found_by_text uri rows is are.1 i)

none_unread : (uri : HashValue) (rows : Rows) → (IsRead uri → ⊥) → AreRows rows → lookup (same_hash uri) rows ≡ None
none_unread uri [] not are = refl
none_unread uri (row ∷ rows) not are =
    λ i. cond (unread-apart uri row.0 not are.0.read i) (Some row.1) (none_unread uri rows not are.1 i)

-- the change of one row, in the form of std's maps
abbrev IsUpdated : HashValue → Option (BTreeSet ℕ) → Rows → Rows → Type 0
IsUpdated uri row old new =
    (other : HashValue) → lookup (is_at (text_cmp other)) new ≡ cond (is_at (text_cmp uri) other) row (lookup (is_at (text_cmp other)) old)

-- a row that is taken out and put back
cond-twice : (b : Bool) (row first found : Option (BTreeSet ℕ)) → cond b row (cond b first found) ≡ cond b row found
cond-twice true row first found = refl
cond-twice false row first found = refl

updated-twice : (uri : HashValue) (row first : Option (BTreeSet ℕ)) (old mid new : Rows)
    → IsUpdated uri first old mid → IsUpdated uri row mid new → IsUpdated uri row old new
updated-twice uri row first old mid new one two other =
    two other ∙ ap (λ found. cond (is_at (text_cmp uri) other) row found) (one other)
    ∙ cond-twice (is_at (text_cmp uri) other) row first (lookup (is_at (text_cmp other)) old)

-- ---- the rows stay right

pub rows-insert : (uri : HashValue) (entries : BTreeSet ℕ) (rows : Rows) → IsRow (uri, entries) → AreRows rows
    → AreRows (insert_entry text_cmp rows uri entries)
rows-insert uri entries [] is are = (is, tt)
rows-insert uri entries (row ∷ rows) is are =
    are_by (text_cmp uri row.0) (insert_entry text_cmp rows uri entries) (rows-insert uri entries rows is are.1)
  where
    are_by : (order : Ordering) (after : Rows) → AreRows after
        → AreRows (match_ordering order ((uri, entries) ∷ row ∷ rows) ((row.0, entries) ∷ rows) (row ∷ after))
    are_by Less after later = (is, are)
    are_by Equal after later = (record { read = are.0.read; some = is.some }, are.1)
    are_by Greater after later = (are.0, later)

remove_by : (here : Bool) (row : HashValue × BTreeSet ℕ) (rows after : Rows) → AreRows (row ∷ rows) → AreRows after
    → AreRows (cond here rows (row ∷ after))
remove_by true row rows after are later = are.1
remove_by false row rows after are later = (are.0, later)

pub rows-remove : (test : HashValue → Bool) (rows : Rows) → AreRows rows → AreRows (remove_entry test rows)
rows-remove test [] are = tt
rows-remove test (row ∷ rows) are = remove_by (test row.0) row rows (remove_entry test rows) are (rows-remove test rows are.1)

-- ---- who waits

-- the numbers in a row, if there is one
abbrev pub numbers_in : Option (BTreeSet ℕ) → List ℕ
numbers_in row = unwrap_or (option_map (λ entries. entries.keys) row) []

waiting_for-seen : (uri : HashValue) (rows : Rows) → waiting_for uri (seen rows) ≡ numbers_in (lookup (same_hash uri) rows)
waiting_for-seen uri rows =
    ap (λ found. unwrap_or found []) (lookup-map_values (λ (entries : BTreeSet ℕ). entries.keys) (same_hash uri) rows)

-- a URI's numbers are in the row that its text finds
pub numbers-found : (uri : HashValue) (rows : Rows) → IsRead uri → AreRows rows
    → waiting_for uri (seen rows) ≡ numbers_in (lookup (is_at (text_cmp uri)) rows)
numbers-found uri rows read are = waiting_for-seen uri rows ∙ ap numbers_in (sym (found_by_text uri rows read are))

tied : (n m : ℕ) → is_eq (nat_cmp n m) ≡ eqb m n
tied n m = unsigned_tied n m ∙ nat_eq_equiv.symm n m

-- a number is among a set's as among their list
among : (n : ℕ) (numbers : List ℕ) → list_any (is_at (nat_cmp n)) numbers ≡ list_any (λ m. eqb m n) numbers
among n numbers = λ i. list_any (λ m. tied n m i) numbers

numbers-cond : (here : Bool) (n : ℕ) (row found : Option (BTreeSet ℕ))
    → list_any (λ m. eqb m n) (numbers_in (cond here row found))
    ≡ cond here (list_any (λ m. eqb m n) (numbers_in row)) (list_any (λ m. eqb m n) (numbers_in found))
numbers-cond true n row found = refl
numbers-cond false n row found = refl

-- whether this number is there is set to `waits`, and all others stay
abbrev SetsNumber : ℕ → Bool → List ℕ → List ℕ → Type 0
SetsNumber n waits old new = (m : ℕ) → list_any (λ k. eqb k m) new ≡ cond (eqb m n) waits (list_any (λ k. eqb k m) old)

set_by : (here this waits was now : Bool) → (here ≡ true → now ≡ cond this waits was) → cond here now was ≡ cond (here && this) waits was
set_by true this waits was now changes = changes refl
set_by false this waits was now changes = refl

-- for one role, its missing file
or_none : (a : Bool) → ((a || false) || false) ≡ a
or_none true = refl
or_none false = refl

one_role : (uri other : HashValue) → one_misses other (Missing uri ∷ []) ≡ same_hash uri other
one_role uri other = or_none (same_hash other uri) ∙ same_hash-equivalence.symm other uri

-- how a change of the row of a URI changes who waits
sets-row : (uri : HashValue) (n : ℕ) (waits : Bool) (row : Option (BTreeSet ℕ)) (old new : Rows)
    → ((other : HashValue) → lookup (same_hash other) new ≡ cond (same_hash uri other) row (lookup (same_hash other) old))
    → SetsNumber n waits (numbers_in (lookup (same_hash uri) old)) (numbers_in row)
    → SetsMissed (Missing uri ∷ []) n waits (seen old) (seen new)
sets-row uri n waits row old new updates changes = record {
  each = λ other m.
      let now : Bool = list_any (λ k. eqb k m) (numbers_in row) in
      let found : is_waiting other m (seen new) ≡ cond (same_hash uri other) now (is_waiting other m (seen old)) =
      ap (λ numbers. list_any (λ k. eqb k m) numbers) (waiting_for-seen other new)
      ∙ ap (λ row. list_any (λ k. eqb k m) (numbers_in row)) (updates other)
      ∙ numbers-cond (same_hash uri other) m row (lookup (same_hash other) old)
      ∙ ap (λ numbers. cond (same_hash uri other) now (list_any (λ k. eqb k m) numbers)) (sym (waiting_for-seen other old)) in
      let change : same_hash uri other ≡ true → now ≡ cond (eqb m n) waits (is_waiting other m (seen old)) =
      λ same.
      changes m
      ∙ ap (λ numbers. cond (eqb m n) waits (list_any (λ k. eqb k m) numbers)) (sym (waiting_for-seen uri old))
      ∙ ap (λ hash. cond (eqb m n) waits (is_waiting hash m (seen old))) (same_hash-is uri other same) in
      found ∙ set_by (same_hash uri other) (eqb m n) waits (is_waiting other m (seen old)) now change
      ∙ ap (λ here. cond (here && eqb m n) waits (is_waiting other m (seen old))) (sym (one_role uri other));
}

-- The row of a URI was taken out, with these numbers in it.
pub record IsTaken (uri : HashValue) (old mid : Rows) (entries : BTreeSet ℕ) : Type 0 where
  pub read : IsRead uri
  pub before : AreRows old
  pub after : AreRows mid
  pub updates : IsUpdated uri None old mid
  pub numbers : entries.keys ≡ numbers_in (lookup (is_at (text_cmp uri)) old)

-- Whether this number is among them was set to this.
abbrev IsChanged : ℕ → Bool → BTreeSet ℕ → BTreeSet ℕ → Type 0
IsChanged n waits entries changed = (m : ℕ) → contains nat_cmp changed m ≡ cond (is_at (nat_cmp n) m) waits (contains nat_cmp entries m)

pub numbers-taken : (found : Option (BTreeSet ℕ)) (none : BTreeSet ℕ) → none.keys ≡ [] → (unwrap_or found none).keys ≡ numbers_in found
numbers-taken None none empty = empty
numbers-taken (Some entries) none empty = refl

module _ {uri : HashValue} {old mid : Rows} {entries : BTreeSet ℕ} (taken : IsTaken uri old mid entries) where
  -- the change of its row, as a change under the URI
  row_updated : (row : Option (BTreeSet ℕ)) (new : Rows) → AreRows new → IsUpdated uri row old new
      → (other : HashValue)
      → lookup (same_hash other) new ≡ cond (same_hash uri other) row (lookup (same_hash other) old)
  row_updated row new after updates other =
      ⊎_elim
      (λ is.
      sym (found_by_text other new is after) ∙ updates other
      ∙ (λ i. cond (at-same uri other taken.read is i) row (found_by_text other old is taken.before i)))
      (λ not.
      let apart : same_hash uri other ≡ false = same_hash-equivalence.symm uri other ∙ unread-apart other uri not taken.read in
      none_unread other new not after ∙ sym (λ i. cond (apart i) row (none_unread other old not taken.before i)))
      (read_or_not other)

  module _ (n : ℕ) (waits : Bool) (changed : BTreeSet ℕ) (changes : IsChanged n waits entries changed) where
    sets_number : SetsNumber n waits (numbers_in (lookup (same_hash uri) old)) changed.keys
    sets_number m =
        sym (among m changed.keys) ∙ changes m ∙ (λ i. cond (tied n m i) waits (among m entries.keys i))
        ∙ ap (λ numbers. cond (eqb m n) waits (list_any (λ k. eqb k m) numbers))
        (taken.numbers ∙ ap numbers_in (found_by_text uri old taken.read taken.before))

    -- if no number remains
    pub sets-gone : changed.keys ≡ [] → SetsMissed (Missing uri ∷ []) n waits (seen old) (seen mid)
    sets-gone none =
        sets-row uri n waits None old mid (row_updated None mid taken.after taken.updates)
        (subst (λ numbers. SetsNumber n waits (numbers_in (lookup (same_hash uri) old)) numbers) none sets_number)

    -- and if the remaining ones are put back
    pub sets-back : (new : Rows) → AreRows new → IsUpdated uri (Some changed) mid new
        → SetsMissed (Missing uri ∷ []) n waits (seen old) (seen new)
    sets-back new are puts =
        sets-row uri n waits (Some changed) old new
        (row_updated (Some changed) new are (updated-twice uri (Some changed) None old mid new taken.updates puts)) sets_number

-- a set that isn't empty has a number
pub some_left : (numbers : List ℕ) (empty : Bool) → empty ≡ false → (length numbers ≡ 0 → empty ≡ true) → 1 ≤ length numbers
some_left [] empty not is = absurd (true≢false (sym (is refl) ∙ not))
some_left (n ∷ numbers) empty not is = omega arith

-- ---- URIs for whose files entries wait

-- the empty list ascends
pub ascends-none : {K : Type 0} (cmp : K → K → Ordering) → IsStrictlySortedBy cmp []
unfolding IsStrictlySortedBy
ascends-none cmp = tt

waited_by : (same : Bool) (uri : HashValue) (row : HashValue × BTreeSet ℕ) (rows : Rows) → same_hash uri row.0 ≡ same
    → 1 ≤ length row.1.keys → (list_any (same_hash uri) (keys_of rows) ≡ true → IsWaitedFor uri (seen rows))
    → (same || list_any (same_hash uri) (keys_of rows)) ≡ true
    → (n : ℕ) × (list_any (λ m. eqb m n) (unwrap_or (cond same (Some row.1.keys) (lookup (same_hash uri) (seen rows))) []) ≡ true)
waited_by true uri row rows e some rest any = first_number row.1.keys some
  where
    first_number : (numbers : List ℕ) → 1 ≤ length numbers → (n : ℕ) × (list_any (λ m. eqb m n) numbers ≡ true)
    first_number [] some = absurd (omega (arith, some))
    first_number (n ∷ numbers) some = (n, ap (λ same. same || list_any (λ m. eqb m n) numbers) (eq-eqb n n refl))
waited_by false uri row rows e some rest any = rest any

-- some entry waits for the file of each URI that has a row
pub waited : (uri : HashValue) (rows : Rows) → AreRows rows → list_any (same_hash uri) (keys_of rows) ≡ true
    → IsWaitedFor uri (seen rows)
waited uri [] are any = absurd (true≢false (sym any))
waited uri (row ∷ rows) are any =
    let found = waited_by (same_hash uri row.0) uri row rows refl are.0.some (waited uri rows are.1) any in
    (found.0, found.1)

-- and each URI for whose file an entry waits has a row
has_row : (uri : HashValue) (n : ℕ) (rows : Rows) → is_waiting uri n (seen rows) ≡ true → list_any (same_hash uri) (keys_of rows) ≡ true
has_row uri n [] any = absurd (true≢false (sym any))
has_row uri n (row ∷ rows) any =
    elim (same_hash uri row.0) as (λ same. list_any (λ m. eqb m n) (unwrap_or (cond same (Some row.1.keys) (lookup (same_hash uri) (seen rows))) []) ≡ true
    → (same || list_any (same_hash uri) (keys_of rows)) ≡ true) [
      | true ↦ λ any. refl
      | false ↦ λ any. has_row uri n rows any
    ] any

pub all_waited : (uri : HashValue) (rows : Rows) → IsWaitedFor uri (seen rows) → list_any (same_hash uri) (keys_of rows) ≡ true
all_waited uri rows waits = has_row uri waits.0 rows waits.1

-- so there is a row with its text if and only if an entry waits,
pub row-waited : (uri : HashValue) (rows : Rows) (found : Bool) → IsRead uri → AreRows rows → found ≡ is_some (lookup (is_at (text_cmp uri)) rows)
    → (found ≡ true) ↔ IsWaitedFor uri (seen rows)
row-waited uri rows found read are looked =
    let same : found ≡ list_any (same_hash uri) (keys_of rows) =
    looked ∙ ap is_some (found_by_text uri rows read are) ∙ is_some-lookup (same_hash uri) rows in
    ((λ there. waited uri rows are (sym same ∙ there)), (λ waits. same ∙ all_waited uri rows waits))

-- and each such URI is read from its text
read_row : (uri : HashValue) (rows : Rows) → AreRows rows → list_any (same_hash uri) (keys_of rows) ≡ true → IsRead uri
read_row uri [] are any = absurd (true≢false (sym any))
read_row uri (row ∷ rows) are any =
    ⊎_elim (λ here. subst IsRead (sym (same_hash-is uri row.0 here)) are.0.read) (λ there. read_row uri rows are.1 there)
    (or_cases (same_hash uri row.0) (list_any (same_hash uri) (keys_of rows)) any)

pub rows-read : (rows : Rows) → AreRows rows → AreRead (seen rows)
rows-read rows are uri waits = read_row uri rows are (all_waited uri rows waits)

-- Ascending lists, and which of them `ascending_once` is.
--     ascending_once-is        an ascending list with the same hashes is it
--     ascending_once-has       its hashes
use Rattle.std.proofs.Common.{◌≡◌, ◌∙◌, Bool, true, false, List, [], ◌∷◌, Ordering, Less, Equal, Greater, is_eq, ⊎_elim, refl, sym, ap, subst, ℕ, ◌<◌, ◌≤◌, ◌↔◌, ◌||◌, length, map, get_or, slice_get, Some, option_map, arith}
use Rattle.std.proofs.lemmas.Bool.{or_left, or_right, or_cases, true≢false, cases_lt, false≢true}
use Rattle.std.proofs.lemmas.List.{get_or-map, get_or_past, length-map}
use Rattle.std.proofs.lemmas.List.Folds.{Any-from_list_any, list_any-append, list_any_at}
use Rattle.std.proofs.lemmas.Map.Lookups.{exact_bytes}
use Rattle.std.proofs.lemmas.Option.{get_or_from_slice_get, slice_get-get_or, slice_get-map, slice_get_within}
use Rattle.std.specs.BTreeMap.{is_at}
use Rattle.std.specs.BTreeSet.{insert_key}
use Rattle.std.specs.Cmp.{Equal-is, IsTotalOrder, both_ways, tied_back, tied_itself}
use Rattle.std.specs.List.{AllByRecursion, fold, list_any, flat_map}
use Rattle.std.specs.List.Sorted.{IsStrictlySortedBy}
use Rattle.std.specs.Ordering.{is_lt, match_ordering, ordering_reverse}
use Rattle.st_base.proofs.ListLemmas.{each-weaker, each-both}
use Rattle.st_hash.proofs.HashLemmas.{same_hash-is, same_hash-itself}
use Rattle.st_hash.specs.Hash.{HashValue, hash_text, same_hash}
use Rattle.st_ledger.specs.declared.ledger.Entry.{Entry}
use Rattle.st_anchor.specs.States.{role_states}
use Rattle.st_observer.proofs.OperationsLemmas.{needs_none}
use Rattle.st_observer.proofs.GoingLemmas.{bound-is, kept-length}
use Rattle.st_observer.proofs.WaitingLemmas.{ascends-none, text-same}
use Rattle.st_observer.specs.Work.{IsKept, unknown}
use Rattle.st_observer.specs.Observed.{Observed, role_states_on, is_waiting, ascending_once, text_cmp, IsMissed, is_wanted, missed_files, missed_in, one_misses, wanted}
use Rattle.st_observer.specs.declared.kept.Kept.{Kept}
use Rattle.st_observer.specs.inside.Steps.{no_needs}
use Rattle.st_observer.specs.inside.Waiting.{text_cmp-total, AreRead, IsWaitedFor}

-- ---- keys that are inserted one by one

module _ {K : Type 0} (cmp : K → K → Ordering) where
  each-put : (P : K → Type 0) (keys : List K) (key : K) → AllByRecursion P keys → P key → AllByRecursion P (insert_key cmp keys key)
  each-put P [] key all one = (one, tt)
  each-put P (first ∷ keys) key all one = each_by (cmp key first) (insert_key cmp keys key) (each-put P keys key all.1 one)
    where
      each_by : (order : Ordering) (after : List K) → AllByRecursion P after
          → AllByRecursion P (match_ordering order (key ∷ first ∷ keys) (first ∷ keys) (first ∷ after))
      each_by Less after later = (one, all)
      each_by Equal after later = all
      each_by Greater after later = (all.0, later)

  -- a property of each key that is there and of each that is inserted is one of all
  each-once : (P : K → Type 0) (keys more : List K) → AllByRecursion P keys → AllByRecursion P more
      → AllByRecursion P (fold (insert_key cmp) keys more)
  each-once P keys [] all new = all
  each-once P keys (key ∷ more) all new = each-once P (insert_key cmp keys key) more (each-put P keys key all new.0) new.1

  any_by : (test : K → Bool) (order : Ordering) (key first : K) (keys after : List K) → list_any test (first ∷ keys) ≡ true
      → (list_any test keys ≡ true → list_any test after ≡ true)
      → list_any test (match_ordering order (key ∷ first ∷ keys) (first ∷ keys) (first ∷ after)) ≡ true
  any_by test Less key first keys after any later = or_right (test key) (list_any test (first ∷ keys)) any
  any_by test Equal key first keys after any later = any
  any_by test Greater key first keys after any later =
      ⊎_elim (λ here. or_left (test first) (list_any test after) here)
      (λ there. or_right (test first) (list_any test after) (later there)) (or_cases (test first) (list_any test keys) any)

  -- a key that is there stays
  any-put : (test : K → Bool) (keys : List K) (key : K) → list_any test keys ≡ true → list_any test (insert_key cmp keys key) ≡ true
  any-put test [] key any = absurd (true≢false (sym any))
  any-put test (first ∷ keys) key any =
      any_by test (cmp key first) key first keys (insert_key cmp keys key) any (any-put test keys key)

  any-once : (test : K → Bool) (keys more : List K) → list_any test keys ≡ true → list_any test (fold (insert_key cmp) keys more) ≡ true
  any-once test keys [] any = any
  any-once test keys (key ∷ more) any = any-once test (insert_key cmp keys key) more (any-put test keys key any)

module _ {K : Type 0} {cmp : K → K → Ordering} (order : IsTotalOrder cmp) where
  -- a key that is inserted is found
  found_by : (key first : K) (keys after : List K) (rank : Ordering) → cmp key first ≡ rank → list_any (is_at (cmp key)) after ≡ true
      → list_any (is_at (cmp key)) (match_ordering rank (key ∷ first ∷ keys) (first ∷ keys) (first ∷ after)) ≡ true
  found_by key first keys after Less is later =
      or_left (is_at (cmp key) key) (list_any (is_at (cmp key)) (first ∷ keys)) (ap is_eq (tied_itself order key))
  found_by key first keys after Equal is later = or_left (is_at (cmp key) first) (list_any (is_at (cmp key)) keys) (ap is_eq is)
  found_by key first keys after Greater is later = or_right (is_at (cmp key) first) (list_any (is_at (cmp key)) after) later

  found-put : (keys : List K) (key : K) → list_any (is_at (cmp key)) (insert_key cmp keys key) ≡ true
  found-put [] key = or_left (is_at (cmp key) key) false (ap is_eq (tied_itself order key))
  found-put (first ∷ keys) key = found_by key first keys (insert_key cmp keys key) (cmp key first) refl (found-put keys key)

  each_found : (keys more : List K) → AllByRecursion (λ key. list_any (is_at (cmp key)) (fold (insert_key cmp) keys more) ≡ true) more
  each_found keys [] = tt
  each_found keys (key ∷ more) =
      (any-once cmp (is_at (cmp key)) (insert_key cmp keys key) more (found-put keys key), each_found (insert_key cmp keys key) more)

  -- they ascend
  sorted_by : (key first : K) (keys after : List K) (rank : Ordering) → cmp key first ≡ rank
      → IsStrictlySortedBy cmp (first ∷ keys)
      → (cmp first key ≡ Less → IsStrictlySortedBy cmp (first ∷ after))
      → IsStrictlySortedBy cmp (match_ordering rank (key ∷ first ∷ keys) (first ∷ keys) (first ∷ after))
  unfolding IsStrictlySortedBy
  sorted_by key first keys after Less is sorted later = (
    (
      is,
      each-weaker (λ later. cmp first later ≡ Less) (λ later. cmp key later ≡ Less)
          (λ later less. order.trans key first later is less) keys sorted.0,
    ),
    sorted,
  )
  sorted_by key first keys after Equal is sorted later = sorted
  sorted_by key first keys after Greater is sorted later = later (order.antisymm first key ∙ ap ordering_reverse is)

  sorted-put : (keys : List K) (key : K) → IsStrictlySortedBy cmp keys → IsStrictlySortedBy cmp (insert_key cmp keys key)
  unfolding IsStrictlySortedBy
  sorted-put [] key sorted = (tt, tt)
  sorted-put (first ∷ keys) key sorted =
      sorted_by key first keys (insert_key cmp keys key) (cmp key first) refl sorted
      (λ less. (each-put cmp (λ later. cmp first later ≡ Less) keys key sorted.0 less, sorted-put keys key sorted.1))

  sorted-once : (keys more : List K) → IsStrictlySortedBy cmp keys → IsStrictlySortedBy cmp (fold (insert_key cmp) keys more)
  sorted-once keys [] sorted = sorted
  sorted-once keys (key ∷ more) sorted = sorted-once (insert_key cmp keys key) more (sorted-put keys key sorted)

-- ---- lists with the same keys

module _ {K : Type 0} {same : K → K → Bool} (is : (first second : K) → same first second ≡ true → first ≡ second)
    (itself : (key : K) → same key key ≡ true) where
  each_among : (keys : List K) → AllByRecursion (λ key. list_any (same key) keys ≡ true) keys
  each_among [] = tt
  each_among (first ∷ keys) = (
    or_left (same first first) (list_any (same first) keys) (itself first),
    each-weaker (λ key. list_any (same key) keys ≡ true) (λ key. list_any (same key) (first ∷ keys) ≡ true)
        (λ key there. or_right (same key first) (list_any (same key) keys) there) keys (each_among keys),
  )

  -- a property of each holds for one that is among them
  at_among : (P : K → Type 0) (key : K) (keys : List K) → AllByRecursion P keys → list_any (same key) keys ≡ true → P key
  at_among P key [] all any = absurd (true≢false (sym any))
  at_among P key (first ∷ keys) all any =
      ⊎_elim (λ here. subst P (sym (is key first here)) all.0) (λ there. at_among P key keys all.1 there)
      (or_cases (same key first) (list_any (same key) keys) any)

  -- one that passes a test is among them
  passing : (test : K → Bool) (keys : List K) → list_any test keys ≡ true → (key : K) × (test key ≡ true) × (list_any (same key) keys ≡ true)
  passing test [] any = absurd (true≢false (sym any))
  passing test (first ∷ keys) any =
      ⊎_elim (λ here. (first, here, or_left (same first first) (list_any (same first) keys) (itself first)))
      (λ there.
      let rest = passing test keys there in
      (rest.0, rest.1, or_right (same rest.0 first) (list_any (same rest.0) keys) rest.2))
      (or_cases (test first) (list_any test keys) any)

  module _ {cmp : K → K → Ordering} (order : IsTotalOrder cmp) where
    not_less : (first second : K) → cmp first second ≡ Less → cmp first second ≡ Equal → ⊥
    not_less first second less equal = true≢false (ap is_lt (sym less ∙ equal))

    -- keys of an ascending list that tie in the order are the same
    tied-same : (first second : K) (keys : List K) → IsStrictlySortedBy cmp keys → list_any (same first) keys ≡ true
        → list_any (same second) keys ≡ true → cmp first second ≡ Equal → first ≡ second
    unfolding IsStrictlySortedBy
    tied-same first second [] sorted one two equal = absurd (true≢false (sym one))
    tied-same first second (key ∷ keys) sorted one two equal =
        let below : (later : K) → list_any (same later) keys ≡ true → cmp key later ≡ Less =
        λ later there. at_among (λ later. cmp key later ≡ Less) later keys sorted.0 there in
        ⊎_elim
        (λ here. ⊎_elim
        (λ also. is first key here ∙ sym (is second key also))
        (λ there. absurd (not_less key second (below second there) (subst (λ k. cmp k second ≡ Equal) (is first key here) equal)))
        (or_cases (same second key) (list_any (same second) keys) two))
        (λ there. ⊎_elim
        (λ here. absurd (not_less key first (below first there) (subst (λ k. cmp k first ≡ Equal) (is second key here) (tied_back order first second equal))))
        (λ also. tied-same first second keys sorted.1 there also equal)
        (or_cases (same second key) (list_any (same second) keys) two))
        (or_cases (same first key) (list_any (same first) keys) one)

    -- ascending lists with the same keys are the same
    among_rest : (first : K) (keys others : List K) → AllByRecursion (λ later. cmp first later ≡ Less) keys
        → AllByRecursion (λ key. list_any (same key) (first ∷ others) ≡ true) keys
        → AllByRecursion (λ key. list_any (same key) others ≡ true) keys
    among_rest first keys others above all =
        each-both (λ later. cmp first later ≡ Less) (λ key. list_any (same key) (first ∷ others) ≡ true) (λ key. list_any (same key) others ≡ true)
        (λ key less any. ⊎_elim
        (λ here. absurd (not_less first key less (subst (λ k. cmp first k ≡ Equal) (sym (is key first here)) (tied_itself order first))))
        (λ there. there) (or_cases (same key first) (list_any (same key) others) any))
        keys above all

    same_head : (first second : K) (keys others : List K) → AllByRecursion (λ later. cmp first later ≡ Less) keys
        → AllByRecursion (λ later. cmp second later ≡ Less) others → list_any (same first) (second ∷ others) ≡ true
        → list_any (same second) (first ∷ keys) ≡ true → first ≡ second
    same_head first second keys others one two here there =
        ⊎_elim (λ e. is first second e)
        (λ later. ⊎_elim (λ e. sym (is second first e))
        (λ earlier.
        let less : cmp second first ≡ Less = at_among (λ later. cmp second later ≡ Less) first others two later in
        let more : cmp first second ≡ Less = at_among (λ later. cmp first later ≡ Less) second keys one earlier in
        absurd (not_less first first (order.trans first second first more less) (tied_itself order first)))
        (or_cases (same second first) (list_any (same second) keys) there))
        (or_cases (same first second) (list_any (same first) others) here)

    same_keys : (keys others : List K) → IsStrictlySortedBy cmp keys → IsStrictlySortedBy cmp others
        → AllByRecursion (λ key. list_any (same key) others ≡ true) keys → AllByRecursion (λ key. list_any (same key) keys ≡ true) others
        → keys ≡ others
    unfolding IsStrictlySortedBy
    same_keys [] [] one two there back = refl
    same_keys [] (second ∷ others) one two there back = absurd (true≢false (sym back.0))
    same_keys (first ∷ keys) [] one two there back = absurd (true≢false (sym there.0))
    same_keys (first ∷ keys) (second ∷ others) one two there back =
        let head : first ≡ second = same_head first second keys others one.0 two.0 there.0 back.0 in
        let forth : AllByRecursion (λ key. list_any (same key) others ≡ true) keys =
        among_rest first keys others one.0 (subst (λ k. AllByRecursion (λ key. list_any (same key) (k ∷ others) ≡ true) keys) (sym head) there.1) in
        let home : AllByRecursion (λ key. list_any (same key) keys ≡ true) others =
        among_rest second others keys two.0 (subst (λ k. AllByRecursion (λ key. list_any (same key) (k ∷ keys) ≡ true) others) head back.1) in
        λ i. head i ∷ same_keys keys others one.1 two.1 forth home i

    -- each inserted key is in the list it was inserted from
    once-among : (more : List K) → AllByRecursion (λ key. list_any (same key) more ≡ true) (fold (insert_key cmp) [] more)
    once-among more = each-once cmp (λ key. list_any (same key) more ≡ true) [] more tt (each_among more)

    -- and conversely, if the order distinguishes the inserted keys
    pub once-has : (more : List K) (tells : (first second : K) → list_any (same first) more ≡ true → list_any (same second) more ≡ true
        → cmp first second ≡ Equal → first ≡ second) (key : K) → list_any (same key) more ≡ true
        → list_any (same key) (fold (insert_key cmp) [] more) ≡ true
    once-has more tells key there =
        let keys : List K = fold (insert_key cmp) [] more in
        let found = passing (is_at (cmp key)) keys
        (at_among (λ key. list_any (is_at (cmp key)) keys ≡ true) key more (each_found order [] more) there) in
        let among : list_any (same found.0) more ≡ true =
        at_among (λ key. list_any (same key) more ≡ true) found.0 keys (once-among more) found.2 in
        let one : key ≡ found.0 = tells key found.0 there among ((Equal-is (cmp key found.0)).0 found.1) in
        subst (λ k. list_any (same k) keys ≡ true) (sym one) found.2

    -- so a list that ascends and has the same keys is the result of inserting them one by one
    once-is : (found more : List K) → IsStrictlySortedBy cmp found
        → ((key : K) → list_any (same key) found ≡ list_any (same key) more) → found ≡ fold (insert_key cmp) [] more
    once-is found more sorted alike =
        let keys : List K = fold (insert_key cmp) [] more in
        let tells : (first second : K) → list_any (same first) more ≡ true → list_any (same second) more ≡ true → cmp first second ≡ Equal → first ≡ second =
        λ first second one two equal. tied-same first second found sorted (alike first ∙ one) (alike second ∙ two) equal in
        same_keys found keys sorted (sorted-once order [] more (ascends-none cmp))
        (each-weaker (λ key. list_any (same key) found ≡ true) (λ key. list_any (same key) keys ≡ true)
        (λ key there. once-has more tells key (sym (alike key) ∙ there)) found (each_among found))
        (each-weaker (λ key. list_any (same key) more ≡ true) (λ key. list_any (same key) found ≡ true)
        (λ key there. alike key ∙ there) keys (once-among more))

-- ---- the wanted files

-- a list that ascends strictly by the texts and has the same hashes is it
pub ascending_once-is : (found uris : List HashValue) → IsStrictlySortedBy text_cmp found
    → ((uri : HashValue) → list_any (same_hash uri) found ≡ list_any (same_hash uri) uris) → found ≡ ascending_once uris
ascending_once-is found uris sorted alike = once-is same_hash-is same_hash-itself text_cmp-total found uris sorted alike

-- it has each of these and no other, if their texts distinguish them
pub ascending_once-has : (uris : List HashValue)
    → ((first second : HashValue) → list_any (same_hash first) uris ≡ true → list_any (same_hash second) uris ≡ true
    → hash_text first ≡ hash_text second → first ≡ second)
    → (uri : HashValue) → list_any (same_hash uri) (ascending_once uris) ≡ list_any (same_hash uri) uris
ascending_once-has uris tells uri =
    both_ways (list_any (same_hash uri) (ascending_once uris)) (list_any (same_hash uri) uris)
    (λ there. at_among same_hash-is same_hash-itself (λ key. list_any (same_hash key) uris ≡ true) uri (ascending_once uris)
    (once-among same_hash-is same_hash-itself text_cmp-total uris) there)
    (λ there. once-has same_hash-is same_hash-itself text_cmp-total uris
    (λ first second one two equal. tells first second one two (exact_bytes (hash_text first) (hash_text second) equal)) uri there)

-- ---- A file is missing if and only if some entry waits for it.
--     asked-missed      the missing files are those that entries wait for
--     asked-by          and those in the reports of entries
--     asked-wanted, asked-wants     all wanted files, and whether one is

-- one of the items in a list of lists
any-flat : {X Y : Type 0} (test : Y → Bool) (part : X → List Y) (xs : List X) → list_any test (flat_map part xs) ≡ list_any (λ x. list_any test (part x)) xs
any-flat test part [] = refl
any-flat test part (x ∷ xs) =
    list_any-append test (part x) (flat_map part xs) ∙ ap (λ rest. list_any test (part x) || rest) (any-flat test part xs)

any-alike : {X : Type 0} (test other : X → Bool) → ((x : X) → test x ≡ other x) → (xs : List X) → list_any test xs ≡ list_any other xs
any-alike test other alike [] = refl
any-alike test other alike (x ∷ xs) = ap (λ here. here || list_any test xs) (alike x) ∙ ap (λ rest. other x || rest) (any-alike test other alike xs)

-- it is missing for some role of the entry
abbrev pub asks : HashValue → Observed → Entry → Bool
asks uri observed entry = one_misses uri (role_states_on observed.schedule observed.files entry)

-- a file is missing if it is missing for some role of some entry
missed-asked : (uri : HashValue) (observed : Observed) → list_any (same_hash uri) (missed_files observed) ≡ list_any (asks uri observed) observed.ledger
missed-asked uri observed =
    any-flat (same_hash uri) (λ entry. flat_map missed_in (role_states_on observed.schedule observed.files entry)) observed.ledger
    ∙ any-alike (λ entry. list_any (same_hash uri) (flat_map missed_in (role_states_on observed.schedule observed.files entry))) (asks uri observed)
    (λ entry. any-flat (same_hash uri) missed_in (role_states_on observed.schedule observed.files entry)) observed.ledger

-- whether the entry with this number waits
pub waits-asked : (uri : HashValue) (observed : Observed) (kept : Kept) (n : ℕ) (d : Entry) → IsKept observed kept → n < length observed.ledger
    → is_waiting uri n kept.waiting ≡ asks uri observed (get_or observed.ledger n d)
waits-asked uri observed kept n d is inside =
    is.waits.each uri n
    ∙ ap (λ bound. one_misses uri (role_states bound)) (bound-is observed kept n d is (omega (arith, inside, kept-length observed kept is)))

waits-past : (uri : HashValue) (observed : Observed) (kept : Kept) (n : ℕ) → IsKept observed kept → length observed.ledger ≤ n
    → is_waiting uri n kept.waiting ≡ false
waits-past uri observed kept n is past =
    is.waits.each uri n
    ∙ ap (λ bound. one_misses uri (role_states bound)) (get_or_past kept.bounds.items n unknown (omega (arith, past, kept-length observed kept is)))
    ∙ ap (one_misses uri) needs_none

waited-asked : (uri : HashValue) (observed : Observed) (kept : Kept) → IsKept observed kept → IsWaitedFor uri kept.waiting
    → list_any (asks uri observed) observed.ledger ≡ true
waited-asked uri observed kept is waited =
    let d : Entry = record { height = 0; text = [] } in
    ⊎_elim
    (λ (inside : waited.0 < length observed.ledger).
    list_any_at (asks uri observed) observed.ledger waited.0 d inside (sym (waits-asked uri observed kept waited.0 d is inside) ∙ waited.1))
    (λ (past : length observed.ledger ≤ waited.0). absurd (false≢true (sym (waits-past uri observed kept waited.0 is past) ∙ waited.1)))
    (cases_lt waited.0 (length observed.ledger))

asked-waited : (uri : HashValue) (observed : Observed) (kept : Kept) → IsKept observed kept → list_any (asks uri observed) observed.ledger ≡ true
    → IsWaitedFor uri kept.waiting
asked-waited uri observed kept is asked =
    let found = Any-from_list_any (asks uri observed) observed.ledger asked in
    (found.0, waits-asked uri observed kept found.0 found.1 is found.2 ∙ ap (asks uri observed) found.3 ∙ found.4)

-- The files that entries wait for are the missing ones.
pub asked-missed : (observed : Observed) (kept : Kept) (uris : List HashValue) → IsKept observed kept
    → ((uri : HashValue) → list_any (same_hash uri) uris ≡ true → IsWaitedFor uri kept.waiting)
    → ((uri : HashValue) → IsWaitedFor uri kept.waiting → list_any (same_hash uri) uris ≡ true)
    → (uri : HashValue) → list_any (same_hash uri) uris ≡ list_any (same_hash uri) (missed_files observed)
asked-missed observed kept uris is waited all uri =
    both_ways (list_any (same_hash uri) uris) (list_any (asks uri observed) observed.ledger)
    (λ there. waited-asked uri observed kept is (waited uri there))
    (λ asked. all uri (asked-waited uri observed kept is asked))
    ∙ sym (missed-asked uri observed)

-- by the reports of entries
asked-said : (uri : HashValue) (observed : Observed) → list_any (asks uri observed) observed.ledger ≡ true → IsMissed uri observed
asked-said uri observed asked =
    let found = Any-from_list_any (asks uri observed) observed.ledger asked in
    record {
      number = found.0;
      states = role_states_on observed.schedule observed.files found.1;
      there = ap (option_map (role_states_on observed.schedule observed.files))
          (slice_get-get_or observed.ledger found.0 found.1 found.2 ∙ ap (λ entry. Some entry) found.3);
      missed = found.4;
    }

said-asked : (uri : HashValue) (observed : Observed) → IsMissed uri observed → list_any (asks uri observed) observed.ledger ≡ true
said-asked uri observed missed =
    let d : Entry = record { height = 0; text = [] } in
    let mapped : slice_get (map (role_states_on observed.schedule observed.files) observed.ledger) missed.number ≡ Some missed.states =
    slice_get-map (role_states_on observed.schedule observed.files) observed.ledger missed.number ∙ missed.there in
    let inside : missed.number < length observed.ledger =
    omega (
      arith,
      slice_get_within (map (role_states_on observed.schedule observed.files) observed.ledger) missed.number missed.states mapped,
      length-map
          observed.ledger (role_states_on observed.schedule observed.files),
    ) in
    let at : role_states_on observed.schedule observed.files (get_or observed.ledger missed.number d) ≡ missed.states =
    sym (get_or-map (role_states_on observed.schedule observed.files) observed.ledger missed.number d no_needs inside)
    ∙ get_or_from_slice_get (map (role_states_on observed.schedule observed.files) observed.ledger) missed.number missed.states no_needs mapped in
    list_any_at (asks uri observed) observed.ledger missed.number d inside (ap (one_misses uri) at ∙ missed.missed)

pub asked-by : (observed : Observed) (uri : HashValue) (uris : List HashValue)
    → list_any (same_hash uri) uris ≡ list_any (same_hash uri) (missed_files observed)
    → (list_any (same_hash uri) uris ≡ true) ↔ IsMissed uri observed
asked-by observed uri uris same =
    let alike : list_any (same_hash uri) uris ≡ list_any (asks uri observed) observed.ledger = same ∙ missed-asked uri observed in
    ((λ there. asked-said uri observed (sym alike ∙ there)), (λ missed. alike ∙ said-asked uri observed missed))

-- So they are the wanted ones, if they ascend by their texts.
pub asked-wanted : (observed : Observed) (kept : Kept) (uris : List HashValue) → IsKept observed kept → IsStrictlySortedBy text_cmp uris
    → ((uri : HashValue) → list_any (same_hash uri) uris ≡ true → IsWaitedFor uri kept.waiting)
    → ((uri : HashValue) → IsWaitedFor uri kept.waiting → list_any (same_hash uri) uris ≡ true)
    → uris ≡ wanted observed
unfolding wanted
asked-wanted observed kept uris is sorted waited all =
    ascending_once-is uris (missed_files observed) sorted (asked-missed observed kept uris is waited all)

-- And a file is wanted if some entry waits for it.
pub asked-wants : (observed : Observed) (kept : Kept) (uri : HashValue) (found : Bool) → IsKept observed kept → AreRead kept.waiting
    → (found ≡ true) ↔ IsWaitedFor uri kept.waiting → found ≡ is_wanted uri observed
unfolding wanted
asked-wants observed kept uri found is read waits =
    let waited : (other : HashValue) → list_any (same_hash other) (missed_files observed) ≡ true → IsWaitedFor other kept.waiting =
    λ other there. asked-waited other observed kept is (sym (missed-asked other observed) ∙ there) in
    both_ways found (list_any (same_hash uri) (missed_files observed))
    (λ there. missed-asked uri observed ∙ waited-asked uri observed kept is (waits.0 there)) (λ there. waits.1 (waited uri there))
    ∙ sym (ascending_once-has (missed_files observed)
    (λ first second one two same. text-same first second (read first (waited first one)) (read second (waited second two)) same) uri)

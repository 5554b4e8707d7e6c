-- What is known about entries, by their numbers.
--     Becomes                                       something else is known about one of them
--     becomes-pushed, becomes-set, becomes-taken    an entry is appended, checked again, or removed
--     needs_none, gives-nothing, adds-nothing       an entry that does not exist
use Rattle.std.proofs.Common.{◌≡◌, ◌≢◌, ◌∙◌, inl, inr, ℕ, ◌+◌, ◌<◌, List, [], ◌∷◌, ◌++◌, length, set, take, refl, sym, arith, zero, suc, ◌≤◌, Bool, true, false, nat_lt, filter, map, get_or, Option, Some, None, is_some, option_map, ap, subst}
use Rattle.std.proofs.lemmas.Bool.{cases_lt, false≢true, le-ltb, lt-ltb}
use Rattle.std.proofs.lemmas.List.{get_or-set_other, get_or-set_same, get_or-take, get_or_append_left, get_or_past, get_or_push, length-take-le, length_push, get_or-map}
use Rattle.std.proofs.lemmas.Map.Made.{is_some-lookup}
use Rattle.std.specs.List.{cons_option}
use Rattle.st_hash.specs.Hash.{HashValue, same_hash}
use Rattle.st_ops.specs.Operation.{PlainOperation}
use Rattle.st_ledger.specs.declared.ledger.Entry.{Entry}
use Rattle.st_content.specs.Files.{Files}
use Rattle.st_anchor.proofs.GivesLemmas.{given-kept}
use Rattle.st_anchor.specs.BoundValue.{BoundValue, known_from}
use Rattle.st_anchor.specs.Gives.{given}
use Rattle.st_anchor.specs.States.{role_state, role_states}
use Rattle.st_apply.specs.Laws.{Anchored, given_from}
use Rattle.st_observer.specs.Work.{bound_at, unknown, IsKept, OperationsAgree, anchored_in, operations_from, Operations, operations_in}
use Rattle.st_observer.specs.Observed.{Observed, anchored_by, anchored_for, given_for, known_of, operations}
use Rattle.st_observer.specs.declared.kept.Kept.{Kept}
use Rattle.st_observer.specs.inside.Steps.{no_needs, PutsGiven, after_place, before_place, with_given}

-- this is known about the entry with this number, and all else stays
pub record Becomes (n : ℕ) (bound : BoundValue) (before after : List BoundValue) : Type 0 where
  pub own : bound_at n after ≡ bound
  pub others : (m : ℕ) → m ≢ n → bound_at m after ≡ bound_at m before

pub becomes-pushed : (bounds : List BoundValue) (bound : BoundValue) (n : ℕ) → n ≡ length bounds → Becomes n bound bounds (bounds ++ bound ∷ [])
becomes-pushed bounds bound n number = record {
  own = get_or_push bounds bound unknown n (sym number);
  others = λ m other. elim (cases_lt m n) [
    | inl before ↦ get_or_append_left bounds (bound ∷ []) unknown m (omega (arith, before, number))
    | inr behind ↦
        let past : n < m = omega (arith, behind, other) in
        get_or_past (bounds ++ bound ∷ []) m unknown (omega (arith, past, number, length_push bounds bound))
        ∙ sym (get_or_past bounds m unknown (omega (arith, past, number)))
  ];
}

pub becomes-set : (bounds : List BoundValue) (bound : BoundValue) (n : ℕ) → n < length bounds → Becomes n bound bounds (set bounds n bound)
becomes-set bounds bound n inside = record {
  own = get_or-set_same bounds n bound unknown inside;
  others = λ m other. get_or-set_other bounds n m bound unknown other;
}

pub becomes-taken : (bounds : List BoundValue) (n : ℕ) → n + 1 ≡ length bounds → Becomes n unknown bounds (take n bounds)
becomes-taken bounds n last = record {
  own = get_or_past (take n bounds) n unknown (omega (arith, length-take-le n bounds (omega (arith, last))));
  others = λ m other. elim (cases_lt m n) [
    | inl before ↦ get_or-take n bounds m unknown before
    | inr behind ↦
        let past : n < m = omega (arith, behind, other) in
        get_or_past (take n bounds) m unknown (omega (arith, past, length-take-le n bounds (omega (arith, last))))
        ∙ sym (get_or_past bounds m unknown (omega (arith, past, last)))
  ];
}

-- ---- an entry that does not exist

pub needs_none : role_states unknown ≡ no_needs
unfolding role_state
needs_none = refl

pub gives-nothing : given unknown ≡ []
unfolding given
gives-nothing = refl

pub adds-nothing : (files : Files) → known_from files unknown ≡ unknown
unfolding known_from
adds-nothing files = refl

-- ---- The operations that entries give for a suffix.
--     kept-operations      what is known about each entry is what the files give
--     agree-pushed, agree-settled, agree-cut    after an entry is appended or checked again, and after entries are cut

-- ---- the operation of one entry, before others

module _ (test : Anchored → Bool) (number : ℕ) (entry : Entry) where
  one-passes : (found : Option PlainOperation) (rest : List Anchored) → ((item : Anchored) → item.place ≡ number → test item ≡ true)
      → filter test (cons_option (option_map (anchored_by number entry) found) rest)
      ≡ cons_option (option_map (anchored_by number entry) found) (filter test rest)
  one-passes None rest passes = refl
  one-passes (Some operation) rest passes = rw (passes (anchored_by number entry operation) refl) refl

  one-fails : (found : Option PlainOperation) (rest : List Anchored) → ((item : Anchored) → item.place ≡ number → test item ≡ false)
      → filter test (cons_option (option_map (anchored_by number entry) found) rest) ≡ filter test rest
  one-fails None rest fails = refl
  one-fails (Some operation) rest fails = rw (fails (anchored_by number entry operation) refl) refl

module _ (n : ℕ) (entry : Entry) where
  -- it is given at this place,
  put-here : (new was : Option PlainOperation) (rest : List Anchored) → (new ≡ None → was ≡ None)
      → before_place n rest ≡ [] → after_place n rest ≡ rest
      → with_given n entry.height new (cons_option (option_map (anchored_by n entry) was) rest) ≡ cons_option (option_map (anchored_by n entry) new) rest
  put-here None was rest stays none all = ap (λ found. cons_option (option_map (anchored_by n entry) found) rest) (stays refl)
  put-here (Some operation) was rest stays none all = λ i.
      (one-fails (λ item. nat_lt item.place n) n entry was rest (λ item is. le-ltb item.place n (omega (arith, is))) ∙ none) i
      ++ anchored_by n entry operation
      ∷ (one-fails (λ item. nat_lt n item.place) n entry was rest (λ item is. le-ltb n item.place (omega (arith, is))) ∙ all) i

  -- or at a later one
  put-later : (new found : Option PlainOperation) (number : ℕ) (first : Entry) (rest : List Anchored) → number < n
      → with_given n entry.height new (cons_option (option_map (anchored_by number first) found) rest)
      ≡ cons_option (option_map (anchored_by number first) found) (with_given n entry.height new rest)
  put-later None found number first rest less = refl
  put-later (Some operation) None number first rest less = refl
  put-later (Some operation) (Some other) number first rest less = rw (lt-ltb number n less, le-ltb n number (omega (arith, less))) refl

-- ---- the operations of entries

module _ (suffix : HashValue) (bounds : List BoundValue) where
  module _ (test : Anchored → Bool) where
    -- all pass, if all from the first number on do,
    all-pass : (number : ℕ) (entries : List Entry) → ((item : Anchored) → number ≤ item.place → test item ≡ true)
        → filter test (operations_from suffix bounds number entries) ≡ operations_from suffix bounds number entries
    all-pass number [] passes = refl
    all-pass number (entry ∷ entries) passes =
        one-passes test number entry (given_for suffix (given (bound_at number bounds))) (operations_from suffix bounds (number + 1) entries)
        (λ item is. passes item (omega (arith, is)))
        ∙ ap (cons_option (anchored_in suffix bounds number entry)) (all-pass (number + 1) entries (λ item late. passes item (omega (arith, late))))

    -- and none passes, if none of these does
    none-pass : (number : ℕ) (entries : List Entry) → ((item : Anchored) → number ≤ item.place → test item ≡ false)
        → filter test (operations_from suffix bounds number entries) ≡ []
    none-pass number [] fails = refl
    none-pass number (entry ∷ entries) fails =
        one-fails test number entry (given_for suffix (given (bound_at number bounds))) (operations_from suffix bounds (number + 1) entries)
        (λ item is. fails item (omega (arith, is)))
        ∙ none-pass (number + 1) entries (λ item late. fails item (omega (arith, late)))

  -- those before a place are those of the first entries
  before-first : (count number place : ℕ) (entries : List Entry) → number + count ≡ place
      → before_place place (operations_from suffix bounds number entries) ≡ operations_from suffix bounds number (take count entries)
  before-first zero number place entries here =
      none-pass (λ item. nat_lt item.place place) number entries (λ item late. le-ltb item.place place (omega (arith, late, here)))
  before-first (suc count) number place [] here = refl
  before-first (suc count) number place (entry ∷ entries) here =
      one-passes (λ item. nat_lt item.place place) number entry (given_for suffix (given (bound_at number bounds)))
      (operations_from suffix bounds (number + 1) entries) (λ item is. lt-ltb item.place place (omega (arith, is, here)))
      ∙ ap (cons_option (anchored_in suffix bounds number entry)) (before-first count (number + 1) place entries (omega (arith, here)))

  -- one more entry that gives nothing
  nothing-more : (number place : ℕ) (entries : List Entry) (entry : Entry) → number + length entries ≡ place → anchored_in suffix bounds place entry ≡ None
      → operations_from suffix bounds number entries ≡ operations_from suffix bounds number (entries ++ entry ∷ [])
  nothing-more number place [] entry here none =
      let same : place ≡ number = omega (arith, here) in
      ap (λ found. cons_option found []) (sym (subst (λ m. anchored_in suffix bounds m entry ≡ None) same none))
  nothing-more number place (first ∷ entries) entry here none =
      ap (cons_option (anchored_in suffix bounds number first)) (nothing-more (number + 1) place entries entry (omega (arith, here)) none)

-- entries that give the same
alike : (give other : ℕ → Entry → Option Anchored) (number : ℕ) (entries : List Entry)
    → ((place at : ℕ) (entry : Entry) → number + at ≡ place → at < length entries → get_or entries at entry ≡ entry → give place entry ≡ other place entry)
    → given_from give number entries ≡ given_from other number entries
alike give other number [] same = refl
alike give other number (entry ∷ entries) same = λ i.
    cons_option (same number 0 entry (omega arith) (omega arith) refl i)
    (alike give other (number + 1) entries
    (λ place at later here inside is. same place (suc at) later (omega (arith, here)) (omega (arith, inside)) is) i)

-- the operation of an entry that gives the same
abbrev one_known : HashValue → ℕ → Entry → BoundValue → Option Anchored
one_known suffix number entry bound = option_map (anchored_by number entry) (given_for suffix (given bound))

-- Something else is known about the entry with this number, and it still gives an operation for the suffix if it gave one.
module _ (suffix : HashValue) {n : ℕ} {bound : BoundValue} {before after : List BoundValue} (becomes : Becomes n bound before after)
    (stays : given_for suffix (given bound) ≡ None → given_for suffix (given (bound_at n before)) ≡ None) where
  put-first : (entry : Entry) (entries : List Entry)
      → with_given n entry.height (given_for suffix (given bound)) (operations_from suffix before n (entry ∷ entries))
      ≡ operations_from suffix after n (entry ∷ entries)
  put-first entry entries =
      put-here n entry (given_for suffix (given bound)) (given_for suffix (given (bound_at n before))) (operations_from suffix before (n + 1) entries) stays
      (none-pass suffix before (λ item. nat_lt item.place n) (n + 1) entries (λ item late. le-ltb item.place n (omega (arith, late))))
      (all-pass suffix before (λ item. nat_lt n item.place) (n + 1) entries (λ item late. lt-ltb n item.place (omega (arith, late))))
      ∙ (λ i. cons_option (one_known suffix n entry (sym becomes.own i))
      (alike (anchored_in suffix before) (anchored_in suffix after) (n + 1) entries
      (λ place at later here inside is. ap (one_known suffix place later) (sym (becomes.others place (λ same. omega (arith, here, same))))) i))

  put-at : (count number : ℕ) (entries : List Entry) (entry : Entry) → number + count ≡ n → count < length entries → get_or entries count entry ≡ entry
      → with_given n entry.height (given_for suffix (given bound)) (operations_from suffix before number entries) ≡ operations_from suffix after number entries
  put-at count number [] entry here inside is = absurd (omega (arith, inside))
  put-at zero number (first ∷ entries) entry here inside is =
      let same : n ≡ number = omega (arith, here) in
      subst (λ m. with_given n entry.height (given_for suffix (given bound)) (operations_from suffix before m (first ∷ entries))
      ≡ operations_from suffix after m (first ∷ entries)) same
      (subst (λ (e : Entry). with_given n e.height (given_for suffix (given bound)) (operations_from suffix before n (first ∷ entries))
      ≡ operations_from suffix after n (first ∷ entries)) is (put-first first entries))
  put-at (suc count) number (first ∷ entries) entry here inside is =
      put-later n entry (given_for suffix (given bound)) (given_for suffix (given (bound_at number before))) number first
      (operations_from suffix before (number + 1) entries) (omega (arith, here))
      ∙ (λ i. cons_option (one_known suffix number first (sym (becomes.others number (λ same. omega (arith, here, same))) i))
      (put-at count (number + 1) entries entry (omega (arith, here)) (omega (arith, inside)) is i))

-- ---- the states agree with what is known

-- What is known about each entry is what the files give.
pub kept-operations : (suffix : HashValue) (observed : Observed) (kept : Kept) → IsKept observed kept
    → operations_in suffix kept.index ≡ operations suffix observed
unfolding operations
kept-operations suffix observed kept is =
    let knows : Entry → BoundValue = known_of observed.schedule observed.files in
    is.states.each suffix ∙ ap (λ bounds. operations_from suffix bounds 0 observed.ledger) is.same
    ∙ alike (anchored_in suffix (map knows observed.ledger)) (anchored_for suffix observed.schedule observed.files) 0 observed.ledger
    (λ place at entry here inside same.
    let number : place ≡ at = omega (arith, here) in
    ap (one_known suffix place entry)
    (ap (λ m. bound_at m (map knows observed.ledger)) number ∙ get_or-map knows observed.ledger at entry unknown inside ∙ ap knows same))

-- if no operation is found later, none was found before
none_or : {X : Type 0} (found later : Option X) → (is_some found ≡ true → is_some later ≡ true) → later ≡ None
    → found ≡ None
none_or None later grows none = refl
none_or (Some x) later grows none = absurd (false≢true (sym (ap is_some none) ∙ grows refl))

module _ (entry : Entry) (n : ℕ) (bound : BoundValue) (old new : Operations) (puts : PutsGiven n entry.height (given bound) old new) where
  agree-put : {before after : List BoundValue} (entries : List Entry) → Becomes n bound before after → n < length entries → get_or entries n entry ≡ entry
      → ((suffix : HashValue) → given_for suffix (given bound) ≡ None → given_for suffix (given (bound_at n before)) ≡ None)
      → OperationsAgree entries before old → OperationsAgree entries after new
  agree-put entries becomes inside is stays agree = record {
    each = λ suffix.
        puts.operations suffix ∙ ap (with_given n entry.height (given_for suffix (given bound))) (agree.each suffix)
        ∙ put-at suffix becomes (stays suffix) n 0 entries entry (omega arith) inside is;
  }

  -- an entry is appended
  pub agree-pushed : (entries : List Entry) (bounds : List BoundValue) → length bounds ≡ length entries → n ≡ length bounds → OperationsAgree entries bounds old
      → OperationsAgree (entries ++ entry ∷ []) (bounds ++ bound ∷ []) new
  agree-pushed entries bounds many number agree =
      let none : (suffix : HashValue) → given_for suffix (given (bound_at n bounds)) ≡ None =
      λ suffix. ap (given_for suffix) (ap given (get_or_past bounds n unknown (omega (arith, number))) ∙ gives-nothing) in
      agree-put (entries ++ entry ∷ []) (becomes-pushed bounds bound n number) (omega (arith, number, many, length_push entries entry))
      (get_or_push entries entry entry n (omega (arith, number, many))) (λ suffix _. none suffix)
      (record {
        each = λ suffix.
            agree.each suffix
            ∙ nothing-more suffix bounds 0 n entries entry (omega (arith, number, many)) (ap (option_map (anchored_by n entry)) (none suffix));
      })

  -- more is known about the entry over more files
  pub agree-settled : (entries : List Entry) (bounds : List BoundValue) (files : Files)
      → bound ≡ known_from files (bound_at n bounds)
      → length bounds ≡ length entries → n < length bounds → get_or entries n entry ≡ entry
      → OperationsAgree entries bounds old
      → OperationsAgree entries (set bounds n bound) new
  agree-settled entries bounds files more many inside is agree =
      agree-put entries (becomes-set bounds bound n inside) (omega (arith, inside, many)) is
      (λ suffix none. none_or (given_for suffix (given (bound_at n bounds))) (given_for suffix (given (known_from files (bound_at n bounds))))
      (λ some. is_some-lookup (same_hash suffix) (given (known_from files (bound_at n bounds)))
      ∙ given-kept files (bound_at n bounds) suffix (sym (is_some-lookup (same_hash suffix) (given (bound_at n bounds))) ∙ some))
      (ap (λ b. given_for suffix (given b)) (sym more) ∙ none))
      agree

-- only the first entries
pub agree-cut : (entries : List Entry) (bounds : List BoundValue) (n : ℕ) (old new : Operations) → n ≤ length entries → OperationsAgree entries bounds old
    → ((suffix : HashValue) → operations_in suffix new ≡ before_place n (operations_in suffix old))
    → OperationsAgree (take n entries) (take n bounds) new
agree-cut entries bounds n old new within agree before = record {
  each = λ suffix.
      before suffix ∙ ap (before_place n) (agree.each suffix) ∙ before-first suffix bounds n 0 n entries (omega arith)
      ∙ alike (anchored_in suffix bounds) (anchored_in suffix (take n bounds)) 0 (take n entries) (λ place at entry here inside is.
      ap (one_known suffix place entry) (sym (get_or-take n bounds place unknown (omega (arith, here, inside, length-take-le n entries within)))));
}

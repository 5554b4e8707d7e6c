-- The stored data while a file is received and the entries that wait for it are checked again.
--     kept-length, going-length   something is known about each entry
--     going-start      before the first of them
--     going-settled    one of them
--     going-end        after the last of them, it is the stored data with the file
use Rattle.std.proofs.Common.{◌≡◌, ◌∙◌, ◌⊎◌, ⊎_elim, inl, inr, ℕ, ◌+◌, ◌<◌, ◌≤◌, ◌==◌, Bool, true, false, List, [], ◌∷◌, length, map, drop, set, get_or, refl, sym, ap, subst, arith}
use Rattle.std.specs.List.{AllByRecursion, list_any}
use Rattle.std.proofs.lemmas.Bool.{cases_eq, cases_lt, eqb-true, or_from, or_parts, true≢false}
use Rattle.std.proofs.lemmas.List.{ext_get_or, get_or-map, get_or_past, length-map, map-set, set-get_or}
use Rattle.st_anchor.specs.Gives.{IsUnmissed}
use Rattle.st_anchor.specs.inside.Coming.{Extends}
use Rattle.st_anchor.specs.BoundValue.{BoundValue, known, known_from, known_of_text}
use Rattle.st_anchor.specs.States.{role_state, role_states}
use Rattle.st_anchor.specs.declared.part.RoleState.{RoleState}
use Rattle.st_anchor.specs.declared.part.RoleState.TheVariants.{Missing}
use Rattle.st_anchor.proofs.ComingLemmas.{known_from-unmissed, with_file-extends}
use Rattle.st_anchor.proofs.KnownLemmas.{known_from-again}
use Rattle.st_content.specs.Files.{Files, with_file}
use Rattle.st_datafiles.specs.declared.role.Role.TheVariants.{Core, CoreProof, Provisional, ProvisionalProof, Chunk}
use Rattle.st_hash.specs.Hash.{HashValue, same_hash, uri_of}
use Rattle.st_hash.proofs.HashLemmas.{same_hash-itself}
use Rattle.st_ledger.specs.declared.ledger.Entry.{Entry}
use Rattle.st_params.specs.ParamsValue.{ParamsValue}
use Rattle.st_base.proofs.ListLemmas.{next_item}
use Rattle.st_observer.specs.Work.{IsKept, OperationsAgree, WaitsAgree, bound_at, unknown}
use Rattle.st_observer.specs.Observed.{Observed, arrived, known_of, is_waiting, misses, one_misses}
use Rattle.st_observer.specs.inside.Steps.{IsGoing, IsSettled, Settles, is_among}
use Rattle.st_observer.specs.inside.Waiting.{TurnsTo}
use Rattle.st_observer.specs.declared.kept.Kept.{Kept}
use Rattle.st_observer.proofs.OperationsLemmas.{Becomes, adds-nothing, becomes-set, agree-settled}
use Rattle.st_observer.proofs.WaitingLemmas.{waits-turned}

-- ---- how many entries

pub kept-length : (observed : Observed) (kept : Kept) → IsKept observed kept → length kept.bounds.items ≡ length observed.ledger
kept-length observed kept is = ap length is.same ∙ length-map observed.ledger (known_of observed.schedule observed.files)

-- ---- roles that miss a file

unmissed_role : (uri : HashValue) (state : RoleState) → misses uri state ≡ false → state ≡ Missing uri → ⊥
unmissed_role uri state none is =
    let here : misses uri (Missing uri) ≡ false = ap (misses uri) (sym is) ∙ none in
    let other : same_hash uri uri ≡ false = (or_parts (same_hash uri uri) false here).0 in
    true≢false (sym (same_hash-itself uri) ∙ other)

none-each : (test : RoleState → Bool) (states : List RoleState) → list_any test states ≡ false → AllByRecursion (λ state. test state ≡ false) states
none-each test [] none = tt
none-each test (state ∷ states) none = let parts = or_parts (test state) (list_any test states) none in (parts.0, none-each test states parts.1)

-- a file that is missing for no role of an entry
pub unmissed : (uri : HashValue) (bound : BoundValue) → one_misses uri (role_states bound) ≡ false → IsUnmissed uri bound
unmissed uri bound none =
    let each = none-each (misses uri) (role_states bound) none in
    λ role. elim role as (λ role. role_state role bound ≡ Missing uri → ⊥) [
      | Core ↦ unmissed_role uri (role_state Core bound) each.0
      | CoreProof ↦ unmissed_role uri (role_state CoreProof bound) each.1.0
      | Provisional ↦ unmissed_role uri (role_state Provisional bound) each.1.1.0
      | ProvisionalProof ↦ unmissed_role uri (role_state ProvisionalProof bound) each.1.1.1.0
      | Chunk ↦ unmissed_role uri (role_state Chunk bound) each.1.1.1.1.0
    ]

-- ---- more files

known-later : (files later : Files) → Extends files later → (limits : ParamsValue) (text : List ℕ)
    → known_from later (known files limits text) ≡ known later limits text
unfolding known
known-later files later extends limits text = known_from-again files later extends (known_of_text limits text)

known-unmissed : (file : List ℕ) (files : Files) (limits : ParamsValue) (text : List ℕ) → IsUnmissed (uri_of file) (known files limits text)
    → known (with_file file files) limits text ≡ known files limits text
unfolding known
known-unmissed file files limits text none = known_from-unmissed file files (known_of_text limits text) none

-- a file that is missing for no role of an entry adds nothing to it
pub known_of-unmissed : (file : List ℕ) (observed : Observed) (entry : Entry)
    → one_misses (uri_of file) (role_states (known_of observed.schedule observed.files entry)) ≡ false
    → known_of observed.schedule (with_file file observed.files) entry ≡ known_of observed.schedule observed.files entry
known_of-unmissed file observed entry none =
    known-unmissed file observed.files _ entry.text (unmissed (uri_of file) (known_of observed.schedule observed.files entry) none)

known_of-later : (file : List ℕ) (observed : Observed) (entry : Entry)
    → known_from (with_file file observed.files) (known_of observed.schedule observed.files entry) ≡ known_of observed.schedule
    (with_file file observed.files) entry
known_of-later file observed entry = known-later observed.files (with_file file observed.files) (with_file-extends file observed.files) _ entry.text

all-later : (file : List ℕ) (observed : Observed) (entries : List Entry)
    → map (known_from (with_file file observed.files)) (map (known_of observed.schedule observed.files) entries)
    ≡ map (known_of observed.schedule (with_file file observed.files)) entries
all-later file observed [] = refl
all-later file observed (entry ∷ entries) =
    ap (λ first. first ∷ map (known_from (with_file file observed.files)) (map (known_of observed.schedule observed.files) entries))
    (known_of-later file observed entry)
    ∙ ap (λ rest. known_of observed.schedule (with_file file observed.files) entry ∷ rest) (all-later file observed entries)

-- ---- before the first

no_entry : Entry
no_entry = record { height = 0; text = [] }

-- what is known about the entry with this number
pub bound-is : (observed : Observed) (kept : Kept) (n : ℕ) (entry : Entry) → IsKept observed kept → n < length kept.bounds.items
    → bound_at n kept.bounds.items ≡ known_of observed.schedule observed.files (get_or observed.ledger n entry)
bound-is observed kept n entry is inside =
    ap (bound_at n) is.same
    ∙ get_or-map (known_of observed.schedule observed.files) observed.ledger n entry unknown (omega (arith, inside, kept-length observed kept is))

-- the files have added all that they can
kept-settled : (observed : Observed) (kept : Kept) (n : ℕ) → IsKept observed kept → IsSettled observed.files kept.bounds.items n
kept-settled observed kept n is = elim (cases_lt n (length kept.bounds.items)) [
  | inl inside ↦
      let entry : Entry = get_or observed.ledger n no_entry in
      let at : bound_at n kept.bounds.items ≡ known_of observed.schedule observed.files entry = bound-is observed kept n no_entry is inside in
      ap (known_from observed.files) at ∙ known-later observed.files observed.files (record { kept = λ uri file there. there }) _ entry.text ∙ sym at
  | inr past ↦
      let none : bound_at n kept.bounds.items ≡ unknown = get_or_past kept.bounds.items n unknown past in
      ap (known_from observed.files) none ∙ adds-nothing observed.files ∙ sym none
]

start-settled : (file : List ℕ) (observed : Observed) (kept : Kept) (n : ℕ) → IsKept observed kept → is_waiting (uri_of file) n kept.waiting ≡ false
    → IsSettled (with_file file observed.files) kept.bounds.items n
start-settled file observed kept n is none =
    let bound : BoundValue = bound_at n kept.bounds.items in
    let same : known_from observed.files bound ≡ bound = kept-settled observed kept n is in
    let unasked : one_misses (uri_of file) (role_states (known_from observed.files bound)) ≡ false =
    ap (λ b. one_misses (uri_of file) (role_states b)) same ∙ sym (is.waits.each (uri_of file) n) ∙ none in
    known_from-unmissed file observed.files bound (unmissed (uri_of file) (known_from observed.files bound) unasked) ∙ same

-- The file was received; it adds nothing to the entries that don't wait for it.
pub going-start : (file : List ℕ) (observed : Observed) (kept : Kept) → IsKept observed kept
    → IsGoing (arrived file observed) (λ n. is_waiting (uri_of file) n kept.waiting) kept
going-start file observed kept is = record {
  same = ap (map (known_from (with_file file observed.files))) is.same ∙ all-later file observed observed.ledger;
  settled = λ n none. start-settled file observed kept n is none;
  waits = is.waits;
  schedule = is.schedule;
  states = is.states;
}

-- ---- one entry

pub known_from-twice : (files : Files) (bound : BoundValue) → known_from files (known_from files bound) ≡ known_from files bound
known_from-twice files bound = known_from-again files files (record { kept = λ uri file is. is }) bound

-- the files add the same to it before and after an entry is checked
pub map-settled : (files : Files) (bounds : List BoundValue) (n : ℕ)
    → map (known_from files) (set bounds n (known_from files (bound_at n bounds))) ≡ map (known_from files) bounds
map-settled files bounds n =
    map-set (known_from files) bounds n (known_from files (bound_at n bounds))
    ∙ ap (set (map (known_from files) bounds) n) (known_from-twice files (bound_at n bounds))
    ∙ sym (map-set (known_from files) bounds n (bound_at n bounds))
    ∙ ap (map (known_from files)) (set-get_or bounds n unknown)

-- and the entry is settled, as those that were
settled-next : (files : Files) (bounds : List BoundValue) (n m : ℕ) (still : Bool) → n < length bounds → (still ≡ false → IsSettled files bounds m)
    → (still ≡ false) ⊎ (m ≡ n) → IsSettled files (set bounds n (known_from files (bound_at n bounds))) m
settled-next files bounds n m still inside settled left =
    let more : BoundValue = known_from files (bound_at n bounds) in
    let becomes : Becomes n more bounds (set bounds n more) = becomes-set bounds more n inside in
    elim (cases_eq m n) [
      | inl here ↦
          let own : bound_at m (set bounds n more) ≡ more = ap (λ k. bound_at k (set bounds n more)) here ∙ becomes.own in
          ap (known_from files) own ∙ known_from-twice files (bound_at n bounds) ∙ sym own
      | inr apart ↦
          let other : bound_at m (set bounds n more) ≡ bound_at m bounds = becomes.others m apart in
          ap (known_from files) other ∙ settled (⊎_elim (λ done. done) (λ here. absurd (apart here)) left) ∙ sym other
    ]

-- the number that was next is no longer among the remaining ones
among-next : (n m : ℕ) (rest : List ℕ) (here : Bool) → (n == m) ≡ here → is_among rest m ≡ false → (is_among (n ∷ rest) m ≡ false) ⊎ (m ≡ n)
among-next n m rest true here none = inr (sym (eqb-true n m here))
among-next n m rest false here none = inl (or_from (n == m) (is_among rest m) here none)

pub among-left : (entries : List ℕ) (at n : ℕ) → at < length entries → n ≡ get_or entries at n
    → (m : ℕ) → is_among (drop (at + 1) entries) m ≡ false → (is_among (drop at entries) m ≡ false) ⊎ (m ≡ n)
among-left entries at n inside is m none =
    subst (λ xs. (is_among xs m ≡ false) ⊎ (m ≡ n)) (sym (next_item entries at n inside is))
    (among-next n m (drop (at + 1) entries) (n == m) refl none)

module _ {observed : Observed} {still : ℕ → Bool} {kept : Kept} (going : IsGoing observed still kept) where
  pub going-length : length kept.bounds.items ≡ length observed.ledger
  going-length =
      sym (length-map kept.bounds.items (known_from observed.files)) ∙ ap length going.same
      ∙ length-map observed.ledger (known_of observed.schedule observed.files)

  pub going-settled : {next : ℕ → Bool} (n : ℕ) (entry : Entry) {after : Kept}
      → Settles observed.files n entry.height kept after
      → n < length kept.bounds.items → get_or observed.ledger n entry ≡ entry
      → ((m : ℕ) → next m ≡ false → (still m ≡ false) ⊎ (m ≡ n))
      → IsGoing observed next after
  going-settled n entry {after} step inside is left =
      let bounds : List BoundValue = kept.bounds.items in
      let more : BoundValue = known_from observed.files (bound_at n bounds) in
      let becomes : Becomes n more bounds (set bounds n more) = becomes-set bounds more n inside in
      record {
        same = ap (map (known_from observed.files)) step.bounds ∙ map-settled observed.files bounds n ∙ going.same;
        settled = λ m done.
            subst (λ xs. IsSettled observed.files xs m) (sym step.bounds)
            (settled-next observed.files bounds n m (still m) inside (going.settled m) (left m done));
        waits =
            subst (λ xs. WaitsAgree xs after.waiting) (sym step.bounds)
            (waits-turned becomes.others
            (subst (λ (b : BoundValue). TurnsTo n (role_states b) kept.waiting after.waiting) (sym becomes.own) step.waits) going.waits);
        schedule = step.states.schedule ∙ going.schedule;
        states =
            subst (λ xs. OperationsAgree observed.ledger xs after.index) (sym step.bounds)
            (agree-settled entry n more kept.index after.index step.states observed.ledger bounds observed.files refl going-length inside is going.states);
      }

  -- there is no entry with this number
  pub going-skipped : {next : ℕ → Bool} (n : ℕ) → length kept.bounds.items ≤ n
      → ((m : ℕ) → next m ≡ false → (still m ≡ false) ⊎ (m ≡ n))
      → IsGoing observed next kept
  going-skipped n past left = record {
    same = going.same;
    settled = λ m done.
        ⊎_elim (λ (before : still m ≡ false). going.settled m before) (λ (here : m ≡ n).
        let none : bound_at m kept.bounds.items ≡ unknown = get_or_past kept.bounds.items m unknown (omega (arith, here, past)) in
        ap (known_from observed.files) none ∙ adds-nothing observed.files ∙ sym none) (left m done);
    waits = going.waits;
    schedule = going.schedule;
    states = going.states;
  }

  -- after the last
  pub going-end : ((n : ℕ) → still n ≡ false) → IsKept observed kept
  going-end none = record {
    same =
        ext_get_or unknown kept.bounds.items (map (known_from observed.files) kept.bounds.items)
        (sym (length-map kept.bounds.items (known_from observed.files)))
        (λ n inside. sym (going.settled n (none n)) ∙ sym (get_or-map (known_from observed.files) kept.bounds.items n unknown unknown inside))
        ∙ going.same;
    waits = going.waits;
    schedule = going.schedule;
    states = going.states;
  }

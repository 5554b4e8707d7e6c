-- A file is received: the stored data, and the counts.
--     arrived-start     the entries that wait for it
--     arrived-kept      after they have been checked again
--     arrived-exact, arrived-few     the counts
use Rattle.std.proofs.Common.{◌≡◌, ◌∙◌, ℕ, ◌+◌, ◌-◌, ◌<◌, List, Option, length, map, ap, subst, sym, arith, take, ◌≤◌, [], ◌∷◌, ◌++◌, Some, None, option_map, unwrap_or, refl, false, drop}
use Rattle.std.proofs.lemmas.List.{length-take-le, take-take, map_push, take-map, take-append-drop}
use Rattle.std.proofs.lemmas.List.Folds.{fold-map}
use Rattle.std.specs.List.{sum_by, AllByRecursion, cons_option}
use Rattle.st_base.specs.Work.{WorkValue, AppliesAtMost}
use Rattle.st_hash.specs.Hash.{HashValue, uri_of, hash_cmp}
use Rattle.st_params.specs.ParamsValue.{ParamsValue, params_at}
use Rattle.st_opindex.specs.Items.{items_at, Covers, cover_cost, folded}
use Rattle.st_ops.specs.Operation.{PlainOperation}
use Rattle.st_ledger.specs.declared.ledger.Entry.{Entry}
use Rattle.st_content.specs.Files.{Files, with_file}
use Rattle.st_anchor.specs.BoundValue.{BoundValue, known_from, known, known_of_text}
use Rattle.st_anchor.specs.Gives.{newly_decided, newly_opened, given, suffixes_given}
use Rattle.st_anchor.specs.States.{decided_roles, opened_proofs, role_states, WorkedAtMost}
use Rattle.st_anchor.specs.declared.part.RoleState.{RoleState}
use Rattle.st_apply.proofs.ResolvedLemmas.{given_ascend}
use Rattle.st_apply.specs.Laws.{Anchored, place_of, resolved, PlacesAscend, given_from}
use Rattle.st_apply.specs.Codes.{absent}
use Rattle.st_observer.proofs.WantedLemmas.{waits-asked}
use Rattle.st_observer.proofs.OperationsLemmas.{Becomes, becomes-taken, needs_none, becomes-pushed, agree-cut, agree-pushed, kept-operations}
use Rattle.st_observer.proofs.WorkLemmas.{entry-cost, kept-cost, grew-only, grew-worked}
use Rattle.st_observer.proofs.GoingLemmas.{going-start, kept-length, known_of-unmissed}
use Rattle.st_observer.proofs.LookingLemmas.{entry-at, entry-inside}
use Rattle.st_observer.proofs.StoredLemmas.{names-late, state_resolved, covers-itself, covers-put, each-of}
use Rattle.st_observer.proofs.WaitingLemmas.{waits-turned}
use Rattle.st_observer.specs.Work.{IsKept, IsObserved, WaitsAgree, roles_at, unknown, OperationsAgree, AppendLeaves, ArrivalLeaves, CutLeaves, GivesNothing, OperationsDecide, operations_in, GrewAtMost, ReadExactly, arrival_cost, decided_in, is_missed_by, late, named_cost, opened_in, entry_cost}
use Rattle.st_observer.specs.Observed.{Observed, arrived, known_of, anchored_by, anchored_for, appended, cut_to, given_for, gives_of, operations, state_of, is_waiting, Waits, one_misses}
use Rattle.st_observer.specs.declared.kept.Kept.{Kept}
use Rattle.st_observer.specs.inside.Steps.{no_needs, CoversWhere, GrewOver, IsGoing, ReadOver, decided_of, opened_of, over, Cuts, Folds, Pushes, stepped, at_place}
use Rattle.st_observer.specs.inside.Waiting.{TurnsTo}

-- the code passes on the file, the schedule and the files with it
module _ (file : List ℕ) (observed : Observed) (before : Kept) (uri : HashValue) (later : Files) (is : IsKept observed before)
    (named : uri ≡ uri_of file) (with : later ≡ with_file file observed.files) where
  same-over : over before.index.folder.schedule observed.ledger later ≡ arrived file observed
  same-over = ap (λ s. over s observed.ledger later) is.schedule ∙ ap (over observed.schedule observed.ledger) with

  pub arrived-start : IsGoing (over before.index.folder.schedule observed.ledger later) (λ n. is_waiting uri n before.waiting) before
  arrived-start =
      subst (λ (o : Observed). IsGoing o (λ n. is_waiting uri n before.waiting) before) (sym same-over)
      (subst (λ (u : HashValue). IsGoing (arrived file observed) (λ n. is_waiting u n before.waiting) before) (sym named) (going-start file observed before is))

  pub arrived-kept : (after : Kept) → IsObserved (over before.index.folder.schedule observed.ledger later) after
      → IsObserved (over observed.schedule observed.ledger later) after
  arrived-kept after held = subst (λ (s : Option ℕ). IsObserved (over s observed.ledger later) after) is.schedule held

  -- counts over what is known about the entries
  module _ (count : BoundValue → ℕ) where
    sum-known : (o : Observed) (kept : Kept) → IsKept o kept → sum_by count kept.bounds.items ≡ sum_by
        (λ entry. count (known_of o.schedule o.files entry)) o.ledger
    sum-known o kept held =
        ap (sum_by count) held.same ∙ fold-map (λ total bound. total + count bound) (known_of o.schedule o.files) 0 o.ledger

    sum-arrived : sum_by count (map (known_from later) before.bounds.items) ≡ sum_by
        (λ entry. count (known_of observed.schedule (with_file file observed.files) entry)) observed.ledger
    sum-arrived =
        ap (λ files. sum_by count (map (known_from files) before.bounds.items)) with
        ∙ ap (sum_by count) (going-start file observed before is).same
        ∙ fold-map (λ total bound. total + count bound) (known_of observed.schedule (with_file file observed.files)) 0 observed.ledger

  -- the entries that missed the file are those that wait for it
  late-where : CoversWhere (λ n. is_waiting uri n before.waiting) (over before.index.folder.schedule observed.ledger later) (late file observed)
  late-where =
      subst (λ (o : Observed). CoversWhere (λ n. is_waiting uri n before.waiting) o (late file observed)) (sym same-over) (λ n entry found waits.
      let inside : n < length observed.ledger = entry-inside observed.ledger n entry found in
      names-late file observed n entry found
      (sym (ap (is_missed_by file observed) (entry-at observed.ledger n entry found))
      ∙ sym (waits-asked (uri_of file) observed before n entry is inside)
      ∙ ap (λ (u : HashValue). is_waiting u n before.waiting) (sym named) ∙ waits))

  pub arrived-few : (old new : WorkValue)
      → ((names : List (HashValue × ℕ)) → CoversWhere (λ n. is_waiting uri n before.waiting) (over before.index.folder.schedule observed.ledger later) names
      → GrewOver later before.bounds.items (named_cost (over before.index.folder.schedule observed.ledger later) names) old new)
      → GrewAtMost (decided_in (arrived file observed) - decided_in observed) (opened_in (arrived file observed) - opened_in observed)
      (arrival_cost file observed) old new
  arrived-few old new bound =
      let grew = bound (late file observed) late-where in
      record {
        least = grew.least;
        read = omega (arith, grew.read, sum-arrived decided_roles, sum-known decided_roles observed before is);
        opened = omega (arith, grew.opened, sum-arrived opened_proofs, sum-known opened_proofs observed before is);
        applied = omega (arith, grew.applied, ap (λ (o : Observed). named_cost o (late file observed)) same-over);
      }

  pub arrived-exact : (after : Kept) (old new : WorkValue) → IsObserved (over before.index.folder.schedule observed.ledger later) after
      → ReadOver before.bounds.items after.bounds.items old new
      → ReadExactly (decided_in (arrived file observed) - decided_in observed) (opened_in (arrived file observed) - opened_in observed) old new
  arrived-exact after old new held exactly =
      let kept : IsKept (arrived file observed) after = subst (λ (o : Observed). IsKept o after) same-over held.is in
      let decided : decided_of after.bounds.items - decided_of before.bounds.items ≡ decided_in (arrived file observed) - decided_in observed =
      ap (λ n. n - decided_of before.bounds.items) (sum-known decided_roles (arrived file observed) after kept)
      ∙ ap (λ n. decided_in (arrived file observed) - n) (sum-known decided_roles observed before is) in
      let opened : opened_of after.bounds.items - opened_of before.bounds.items ≡ opened_in (arrived file observed) - opened_in observed =
      ap (λ n. n - opened_of before.bounds.items) (sum-known opened_proofs (arrived file observed) after kept)
      ∙ ap (λ n. opened_in (arrived file observed) - n) (sum-known opened_proofs observed before is) in
      record { read = rw (← decided) exactly.read; opened = rw (← opened) exactly.opened }

-- ---- The last entry is removed, on the way to the first one that is cut.
--     taken-length, taken-first    the remaining entries
--     taken-turn, taken-waits      its states, and that it no longer waits for any file

module _ (start bounds after : List BoundValue) (left fewer : ℕ) (first : bounds ≡ take left start) (many : left ≡ length bounds) (some : 0 < left)
    (one : fewer ≡ left - 1)
    (rest : after ≡ take (length bounds - 1) bounds) where
  rest-is : after ≡ take fewer bounds
  rest-is = rest ∙ ap (λ n. take n bounds) (let e : length bounds - 1 ≡ fewer = omega (arith, many, one) in e)

  pub taken-length : fewer ≡ length after
  taken-length = omega (arith, ap length rest-is, length-take-le fewer bounds (omega (arith, many, one)))

  pub taken-first : after ≡ take fewer start
  taken-first = rest-is ∙ ap (take fewer) first ∙ take-take fewer left start (omega (arith, one))

  pub taken-turn : (states : List RoleState) (waits : Waits) → states ≡ roles_at (length bounds - 1) bounds → WaitsAgree bounds waits
      → (uri : HashValue) → is_waiting uri fewer waits ≡ one_misses uri states
  taken-turn states waits is agree uri =
      agree.each uri fewer
      ∙ ap (one_misses uri) (ap (λ n. roles_at n bounds) (let e : fewer ≡ length bounds - 1 = omega (arith, many, one) in e) ∙ sym is)

  pub taken-waits : (states : List RoleState) (old new : Waits) → states ≡ no_needs → TurnsTo fewer states old new → WaitsAgree bounds old
      → WaitsAgree after new
  taken-waits states old new none turns agree =
      let becomes : Becomes fewer unknown bounds (take fewer bounds) = becomes-taken bounds fewer (omega (arith, many, one, some)) in
      subst (λ (xs : List BoundValue). WaitsAgree xs new) (sym rest-is)
      (waits-turned becomes.others
      (subst (λ (xs : List RoleState). TurnsTo fewer xs old new) (none ∙ sym needs_none ∙ ap role_states (sym becomes.own)) turns) agree)

-- ---- The stored data, as the observer's calls use and change it.
--     kept-state                      the state of an identifier
--     kept-folded                     after pending changes are folded
--     kept-pushed, kept-cut           after an entry is appended, or entries are cut
--     settled-known    what a new entry's text and the files give

-- the operations of an identifier have ascending places
pub operations-ascend : (suffix : HashValue) (observed : Observed) → PlacesAscend place_of (operations suffix observed)
unfolding operations
operations-ascend suffix observed =
    given_ascend (anchored_for suffix observed.schedule observed.files) place_of
    (λ number entry item is. at number entry item (given_for suffix (gives_of observed.schedule observed.files entry)) is) 0 observed.ledger
  where
    at : (number : ℕ) (entry : Entry) (item : Anchored) (found : Option PlainOperation) → option_map (anchored_by number entry) found ≡ Some item
        → item.place ≡ number
    at number entry item None is = cc
    at number entry item (Some operation) is = ap (λ found. (unwrap_or found item).place) (sym is)

-- the state they fold to is the one they resolve to
pub kept-state : (suffix : HashValue) (observed : Observed) (kept : Kept) → IsKept observed kept
    → folded (stepped kept.index.folder.schedule) absent (items_at hash_cmp suffix kept.index.items) ≡ state_of suffix observed
kept-state suffix observed kept is =
    let same = kept-operations suffix observed kept is in
    state_resolved kept.index.folder.schedule suffix kept.index.items (subst (PlacesAscend place_of) (sym same) (operations-ascend suffix observed))
    ∙ ap (λ schedule. resolved schedule (operations_in suffix kept.index)) is.schedule
    ∙ ap (resolved observed.schedule) same

-- ---- pending changes are folded

pub kept-folded : (observed : Observed) (before after : Kept) → IsKept observed before → Folds before after → IsObserved observed after
kept-folded observed before after is step = record {
  is = record {
    same = step.bounds ∙ is.same;
    waits = subst (λ (xs : List BoundValue). WaitsAgree xs after.waiting) (sym step.bounds)
        (subst (λ (waits : Waits). WaitsAgree before.bounds.items waits) (sym step.waiting) is.waits);
    schedule = step.schedule ∙ is.schedule;
    states = subst (λ (xs : List BoundValue). OperationsAgree observed.ledger xs after.index) (sym step.bounds)
        (record { each = λ suffix. step.operations suffix ∙ is.states.each suffix });
  };
  none = step.none;
}

-- ---- an entry is appended

pub settled-known : (files : Files) (limits : ParamsValue) (text : List ℕ) (bound settled : BoundValue) → bound ≡ known_of_text limits text
    → settled ≡ known_from files bound
    → settled ≡ known files limits text
unfolding known
settled-known files limits text bound settled is settles = settles ∙ ap (known_from files) is

pub kept-pushed : (observed : Observed) (entry : Entry) (n : ℕ) (before after : Kept) → IsKept observed before → n ≡ length before.bounds.items
    → Pushes n entry.height (known_of observed.schedule observed.files entry) before after
    → IsKept (appended entry observed) after
kept-pushed observed entry n before after is number step =
    let bounds : List BoundValue = before.bounds.items in
    let bound : BoundValue = known_of observed.schedule observed.files entry in
    let becomes : Becomes n bound bounds (bounds ++ bound ∷ []) = becomes-pushed bounds bound n number in
    record {
      same =
          step.bounds ∙ ap (λ xs. xs ++ bound ∷ []) is.same
          ∙ sym (map_push (known_of observed.schedule observed.files) observed.ledger entry);
      waits =
          subst (λ xs. WaitsAgree xs after.waiting) (sym step.bounds)
          (waits-turned becomes.others (subst (λ (b : BoundValue). TurnsTo n (role_states b) before.waiting after.waiting) (sym becomes.own) step.waits) is.waits);
      schedule = step.states.schedule ∙ is.schedule;
      states =
          subst (λ xs. OperationsAgree (observed.ledger ++ entry ∷ []) xs after.index) (sym step.bounds)
          (agree-pushed entry n bound before.index after.index step.states observed.ledger bounds (kept-length observed before is) number is.states);
    }

-- ---- entries are cut

pub kept-cut : (observed : Observed) (n : ℕ) (before after : Kept) → IsKept observed before → n ≤ length observed.ledger → Cuts n before after
    → IsKept (cut_to n observed) after
kept-cut observed n before after is within step = record {
  same = step.bounds ∙ ap (take n) is.same ∙ take-map (known_of observed.schedule observed.files) n observed.ledger;
  waits = step.waits;
  schedule = step.schedule ∙ is.schedule;
  states =
      subst (λ xs. OperationsAgree (take n observed.ledger) xs after.index) (sym step.bounds)
      (agree-cut observed.ledger before.bounds.items n before.index after.index within is.states step.operations);
}

-- ---- An entry is appended: the stored data, and the counts.
--     appended-kept, appended-few, appended-wanting

-- the bound on what is counted then
abbrev pub AppendFew : Entry → WorkValue → WorkValue → Observed → Type 0
AppendFew entry old new observed =
    GrewAtMost (decided_roles (known_of observed.schedule observed.files entry)) (opened_proofs (known_of observed.schedule observed.files entry))
    (entry_cost (length observed.ledger) entry (appended entry observed)) old new

module _ (observed : Observed) (entry : Entry) (text : List ℕ) (limits : ParamsValue) (anchored : BoundValue) (texts : text ≡ entry.text)
    (limited : limits ≡ params_at observed.schedule entry.height) (says : anchored ≡ known_of_text limits text) where
  appended-known : known_from observed.files anchored ≡ known_of observed.schedule observed.files entry
  appended-known =
      settled-known observed.files (params_at observed.schedule entry.height) entry.text anchored (known_from observed.files anchored)
      (says ∙ (λ i. known_of_text (limited i) (texts i))) refl

  few-read : newly_decided observed.files anchored ≤ decided_roles (known_of observed.schedule observed.files entry)
  few-read = omega (arith, ap decided_roles appended-known)

  few-opened : newly_opened observed.files anchored ≤ opened_proofs (known_of observed.schedule observed.files entry)
  few-opened = omega (arith, ap opened_proofs appended-known)

  -- memory ran out before all its files were read
  pub appended-wanting : (old new : WorkValue) → WorkedAtMost (newly_decided observed.files anchored) (newly_opened observed.files anchored) old new
      → AppendFew entry old new observed
  appended-wanting old new few =
      let grew = grew-only {applies = 0} few in
      record {
        least = grew.least;
        read = omega (arith, grew.read, few-read);
        opened = omega (arith, grew.opened, few-opened);
        applied = omega (arith, grew.applied);
      }

  module _ (n : ℕ) (bound : BoundValue) (kept before later : Kept) (settles : bound ≡ known_from observed.files anchored) (held : IsObserved observed kept)
      (out : before ≡ kept) (number : n ≡ length observed.ledger) (step : Pushes n entry.height bound before later) where
    is : IsKept observed before
    is = subst (λ (k : Kept). IsKept observed k) (sym out) held.is

    pub appended-kept : IsKept (appended entry observed) later
    appended-kept =
        kept-pushed observed entry n before later is (number ∙ sym (kept-length observed before is))
        (subst (λ (b : BoundValue). Pushes n entry.height b before later) (settles ∙ appended-known) step)

    pub appended-few : (old mid new : WorkValue) → WorkedAtMost (newly_decided observed.files anchored) (newly_opened observed.files anchored) old mid
        → ((names : List (HashValue × ℕ)) → AllByRecursion (Covers hash_cmp names) later.index.changes
        → AppliesAtMost (cover_cost hash_cmp later.index.items names) mid new)
        → AppendFew entry old new observed
    appended-few old mid new few applied =
        let suffixes : List HashValue = suffixes_given (given bound) in
        let names : List (HashValue × ℕ) = at_place n suffixes in
        let after : Observed = appended entry observed in
        let none : AllByRecursion (Covers hash_cmp names) before.index.changes =
        subst (λ (k : Kept). AllByRecursion (Covers hash_cmp names) k.index.changes) (sym out) (rw held.none tt) in
        let covers : AllByRecursion (Covers hash_cmp names) later.index.changes =
        subst (AllByRecursion (Covers hash_cmp names)) (sym step.states.changes)
        (covers-put n names before.index.changes suffixes none (each-of (Covers hash_cmp names) (λ suffix. (suffix, n)) suffixes (covers-itself names))) in
        let same : named_cost after names ≡ entry_cost n entry after =
        ap (λ b. named_cost after (at_place n (suffixes_given (given b)))) (settles ∙ appended-known) ∙ entry-cost n entry after in
        let at : entry_cost n entry after ≡ entry_cost (length observed.ledger) entry after = ap (λ k. entry_cost k entry after) number in
        let grew = grew-worked few (applied names covers) in
        record {
          least = grew.least;
          read = omega (arith, grew.read, few-read);
          opened = omega (arith, grew.opened, few-opened);
          applied = omega (arith, grew.applied, kept-cost after later appended-kept names, same, at);
        }

-- ---- Changes that leave the operations of an identifier.

pub operations-decide : OperationsDecide
operations-decide suffix first second schedules same =
    ap (λ schedule. resolved schedule (operations suffix first)) schedules ∙ ap (resolved second.schedule) same

module _ (suffix : HashValue) (observed : Observed) where
  abbrev give : ℕ → Entry → Option Anchored
  give number entry = anchored_for suffix observed.schedule observed.files number entry

  -- entries that give no operation for the suffix, alone and behind others
  nothing-from : (number : ℕ) (entries : List Entry) → AllByRecursion (GivesNothing suffix observed) entries → given_from give number entries ≡ []
  nothing-from number [] each = refl
  nothing-from number (entry ∷ entries) each =
      ap (λ found. cons_option (option_map (anchored_by number entry) found) (given_from give (number + 1) entries)) each.0
      ∙ nothing-from (number + 1) entries each.1

  behind : (number : ℕ) (front back : List Entry) → AllByRecursion (GivesNothing suffix observed) back
      → given_from give number (front ++ back) ≡ given_from give number front
  behind number [] back each = nothing-from number back each
  behind number (entry ∷ front) back each = ap (cons_option (give number entry)) (behind (number + 1) front back each)

pub append-leaves : AppendLeaves
unfolding operations
append-leaves suffix observed entry nothing = behind suffix observed 0 observed.ledger (entry ∷ []) (nothing, tt)

pub cut-leaves : CutLeaves
unfolding operations
cut-leaves suffix observed n each =
    sym (behind suffix observed 0 (take n observed.ledger) (drop n observed.ledger) each)
    ∙ ap (given_from (give suffix observed) 0) (take-append-drop n observed.ledger)

unmissed-from : (suffix : HashValue) (observed : Observed) (file : List ℕ) (number : ℕ) (entries : List Entry)
    → AllByRecursion (λ entry. is_missed_by file observed entry ≡ false) entries
    → given_from (anchored_for suffix observed.schedule (with_file file observed.files)) number entries
    ≡ given_from (anchored_for suffix observed.schedule observed.files) number entries
unmissed-from suffix observed file number [] each = refl
unmissed-from suffix observed file number (entry ∷ entries) each =
    ap (λ known. cons_option (option_map (anchored_by number entry) (given_for suffix (given known)))
    (given_from (anchored_for suffix observed.schedule (with_file file observed.files)) (number + 1) entries))
    (known_of-unmissed file observed entry each.0)
    ∙ ap (cons_option (anchored_for suffix observed.schedule observed.files number entry)) (unmissed-from suffix observed file (number + 1) entries each.1)

pub arrival-leaves : ArrivalLeaves
unfolding operations
arrival-leaves suffix observed file each = unmissed-from suffix observed file 0 observed.ledger each

-- The reference machine as a peer: it starts under version 1 of the limits at every height, and stores a file as by
-- `content`.
use Rattle.std.proofs.Common.{◌≡◌, ℕ, true, List, [], ◌∷◌, Ordering, Less, Equal, Greater, Option, refl, sym, subst, ⊎_elim}
use Rattle.std.proofs.lemmas.Bool.{or_cases, true≢false}
use Rattle.std.specs.BTreeSet.{insert_key}
use Rattle.std.specs.List.{AllByRecursion, flat_map, fold}
use Rattle.std.specs.Ordering.{match_ordering}
use Rattle.std.specs.Prelude.{◌+◌, None, sum_by}
use Rattle.st_base.proofs.ListLemmas.{each-append}
use Rattle.st_hash.proofs.HashLemmas.{same_hash-is}
use Rattle.st_hash.specs.Hash.{HashValue, same_hash}
use Rattle.st_params.specs.ParamsValue.{ParamsValue, params_at}
use Rattle.st_datafiles.specs.declared.role.Role.TheVariants.{Core, CoreProof, Provisional, ProvisionalProof, Chunk}
use Rattle.st_ledger.specs.declared.ledger.Entry.{Entry}
use Rattle.st_content.specs.Files.{Files, file_at}
use Rattle.st_anchor.proofs.KnownLemmas.{known_from-missing}
use Rattle.st_anchor.specs.BoundValue.{BoundValue, known, known_of_text}
use Rattle.st_anchor.specs.States.{role_states_from}
use Rattle.st_anchor.specs.declared.part.RoleState.{RoleState}
use Rattle.st_anchor.specs.declared.part.RoleState.TheVariants.{Missing, Read, Rejected, Unneeded}
use Rattle.st_exchange.specs.Peer.{is_among, Peer, PeerLaws}
use Rattle.st_observer.specs.Observed.{Observed, role_states_on, wanted, missed_files, missed_in, text_cmp}
use Rattle.st_node.specs.Machine.{Machine, answered, answered_content, new_machine}
use Rattle.st_node.specs.Work.{declared_count, entry_of_line, files_due, proofs_due, submitted_by_line}

-- The reference machine, by the answers to its lines. A line adds as many signed texts as an anchor that it accepts
-- declares operations, and one if it is a `submit`.
abbrev pub node_peer : Peer Machine
node_peer = record {
  start = new_machine None;
  next = λ machine line. (answered machine line).next;
  reply = λ machine line. (answered machine line).reply;
  stored = λ machine bytes. (answered_content machine bytes).next;
  files = λ machine. machine.observed.files;
  wanted = λ machine. wanted machine.observed;
  due = λ machine. files_due machine.observed;
  proofs_due = λ machine. proofs_due machine.observed;
  proofs_added = λ machine line. sum_by (declared_count machine.observed.schedule) (entry_of_line machine line) + submitted_by_line line;
}

-- ---- Laws of the reference machine as a peer: it doesn't have a file that it wants, and before anything was received it
-- may read no file and open no signed text.

-- ---- keys inserted one by one: a property of each that is inserted is one of all

module _ {K : Type 0} (cmp : K → K → Ordering) (P : K → Type 0) where
  put_by : (order : Ordering) (key first : K) (keys after : List K) → AllByRecursion P (first ∷ keys) → P key
      → AllByRecursion P after → AllByRecursion P (match_ordering order (key ∷ first ∷ keys) (first ∷ keys) (first ∷ after))
  put_by Less key first keys after all one later = (one, all)
  put_by Equal key first keys after all one later = all
  put_by Greater key first keys after all one later = (all.0, later)

  put : (keys : List K) (key : K) → AllByRecursion P keys → P key → AllByRecursion P (insert_key cmp keys key)
  put [] key all one = (one, tt)
  put (first ∷ keys) key all one =
      put_by (cmp key first) key first keys (insert_key cmp keys key) all one (put keys key all.1 one)

  put_all : (keys more : List K) → AllByRecursion P keys → AllByRecursion P more → AllByRecursion P (fold (insert_key cmp) keys more)
  put_all keys [] all new = all
  put_all keys (key ∷ more) all new = put_all (insert_key cmp keys key) more (put keys key all new.0) new.1

-- a property of each hash holds for one that is among them
among : (P : HashValue → Type 0) (hashes : List HashValue) (hash : HashValue) → AllByRecursion P hashes → is_among hashes hash ≡ true → P hash
among P [] hash all is = absurd (true≢false (sym is))
among P (first ∷ hashes) hash all is =
    ⊎_elim (λ here. subst P (sym (same_hash-is hash first here)) all.0) (λ there. among P hashes hash all.1 there)
    (or_cases (same_hash hash first) (is_among hashes hash) is)

-- ---- missing files of entries

module _ (files : Files) where
  abbrev IsAbsent : HashValue → Type 0
  IsAbsent uri = file_at uri files ≡ None

  -- the missing file of a role isn't there
  abbrev MissesAbsent : RoleState → Type 0
  MissesAbsent state = (uri : HashValue) → state ≡ Missing uri → IsAbsent uri

  missed_by : (state : RoleState) → MissesAbsent state → AllByRecursion IsAbsent (missed_in state)
  missed_by Unneeded absent = tt
  missed_by (Missing uri) absent = (absent uri refl, tt)
  missed_by (Rejected rule) absent = tt
  missed_by Read absent = tt

  missed_by_all : (states : List RoleState) → AllByRecursion MissesAbsent states → AllByRecursion IsAbsent (flat_map missed_in states)
  missed_by_all [] absent = tt
  missed_by_all (state ∷ states) absent =
      each-append IsAbsent (missed_in state) _ (missed_by state absent.0) (missed_by_all states absent.1)

  roles_miss : (limits : ParamsValue) (text : List ℕ) → AllByRecursion MissesAbsent (role_states_from files limits text)
  unfolding known
  roles_miss limits text =
      let bound : BoundValue = known_of_text limits text in (
        known_from-missing Core files bound,
        (
          known_from-missing CoreProof files bound,
          (
            known_from-missing Provisional files bound,
            (known_from-missing ProvisionalProof files bound, (known_from-missing Chunk files bound, tt)),
          ),
        ),
      )

  entries_miss : (schedule : Option ℕ) (ledger : List Entry)
      → AllByRecursion IsAbsent (flat_map (λ entry. flat_map missed_in (role_states_on schedule files entry)) ledger)
  entries_miss schedule [] = tt
  entries_miss schedule (entry ∷ ledger) =
      each-append IsAbsent (flat_map missed_in (role_states_on schedule files entry)) _
      (missed_by_all (role_states_on schedule files entry) (roles_miss (params_at schedule entry.height) entry.text)) (entries_miss schedule ledger)

wanted-absent : (observed : Observed) (uri : HashValue) → is_among (wanted observed) uri ≡ true → file_at uri observed.files ≡ None
unfolding wanted
wanted-absent observed uri is =
    among (IsAbsent observed.files) (wanted observed) uri
    (put_all text_cmp (IsAbsent observed.files) [] (missed_files observed) tt (entries_miss observed.files observed.schedule observed.ledger)) is

pub peer_laws : PeerLaws node_peer
peer_laws = record {
  absent = λ machine uri is. wanted-absent machine.observed uri is;
  none_due = refl;
  no_proofs_due = refl;
}

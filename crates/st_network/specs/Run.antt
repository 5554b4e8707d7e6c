-- A delivered message stores only a file that is wanted, by its own URI.
use Rattle.std.specs.List.{AllByRecursion}
use Rattle.std.specs.Prelude.{◌≡◌, ◌⊎◌, ◌<◌, ℕ, true, List, [], ◌∷◌, ◌++◌, codes, length, slice_get, slice_set, Some, None, ◌+◌, ◌*◌, ◌≤◌, Result, Ok, option_map, unwrap_or, ⊤}
use Rattle.st_base.specs.Texts.{first_word}
use Rattle.st_base.specs.Work.{WorkValue}
use Rattle.st_hash.specs.Hash.{uri_of}
use Rattle.st_content.specs.Files.{file_at}
use Rattle.st_exchange.specs.Peer.{is_among, Peer, StaysDue, anchors_told}
use Rattle.st_drive.specs.Lines.{Meaning}
use Rattle.st_drive.specs.Runs.{Course}
use Rattle.st_drive.specs.Tables.{replying}
use Rattle.st_network.specs.Exchange.{after, answered, step_of, replies, Network, new_network, space, longest_line}
use Rattle.st_network.specs.declared.command.Cause.{Cause}
use Rattle.st_network.specs.declared.letters.Letter.{Letter}
use Rattle.st_network.specs.declared.letters.Step.{Step}
use Rattle.st_network.specs.declared.letters.Step.TheVariants.{Line}

-- A node has one more file, by its own URI, which it wanted and did not have. Nothing else in it changes.
pub record Gains {M : Type 0} (peer : Peer M) (node next : M) : Type 0 where
  pub bytes : List ℕ
  pub was_wanted : is_among (peer.wanted node) (uri_of bytes) ≡ true
  pub was_absent : file_at (uri_of bytes) (peer.files node) ≡ None
  pub gained : next ≡ peer.stored node bytes

-- one node gains a file; the others stay, and so do the messages
pub record OneGains {M : Type 0} (peer : Peer M) (network next : Network M) : Type 0 where
  pub number : ℕ
  pub node : M
  pub later : M
  pub there : slice_get network.nodes number ≡ Some node
  pub gains : Gains peer node later
  pub nodes : next.nodes ≡ slice_set network.nodes number later
  pub letters : next.letters ≡ network.letters

-- all nodes stay, or one gains a file that it wanted
abbrev pub StaysOrGains : {M : Type 0} → Peer M → (network next : Network M) → Type 0
StaysOrGains peer network next = (next.nodes ≡ network.nodes) ⊎ OneGains peer network next

-- After any lines, a `deliver` leaves all nodes, or one gains a file that it wanted.
abbrev pub StoresOnlyWanted : {M : Type 0} → Peer M → Type 0
StoresOnlyWanted peer = (lines : List (List ℕ)) (line : List ℕ) → first_word space line ≡ codes "deliver"
    → StaysOrGains peer (after peer (new_network peer) lines) (after peer (new_network peer) (lines ++ line ∷ []))

-- There are four nodes, after any lines.
abbrev pub AreFour : {M : Type 0} → Peer M → Type 0
AreFour peer = (lines : List (List ℕ)) → length (after peer (new_network peer) lines).nodes ≡ 4

-- its sender and its addressee are among the four nodes
abbrev pub IsAddressed : Letter → Type 0
IsAddressed letter = (letter.from < 4) × (letter.to < 4)

-- This holds for each message that was sent, after any lines. So a `deliver` finds its addressee.
abbrev pub AreAddressed : {M : Type 0} → Peer M → Type 0
AreAddressed peer = (lines : List (List ℕ)) → AllByRecursion IsAddressed (after peer (new_network peer) lines).letters

-- ---- Bounds on the work that four nodes count: over lines from the start, and with the work that is still due.

-- how many signed texts a step adds: a line of its own for a node, if there is such a node
abbrev pub proofs_of_step : {M : Type 0} → Peer M → Network M → Result Step Cause → ℕ
proofs_of_step peer network (Ok (Line i line)) =
    unwrap_or (option_map (λ node. peer.proofs_added node line) (slice_get network.nodes i)) 0
proofs_of_step peer network step = 0

-- how many anchors the nodes accept over lines: one for each reply that says so
abbrev pub accepted_in : {M : Type 0} → Peer M → Network M → List (List ℕ) → ℕ
accepted_in peer network [] = 0
accepted_in peer network (line ∷ lines) =
    anchors_told (answered peer network line).reply + accepted_in peer (answered peer network line).next lines

-- how many signed texts lines add
abbrev pub proofs_in : {M : Type 0} → Peer M → Network M → List (List ℕ) → ℕ
proofs_in peer network [] = 0
proofs_in peer network (line ∷ lines) =
    proofs_of_step peer network (step_of peer network line) + proofs_in peer (answered peer network line).next lines

-- From the start, lines read at most five files for each anchor that a node accepts, and open at most the signed texts
-- that they add.
pub record ExchangeCounts {M : Type 0} (peer : Peer M) (lines : List (List ℕ)) (old new : WorkValue) : Type 0 where
  pub files : new.files ≤ old.files + 5 * accepted_in peer (new_network peer) lines
  pub proofs : new.proofs ≤ old.proofs + proofs_in peer (new_network peer) lines

-- so do lines, if what is still due afterwards is what is due for the later network
abbrev pub DueOver : {M : Type 0} → Peer M → Network M → List (List ℕ) → (later : Network M) → (old new : WorkValue) → Type 0
DueOver peer network lines later = StaysDue peer network.nodes later.nodes (accepted_in peer network lines) (proofs_in peer network lines)

-- ---- A run of an exchange: the replies of four nodes to the lines of a source, and a bound on the work that is counted.

-- the course of four nodes over lines, from these counters of work to those: their replies, and a bound on the work
abbrev pub exchange_course : {M : Type 0} → Peer M → (work counted : WorkValue) → Course
exchange_course peer work counted =
    replying (replies peer (new_network peer)) (λ lines. ExchangeCounts peer lines work counted)

-- ---- The meaning of four nodes for a run of lines: the replies, the state after the lines, and a bound on the counts.

-- how many bytes of a line are kept: one more than a line may have, to recognize a longer one
abbrev pub kept_of_line : ℕ
kept_of_line = longest_line + 1

-- over these lines the network became that one, and no more was counted than was due
pub record RanLines {M : Type 0} (peer : Peer M) (network : Network M) (work : WorkValue × Unit {0}) (lines : List (List ℕ))
    (next : Network M) (counted : WorkValue × Unit {0}) : Type 0 where
  pub came : next ≡ after peer network lines
  pub due : DueOver peer network lines next work.0 counted.0

-- The meaning of four nodes for a run. If memory runs out at a line, they count no more than was due either.
abbrev pub network_meaning : {M : Type 0} → Peer M → Meaning (Network M) (WorkValue × Unit {0})
network_meaning {M} peer = record {
  answers = replies peer;
  told = λ work. ⊤;
  ran = RanLines peer;
  gave_up = λ network work lines counted. (later : Network M) × DueOver peer network lines later work.0 counted.0;
  prompt = ⊥;
}

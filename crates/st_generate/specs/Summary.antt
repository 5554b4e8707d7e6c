-- The first node: in each round it receives the requests of all identifiers in their order, makes a batch of them,
-- and receives its anchor.
use Rattle.std.specs.Fmt.{decimal}
use Rattle.std.specs.Prelude.{ℕ, zero, suc, List, [], ◌∷◌, ◌++◌, codes, map, drop, unwrap_or, ◌+◌, bytes_eq}
use Rattle.st_base.specs.Texts.{first_word, other_words}
use Rattle.st_hash.specs.Hash.{HashValue, hash_text}
use Rattle.st_exchange.specs.Peer.{Peer}
use Rattle.st_workload.specs.Identifier.{did_suffix, round_lines, events}
use Rattle.st_drive.specs.Lines.{whole_lines}
use Rattle.st_generate.specs.Talk.{TalkValue, new_talk, reply, tell, told, begins_with, one_if}
use Rattle.st_generate.specs.declared.ends.Ends.{Ends}
use Rattle.st_generate.specs.declared.plan.Plan.{Plan}
use Rattle.st_generate.specs.declared.rounds.Batches.{Batches}

-- ---- the contents of replies

-- the text after the first space of a line, or nothing
abbrev pub behind_one : List ℕ → List ℕ
behind_one line = unwrap_or (other_words 32 line) []

-- `batch <anchor string> <k>`, and k lines of files: the anchor string
unfoldable pub anchor_in : List ℕ → List ℕ
anchor_in reply = first_word 32 (behind_one reply)

-- `file <role> <uri> <base64url>`: the line that gives another node this file
unfoldable pub content_line : List ℕ → List ℕ
content_line line = codes "content " ++ behind_one (behind_one (behind_one line))

-- those of all files
abbrev pub content_lines : List ℕ → List (List ℕ)
content_lines reply = map content_line (drop 1 (whole_lines reply))

-- ---- rounds

-- the line that makes a batch
abbrev pub flush_line : List ℕ
flush_line = codes "flush"

-- the line of a batch's anchor, with the round as height
abbrev pub anchor_line : ℕ → List ℕ → List ℕ
anchor_line round anchor = codes "anchor " ++ (decimal round ++ (codes " " ++ anchor))

-- after the requests of a round: the batch, its anchor line, and the lines of its files after the others
abbrev pub batched : {M : Type 0} → Peer M → ℕ → TalkValue M → Batches M → Batches M
batched peer round talk batches =
    let batch = reply peer talk flush_line in
    let anchor = anchor_line round (anchor_in batch) in
    record {
      talk = tell peer anchor (tell peer flush_line talk);
      anchors = batches.anchors ++ anchor ∷ [];
      files = batches.files ++ content_lines batch;
    }

-- the batches of the first `n` rounds
abbrev pub batches_of : {M : Type 0} → Peer M → ℕ → ℕ → ℕ → Batches M
batches_of peer seed dids zero = record { talk = new_talk peer; anchors = []; files = [] }
batches_of peer seed dids (suc round) =
    let before = batches_of peer seed dids round in
    batched peer round (told peer (round_lines seed dids round) before.talk) before

-- ---- The summary of a workload on two nodes.

-- the line that resolves the short form of an identifier
unfoldable pub resolve_line : HashValue → List ℕ
resolve_line suffix = codes "resolve did:sidetree:" ++ hash_text suffix

-- After both nodes have resolved a line: the second resolved it if its reply says so, and they agree if their replies
-- are equal.
unfoldable pub asked : {M : Type 0} → Peer M → List ℕ → Ends M → Ends M
asked peer line ends = record {
  first = tell peer line ends.first;
  second = tell peer line ends.second;
  resolved = ends.resolved + one_if (begins_with (codes "resolved") (reply peer ends.second line));
  agreed = ends.agreed + one_if (bytes_eq (reply peer ends.first line) (reply peer ends.second line));
}

-- after they have resolved the first identifiers
abbrev pub all_asked : {M : Type 0} → Peer M → ℕ → ℕ → Ends M → Ends M
all_asked peer seed zero ends = ends
all_asked peer seed (suc i) ends = asked peer (resolve_line (did_suffix seed i)) (all_asked peer seed i ends)

-- the second node: it receives the events of the batches in the order of the stream after those of the identifiers
abbrev pub fed : {M : Type 0} → Peer M → Plan → Batches M → TalkValue M
fed peer plan batches = told peer (events plan.seed plan.dids batches.anchors batches.files) (new_talk peer)

-- the final states of the two nodes
unfoldable pub ends_of : {M : Type 0} → Peer M → Plan → Ends M
ends_of peer plan =
    let batches = batches_of peer plan.seed plan.dids (plan.rounds + 1) in
    all_asked peer plan.seed plan.dids (record { first = batches.talk; second = fed peer plan batches; resolved = 0; agreed = 0 })

-- a word and a number
abbrev pub summary_line : List ℕ → ℕ → List ℕ
summary_line word n = word ++ (decimal n ++ codes "\n")

-- the nine lines of a workload with these final states
abbrev pub lines_of : {M : Type 0} → Plan → Ends M → List ℕ
lines_of plan ends =
    summary_line (codes "dids ") plan.dids
    ++ summary_line (codes "batches ") (plan.rounds + 1)
    ++ summary_line (codes "operations ") ends.first.accepted.submissions
    ++ summary_line (codes "anchors ") ends.second.accepted.anchors
    ++ summary_line (codes "rollbacks ") ends.second.accepted.rollbacks
    ++ summary_line (codes "files ") ends.second.accepted.files
    ++ summary_line (codes "resolved ") ends.resolved
    ++ summary_line (codes "agreed ") ends.agreed
    ++ codes "filesWithin yes\n"

-- the nine lines
unfoldable pub summary : {M : Type 0} → Peer M → Plan → List ℕ
summary peer plan = lines_of plan (ends_of peer plan)

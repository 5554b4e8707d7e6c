-- The request of a node, and its answer to a message: the messages sent back, and the file kept.
use Rattle.std.specs.List.{flat_map, fold, list_any}
use Rattle.std.specs.Prelude.{ℕ, Bool, nat_le, List, [], ◌∷◌, ◌++◌, length, take, filter, if◌then◌else◌, Option, Some, None, ◌≡◌, ◌≤◌, ◌+◌, ◌*◌, true, bytes_eq, codes, sum_by}
use Rattle.st_base.specs.Work.{WorkValue}
use Rattle.st_hash.specs.Hash.{HashValue, same_hash, uri_of}
use Rattle.st_content.specs.Files.{Files, file_at}
use Rattle.st_exchange.specs.Message.{longest_blob, most_uris}
use Rattle.st_exchange.specs.declared.message.Answer.{Answer}
use Rattle.st_exchange.specs.declared.message.Message.{Message}
use Rattle.st_exchange.specs.declared.message.Message.TheVariants.{Want, Have, Blob}

-- the URI is one of these
abbrev pub is_among : List HashValue → HashValue → Bool
is_among uris uri = list_any (same_hash uri) uris

-- A node asks for the first files that it wants.
abbrev pub ask_of : List HashValue → Message
ask_of wanted = Want (take most_uris wanted)

-- these URIs and one more, unless it is one of them
abbrev pub with_one : List HashValue → HashValue → List HashValue
with_one uris uri = if is_among uris uri then uris else uris ++ uri ∷ []

-- each once, in the order of their first places
abbrev pub each_once : List HashValue → List HashValue
each_once uris = fold with_one [] uris

-- a blob of the file, if there is one and it is not too long
abbrev pub blob_of : Option (List ℕ) → List Message
blob_of None = []
blob_of (Some file) = if nat_le (length file) longest_blob then Blob file ∷ [] else []

-- the blob of a URI
abbrev pub blob_at : Files → HashValue → List Message
blob_at files uri = blob_of (file_at uri files)

-- one message that asks for these, or none if there are none
abbrev pub want_of : List HashValue → List Message
want_of [] = []
want_of (uri ∷ uris) = Want (uri ∷ uris) ∷ []

-- the bytes, if their URI is wanted
abbrev pub kept_of : List HashValue → List ℕ → Option (List ℕ)
kept_of wanted bytes = if is_among wanted (uri_of bytes) then Some bytes else None

-- A `Want` is answered by a blob of each file that is there. A `Have` is answered by a request for those that are
-- wanted. A blob is kept if its URI is wanted. Nothing else is sent or kept.
abbrev pub answer_of : Files → List HashValue → Message → Answer
answer_of files wanted (Want uris) = record { send = flat_map (blob_at files) (each_once uris); keep = None }
answer_of files wanted (Have uris) = record { send = want_of (filter (is_among wanted) uris); keep = None }
answer_of files wanted (Blob bytes) = record { send = []; keep = kept_of wanted bytes }

-- ---- The public view of a node: the state after a line and the reply, the state after it keeps a file, the files that it
-- has and wants, and the work that it may still count.

-- a node of type M
pub record Peer (M : Type 0) : Type 0 where
  -- before anything was received
  pub start : M
  -- the state after a line, and the reply to it
  pub next : M → List ℕ → M
  pub reply : M → List ℕ → List ℕ
  -- after it keeps a file
  pub stored : M → List ℕ → M
  -- the files that it has, and the URIs of those that it wants
  pub files : M → Files
  pub wanted : M → List HashValue
  -- the number of files it may still read for the anchors that it accepted
  pub due : M → ℕ
  -- the number of signed texts it may still open for them, and of those that a line adds
  pub proofs_due : M → ℕ
  pub proofs_added : M → List ℕ → ℕ

-- the number of accepted anchors that a reply reports: one, or none
abbrev pub anchors_told : List ℕ → ℕ
anchors_told reply = if bytes_eq (codes "anchored ") (take (length (codes "anchored ")) reply) then 1 else 0

-- The counts plus the work still due for all nodes afterwards are at most the earlier counts, the work due before, and
-- the new work: five files for each of these anchors, and these signed texts.
pub record StaysDue {M : Type 0} (peer : Peer M) (before later : List M) (anchors texts : ℕ) (old new : WorkValue) : Type 0 where
  pub files : new.files + sum_by peer.due later ≤ old.files + sum_by peer.due before + 5 * anchors
  pub proofs : new.proofs + sum_by peer.proofs_due later ≤ old.proofs + sum_by peer.proofs_due before + texts

-- the bound on the counts of answering a line: an anchor that is accepted adds files, and the line adds signed texts
abbrev pub LineDue : {M : Type 0} → Peer M → M → List ℕ → (old new : WorkValue) → Type 0
LineDue peer m line = StaysDue peer (m ∷ []) (peer.next m line ∷ []) (anchors_told (peer.reply m line)) (peer.proofs_added m line)

-- and of keeping a file, which adds nothing
abbrev pub FileDue : {M : Type 0} → Peer M → M → List ℕ → (old new : WorkValue) → Type 0
FileDue peer m bytes = StaysDue peer (m ∷ []) (peer.stored m bytes ∷ []) 0 0

-- The laws of a node: it has no file that it wants, and before anything was received it may read no file and open no
-- signed text.
pub record PeerLaws {M : Type 0} (peer : Peer M) : Type 0 where
  pub absent : (m : M) (uri : HashValue) → is_among (peer.wanted m) uri ≡ true → file_at uri (peer.files m) ≡ None
  pub none_due : peer.due peer.start ≡ 0
  pub no_proofs_due : peer.proofs_due peer.start ≡ 0

-- Items by number.
use Rattle.std.specs.Fmt.{decimal}
use Rattle.std.specs.Int.{w64, to_le_bytes, w32, to_be_bytes}
use Rattle.std.specs.List.{range_with_len}
use Rattle.std.specs.Prelude.{ℕ, List, map, ◌++◌, replicate, ◌+◌, ◌*◌, ◌-◌, ◌==◌, [], ◌∷◌, codes, if◌then◌else◌, Some, zero, suc, ◌/◌, ◌%◌, ◌&&◌, ◌||◌, nat_lt, Bool, length, remove, slice_get, unwrap_or}
use Rattle.hex.specs.Hex.{encode_lower}
use Rattle.rand_chacha.specs.ChaCha.{ChaCha, key_of, next_word}
use Rattle.rand_core.specs.Steps.{fill_via_u32}
use Rattle.st_plain.specs.Plain.{canonical, Plain, text, list}
use Rattle.st_plain.specs.Objects.{object_of, items_of}
use Rattle.st_hash.specs.Hash.{HashValue, hash_of}
use Rattle.st_lms.specs.Tree.{SecretKey, secret_key}
use Rattle.st_lms.specs.Signature.{public_of, signature_of}
use Rattle.st_jws.specs.Jwk.{commitment_of, reveal_of, jwk_json}
use Rattle.st_jws.specs.Signing.{join_signed, signing_input}
use Rattle.st_jws.specs.declared.jwk.Jwk.{Jwk}
use Rattle.st_indexfiles.specs.CoreIndex.{hash_json, suffix_of}
use Rattle.st_indexfiles.specs.declared.suffix_data.SuffixData.{SuffixData}
use Rattle.st_ops.specs.Operation.{PlainOperation, creating, updating}
use Rattle.st_ops.specs.Request.{request_text}
use Rattle.st_workload.specs.declared.identity.Identity.{Identity}
use Rattle.st_workload.specs.declared.order.Feed.{Feed}

-- the items with the numbers 0 to n - 1
abbrev pub each : {Item : Type 0} → ℕ → (ℕ → Item) → List Item
each n item = map item (range_with_len 0 n)

-- ---- The random words of a workload: key streams of ChaCha with 8 rounds (RFC 8439, sections 2.1 to 2.3, except that the
-- block counter and the nonce have 64 bits each, and the nonce is the number of the stream).

-- the 32 bytes of the key: the seed in little-endian in the first eight, and zeros
abbrev pub key_bytes : ℕ → List ℕ
key_bytes seed = to_le_bytes w64 seed ++ replicate 24 0

-- a stream from its word with this number on
unfoldable pub words_from : ℕ → ℕ → ℕ → ChaCha
words_from seed stream n = record { key = key_of (key_bytes seed); stream = stream; word_pos = n }

-- the word with this number of a stream; eight rounds are four double rounds
unfoldable pub word : ℕ → ℕ → ℕ → ℕ
word seed stream n = (next_word 4 (words_from seed stream n)).0

-- the first bytes of the words from this number on, each word in little-endian
unfoldable pub bytes : ℕ → ℕ → ℕ → ℕ → List ℕ
bytes seed stream n count = (fill_via_u32 (next_word 4) count (words_from seed stream n)).0

-- ---- The identifiers of a workload: the key of each, and its request in each round. Identifier i has its own stream i.
-- Of its words, 0 to 3 are the key's I, 4 to 11 the key's SEED, 12 to 15 the recovery nonce and 16 to 19 the nonce
-- for round 0; each round after that has five more words, of which four are its nonce and one is w.

-- ---- keys

-- the key of an identifier: LM-OTS type 3, LMS type 5
unfoldable pub key : ℕ → ℕ → SecretKey
key seed i = secret_key 3 5 (bytes seed i 0 16) (bytes seed i 4 32)

-- the key as a JWK, with the nonce that starts at this word
unfoldable pub jwk : ℕ → ℕ → ℕ → Jwk
jwk seed i n = record { public = public_of (key seed i); nonce = Some (bytes seed i n 16) }

-- the first word of the nonce for a round
abbrev pub nonce_at : ℕ → ℕ
nonce_at round = if round == 0 then 16 else 15 + 5 * round

-- the JWK with the recovery nonce
abbrev pub recovery_jwk : ℕ → ℕ → Jwk
recovery_jwk seed i = jwk seed i 12

-- the JWK with the nonce for a round
abbrev pub update_jwk : ℕ → ℕ → ℕ → Jwk
update_jwk seed i round = jwk seed i (nonce_at round)

-- ---- deltas

-- a delta with these patches and a commitment to this key
unfoldable pub delta : List Plain → Jwk → Plain
delta patches next = object_of
    ((codes "patches", list (items_of patches))
    ∷ (codes "updateCommitment", hash_json (commitment_of next)) ∷ [])

-- w of a round from 1 on, as eight lower-case hexadecimal digits
abbrev pub endpoint : ℕ → ℕ → ℕ → List ℕ
endpoint seed i round = codes "https://example.com/" ++ encode_lower (to_be_bytes w32 (word seed i (19 + 5 * round)))

-- the service of a round
unfoldable pub service : ℕ → ℕ → ℕ → Plain
service seed i round = object_of
    ((codes "id", text (codes "s" ++ decimal round))
    ∷ (codes "type", text (codes "T"))
    ∷ (codes "serviceEndpoint", text (endpoint seed i round)) ∷ [])

-- the patch of a round
unfoldable pub patch : ℕ → ℕ → ℕ → Plain
patch seed i round = object_of
    ((codes "action", text (codes "add-services"))
    ∷ (codes "services", list (items_of (service seed i round ∷ []))) ∷ [])

-- ---- round 0: a create without patches

-- the delta of the create, with a commitment to the key of round 0
abbrev pub create_delta : ℕ → ℕ → Plain
create_delta seed i = delta [] (update_jwk seed i 0)

-- the commitments of the create: to its delta and to the recovery key
unfoldable pub did_suffix_data : ℕ → ℕ → SuffixData
did_suffix_data seed i = record {
  delta_hash = hash_of (canonical (create_delta seed i));
  recovery_commitment = commitment_of (recovery_jwk seed i);
}

-- the suffix of the identifier
unfoldable pub did_suffix : ℕ → ℕ → HashValue
did_suffix seed i = suffix_of (did_suffix_data seed i)

-- the create itself
abbrev pub create : ℕ → ℕ → PlainOperation
create seed i = creating (did_suffix_data seed i) (Some (create_delta seed i))

-- ---- each later round: an update that reveals the key of the previous round, and commits to its own

-- the delta of the update of a round
abbrev pub update_delta : ℕ → ℕ → ℕ → Plain
update_delta seed i round = delta (patch seed i round ∷ []) (update_jwk seed i round)

-- the signed payload: the revealed key, and the hash of the delta
unfoldable pub payload : Jwk → Plain → Plain
payload revealed delta = object_of
    ((codes "updateKey", jwk_json revealed)
    ∷ (codes "deltaHash", hash_json (hash_of (canonical delta))) ∷ [])

-- a payload, signed by this key at this counter
unfoldable pub signed : SecretKey → ℕ → Plain → List ℕ
signed key counter payload = join_signed (signing_input payload) (signature_of key counter (signing_input payload))

-- an update of this suffix
abbrev pub updating_with : HashValue → Jwk → List ℕ → Plain → PlainOperation
updating_with suffix revealed signed delta = updating
    (record { suffix = suffix; reveal = reveal_of revealed })
    (Some (record { text = signed; payload = payload revealed delta; key = revealed })) (Some delta)

-- the update of a round, with the counters of the vault in order
abbrev pub update : ℕ → ℕ → ℕ → PlainOperation
update seed i round =
    let revealed = update_jwk seed i (round - 1) in
    let delta = update_delta seed i round in
    updating_with (did_suffix seed i) revealed (signed (key seed i) (round - 1) (payload revealed delta)) delta

-- ---- requests

-- the request of an identifier in a round
unfoldable pub request : ℕ → ℕ → ℕ → List ℕ
request seed i round = request_text (if round == 0 then create seed i else update seed i round)

-- the line that submits it
abbrev pub submit_line : ℕ → ℕ → ℕ → List ℕ
submit_line seed round i = codes "submit " ++ request seed i round

-- ---- An identifier with all its lines.

-- the lines that it submits: one for each round, from 0 on
abbrev pub lines_of : ℕ → ℕ → ℕ → List (List ℕ)
lines_of seed rounds i = each (rounds + 1) (λ round. submit_line seed round i)

-- its suffix and these lines
abbrev pub identity_of : ℕ → ℕ → ℕ → Identity
identity_of seed rounds i = record { suffix = did_suffix seed i; lines = lines_of seed rounds i }

-- the requests of a round, in the order of the identifiers
abbrev pub round_lines : ℕ → ℕ → ℕ → List (List ℕ)
round_lines seed dids round = each dids (submit_line seed round)

-- ---- The order of events: a second node receives the anchors of the batches in their order, and all files in any order
-- among them. A turn feeds one anchor or one file, and takes one word for that, so there are as many turns as batches
-- and files.

-- the line that rolls back the entries from this number on
abbrev pub rollback_line : ℕ → List ℕ
rollback_line number = codes "rollback " ++ decimal number

-- The anchor line of a batch. Batch n makes entry n; an entry of odd number is rolled back at once, and the same
-- anchor is fed again.
abbrev pub anchor_lines : ℕ → List ℕ → List (List ℕ)
anchor_lines number line = if number % 2 == 1 then line ∷ rollback_line number ∷ line ∷ [] else line ∷ []

-- the next anchor is fed
abbrev pub anchor_fed : List (List ℕ) → Feed → Feed
anchor_fed anchors feed = record {
  lines = feed.lines ++ anchor_lines feed.next (unwrap_or (slice_get anchors feed.next) []);
  next = feed.next + 1;
  files = feed.files;
}

-- the file at this place is removed from the list and fed; later files move down
abbrev pub file_fed : ℕ → Feed → Feed
file_fed at feed = record {
  lines = feed.lines ++ unwrap_or (slice_get feed.files at) [] ∷ [];
  next = feed.next;
  files = remove feed.files at;
}

-- an anchor is fed if one remains, and w is odd or no file remains
abbrev pub feeds_anchor : List (List ℕ) → ℕ → Feed → Bool
feeds_anchor anchors w feed = nat_lt feed.next (length anchors) && ((w % 2 == 1) || (length feed.files == 0))

-- a turn with the word w; if nothing remains it feeds nothing
unfoldable pub turn : List (List ℕ) → ℕ → Feed → Feed
turn anchors w feed =
    if feeds_anchor anchors w feed then anchor_fed anchors feed
    else if length feed.files == 0 then feed
    else file_fed (w / 2 % length feed.files) feed

-- the first `n` turns, with the words of a stream
abbrev pub turns : ℕ → ℕ → List (List ℕ) → ℕ → Feed → Feed
turns seed stream anchors zero feed = feed
turns seed stream anchors (suc n) feed = turn anchors (word seed stream n) (turns seed stream anchors n feed)

-- before the first turn
abbrev pub all_left : List (List ℕ) → Feed
all_left files = record { lines = []; next = 0; files = files }

-- The events of all turns: these lines of anchors and these of files, in the order that a stream gives them.
unfoldable pub events : ℕ → ℕ → List (List ℕ) → List (List ℕ) → List (List ℕ)
events seed stream anchors files = (turns seed stream anchors (length anchors + length files) (all_left files)).lines

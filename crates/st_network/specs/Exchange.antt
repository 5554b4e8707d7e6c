-- Four nodes and the messages between them, after any line.
use Rattle.std.specs.Coded.{Coded, code_by, coded_list, coded×}
use Rattle.std.specs.Fmt.{decimal}
use Rattle.std.specs.List.{sum_by}
use Rattle.std.specs.Option.{ok_or}
use Rattle.std.specs.Prelude.{ℕ, ◌-◌, ◌&&◌, nat_le, Bool, List, [], ◌∷◌, length, slice_set, ◌≡◌, ◌^◌, ◌++◌, codes, bytes_eq, is_some, map, slice_get, if◌then◌else◌, Option, Some, None, Result, Ok, Err, refl}
use Rattle.st_base.specs.Answers.{◌>>=◌, ◌>>◌, holds_or}
use Rattle.st_base.specs.Texts.{reply, cut_at, first_word, number_of, other_words}
use Rattle.st_hash.specs.Hash.{bytes_of_text, hash_of_text, hash_text, uri_of}
use Rattle.st_content.specs.Files.{file_at}
use Rattle.st_exchange.specs.Peer.{answer_of, ask_of, Peer}
use Rattle.st_exchange.specs.Message.{message_of, spelling}
use Rattle.st_exchange.specs.declared.message.Answer.{Answer}
use Rattle.st_exchange.specs.declared.message.Message.{Message}
use Rattle.st_exchange.specs.declared.message.Message.TheVariants.{Have}
use Rattle.st_network.specs.contracts.letters.Letter as letter_row
use Rattle.st_network.specs.declared.command.Cause.{Cause}
use Rattle.st_network.specs.declared.command.Cause.TheVariants as cause
use Rattle.st_network.specs.declared.letters.Letter.{Letter}
use Rattle.st_network.specs.declared.letters.Step.{Step}
use Rattle.st_network.specs.declared.letters.Step.TheVariants.{Line, Post, Store}

-- four nodes, numbered from 0, and the messages sent between them, numbered from 0
pub record Network (M : Type 0) : Type 0 where
  pub nodes : List M
  pub letters : List Letter

-- before anything was received
abbrev pub new_network : {M : Type 0} → Peer M → Network M
new_network peer = record { nodes = peer.start ∷ peer.start ∷ peer.start ∷ peer.start ∷ []; letters = [] }

-- with another node of this number
abbrev pub with_node : {M : Type 0} → ℕ → M → Network M → Network M
with_node i node network = record network { nodes = slice_set network.nodes i node }

-- ---- limits

-- the largest number of bytes of a line
abbrev pub longest_line : ℕ
longest_line = 24000000

-- the byte of a space
abbrev pub space : ℕ
space = 32

-- the largest number of messages that are kept
abbrev pub most_letters : ℕ
most_letters = 100000

-- the largest number of their bytes in all
abbrev pub most_bytes : ℕ
most_bytes = 1073741824

-- the size of a message in bytes
abbrev pub size_of : Letter → ℕ
size_of letter = length letter.bytes

-- there are not too many of them, and they have not too many bytes in all
abbrev pub fits : List Letter → Bool
fits letters = nat_le (length letters) most_letters && nat_le (sum_by size_of letters) most_bytes

-- ---- The answer of four nodes to a line, and the state afterwards. A message is delivered when a line says so, also
-- repeatedly or never: so the network between them may lose, repeat and reorder.

-- ---- the step of a line

-- a word, and the text after it and a space
abbrev pub two_of : Option (List ℕ) → Result (List ℕ × List ℕ) Cause
two_of behind = do
  rest ← ok_or behind cause.Words
  ok_or (cut_at space rest) cause.Words

-- two words, and the text after them
abbrev pub three_of : Option (List ℕ) → Result (List ℕ × (List ℕ × List ℕ)) Cause
three_of behind = do
  words ← two_of behind
  others ← ok_or (cut_at space words.1) cause.Words
  Ok (words.0, others)

-- the number in a word
abbrev pub number_or : List ℕ → Result ℕ Cause
number_or word = ok_or (number_of (2 ^ 32 - 1) word) cause.Number

-- the node with this number
abbrev pub node_at : {M : Type 0} → Network M → ℕ → Result M Cause
node_at network i = ok_or (slice_get network.nodes i) cause.Range

-- sender, addressee, and the encoding of a message
abbrev pub letter : ℕ → ℕ → Message → Letter
letter from to message = record { from = from; to = to; bytes = spelling message }

-- back to the sender
abbrev pub back : Letter → Message → Letter
back received message = letter received.to received.from message

-- `at <i> <node line>`: the node line is all the rest, and may be empty
abbrev pub at_step : {M : Type 0} → Network M → Option (List ℕ) → Result Step Cause
at_step network behind = do
  words ← two_of behind
  i ← number_or words.0
  Ok (Line i words.1)

-- `ask <i> <j>`: node i asks node j for the files that it wants
abbrev pub ask_step : {M : Type 0} → Peer M → Network M → Option (List ℕ) → Result Step Cause
ask_step peer network behind = do
  words ← two_of behind
  i ← number_or words.0
  j ← number_or words.1
  from ← node_at network i
  to ← node_at network j
  Ok (Post (letter i j (ask_of (peer.wanted from)) ∷ []))

-- `offer <i> <j> <uri>`: node i offers node j this file
abbrev pub offer_step : {M : Type 0} → Peer M → Network M → Option (List ℕ) → Result Step Cause
offer_step peer network behind = do
  words ← three_of behind
  i ← number_or words.0
  j ← number_or words.1.0
  uri ← ok_or (hash_of_text words.1.1) cause.Hash
  from ← node_at network i
  to ← node_at network j
  holds_or (is_some (file_at uri (peer.files from))) cause.Unknown
  Ok (Post (letter i j (Have (uri ∷ [])) ∷ []))

-- `inject <i> <j> <base64url>`: the bytes unchanged
abbrev pub inject_step : {M : Type 0} → Network M → Option (List ℕ) → Result Step Cause
inject_step network behind = do
  words ← three_of behind
  i ← number_or words.0
  j ← number_or words.1.0
  bytes ← ok_or (bytes_of_text words.1.1) cause.Base64
  from ← node_at network i
  to ← node_at network j
  Ok (Post (record { from = i; to = j; bytes = bytes } ∷ []))

-- a file that is kept is stored; otherwise all messages are sent back
abbrev pub step_by : Letter → List Message → Option (List ℕ) → Step
step_by received send (Some bytes) = Store received.to bytes
step_by received send None = Post (map (back received) send)

-- the step of an answer to a message
abbrev pub answer_step : Letter → Answer → Step
answer_step received answer = step_by received answer.send answer.keep

-- `deliver <m>`: the addressee of a message answers it, by its files and its wanted URIs. The addressee exists: it
-- did when the message was sent.
abbrev pub deliver_step : {M : Type 0} → Peer M → Network M → Option (List ℕ) → Result Step Cause
deliver_step peer network behind = do
  rest ← ok_or behind cause.Words
  m ← number_or rest
  received ← ok_or (slice_get network.letters m) cause.Range
  message ← ok_or (message_of received.bytes) cause.Message
  to ← node_at network received.to
  Ok (answer_step received (answer_of (peer.files to) (peer.wanted to) message))

-- by the command word
abbrev pub step_of_words : {M : Type 0} → Peer M → Network M → List ℕ → Option (List ℕ) → Result Step Cause
step_of_words peer network word behind =
    if bytes_eq word (codes "at") then at_step network behind
    else if bytes_eq word (codes "ask") then ask_step peer network behind
    else if bytes_eq word (codes "offer") then offer_step peer network behind
    else if bytes_eq word (codes "inject") then inject_step network behind
    else if bytes_eq word (codes "deliver") then deliver_step peer network behind
    else Err cause.Command

-- The step of a line, or the first cause why it is refused.
abbrev pub step_of : {M : Type 0} → Peer M → Network M → List ℕ → Result Step Cause
step_of peer network line = do
  holds_or (nat_le (length line) longest_line) cause.Long
  step_of_words peer network (first_word space line) (other_words space line)

-- ---- the effect

-- the network after a line, and the reply to it
pub record Answered (M : Type 0) : Type 0 where
  pub next : Network M
  pub reply : List ℕ

-- why a line is refused
abbrev pub cause_word : Cause → List ℕ
cause_word cause.Long = codes "line long"
cause_word cause.Command = codes "line command"
cause_word cause.Words = codes "line words"
cause_word cause.Number = codes "line number"
cause_word cause.Base64 = codes "line base64"
cause_word cause.Hash = codes "line hash"
cause_word cause.Range = codes "range"
cause_word cause.Unknown = codes "unknown"
cause_word cause.Message = codes "message"
cause_word cause.Full = codes "full"

-- `refused <cause>`, and nothing changes
abbrev pub refused : {M : Type 0} → Network M → Cause → Answered M
refused network why = record { next = network; reply = reply (codes "refused ") (cause_word why) }

-- node i answers a line of its own, if there is such a node
abbrev pub line_done : {M : Type 0} → Peer M → Network M → ℕ → List ℕ → Option M → Answered M
line_done peer network i line None = refused network cause.Range
line_done peer network i line (Some node) = record {
  next = with_node i (peer.next node line) network;
  reply = peer.reply node line;
}

-- the node keeps a file, as by `content`
abbrev pub store_done : {M : Type 0} → Peer M → Network M → ℕ → List ℕ → Option M → Answered M
store_done peer network i bytes None = refused network cause.Range
store_done peer network i bytes (Some node) = record {
  next = with_node i (peer.stored node bytes) network;
  reply = reply (codes "stored ") (hash_text (uri_of bytes));
}

-- the number of messages sent, if there is one
abbrev pub post_reply : List Letter → List ℕ
post_reply [] = reply (codes "ignored") []
post_reply (first ∷ others) = reply (codes "sent ") (decimal (length (first ∷ others)))

-- the messages are appended, if all fit
abbrev pub post_done : {M : Type 0} → Network M → List Letter → Answered M
post_done network letters =
    if fits (network.letters ++ letters)
    then record { next = record network { letters = network.letters ++ letters }; reply = post_reply letters }
    else refused network cause.Full

-- by the step
abbrev pub done : {M : Type 0} → Peer M → Network M → Step → Answered M
done peer network (Line i line) = line_done peer network i line (slice_get network.nodes i)
done peer network (Post letters) = post_done network letters
done peer network (Store i bytes) = store_done peer network i bytes (slice_get network.nodes i)

-- the effect of a step, or why there is none
abbrev pub answered_step : {M : Type 0} → Peer M → Network M → Result Step Cause → Answered M
answered_step peer network (Ok step) = done peer network step
answered_step peer network (Err why) = refused network why

-- the answer to a line
abbrev pub answered : {M : Type 0} → Peer M → Network M → List ℕ → Answered M
answered peer network line = answered_step peer network (step_of peer network line)

-- the replies to lines, one after another
abbrev pub replies : {M : Type 0} → Peer M → Network M → List (List ℕ) → List ℕ
replies peer network [] = []
replies peer network (line ∷ lines) = (answered peer network line).reply ++ replies peer (answered peer network line).next lines

-- the network after these lines
abbrev pub after : {M : Type 0} → Peer M → Network M → List (List ℕ) → Network M
after peer network [] = network
after peer network (line ∷ lines) = after peer (answered peer network line).next lines

-- ---- calls

-- The network is the one after the answer, and its reply is returned.
abbrev pub AnswersWith : {M : Type 0} → Answered M → Network M × List ℕ → Type 0
AnswersWith answer done = (done.0 ≡ answer.next) × (done.1 ≡ answer.reply)

-- ---- How the logic stores a network. No statement about networks depends on it.

-- a network as the pair of its fields
abbrev pub coded_network : {M : Type 0} → Coded M → Coded (Network M)
coded_network {M} coded =
    code_by (List M × List Letter) (coded× (coded_list coded) (coded_list letter_row.the_row.coded))
    (λ n. (n.nodes, n.letters)) (λ p. record { nodes = p.0; letters = p.1 }) (λ _. refl)

-- There are four nodes, after any lines, and the sender and the addressee of each message are among them:
--     are-four, are-addressed
use Rattle.std.proofs.Common.{◌≡◌, ◌∙◌, ◌<◌, ℕ, List, [], ◌∷◌, length, map, bytes_eq, codes, nat_le, is_some, slice_get, Option, Some, None, Result, Ok, Err, IfOk, sym, refl, arith, if◌then◌else◌, inl, inr, Bool, true, false, cond, ◌++◌, subst}
use Rattle.std.proofs.lemmas.Bool.{cond_both}
use Rattle.std.proofs.lemmas.List.{length-set}
use Rattle.std.proofs.lemmas.Option.{get_or_from_slice_get, slice_get_within}
use Rattle.std.specs.Bool.{⊤}
use Rattle.std.specs.List.{AllByRecursion}
use Rattle.std.specs.Option.{ok_or}
use Rattle.st_base.proofs.ListLemmas.{each-append}
use Rattle.st_base.specs.Answers.{◌>>◌, holds_or}
use Rattle.st_base.specs.Texts.{first_word, other_words}
use Rattle.st_hash.specs.Hash.{bytes_of_text, hash_of_text, uri_of}
use Rattle.st_content.specs.Files.{file_at}
use Rattle.st_exchange.specs.Peer.{answer_of, is_among, Peer, PeerLaws}
use Rattle.st_exchange.specs.Message.{message_of}
use Rattle.st_exchange.specs.declared.message.Answer.{Answer}
use Rattle.st_exchange.specs.declared.message.Message.{Message}
use Rattle.st_exchange.specs.declared.message.Message.TheVariants.{Want, Have, Blob}
use Rattle.st_network.proofs.NetworkLemmas.{each-item, behind, behind_test, ok_or-some, posted}
use Rattle.st_network.specs.Exchange.{Answered, after, answer_step, answered, answered_step, ask_step, at_step, back, deliver_step, done, inject_step, line_done, node_at, number_or, offer_step, step_by, step_of, step_of_words, store_done, three_of, two_of, Network, longest_line, new_network, space}
use Rattle.st_network.specs.LineLaws.{after-append}
use Rattle.st_network.specs.Run.{IsAddressed, StaysOrGains}
use Rattle.st_network.specs.declared.command.Cause.{Cause}
use Rattle.st_network.specs.declared.command.Cause.TheVariants as cause
use Rattle.st_network.specs.declared.letters.Letter.{Letter}
use Rattle.st_network.specs.declared.letters.Step.{Step}
use Rattle.st_network.specs.declared.letters.Step.TheVariants.{Line, Post, Store}

-- a property of each item holds for the one at a place
each-got : {X : Type 0} (P : X → Type 0) (xs : List X) (i : ℕ) (x : X) → AllByRecursion P xs → slice_get xs i ≡ Some x → P x
each-got P xs i x all is = each-item P xs i x all (slice_get_within xs i x is) (sym (get_or_from_slice_get xs i x x is))

-- ---- the number of nodes after a line

abbrev count : {M : Type 0} → Answered M → ℕ
count answer = length answer.next.nodes

module _ {M : Type 0} (peer : Peer M) (network : Network M) where
  line-count : (i : ℕ) (line : List ℕ) (node : Option M) → count (line_done peer network i line node) ≡ length network.nodes
  line-count i line None = refl
  line-count i line (Some node) = length-set network.nodes i (peer.next node line)

  store-count : (i : ℕ) (bytes : List ℕ) (node : Option M) → count (store_done peer network i bytes node) ≡ length network.nodes
  store-count i bytes None = refl
  store-count i bytes (Some node) = length-set network.nodes i (peer.stored node bytes)

  done-count : (step : Step) → count (done peer network step) ≡ length network.nodes
  done-count (Line i line) = line-count i line (slice_get network.nodes i)
  done-count (Post letters) = posted (λ answer. count answer ≡ length network.nodes) network letters refl refl
  done-count (Store i bytes) = store-count i bytes (slice_get network.nodes i)

-- ---- the messages that a line sends

-- the senders and addressees of the sent messages are among the four
abbrev Sends : Step → Type 0
Sends (Line i line) = ⊤
Sends (Post letters) = AllByRecursion IsAddressed letters
Sends (Store i bytes) = ⊤

backs : (received : Letter) (send : List Message) → IsAddressed received → AllByRecursion IsAddressed (map (back received) send)
backs received [] is = tt
backs received (message ∷ send) is = ((is.1, is.0), backs received send is)

sends_by : (received : Letter) (send : List Message) (keep : Option (List ℕ)) → IsAddressed received → Sends (step_by received send keep)
sends_by received send None is = backs received send is
sends_by received send (Some bytes) is = tt

module _ {M : Type 0} (peer : Peer M) (network : Network M) (four : length network.nodes ≡ 4) (addressed : AllByRecursion IsAddressed network.letters) where
  there : (i : ℕ) (node : M) → node_at network i ≡ Ok node → i < 4
  there i node is =
      let within : i < length network.nodes =
      slice_get_within network.nodes i node (ok_or-some (slice_get network.nodes i) cause.Range node is) in
      omega (arith, four, within)

  at-sends : (others : Option (List ℕ)) → IfOk (at_step network others) Sends
  at-sends others = behind Sends (two_of others) _ (λ words _. behind Sends (number_or words.0) _ (λ i _. tt))

  ask-sends : (others : Option (List ℕ)) → IfOk (ask_step peer network others) Sends
  ask-sends others =
      behind Sends (two_of others) _ (λ words _.
      behind Sends (number_or words.0) _ (λ i _.
      behind Sends (number_or words.1) _ (λ j _.
      behind Sends (node_at network i) _ (λ from is.
      behind Sends (node_at network j) _ (λ to other. ((there i from is, there j to other), tt))))))

  offer-sends : (others : Option (List ℕ)) → IfOk (offer_step peer network others) Sends
  offer-sends others =
      behind Sends (three_of others) _ (λ words _.
      behind Sends (number_or words.0) _ (λ i _.
      behind Sends (number_or words.1.0) _ (λ j _.
      behind Sends (ok_or (hash_of_text words.1.1) cause.Hash) _ (λ uri _.
      behind Sends (node_at network i) _ (λ from is.
      behind Sends (node_at network j) _ (λ to other.
      behind_test Sends (is_some (file_at uri (peer.files from))) cause.Unknown _ ((there i from is, there j to other), tt)))))))

  inject-sends : (others : Option (List ℕ)) → IfOk (inject_step network others) Sends
  inject-sends others =
      behind Sends (three_of others) _ (λ words _.
      behind Sends (number_or words.0) _ (λ i _.
      behind Sends (number_or words.1.0) _ (λ j _.
      behind Sends (ok_or (bytes_of_text words.1.1) cause.Base64) _ (λ bytes _.
      behind Sends (node_at network i) _ (λ from is.
      behind Sends (node_at network j) _ (λ to other. ((there i from is, there j to other), tt)))))))

  answer-sends : (received : Letter) (answer : Answer) → IsAddressed received → Sends (answer_step received answer)
  answer-sends received answer is = sends_by received answer.send answer.keep is

  deliver-sends : (others : Option (List ℕ)) → IfOk (deliver_step peer network others) Sends
  deliver-sends others =
      behind Sends (ok_or others cause.Words) _ (λ rest _.
      behind Sends (number_or rest) _ (λ m _.
      behind Sends (ok_or (slice_get network.letters m) cause.Range) _ (λ received is.
      behind Sends (ok_or (message_of received.bytes) cause.Message) _ (λ message _.
      behind Sends (node_at network received.to) _ (λ to _.
      answer-sends received (answer_of (peer.files to) (peer.wanted to) message)
      (each-got IsAddressed network.letters m received addressed (ok_or-some (slice_get network.letters m) cause.Range received is)))))))

  -- by the command word
  by_word : (word name : List ℕ) (here other : Result Step Cause) → IfOk here Sends → IfOk other Sends
      → IfOk (if bytes_eq word name then here else other) Sends
  by_word word name here other one two = cond_both (bytes_eq word name) here other (λ result. IfOk result Sends) (λ _. one) (λ _. two)

  words-send : (word : List ℕ) (others : Option (List ℕ)) → IfOk (step_of_words peer network word others) Sends
  words-send word others =
      by_word word (codes "at") (at_step network others) _ (at-sends others)
      (by_word word (codes "ask") (ask_step peer network others) _ (ask-sends others)
      (by_word word (codes "offer") (offer_step peer network others) _ (offer-sends others)
      (by_word word (codes "inject") (inject_step network others) _ (inject-sends others)
      (by_word word (codes "deliver") (deliver_step peer network others) _ (deliver-sends others) tt))))

  line-sends : (line : List ℕ) → IfOk (step_of peer network line) Sends
  line-sends line =
      behind_test Sends (nat_le (length line) longest_line) cause.Long _ (words-send (first_word space line) (other_words space line))

  -- ---- the effect

  abbrev Leaves : Answered M → Type 0
  Leaves answer = AllByRecursion IsAddressed answer.next.letters

  line-leaves : (i : ℕ) (line : List ℕ) (node : Option M) → Leaves (line_done peer network i line node)
  line-leaves i line None = addressed
  line-leaves i line (Some node) = addressed

  store-leaves : (i : ℕ) (bytes : List ℕ) (node : Option M) → Leaves (store_done peer network i bytes node)
  store-leaves i bytes None = addressed
  store-leaves i bytes (Some node) = addressed

  done-leaves : (step : Step) → Sends step → Leaves (done peer network step)
  done-leaves (Line i line) sends = line-leaves i line (slice_get network.nodes i)
  done-leaves (Post letters) sends = posted Leaves network letters (each-append IsAddressed network.letters letters addressed sends) addressed
  done-leaves (Store i bytes) sends = store-leaves i bytes (slice_get network.nodes i)

  step-leaves : (result : Result Step Cause) → IfOk result Sends → Leaves (answered_step peer network result)
  step-leaves (Ok step) sends = done-leaves step sends
  step-leaves (Err why) sends = addressed

step-count : {M : Type 0} (peer : Peer M) (network : Network M) (result : Result Step Cause) → count (answered_step peer network result) ≡ length network.nodes
step-count peer network (Ok step) = done-count peer network step
step-count peer network (Err why) = refl

-- properties of a network that lines have reached
record Sound {M : Type 0} (network : Network M) : Type 0 where
  pub four : length network.nodes ≡ 4
  pub addressed : AllByRecursion IsAddressed network.letters

sound-after : {M : Type 0} (peer : Peer M) (network : Network M) (lines : List (List ℕ)) → Sound network → Sound (after peer network lines)
sound-after peer network [] sound = sound
sound-after peer network (line ∷ lines) sound =
    sound-after peer (answered peer network line).next lines (record {
      four = step-count peer network (step_of peer network line) ∙ sound.four;
      addressed = step-leaves peer network sound.four sound.addressed (step_of peer network line) (line-sends peer network sound.four sound.addressed line);
    })

sound : {M : Type 0} (peer : Peer M) (lines : List (List ℕ)) → Sound (after peer (new_network peer) lines)
sound peer lines = sound-after peer (new_network peer) lines (record { four = refl; addressed = tt })

pub are-four : {M : Type 0} (peer : Peer M) (lines : List (List ℕ)) → length (after peer (new_network peer) lines).nodes ≡ 4
are-four peer lines = (sound peer lines).four

pub are-addressed : {M : Type 0} (peer : Peer M) (lines : List (List ℕ)) → AllByRecursion IsAddressed (after peer (new_network peer) lines).letters
are-addressed peer lines = (sound peer lines).addressed

-- ---- A delivered message stores only a file that is wanted:
--     stores-only-wanted

-- ---- the step of a `deliver`

-- the file is wanted by that node
record IsWanted {M : Type 0} (peer : Peer M) (network : Network M) (i : ℕ) (bytes : List ℕ) : Type 0 where
  pub node : M
  pub there : slice_get network.nodes i ≡ Some node
  pub was_wanted : is_among (peer.wanted node) (uri_of bytes) ≡ true

abbrev Delivers : {M : Type 0} → Peer M → Network M → Step → Type 0
Delivers peer network (Line i line) = ⊥
Delivers peer network (Post letters) = ⊤
Delivers peer network (Store i bytes) = IsWanted peer network i bytes

module _ {M : Type 0} (peer : Peer M) (network : Network M) (received : Letter) (node : M) (there : slice_get network.nodes received.to ≡ Some node) where
  kept : (bytes : List ℕ) (test : Bool) → is_among (peer.wanted node) (uri_of bytes) ≡ test
      → Delivers peer network (step_by received [] (cond test (Some bytes) None))
  kept bytes true is = record { node = node; there = there; was_wanted = is }
  kept bytes false is = tt

  answers : (message : Message) → Delivers peer network (answer_step received (answer_of (peer.files node) (peer.wanted node) message))
  answers (Want uris) = tt
  answers (Have uris) = tt
  answers (Blob bytes) = kept bytes (is_among (peer.wanted node) (uri_of bytes)) refl

delivers : {M : Type 0} (peer : Peer M) (network : Network M) (others : Option (List ℕ)) → IfOk (deliver_step peer network others) (Delivers peer network)
delivers peer network others =
    behind (Delivers peer network) (ok_or others cause.Words) _ (λ rest _.
    behind (Delivers peer network) (number_or rest) _ (λ m _.
    behind (Delivers peer network) (ok_or (slice_get network.letters m) cause.Range) _ (λ received _.
    behind (Delivers peer network) (ok_or (message_of received.bytes) cause.Message) _ (λ message _.
    behind (Delivers peer network) (node_at network received.to) _ (λ node is.
    answers peer network received node (ok_or-some (slice_get network.nodes received.to) cause.Range node is) message)))))

-- ---- the effect

abbrev Well : {M : Type 0} → Peer M → Network M → Answered M → Type 0
Well peer network answer = StaysOrGains peer network answer.next

done-well : {M : Type 0} (peer : Peer M) (laws : PeerLaws peer) (network : Network M) (step : Step) → Delivers peer network step → Well peer network (done peer network step)
done-well peer laws network (Line i line) delivers = elim delivers [ ]
done-well peer laws network (Post letters) delivers = posted (Well peer network) network letters (inl refl) (inl refl)
done-well peer laws network (Store i bytes) delivers =
    subst (λ (found : Option _). Well peer network (store_done peer network i bytes found)) (sym delivers.there)
    (inr (record {
      number = i;
      node = delivers.node;
      later = peer.stored delivers.node bytes;
      there = delivers.there;
      gains = record {
        bytes = bytes;
        was_wanted = delivers.was_wanted;
        was_absent = laws.absent delivers.node (uri_of bytes) delivers.was_wanted;
        gained = refl;
      };
      nodes = refl;
      letters = refl;
    }))

step-well : {M : Type 0} (peer : Peer M) (laws : PeerLaws peer) (network : Network M) (result : Result Step Cause) → IfOk result (Delivers peer network) → Well peer network (answered_step peer network result)
step-well peer laws network (Ok step) delivers = done-well peer laws network step delivers
step-well peer laws network (Err why) delivers = inl refl

by-length : {M : Type 0} (peer : Peer M) (laws : PeerLaws peer) (network : Network M) (fits : Bool) (result : Result Step Cause) → IfOk result (Delivers peer network)
    → Well peer network (answered_step peer network (holds_or fits cause.Long >> result))
by-length peer laws network true result delivers = step-well peer laws network result delivers
by-length peer laws network false result delivers = inl refl

delivered-well : {M : Type 0} (peer : Peer M) (laws : PeerLaws peer) (network : Network M) (line : List ℕ) → first_word space line ≡ codes "deliver" → Well peer network (answered peer network line)
delivered-well peer laws network line is =
    by-length peer laws network (nat_le (length line) longest_line) (step_of_words peer network (first_word space line) (other_words space line))
    (subst (λ (word : List ℕ). IfOk (step_of_words peer network word (other_words space line)) (Delivers peer network)) (sym is)
    (delivers peer network (other_words space line)))

pub stores-only-wanted : {M : Type 0} (peer : Peer M) (laws : PeerLaws peer) (lines : List (List ℕ)) (line : List ℕ) → first_word space line ≡ codes "deliver"
    → StaysOrGains peer (after peer (new_network peer) lines) (after peer (new_network peer) (lines ++ line ∷ []))
stores-only-wanted peer laws lines line is =
    subst (λ (next : Network _). StaysOrGains peer (after peer (new_network peer) lines) next) (sym (after-append peer (new_network peer) lines (line ∷ [])))
    (delivered-well peer laws (after peer (new_network peer) lines) line is)

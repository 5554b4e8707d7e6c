-- Whether a URI is among others, by a set:
--     among_keys        a set, by its keys
--     among_pushed      a set with one more
use Rattle.std.proofs.Common.{◌≡◌, ◌∙◌, Bool, true, false, cond, List, [], ◌∷◌, ◌++◌, ap, sym, refl, ◌≤◌, ℕ, nat_le, length, take, filter, Option, Some, None, Result, Ok, Err, IfOk, subst, arith}
use Rattle.std.proofs.lemmas.Bool.Decides.{nat_tests}
use Rattle.std.proofs.lemmas.List.{length-take}
use Rattle.std.proofs.lemmas.List.Sums.{length-filter, count_by-le-length}
use Rattle.std.specs.BTreeMap.{is_at}
use Rattle.std.specs.BTreeSet.{BTreeSet, Updates, contains}
use Rattle.std.specs.List.{list_any, AllByRecursion, flat_map}
use Rattle.std.specs.Prelude.{◌||◌}
use Rattle.st_base.proofs.ListLemmas.{any_push, each-append, each-filter, each-take}
use Rattle.st_hash.specs.Hash.{HashValue, hash_cmp, same_hash, same_hash-equivalence, same_hash-ties}
use Rattle.st_content.specs.Files.{Files, file_at}
use Rattle.st_exchange.specs.Peer.{is_among, answer_of, blob_at, blob_of, each_once, want_of}
use Rattle.st_exchange.specs.Message.{AreListed, IsMessage, IsShort, IsUri, longest_blob, most_uris}
use Rattle.st_exchange.specs.declared.message.Answer.{Answer}
use Rattle.st_exchange.specs.declared.message.Message.{Message}
use Rattle.st_exchange.specs.declared.message.Message.TheVariants.{Want, Have, Blob}
use Rattle.st_exchange.specs.inside.Among.{HasThose}

turned : (first second : HashValue) → same_hash first second ≡ same_hash second first
turned first second = same_hash-equivalence.symm first second

pub among_keys : (set : BTreeSet HashValue) (uri : HashValue) → contains hash_cmp set uri ≡ is_among set.keys uri
among_keys set uri = λ i. list_any (λ other. sym (same_hash-ties uri other) i) set.keys

or_here : (here before : Bool) → cond here true before ≡ (before || here)
or_here true true = refl
or_here true false = refl
or_here false true = refl
or_here false false = refl

module _ (uris : List HashValue) (uri : HashValue) (old new : BTreeSet HashValue) (has : HasThose uris old) where
  pub among_pushed : Updates hash_cmp old new uri true → HasThose (uris ++ uri ∷ []) new
  among_pushed updates other =
      updates.0 other
      ∙ ap (λ (before : Bool). cond (is_at (hash_cmp uri) other) true before) (has other)
      ∙ or_here (is_at (hash_cmp uri) other) (is_among uris other)
      ∙ ap (λ (here : Bool). is_among uris other || here) (sym (same_hash-ties uri other) ∙ turned uri other)
      ∙ sym (any_push (same_hash other) uris uri)

-- ---- Requests and answers are within the limits of messages, and have an encoding:
--     asked-is, asked-short          the request of a node
--     answered-sent, answered-short  the messages of its answer

pub asked-is : (wanted : List HashValue) → AllByRecursion IsUri wanted → AreListed (take most_uris wanted)
asked-is wanted each = record { few = omega (arith, length-take most_uris wanted); each = each-take IsUri most_uris wanted each }

pub asked-short : (wanted : List HashValue) → length (take most_uris wanted) ≤ most_uris
asked-short wanted = omega (arith, length-take most_uris wanted)

filtered-short : (test : HashValue → Bool) (uris : List HashValue) → length uris ≤ most_uris → length (filter test uris) ≤ most_uris
filtered-short test uris short = omega (arith, length-filter test uris, count_by-le-length test uris)

filtered-is : (test : HashValue → Bool) (uris : List HashValue) → AreListed uris → AreListed (filter test uris)
filtered-is test uris are = record {
  few = filtered-short test uris are.few;
  each = each-filter IsUri test uris are.each;
}

-- a property of each short blob and of requests: a request for some URIs of a `Have` has it if the `Have` does
module _ (P : Message → Type 0) (blobs : (bytes : List ℕ) → length bytes ≤ longest_blob → P (Blob bytes))
    (fewer : (test : HashValue → Bool) (uris : List HashValue) → P (Have uris) → P (Want (filter test uris))) where
  blob-holds : (file : Option (List ℕ)) → AllByRecursion P (blob_of file)
  blob-holds None = tt
  blob-holds (Some file) = by (nat_le (length file) longest_blob) refl
    where
      by : (test : Bool) → nat_le (length file) longest_blob ≡ test → AllByRecursion P (cond test (Blob file ∷ []) [])
      by true within =
          let short : length file ≤ longest_blob = grind (arith, nat_tests) in
          (blobs file short, tt)
      by false within = tt

  blobs-hold : (files : Files) (uris : List HashValue) → AllByRecursion P (flat_map (blob_at files) uris)
  blobs-hold files [] = tt
  blobs-hold files (uri ∷ uris) = each-append P (blob_of (file_at uri files)) _ (blob-holds (file_at uri files)) (blobs-hold files uris)

  want-holds : (uris : List HashValue) → P (Want uris) → AllByRecursion P (want_of uris)
  want-holds [] holds = tt
  want-holds (uri ∷ uris) holds = (holds, tt)

  sent-hold : (files : Files) (wanted : List HashValue) (message : Message) → P message → AllByRecursion P (answer_of files wanted message).send
  sent-hold files wanted (Want uris) holds = blobs-hold files (each_once uris)
  sent-hold files wanted (Have uris) holds = want-holds (filter (is_among wanted) uris) (fewer (is_among wanted) uris holds)
  sent-hold files wanted (Blob bytes) holds = tt

  answered-hold : {E : Type 0} (files : Files) (wanted : List HashValue) (message : Message) (result : Result Answer E)
      → IfOk result (λ answer. answer ≡ answer_of files wanted message) → P message → IfOk result (λ answer. AllByRecursion P answer.send)
  answered-hold files wanted message (Ok answer) value holds =
      subst (λ (answer : Answer). AllByRecursion P answer.send) (sym value) (sent-hold files wanted message holds)
  answered-hold files wanted message (Err refused) value holds = tt

pub answered-sent : {E : Type 0} (files : Files) (wanted : List HashValue) (message : Message) (result : Result Answer E)
    → IfOk result (λ answer. answer ≡ answer_of files wanted message) → IsMessage message
    → IfOk result (λ answer. AllByRecursion IsMessage answer.send)
answered-sent = answered-hold IsMessage (λ bytes short. short) filtered-is

pub answered-short : {E : Type 0} (files : Files) (wanted : List HashValue) (message : Message) (result : Result Answer E)
    → IfOk result (λ answer. answer ≡ answer_of files wanted message) → IsShort message
    → IfOk result (λ answer. AllByRecursion IsShort answer.send)
answered-short = answered-hold IsShort (λ bytes short. short) filtered-short

-- The room after the stored messages, and a node that is put back to its place.
use Rattle.std.proofs.Common.{◌≡◌, ◌∙◌, ℕ, zero, suc, ◌+◌, ◌<◌, nat_le, false, List, [], ◌∷◌, length, get_or, drop, slice_set, slice_get, Option, Some, None, IfSome, ap, sym, subst, refl, arith, Bool, true, ◌++◌, Result, Ok, Err, IfOk, option_map, unwrap_or}
use Rattle.std.proofs.lemmas.Bool.{cond_both}
use Rattle.std.proofs.lemmas.Bool.Decides.{nat_tests}
use Rattle.std.proofs.lemmas.List.Sums.{sum_by-cons, sum_by-set}
use Rattle.std.proofs.lemmas.Option.{get_or_from_slice_get, slice_get_within}
use Rattle.std.specs.List.{AllByRecursion, insert, remove, sum_by}
use Rattle.std.specs.Option.{ok_or}
use Rattle.st_base.proofs.ListLemmas.{next_item}
use Rattle.st_base.specs.Answers.{◌>>=◌, ◌>>◌, holds_or}
use Rattle.st_base.specs.Work.{WorkValue}
use Rattle.st_exchange.specs.Peer.{FileDue, LineDue, Peer, PeerLaws, StaysDue, anchors_told}
use Rattle.st_drive.proofs.TableLemmas.{Follows, not_begun}
use Rattle.st_drive.specs.Runs.{course}
use Rattle.st_drive.specs.Lines.{Streams}
use Rattle.st_drive.specs.Tables.{AnswersLines}
use Rattle.st_drive.specs.inside.Parts.{Unread}
use Rattle.st_network.specs.Exchange.{Answered, post_done, post_reply, refused, line_done, store_done, size_of, Network, fits, new_network}
use Rattle.st_network.specs.LineLaws.{accepted-append, proofs-append}
use Rattle.st_network.specs.Run.{network_meaning, exchange_course, DueOver, ExchangeCounts}
use Rattle.st_network.specs.declared.command.Cause.TheVariants as cause
use Rattle.st_network.specs.declared.letters.Letter.{Letter}
use Rattle.st_network.specs.declared.letters.Step.TheVariants.{Line, Store}
use Rattle.st_network.specs.inside.Work.{less, StepDue}

-- ---- a list of nodes

-- an item that was taken out and changed is put back to its place
pub put_back : {X : Type 0} (xs : List X) (i : ℕ) (x : X) → i < length xs → insert (remove xs i) i x ≡ slice_set xs i x
put_back [] i x below = let no : ⊥ = omega (arith, below) in elim no [ ]
put_back (y ∷ ys) zero x below = refl
put_back (y ∷ ys) (suc i) x below = ap (λ (rest : List _). y ∷ rest) (put_back ys i x (omega arith))

-- so if the changed one follows from it, the new list has that at its place
module _ {X : Type 0} (nodes without new : List X) (i : ℕ) (node next : X) (below : i < length nodes) (there : slice_get nodes i ≡ Some node)
    (gone : without ≡ remove nodes i) (is : new ≡ insert without i next) where
  new_is : new ≡ slice_set nodes i next
  new_is = is ∙ ap (λ (rest : List X). insert rest i next) gone ∙ put_back nodes i next below

  pub set_with : {R : Type 0} (f : X → X) (reply : X → R) (told : R) → next ≡ f node → told ≡ reply node
      → IfSome (slice_get nodes i) (λ node. (new ≡ slice_set nodes i (f node)) × (told ≡ reply node))
  set_with f reply told same tells =
      subst (λ (found : Option X). IfSome found (λ node. (new ≡ slice_set nodes i (f node)) × (told ≡ reply node))) (sym there)
      (new_is ∙ ap (λ (next : X). slice_set nodes i next) same, tells)

-- a property of each holds for one
pub each-item : {X : Type 0} (P : X → Type 0) (xs : List X) (i : ℕ) (x : X) → AllByRecursion P xs → i < length xs → x ≡ get_or xs i x → P x
each-item P [] i x each below is = let no : ⊥ = omega (arith, below) in elim no [ ]
each-item P (y ∷ ys) zero x each below is = subst P (sym is) each.0
each-item P (y ∷ ys) (suc i) x each below is = each-item P ys i x each.1 (omega arith) is

-- ---- room

pub less-none : (room size rest : ℕ) → room < size → less room (size + rest) ≡ None
less-none room size rest past =
    let other : nat_le (size + rest) room ≡ false = grind (arith, nat_tests) in
    rw other refl

-- if one message doesn't fit, it and the later ones don't
pub less_stuck : (letters : List Letter) (i : ℕ) (letter : Letter) (left : ℕ) → i < length letters → letter ≡ get_or letters i letter
    → left < size_of letter → less left (sum_by size_of (drop i letters)) ≡ None
less_stuck letters i letter left inside is past =
    ap (λ (rest : List Letter). less left (sum_by size_of rest)) (next_item letters i letter inside is)
    ∙ ap (less left) (sum_by-cons size_of letter (drop (i + 1) letters))
    ∙ less-none left (size_of letter) (sum_by size_of (drop (i + 1) letters)) past

-- ---- Steps of definitions, and the possible effects of posting messages:
--     behind, behind_test   a property of the result after the first step is one of the whole
--     ok_or-some            the value of a step
--     posted                a property of both answers to sent messages

pub behind : {A B E : Type 0} (P : B → Type 0) (first : Result A E) (next : A → Result B E)
    → ((x : A) → first ≡ Ok x → IfOk (next x) P) → IfOk (first >>= next) P
behind P (Ok x) next holds = holds x refl
behind P (Err e) next holds = tt

pub behind_test : {B E : Type 0} (P : B → Type 0) (test : Bool) (e : E) (next : Result B E) → IfOk next P → IfOk (holds_or test e >> next) P
behind_test P true e next holds = holds
behind_test P false e next holds = tt

pub ok_or-some : {A E : Type 0} (option : Option A) (e : E) (x : A) → ok_or option e ≡ Ok x → option ≡ Some x
ok_or-some None e x is = cc
ok_or-some (Some y) e x is = cc

-- the network with these messages after the others, and their number
abbrev pub sent : {M : Type 0} → Network M → List Letter → Answered M
sent network letters = record { next = record network { letters = network.letters ++ letters }; reply = post_reply letters }

pub posted : {M : Type 0} (P : Answered M → Type 0) (network : Network M) (letters : List Letter) → P (sent network letters) → P (refused network cause.Full)
    → P (post_done network letters)
posted P network letters all none =
    cond_both (fits (network.letters ++ letters)) (sent network letters) (refused network cause.Full) P (λ _. all) (λ _. none)

-- ---- Bounds on the work that four nodes count:
--     line_due, file_due    a step, by the bound of the node that answers a line or keeps a file
--     none_over             lines, if nothing is counted
--     exchange_counts       lines from the start
--     counts_more           and then more

-- a sum over all nodes, after one of them became another
sum_with : {M : Type 0} (f : M → ℕ) (nodes : List M) (i : ℕ) (node next : M) → slice_get nodes i ≡ Some node
    → sum_by f (slice_set nodes i next) + f node ≡ sum_by f nodes + f next
sum_with f nodes i node next there =
    subst (λ was. sum_by f (slice_set nodes i next) + f was ≡ sum_by f nodes + f next) (get_or_from_slice_get nodes i node node there)
    (sum_by-set f nodes i next node (slice_get_within nodes i node there))

module _ {M : Type 0} (peer : Peer M) where
  -- so its bound is one of all nodes
  one_due : (nodes : List M) (i : ℕ) (next : M) (anchors texts : ℕ) (old new : WorkValue)
      → ((node : M) × (slice_get nodes i ≡ Some node) × StaysDue peer (node ∷ []) (next ∷ []) anchors texts old new)
      → StaysDue peer nodes (slice_set nodes i next) anchors texts old new
  one_due nodes i next anchors texts old new found = record {
    files = omega (arith, found.2.files, sum_with peer.due nodes i found.0 next found.1);
    proofs = omega (arith, found.2.proofs, sum_with peer.proofs_due nodes i found.0 next found.1);
  }

  module _ {nodes : List M} {letters : List Letter} {network : Network M} (is : record { nodes = nodes; letters = letters } ≡ network) where
    -- an answer that adds these signed texts stays within its bound
    abbrev Bounds : Answered M → ℕ → WorkValue → WorkValue → Type 0
    Bounds answer texts old new = StaysDue peer network.nodes answer.next.nodes (anchors_told answer.reply) texts old new

    pub line_due : (i : ℕ) (line : List ℕ) (old new : WorkValue)
        → ((node : M) × (slice_get nodes i ≡ Some node) × LineDue peer node line old new) → StepDue peer network (Ok (Line i line)) old new
    line_due i line old new found =
        let there : slice_get network.nodes i ≡ Some found.0 = subst (λ (network : Network M). slice_get network.nodes i ≡ Some found.0) is found.1 in
        subst (λ node. Bounds (line_done peer network i line node) (unwrap_or (option_map (λ node. peer.proofs_added node line) node) 0) old new)
        (sym there) (one_due network.nodes i (peer.next found.0 line) _ _ old new (found.0, there, found.2))

    pub file_due : (i : ℕ) (bytes : List ℕ) (old new : WorkValue)
        → ((node : M) × (slice_get nodes i ≡ Some node) × FileDue peer node bytes old new) → StepDue peer network (Ok (Store i bytes)) old new
    file_due i bytes old new found =
        let there : slice_get network.nodes i ≡ Some found.0 = subst (λ (network : Network M). slice_get network.nodes i ≡ Some found.0) is found.1 in
        subst (λ node. Bounds (store_done peer network i bytes node) 0 old new)
        (sym there) (one_due network.nodes i (peer.stored found.0 bytes) 0 0 old new (found.0, there, found.2))

pub none_over : {M : Type 0} (peer : Peer M) (network : Network M) (lines : List (List ℕ)) (work : WorkValue) → DueOver peer network lines network work work
none_over peer network lines work = record { files = omega arith; proofs = omega arith }

-- ---- from the start

four_none : {M : Type 0} (f : M → ℕ) (start : M) → f start ≡ 0 → sum_by f (start ∷ start ∷ start ∷ start ∷ []) ≡ 0
four_none f start none = omega (arith, none)

module _ {M : Type 0} (peer : Peer M) (lines : List (List ℕ)) (old new : WorkValue) where
  pub exchange_counts : PeerLaws peer → (later : Network M) → DueOver peer (new_network peer) lines later old new → ExchangeCounts peer lines old new
  exchange_counts laws later due = record {
    files = omega (arith, due.files, four_none peer.due peer.start laws.none_due);
    proofs = omega (arith, due.proofs, four_none peer.proofs_due peer.start laws.no_proofs_due);
  }

  pub counts_more : (more : List (List ℕ)) → ExchangeCounts peer lines old new → ExchangeCounts peer (lines ++ more) old new
  counts_more more counts = record {
    files = omega (arith, counts.files, accepted-append peer (new_network peer) lines more);
    proofs = omega (arith, counts.proofs, proofs-append peer (new_network peer) lines more);
  }

-- ---- A run of four nodes, by their replies to lines:
--     exchange_run   if it started
--     unbegun_run    if memory ran out before

pub exchange_run : {M : Type 0} (peer : Peer M) → PeerLaws peer → (network : Network M) (work counted : WorkValue × Unit {0})
    → network ≡ new_network peer
    → Follows (course (network_meaning peer) network work counted) (exchange_course peer work.0 counted.0)
exchange_run peer laws network work counted is = rw is record {
  told = λ told. told;
  prompt = λ never. absurd never;
  answers = λ t lines. refl;
  ran_over = λ lines ran. exchange_counts peer lines work.0 counted.0 laws ran.0 ran.1.due;
  gave_up_over = λ lines gave. exchange_counts peer lines work.0 counted.0 laws gave.0 gave.1;
}

pub unbegun_run : {M : Type 0} (peer : Peer M) → PeerLaws peer → (work : WorkValue) {limit : ℕ} {io : Streams} → Unread io
    → AnswersLines (exchange_course peer work work) limit io ⊥ 6
unbegun_run peer laws work unread =
    not_begun (search arith) unread (exchange_course peer work work)
    (exchange_counts peer [] work work laws (new_network peer) (none_over peer (new_network peer) [] work)) (λ told. refl) refl

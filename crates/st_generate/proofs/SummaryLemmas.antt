-- The final states of the two nodes.
--     ask_next       one more identifier
--     same_ends      equal, if their parts are
use Rattle.std.proofs.Common.{◌≡◌, ◌∙◌, ℕ, ◌+◌, ◌<◌, List, length, get_or, refl, sym, ap, arith, add-one, [], ◌∷◌, ◌++◌, map, append_assoc, ◌*◌, ◌≤◌}
use Rattle.st_base.specs.Texts.{HasNo}
use Rattle.st_exchange.specs.Peer.{Peer}
use Rattle.st_workload.proofs.OrderLemmas.{each_at, length-each, round_told}
use Rattle.st_workload.specs.Identifier.{each, did_suffix, identity_of, round_lines}
use Rattle.st_workload.specs.declared.identity.Identity.{Identity}
use Rattle.st_workload.specs.inside.Identity.{line_of}
use Rattle.st_drive.proofs.LineLemmas.{split_line, split_open}
use Rattle.st_drive.specs.Lines.{whole_lines}
use Rattle.st_generate.specs.Summary.{batched, batches_of, content_line, all_asked, asked, resolve_line}
use Rattle.st_generate.specs.Talk.{TalkValue, told, counted, reply, tell}
use Rattle.st_generate.specs.declared.ends.Ends.{Ends}
use Rattle.st_generate.specs.declared.plan.Plan.{Plan}
use Rattle.st_generate.specs.declared.rounds.Batches.{Batches}
use Rattle.st_generate.specs.declared.talk.Accepted.{Accepted}
use Rattle.st_generate.specs.inside.Codes.{IsPaid}

module _ (seed dids rounds : ℕ) (identities : List Identity) (all : identities ≡ each dids (identity_of seed rounds)) where
  pub count_is : length identities ≡ dids
  count_is = ap (λ (items : List Identity). length items) all ∙ length-each (identity_of seed rounds) dids

  item_is : (i : ℕ) (identity : Identity) → i < length identities → identity ≡ get_or identities i identity → identity ≡ identity_of seed rounds i
  item_is i identity inside is =
      let below : i < dids = omega (arith, count_is) in
      is ∙ ap (λ (items : List Identity). get_or items i identity) all ∙ each_at (identity_of seed rounds) dids i identity below

  more_asked : {M : Type 0} (peer : Peer M) (i : ℕ) (start : Ends M)
      → all_asked peer seed (i + 1) start ≡ asked peer (resolve_line (did_suffix seed i)) (all_asked peer seed i start)
  more_asked peer i start = rw (add-one i) refl

  pub ask_next : {M : Type 0} (peer : Peer M) (i : ℕ) (identity : Identity) (start : Ends M) → i < length identities
      → identity ≡ get_or identities i identity
      → asked peer (resolve_line identity.suffix) (all_asked peer seed i start) ≡ all_asked peer seed (i + 1) start
  ask_next peer i identity start inside is =
      ap (λ (one : Identity). asked peer (resolve_line one.suffix) (all_asked peer seed i start)) (item_is i identity inside is)
      ∙ sym (more_asked peer i start)

-- final states with equal parts
pub same_ends : {M : Type 0} (one other : Ends M) → one.first ≡ other.first → one.second ≡ other.second
    → one.resolved ≡ other.resolved → one.agreed ≡ other.agreed → one ≡ other
same_ends one other first second resolved agreed =
    ap (λ (talk : TalkValue _). record one { first = talk }) first
    ∙ ap (λ (talk : TalkValue _). record one { first = other.first; second = talk }) second
    ∙ ap (λ n. record other { resolved = n; agreed = one.agreed }) resolved
    ∙ ap (λ n. record other { agreed = n }) agreed

-- ---- The lines of a reply, split at the first line feed.

pub first_line : (text line rest : List ℕ) → HasNo 10 line → text ≡ line ++ 10 ∷ rest → whole_lines text ≡ line ∷ whole_lines rest
first_line text line rest none is =
    ap whole_lines is ∙ ap (λ (pieces : List (List ℕ) × List ℕ). pieces.0) (split_line line rest none)

pub no_line : (text : List ℕ) → HasNo 10 text → whole_lines text ≡ []
no_line text none = ap (λ (pieces : List (List ℕ) × List ℕ). pieces.0) (split_open text none)

-- ---- The batches of the first node.
--     batch_next     one more batch
--     file_next      one more file of a reply
--     same_batches   equal, if their parts are

more_batches : {M : Type 0} (peer : Peer M) (seed dids round : ℕ)
    → batches_of peer seed dids (round + 1)
    ≡ batched peer round (told peer (round_lines seed dids round) (batches_of peer seed dids round).talk)
    (batches_of peer seed dids round)
more_batches peer seed dids round = rw (add-one round) refl

pub batch_next : {M : Type 0} (peer : Peer M) (plan : Plan) (round : ℕ) (identities : List Identity)
    → identities ≡ each plan.dids (identity_of plan.seed plan.rounds) → round < plan.rounds + 1
    → let before = batches_of peer plan.seed plan.dids round in
    batched peer round (told peer (map (line_of round) identities) before.talk) before ≡ batches_of peer plan.seed plan.dids (round + 1)
batch_next peer plan round identities all inside =
    let before = batches_of peer plan.seed plan.dids round in
    ap (λ (lines : List (List ℕ)). batched peer round (told peer lines before.talk) before)
    (ap (map (line_of round)) all ∙ round_told plan.seed plan.dids plan.rounds round inside)
    ∙ sym (more_batches peer plan.seed plan.dids round)

pub file_next : (files more : List (List ℕ)) (text line rest : List ℕ) → HasNo 10 line → text ≡ line ++ 10 ∷ rest
    → more ≡ files ++ content_line line ∷ []
    → more ++ map content_line (whole_lines rest) ≡ files ++ map content_line (whole_lines text)
file_next files more text line rest none cut put =
    ap (λ (put : List (List ℕ)). put ++ map content_line (whole_lines rest)) put
    ∙ append_assoc files (content_line line ∷ []) (map content_line (whole_lines rest))
    ∙ sym (ap (λ (lines : List (List ℕ)). files ++ map content_line lines) (first_line text line rest none cut))

-- batches with equal parts
pub same_batches : {M : Type 0} (one other : Batches M) → one.talk ≡ other.talk → one.anchors ≡ other.anchors
    → one.files ≡ other.files → one ≡ other
same_batches one other talk anchors files =
    ap (λ (talk : TalkValue _). record one { talk = talk }) talk
    ∙ ap (λ (lines : List (List ℕ)). record other { anchors = lines; files = one.files }) anchors
    ∙ ap (λ (all : List (List ℕ)). record other { files = all }) files

-- ---- Sending a node one more line.
--     within         at most five files are read for each anchor that was accepted
--     tell_is        the node afterwards, with its counts

-- ---- reads are paid

pub none_read : (due : ℕ) → due ≡ 0 → IsPaid 0 due 0
unfolding IsPaid
none_read due none = omega (arith, none)

no_more : (read due some : ℕ) → read + due ≤ 5 * some → some * 5 < read → ⊥
no_more read due some paid beyond = omega arith

pub within : (read due anchors : ℕ) → IsPaid read due anchors → anchors * 5 < read → ⊥
unfolding IsPaid
within read due anchors paid beyond = no_more read due anchors paid beyond

-- ---- one more line

abbrev talk_of : {M : Type 0} → M → Accepted → TalkValue M
talk_of machine all = record { machine = machine; accepted = all }

module _ {M : Type 0} (peer : Peer M) where
  pub tell_is : (machine next : M) (line : List ℕ) (had all : Accepted) → next ≡ peer.next machine line
      → all ≡ counted line (peer.reply machine line) had → talk_of next all ≡ tell peer line (talk_of machine had)
  unfolding tell reply
  tell_is machine next line had all is more =
      ap (λ (next : M). talk_of next all) is ∙ ap (λ (all : Accepted). talk_of (peer.next machine line) all) more

  pub reply_is : (machine : M) (line text : List ℕ) (had : Accepted) → text ≡ peer.reply machine line
      → text ≡ reply peer (talk_of machine had) line
  unfolding reply
  reply_is machine line text had is = is

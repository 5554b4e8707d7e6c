-- A node that receives lines, and how many of them it accepted.
use Rattle.std.specs.Prelude.{ℕ, ◌+◌, Bool, if◌then◌else◌, List, [], ◌∷◌, codes, bytes_eq, length, take}
use Rattle.st_generate.specs.declared.talk.Accepted.{Accepted}
use Rattle.st_exchange.specs.Peer.{Peer}

-- a node of type M, and the counts of lines it accepted so far
pub record TalkValue (M : Type 0) : Type 0 where
  pub machine : M
  pub accepted : Accepted

-- before any line
unfoldable pub new_talk : {M : Type 0} → Peer M → TalkValue M
new_talk peer = record {
  machine = peer.start;
  accepted = record { submissions = 0; anchors = 0; rollbacks = 0; files = 0 };
}

-- a text has this prefix
abbrev pub begins_with : List ℕ → List ℕ → Bool
begins_with front text = bytes_eq front (take (length front) text)

-- 1 if the condition holds
abbrev pub one_if : Bool → ℕ
one_if holds = if holds then 1 else 0

-- one more line: a submission, an anchor and a rollback are accepted if the reply says so, and a file always is
unfoldable pub counted : List ℕ → List ℕ → Accepted → Accepted
counted line reply accepted = record {
  submissions = accepted.submissions + one_if (begins_with (codes "queued ") reply);
  anchors = accepted.anchors + one_if (begins_with (codes "anchored ") reply);
  rollbacks = accepted.rollbacks + one_if (begins_with (codes "cut ") reply);
  files = accepted.files + one_if (begins_with (codes "content ") line);
}

-- the reply to a line
unfoldable pub reply : {M : Type 0} → Peer M → TalkValue M → List ℕ → List ℕ
reply peer talk line = peer.reply talk.machine line

-- after a line
unfoldable pub tell : {M : Type 0} → Peer M → List ℕ → TalkValue M → TalkValue M
tell peer line talk = record {
  machine = peer.next talk.machine line;
  accepted = counted line (reply peer talk line) talk.accepted;
}

-- after these lines, one after another
abbrev pub told : {M : Type 0} → Peer M → List (List ℕ) → TalkValue M → TalkValue M
told peer [] talk = talk
told peer (line ∷ lines) talk = told peer lines (tell peer line talk)

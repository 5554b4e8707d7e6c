use Rattle.std.proofs.Common.{◌≡◌, map}
use Rattle.st_base.specs.Texts.{spaced}
use Rattle.st_node.specs.Machine.{state_word}
use Rattle.st_node.proofs.ReplyLemmas.{with_words}
use Rattle.st_node.proofs.replies.tell_states.Given as goal

-- the text and the words of the remaining roles are all of it
abbrev pub invariant-loop-state : goal.invariant-loop-state
invariant-loop-state l = with_words state_word l.states l.rest.items l.state-index ≡ spaced (map state_word l.states)

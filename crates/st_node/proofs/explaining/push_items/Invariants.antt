use Rattle.std.proofs.Common.{◌≡◌, ◌++◌}
use Rattle.st_cert.specs.Certificate.{anchored_items}
use Rattle.st_node.specs.Machine.{item_lines}
use Rattle.st_node.proofs.ReplyLemmas.{with_lines}
use Rattle.st_node.proofs.explaining.push_items.Given as goal

-- the text and the lines of the remaining items are all of it
abbrev pub invariant-loop-at : goal.invariant-loop-at
invariant-loop-at l =
    with_lines l.items l.verdicts l.text.items l.at ≡ l.initial.text.items ++ item_lines (anchored_items l.items) l.verdicts

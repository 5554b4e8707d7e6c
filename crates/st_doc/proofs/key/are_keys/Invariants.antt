use Rattle.std.proofs.Common.{◌≡◌, length}
use Rattle.std.specs.List.{list_all}
use Rattle.st_doc.specs.Document.{is_key}
use Rattle.st_doc.proofs.key.are_keys.Given as goal

abbrev pub invariant-keys : goal.invariant-keys
invariant-keys l = list_all is_key l.fn.keys ≡ list_all is_key l.left

abbrev pub decreases-keys : goal.decreases-keys
decreases-keys l = length l.left

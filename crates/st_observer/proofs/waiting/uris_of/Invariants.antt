use Rattle.std.proofs.Common.{◌≡◌, ◌++◌}
use Rattle.std.specs.Map.{keys_of}
use Rattle.st_observer.proofs.waiting.uris_of.Given as goal

abbrev pub invariant-files : goal.invariant-files
invariant-files l = l.uris ++ l.key-iterator ≡ keys_of l.files.entries

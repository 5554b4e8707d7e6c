use Rattle.std.proofs.Common.{◌≡◌, drop}
use Rattle.std.specs.List.{list_all}
use Rattle.st_doc.specs.Document.{is_name}
use Rattle.st_doc.proofs.check.are_names.Given as goal

abbrev pub invariant-loop-name : goal.invariant-loop-name
invariant-loop-name l = list_all is_name l.names ≡ list_all is_name (drop l.name-index l.names)

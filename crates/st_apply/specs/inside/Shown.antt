use Rattle.std.specs.Prelude.{Some}
use Rattle.st_doc.specs.Document.{PlainDocument}
use Rattle.st_hash.specs.Hash.{HashValue}
use Rattle.st_apply.specs.Codes.{Change, State, active}
use Rattle.st_apply.specs.Applied.{changed}
use Rattle.st_apply.specs.declared.opening.StateParts.TheVariants as parts
use Rattle.st_apply.specs.declared.state.Active.{Active as ActiveParts}

-- an active state after an update whose delta counts
abbrev pub shown_updated : Change HashValue PlainDocument → ActiveParts → State HashValue PlainDocument
shown_updated change parts = active parts.recovery (Some change.update) (changed parts.document change)

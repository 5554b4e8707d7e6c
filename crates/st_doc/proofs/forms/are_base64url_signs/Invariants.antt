use Rattle.std.proofs.Common.{◌≡◌, drop}
use Rattle.std.specs.List.{list_all}
use Rattle.st_doc.specs.Document.{is_base64url_sign}
use Rattle.st_doc.proofs.forms.are_base64url_signs.Given as goal

abbrev pub invariant-loop-byte : goal.invariant-loop-byte
invariant-loop-byte l = list_all is_base64url_sign l.bytes ≡ list_all is_base64url_sign (drop l.byte-index l.bytes)

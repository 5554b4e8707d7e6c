-- Which operations an active state awaits: a test of two hashes, before any other part of an operation is read.
use Rattle.std.specs.Prelude.{Bool, false, Option}
use Rattle.st_hash.specs.Hash.{HashValue}
use Rattle.st_doc.specs.Document.{PlainDocument, document_in, plain_document}
use Rattle.st_ops.specs.Operation.{PlainOperation, creating, updating, recovering, deactivating}
use Rattle.st_apply.specs.Codes.{meets_any}
use Rattle.st_apply.specs.Applied.{reveal_meets, sidetree}
use Rattle.st_apply.specs.declared.document.DocumentForm.{DocumentForm}
use Rattle.st_apply.specs.declared.document.DocumentForm.TheVariants.{Packed, Parts}

-- An active state with these commitments awaits the operation: its reveal value meets the commitment
-- that its kind reveals, after DIF Sidetree v1.0.0, "Operation Compilation"; the rules are this project's own.
-- A create reveals none.
abbrev pub is_awaited : HashValue → Option HashValue → PlainOperation → Bool
is_awaited recovery update (creating suffix_data delta) = false
is_awaited recovery update (updating target proof delta) = meets_any sidetree update target.reveal
is_awaited recovery update (recovering target proof delta) = reveal_meets target.reveal recovery
is_awaited recovery update (deactivating target proof) = reveal_meets target.reveal recovery

-- ---- The stored form of the document of a state.

-- the stored document: the contents of the lists of its JSON, or its parts
abbrev pub document_kept : DocumentForm → PlainDocument
document_kept (Packed json) = document_in json
document_kept (Parts document) = plain_document document

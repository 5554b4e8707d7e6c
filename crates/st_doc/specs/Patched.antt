-- A document after the patches of a delta, one after another. If one fails, all fail.
use Rattle.std.specs.Prelude.{ℕ, ◌+◌, List, [], ◌∷◌, Option, Some, None, ok_or, Result, Ok}
use Rattle.st_base.specs.Answers.{◌>>=◌}
use Rattle.st_params.specs.ParamsValue.{ParamsValue}
use Rattle.st_doc.specs.Patch.{after_patch, PlainPatch}
use Rattle.st_doc.specs.Document.{PlainDocument}
use Rattle.st_doc.specs.declared.patch.PatchRefused.{PatchRefused}
use Rattle.st_doc.specs.declared.patch.PatchRefused.TheVariants.{PatchFailed, WantOfMemory}

-- The document after all patches, or the number of the first that fails; `i` is the number of the first patch.
abbrev pub patched : ParamsValue → ℕ → List PlainPatch → PlainDocument → Result PlainDocument ℕ
patched limits i [] document = Ok document
patched limits i (patch ∷ patches) document = do
  next ← ok_or (after_patch limits patch document) i
  patched limits (i + 1) patches next

-- the number of the patch that a refusal names: none, if memory ran out
abbrev pub blamed : PatchRefused → Option ℕ
blamed (PatchFailed i) = Some i
blamed WantOfMemory = None

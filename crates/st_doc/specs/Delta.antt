-- Deltas, after DIF Sidetree v1.0.0, "Create" to "Recover"; the rules are this project's own. A delta has patches and
-- the commitment to the next update.
use Rattle.std.specs.Prelude.{ℕ, ◌+◌, nat_le, List, [], ◌∷◌, map, codes, Option, Some, None, ok_or, option_and_then, Result, Ok}
use Rattle.st_base.specs.Answers.{◌>>=◌, ◌>>◌, holds_or}
use Rattle.st_plain.specs.Measures.{depth_of, size_of}
use Rattle.st_plain.specs.Objects.{list_in, text_in}
use Rattle.st_plain.specs.Plain.{Plain}
use Rattle.st_plain.specs.Shapes.{both_members}
use Rattle.st_hash.specs.Hash.{HashValue, hash_of_text_at}
use Rattle.st_params.specs.ParamsValue.{ParamsValue}
use Rattle.st_doc.specs.Patch.{PlainPatch, patch_of, plain_patch}
use Rattle.st_doc.specs.declared.delta.Delta.{Delta}
use Rattle.st_doc.specs.declared.delta.DeltaRefused.{DeltaRefused}
use Rattle.st_doc.specs.declared.delta.DeltaRefused.TheVariants.{TooLong, BadDelta, BadPatch, WantOfMemory}

-- a delta: patches, and the commitment to the key of the next update
pub record PlainDelta : Type 0 where
  pub patches : List PlainPatch
  pub update : HashValue

-- the plain value of a `Delta`
abbrev pub plain_delta : Delta → PlainDelta
plain_delta delta = record { patches = map plain_patch delta.patches; update = delta.update }

-- the hash of the version whose text is the value
abbrev pub hash_in : ℕ → Plain → Option HashValue
hash_in version value = option_and_then (hash_of_text_at version) (text_in value)

-- The patches of these values, or the number of the first that is not a patch; `i` is the number of the first value.
abbrev pub patches_of : ParamsValue → ℕ → List Plain → Result (List PlainPatch) DeltaRefused
patches_of limits i [] = Ok []
patches_of limits i (value ∷ values) = do
  patch ← ok_or (patch_of limits value) (BadPatch i)
  patches ← patches_of limits (i + 1) values
  Ok (patch ∷ patches)

-- The values in `patches` and the update commitment of a value with the outer form of a delta. Else the reason: its
-- canonical text is too long; or it is not an object of `patches`, a list, and `updateCommitment`, a hash text of the
-- version, or nests more than 64 deep.
unfoldable pub outer_of : ParamsValue → Plain → Result (List Plain × HashValue) DeltaRefused
outer_of limits delta = do
  holds_or (nat_le (size_of delta) limits.max_delta) TooLong
  both ← ok_or (both_members (codes "patches") (codes "updateCommitment") (Some delta)) BadDelta
  update ← ok_or (hash_in limits.version both.1) BadDelta
  holds_or (nat_le (depth_of delta) 64) BadDelta
  values ← ok_or (list_in both.0) BadDelta
  Ok (values, update)

-- The delta of a value, or the first fault: its outer form, or a value that is not a patch.
unfoldable pub delta_of : ParamsValue → Plain → Result PlainDelta DeltaRefused
delta_of limits delta = do
  outer ← outer_of limits delta
  patches ← patches_of limits 0 outer.0
  Ok (record { patches = patches; update = outer.1 })

-- what a refusal says about the value: nothing, if memory ran out
abbrev pub refusal_of : DeltaRefused → Option DeltaRefused
refusal_of TooLong = Some TooLong
refusal_of BadDelta = Some BadDelta
refusal_of (BadPatch i) = Some (BadPatch i)
refusal_of WantOfMemory = None

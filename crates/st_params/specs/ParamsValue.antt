-- The limits of files, texts and documents, by version. Sizes are in bytes, those of deltas and
-- documents of their canonical texts.
use Rattle.std.specs.Prelude.{ℕ, ◌==◌, if◌then◌else◌, nat_le, Option, Some, None}

-- the limits of one version
pub record ParamsValue : Type 0 where
  pub version : ℕ
  -- how many operations a batch may declare
  pub max_operations : ℕ
  -- the size of a core index file and of a provisional index file
  pub max_index : ℕ
  -- the size of a core proof file and of a provisional proof file
  pub max_proofs : ℕ
  -- the size of a chunk file
  pub max_chunk : ℕ
  -- the size of a delta
  pub max_delta : ℕ
  -- the size of a signed text
  pub max_signed : ℕ
  -- the size of a writer's lock id
  pub max_lock_id : ℕ
  -- the size of a document, and how deep it may nest
  pub max_document : ℕ
  pub max_depth : ℕ

-- the first number in version 1, and the second in version 2
abbrev pub in_version : ℕ → ℕ → ℕ → ℕ
in_version version first second = if version == 1 then first else second

-- the limits of a version
abbrev pub params_of : ℕ → ParamsValue
params_of version = record {
  version = version;
  max_operations = in_version version 1000 5000;
  max_index = 1000000;
  max_proofs = 16000000;
  max_chunk = 10000000;
  max_delta = in_version version 1000 2000;
  max_signed = 13000;
  max_lock_id = 200;
  max_document = 16384;
  max_depth = 32;
}

-- ---- The version of the limits at a height. A schedule is the height from which version 2 applies, if any.

-- the version at a height: 2 from the schedule's height on, if it has one, and else 1
abbrev pub version_at : Option ℕ → ℕ → ℕ
version_at None height = 1
version_at (Some second) height = if nat_le second height then 2 else 1

-- the limits at a height
abbrev pub params_at : Option ℕ → ℕ → ParamsValue
params_at schedule height = params_of (version_at schedule height)

-- the limits of the highest version
abbrev pub newest_of : Option ℕ → ParamsValue
newest_of None = params_of 1
newest_of (Some second) = params_of 2

-- The effect of a step of a JSON Patch on a value (RFC 6902, section 4).
use Rattle.std.specs.Prelude.{ℕ, Bool, true, false, not, ◌&&◌, List, [], ◌∷◌, bytes_eq, Option, Some, None}
use Rattle.st_base.specs.Options.{◌>>=◌, ◌>>◌}
use Rattle.st_plain.specs.Measures.{fits, is_equal}
use Rattle.st_plain.specs.Plain.{Plain}
use Rattle.st_jsonpatch.specs.Pointer.{at}
use Rattle.st_jsonpatch.specs.Edited.{edited, put_new, take_out, set_to}
use Rattle.st_jsonpatch.specs.Step.{PlainStep, add, remove, replace, move, copy, test}

-- at the empty path the value replaces the whole document
abbrev pub added : Plain → List (List ℕ) → Plain → Option Plain
added new [] value = Some new
added new (token ∷ path) value = edited (put_new new) token path value

-- the root can't be removed
abbrev pub removed : List (List ℕ) → Plain → Option Plain
removed [] value = None
removed (token ∷ path) value = edited take_out token path value

-- `replace`: the new value at the path, which must exist
abbrev pub replaced : Plain → List (List ℕ) → Plain → Option Plain
replaced new [] value = Some new
replaced new (token ∷ path) value = edited (set_to new) token path value

-- the second path leads into the value at the first
abbrev pub is_above : List (List ℕ) → List (List ℕ) → Bool
is_above from [] = false
is_above [] (token ∷ path) = true
is_above (first ∷ from) (token ∷ path) = bytes_eq first token && is_above from path

-- a value can't be moved into itself
abbrev pub moved : List (List ℕ) → List (List ℕ) → Plain → Option Plain
moved from path value = do
  not (is_above from path)
  entry ← at from value
  rest ← removed from value
  added entry path rest

-- `copy`: the value at the first path, added at the second
abbrev pub copied : List (List ℕ) → List (List ℕ) → Plain → Option Plain
copied from path value = do
  entry ← at from value
  added entry path value

-- `test`: nothing changes if the value is the expected one
abbrev pub tested : Plain → List (List ℕ) → Plain → Option Plain
tested expected path value = do
  entry ← at path value
  is_equal entry expected
  Some value

-- the value after a step, without the bounds
abbrev pub changed : PlainStep → Plain → Option Plain
changed (add path new) = added new path
changed (remove path) = removed path
changed (replace path new) = replaced new path
changed (move from path) = moved from path
changed (copy from path) = copied from path
changed (test path expected) = tested expected path

-- The value after a step, if the step does not fail. It also fails if the whole value after it nests too deep, or its
-- canonical text is too long.
abbrev pub stepped : ℕ → ℕ → PlainStep → Plain → Option Plain
stepped max_depth max_size step value = do
  new ← changed step value
  fits max_depth max_size new
  Some new

-- Texts that all differ.
use Rattle.std.specs.Prelude.{ℕ, Bool, not, bytes_eq, List}
use Rattle.std.specs.List.{list_any}
use Rattle.st_base.specs.Lists.{has_twice}

-- the text is one of these
abbrev pub is_among : List (List ℕ) → List ℕ → Bool
is_among texts text = list_any (bytes_eq text) texts

-- no text appears twice
abbrev pub none_twice : List (List ℕ) → Bool
none_twice texts = not (has_twice bytes_eq texts)

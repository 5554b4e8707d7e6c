-- The names of members, and their order (RFC 8785, section 3.2.3).
use Rattle.std.specs.Prelude.{ℕ, List, Bool, bytes_eq}
use Rattle.std.specs.Char.Escape.{encode_utf16}
use Rattle.std.specs.Cmp.Lexicographic.{slice_cmp}
use Rattle.std.specs.List.{flat_map}
use Rattle.std.specs.Ordering.{nat_cmp}
use Rattle.std.specs.Str.{chars}
use Rattle.std.specs.declared.cmp.Ordering.{Ordering}

-- the UTF-16 code units of a text, which is given by its bytes in UTF-8
abbrev pub utf16_units : List ℕ → List ℕ
utf16_units text = flat_map encode_utf16 (chars text)

-- Two names, compared code unit by code unit, a proper prefix is less.
abbrev pub name_cmp : List ℕ → List ℕ → Ordering
name_cmp first second = slice_cmp nat_cmp (utf16_units first) (utf16_units second)

-- the same name
abbrev pub is_name : List ℕ → List ℕ → Bool
is_name name other = bytes_eq name other

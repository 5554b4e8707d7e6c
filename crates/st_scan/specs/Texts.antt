-- A JSON value that is a text, compared with another text.
use Rattle.std.specs.Prelude.{ℕ, List, Bool, false, bytes_eq}
use Rattle.st_plain.specs.Plain.{Plain, text}

-- it is this text
abbrev pub is_text_of : List ℕ → Plain → Bool
is_text_of word (text bytes) = bytes_eq bytes word
is_text_of word other = false

-- Compact signed texts (RFC 7515, section 7.1): three texts joined by two dots.
use Rattle.std.specs.Prelude.{ℕ, List, ◌∷◌, ◌++◌, Option, Some}
use Rattle.st_base.specs.Options.{◌>>=◌}
use Rattle.st_base.specs.Texts.{cut_at}

-- the byte of a dot
abbrev pub dot : ℕ
dot = 46

-- the three texts between the first two dots, and the signed input: the first two with their dot
pub record Texts : Type 0 where
  pub input : List ℕ
  pub header : List ℕ
  pub payload : List ℕ
  pub signature : List ℕ

-- A signed text, split at its first two dots (RFC 7515, section 3.1). The signed input is the part before the second
-- dot.
abbrev pub texts_of : List ℕ → Option Texts
texts_of text = do
  (header, rest) ← cut_at dot text
  (payload, signature) ← cut_at dot rest
  Some (record { input = header ++ dot ∷ payload; header = header; payload = payload; signature = signature })

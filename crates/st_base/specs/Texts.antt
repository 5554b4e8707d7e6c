-- The stored form of a text that may be part of a file.
use Rattle.std.specs.Fmt.{decimal}
use Rattle.std.specs.List.{AllByRecursion}
use Rattle.std.specs.Prelude.{ℕ, List, ⊤, ◌≡◌, false, ◌==◌, ◌&&◌, ◌+◌, nat_le, take, drop, position, bytes_eq, if◌then◌else◌, Option, Some, None, option_map, unwrap_or, [], ◌∷◌, ◌++◌, codes}
use Rattle.std.specs.Str.{IsUtf8}
use Rattle.std.specs.Str.Parse.{digits_value}
use Rattle.st_base.specs.declared.kept_text.KeptForm.{KeptForm}
use Rattle.st_base.specs.declared.kept_text.KeptForm.TheVariants.{Own, Within}

-- its bytes, wherever they are
abbrev pub bytes_of : KeptForm → List ℕ
bytes_of (Own text) = text
bytes_of (Within part) = part

-- a part of a file is UTF-8; a text of its own always is
abbrev pub IsKeptText : KeptForm → Type 0
IsKeptText (Own text) = ⊤
IsKeptText (Within part) = IsUtf8 part

-- ---- A text split into words, and the number in a word.

-- no byte of the text is the separator
abbrev pub HasNo : ℕ → List ℕ → Type 0
HasNo separator text = AllByRecursion (λ byte. (byte == separator) ≡ false) text

-- the bytes before the first separator, and all bytes after it
abbrev pub cut_at : ℕ → List ℕ → Option (List ℕ × List ℕ)
cut_at separator text =
    option_map (λ at. (take at text, drop (at + 1) text)) (position (λ byte. byte == separator) text)

-- the bytes before the first separator, or all if there is none
abbrev pub first_word : ℕ → List ℕ → List ℕ
first_word separator text = unwrap_or (option_map (λ words. words.0) (cut_at separator text)) text

-- the bytes after the first separator
abbrev pub other_words : ℕ → List ℕ → Option (List ℕ)
other_words separator text = option_map (λ words. words.1) (cut_at separator text)

-- the number that has this decimal spelling, if it is at most `most`
abbrev pub number_of : ℕ → List ℕ → Option ℕ
number_of most text =
    let number = digits_value 10 text in
    if nat_le number most && bytes_eq (decimal number) text then Some number else None

-- ---- Replies to lines: a word, the content, and the line end.

-- a reply: a word, the rest, and the line end
abbrev pub reply : List ℕ → List ℕ → List ℕ
reply word rest = word ++ (rest ++ codes "\n")

-- words, with a space before each
abbrev pub spaced : List (List ℕ) → List ℕ
spaced [] = []
spaced (word ∷ words) = codes " " ++ (word ++ spaced words)

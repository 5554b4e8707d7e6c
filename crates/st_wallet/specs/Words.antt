-- The meaning of a word of a line.
use Rattle.std.specs.Prelude.{ℕ, nat_le, List, bytes_eq, codes, if◌then◌else◌, Option, Some, None, option_map}
use Rattle.std.specs.Result.{result_ok}
use Rattle.hex.specs.Hex.{decode_sized}
use Rattle.st_base.specs.Options.{◌>>=◌, ◌>>◌}
use Rattle.st_base.specs.Texts.{number_of}

-- the number with this decimal text, if it is in this range
abbrev pub number_between : ℕ → ℕ → List ℕ → Option ℕ
number_between least most word = do
  number ← number_of most word
  nat_le least number
  Some number

-- the n bytes whose hexadecimal digits, in either case, are the word
abbrev pub bytes_of_hex : ℕ → List ℕ → Option (List ℕ)
bytes_of_hex n word = result_ok (decode_sized word n)

-- the nonce in a word: 32 hexadecimal digits, or `-` for none
abbrev pub nonce_of : List ℕ → Option (Option (List ℕ))
nonce_of word = if bytes_eq word (codes "-") then Some None else option_map Some (bytes_of_hex 16 word)

-- The command of a line of the wallet.
use Rattle.std.specs.Prelude.{ℕ, nat_le, List, length, bytes_eq, codes, is_none, if◌then◌else◌, Option, Some, None, Result, Ok, Err}
use Rattle.std.specs.Option.{ok_or}
use Rattle.st_base.specs.Answers.{◌>>=◌, ◌>>◌, holds_or}
use Rattle.st_base.specs.Texts.{cut_at, first_word, other_words}
use Rattle.st_hash.specs.Hash.{bytes_of_text}
use Rattle.st_lms.specs.Tree.{SecretKey, secret_key}
use Rattle.st_wallet.specs.Words.{bytes_of_hex, nonce_of, number_between}
use Rattle.st_wallet.specs.declared.command.Command.{Command}
use Rattle.st_wallet.specs.declared.command.Command.TheVariants.{Format, Key, Left, Create, Update, Recover, Deactivate, SignHss}
use Rattle.st_wallet.specs.declared.command.LineCause.{LineCause}
use Rattle.st_wallet.specs.declared.command.LineCause.TheVariants as cause

-- the largest number of bytes of a line
abbrev pub longest_line : ℕ
longest_line = 24000000

-- the byte of a space
abbrev pub space : ℕ
space = 32

-- ---- each command, from the text after its word and a space: first the words, then the numbers, then
-- hexadecimal digits, then base64url; the last word is all the rest

-- `format <ots> <tree> <id> <seed>`: an LM-OTS type, an LMS type, 32 digits, 64 digits
abbrev pub format_of : Option (List ℕ) → Result Command LineCause
format_of behind = do
  rest ← ok_or behind cause.Words
  first ← ok_or (cut_at space rest) cause.Words
  second ← ok_or (cut_at space first.1) cause.Words
  third ← ok_or (cut_at space second.1) cause.Words
  ots ← ok_or (number_between 1 4 first.0) cause.Number
  tree ← ok_or (number_between 5 6 second.0) cause.Number
  id ← ok_or (bytes_of_hex 16 third.0) cause.Hex
  seed ← ok_or (bytes_of_hex 32 third.1) cause.Hex
  Ok (Format (secret_key ots tree id seed))

-- `key <nonce>`
abbrev pub key_of : Option (List ℕ) → Result Command LineCause
key_of behind = do
  word ← ok_or behind cause.Words
  nonce ← ok_or (nonce_of word) cause.Hex
  Ok (Key nonce)

-- `left`, without a space after it
abbrev pub left_of : Option (List ℕ) → Result Command LineCause
left_of behind = do
  holds_or (is_none behind) cause.Words
  Ok Left

-- `create <recovery nonce> <delta>`
abbrev pub create_of : Option (List ℕ) → Result Command LineCause
create_of behind = do
  rest ← ok_or behind cause.Words
  words ← ok_or (cut_at space rest) cause.Words
  nonce ← ok_or (nonce_of words.0) cause.Hex
  Ok (Create nonce words.1)

-- `update <suffix> <nonce> <delta>`
abbrev pub update_of : Option (List ℕ) → Result Command LineCause
update_of behind = do
  rest ← ok_or behind cause.Words
  first ← ok_or (cut_at space rest) cause.Words
  second ← ok_or (cut_at space first.1) cause.Words
  nonce ← ok_or (nonce_of second.0) cause.Hex
  Ok (Update first.0 nonce second.1)

-- `recover <suffix> <nonce> <next nonce> <delta>`
abbrev pub recover_of : Option (List ℕ) → Result Command LineCause
recover_of behind = do
  rest ← ok_or behind cause.Words
  first ← ok_or (cut_at space rest) cause.Words
  second ← ok_or (cut_at space first.1) cause.Words
  third ← ok_or (cut_at space second.1) cause.Words
  nonce ← ok_or (nonce_of second.0) cause.Hex
  next ← ok_or (nonce_of third.0) cause.Hex
  Ok (Recover first.0 nonce next third.1)

-- `deactivate <suffix> <nonce>`
abbrev pub deactivate_of : Option (List ℕ) → Result Command LineCause
deactivate_of behind = do
  rest ← ok_or behind cause.Words
  words ← ok_or (cut_at space rest) cause.Words
  nonce ← ok_or (nonce_of words.1) cause.Hex
  Ok (Deactivate words.0 nonce)

-- `sign-hss <base64url of a message>`
abbrev pub sign_hss_of : Option (List ℕ) → Result Command LineCause
sign_hss_of behind = do
  text ← ok_or behind cause.Words
  message ← ok_or (bytes_of_text text) cause.Base64
  Ok (SignHss message)

-- the key of a `format`
abbrev pub format_in : Command → Option SecretKey
format_in (Format key) = Some key
format_in command = None

-- ---- lines

-- by the command word
abbrev pub command_of_words : List ℕ → Option (List ℕ) → Result Command LineCause
command_of_words word behind =
    if bytes_eq word (codes "format") then format_of behind
    else if bytes_eq word (codes "key") then key_of behind
    else if bytes_eq word (codes "left") then left_of behind
    else if bytes_eq word (codes "create") then create_of behind
    else if bytes_eq word (codes "update") then update_of behind
    else if bytes_eq word (codes "recover") then recover_of behind
    else if bytes_eq word (codes "deactivate") then deactivate_of behind
    else if bytes_eq word (codes "sign-hss") then sign_hss_of behind
    else Err cause.Command

-- The command of a line, or the first cause why it is not one. The command word is the part before the first space,
-- or the whole line.
abbrev pub command_of : List ℕ → Result Command LineCause
command_of line = do
  holds_or (nat_le (length line) longest_line) cause.Long
  command_of_words (first_word space line) (other_words space line)

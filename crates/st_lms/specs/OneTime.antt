-- The parameter sets, by the numbers of their types (RFC 8554, sections 4.1 and 5.1), for SHA-256
-- with strings of 32 bytes.
use Rattle.std.specs.Prelude.{ℕ, ◌-◌, ◌^◌, ◌≤◌, [], ◌∷◌, slice_index, ◌==◌, if◌then◌else◌, zero, suc, ◌+◌, ◌*◌, ◌/◌, List, ◌++◌}
use Rattle.sha2.specs.Sha256.{sha256}
use Rattle.st_lms.specs.Strings.{u32str, u16str, coef, joined, value_at}
use Rattle.st_lms.specs.declared.parameters.OneTimeType.{OneTimeType}
use Rattle.st_lms.specs.declared.parameters.OneTimeType.TheVariants.{Width1, Width2, Width4, Width8}
use Rattle.st_lms.specs.declared.parameters.TreeType.{TreeType}
use Rattle.st_lms.specs.declared.parameters.TreeType.TheVariants.{Height5, Height10}

-- the LM-OTS types: w is 1, 2, 4 or 8
abbrev pub IsOneTimeType : ℕ → Type 0
IsOneTimeType t = (1 ≤ t) × (t ≤ 4)

-- the LMS types: the tree has height 5 or 10
abbrev pub IsTreeType : ℕ → Type 0
IsTreeType t = (5 ≤ t) × (t ≤ 6)

-- w: the number of bits of a digit
unfoldable pub width : ℕ → ℕ
width t = slice_index (1 ∷ 2 ∷ 4 ∷ 8 ∷ []) (t - 1)

-- p: the number of signed digits, each with its own chain
unfoldable pub chains : ℕ → ℕ
chains t = slice_index (265 ∷ 133 ∷ 67 ∷ 34 ∷ []) (t - 1)

-- ls: how far the checksum is shifted to the left
unfoldable pub shift : ℕ → ℕ
shift t = slice_index (7 ∷ 6 ∷ 4 ∷ 0 ∷ []) (t - 1)

-- the greatest digit, which is also the number of steps of a whole chain
unfoldable pub greatest_digit : ℕ → ℕ
greatest_digit t = 2 ^ width t - 1

-- h: the height of the tree
unfoldable pub height : ℕ → ℕ
height t = slice_index (5 ∷ 10 ∷ []) (t - 5)

-- ---- The numbers of the types (RFC 8554, section 8).

-- the number of a one-time type
abbrev pub one_time_number : OneTimeType → ℕ
one_time_number Width1 = 1
one_time_number Width2 = 2
one_time_number Width4 = 3
one_time_number Width8 = 4

-- the number of a tree type
abbrev pub tree_number : TreeType → ℕ
tree_number Height5 = 5
tree_number Height10 = 6

-- the one-time type with this number; every number except 1 to 3 gives that of width 8
abbrev pub one_time_of : ℕ → OneTimeType
one_time_of n = if n == 1 then Width1 else if n == 2 then Width2 else if n == 3 then Width4 else Width8

-- the tree type with this number; every number except 5 gives that of height 10
abbrev pub tree_of : ℕ → TreeType
tree_of n = if n == 5 then Height5 else Height10

-- ---- One-time signatures (RFC 8554, section 4). A key is named by its LM-OTS type t, the identifier
-- id, and its number q.

-- ---- domain separation of hashes (7.1)

-- of a public key
abbrev pub d_pblc : ℕ
d_pblc = 0x8080

-- of a message
abbrev pub d_mesg : ℕ
d_mesg = 0x8181

-- ---- the digits that are signed (4.4, 4.5)

-- the hash of a message under the randomizer c, with D_MESG
unfoldable pub message_hash : List ℕ → ℕ → List ℕ → List ℕ → List ℕ
message_hash id q c message = sha256 (id ++ u32str q ++ u16str d_mesg ++ c ++ message)

-- the sum of the differences between the greatest digit and the first n digits
unfoldable pub shortfall : ℕ → List ℕ → ℕ → ℕ
shortfall t s zero = 0
shortfall t s (suc n) = shortfall t s n + (greatest_digit t - coef s n (width t))

-- the checksum of a hash (4.4)
unfoldable pub checksum : ℕ → List ℕ → ℕ
checksum t hash = shortfall t hash (256 / width t) * 2 ^ shift t

-- the string whose digits are signed: a hash and its checksum
unfoldable pub checked : ℕ → List ℕ → List ℕ
checked t hash = hash ++ u16str (checksum t hash)

-- ---- chains (4.3, 4.5, 4.6)

-- step j of chain i
unfoldable pub chain_step : List ℕ → ℕ → ℕ → ℕ → List ℕ → List ℕ
chain_step id q i j value = sha256 (id ++ u32str q ++ u16str i ++ j ∷ value)

-- a value of chain i after n steps, the first of them step j
unfoldable pub chain : List ℕ → ℕ → ℕ → ℕ → ℕ → List ℕ → List ℕ
chain id q i j zero value = value
chain id q i j (suc n) value = chain_step id q i (j + n) (chain id q i j n value)

-- a secret element, and by the same formula the randomizer (appendix A)
unfoldable pub secret_element : List ℕ → ℕ → ℕ → List ℕ → List ℕ
secret_element id q i seed = sha256 (id ++ u32str q ++ u16str i ++ 0xff ∷ seed)

-- the place of a key's randomizer among its secret elements
abbrev pub randomizer_place : ℕ
randomizer_place = 0xfffd

-- ---- keys and signatures

-- the public key K over the ends of its chains, with D_PBLC (4.3)
unfoldable pub key_of_ends : ℕ → List ℕ → ℕ → (ℕ → List ℕ) → List ℕ
key_of_ends t id q end = sha256 (id ++ u32str q ++ u16str d_pblc ++ joined end (chains t))

-- the end of chain i, from its secret element
unfoldable pub end_of_secret : ℕ → List ℕ → ℕ → List ℕ → ℕ → List ℕ
end_of_secret t id q seed i = chain id q i 0 (greatest_digit t) (secret_element id q i seed)

-- the public key of a secret (4.3)
unfoldable pub one_time_public : ℕ → List ℕ → ℕ → List ℕ → List ℕ
one_time_public t id q seed = key_of_ends t id q (end_of_secret t id q seed)

-- the signed value of digit i of a checked hash: chain i after as many steps as the digit says
unfoldable pub signed_value : ℕ → List ℕ → ℕ → List ℕ → List ℕ → ℕ → List ℕ
signed_value t id q seed digits i =
    chain id q i 0 (coef digits i (width t)) (secret_element id q i seed)

-- the values of a signature, in a row (4.5)
unfoldable pub signed_values : ℕ → List ℕ → ℕ → List ℕ → List ℕ → List ℕ
signed_values t id q seed digits = joined (signed_value t id q seed digits) (chains t)

-- the end of chain i, from the values of a signature
unfoldable pub end_of_value : ℕ → List ℕ → ℕ → List ℕ → List ℕ → ℕ → List ℕ
end_of_value t id q digits values i =
    chain id q i (coef digits i (width t)) (greatest_digit t - coef digits i (width t))
    (value_at values i)

-- the public key that a signature is of, if it is one (4.6, algorithm 4b)
unfoldable pub candidate_key : ℕ → List ℕ → ℕ → List ℕ → List ℕ → List ℕ
candidate_key t id q digits values = key_of_ends t id q (end_of_value t id q digits values)

-- Base64url without padding (RFC 4648, section 5).
use Rattle.std.proofs.Common.{ap}
use Rattle.std.specs.Cmp.{IsEquivalence, IsPartialOrder, IsTotalOrder, on_equiv, on_total, and_equiv, then_total, both_tied, po, nat_cmp_total, nat_eq_equiv, second_so, unsigned_ties}
use Rattle.std.specs.Cmp.Lexicographic.{slice_cmp, bytes_decides, nat_list_cmp_total, nat_list_eq_equiv, texts_ties}
use Rattle.std.specs.Option.{option_or}
use Rattle.std.specs.Ordering.{nat_cmp, ordering_then, as_partial_cmp, eq_by_cmp}
use Rattle.std.specs.Prelude.{ℕ, ◌==◌, List, length, if◌then◌else◌, Option, Some, None, option_and_then, ◌≡◌, Bool, bytes_eq, ◌∷◌, ◌&&◌, ◌⊎◌, [], IsTrue, refl}
use Rattle.std.specs.Result.{result_ok}
use Rattle.std.specs.declared.cmp.Ordering.{Ordering}
use Rattle.base64.specs.Engines.{url_safe_no_pad}
use Rattle.base64.specs.GeneralPurpose.{encode_of, decode_of, IsBytes}
pub use Rattle.sha2.specs.Sha256.{sha256}
pub use Rattle.sha2.specs.Sha512.{sha512}
use Rattle.st_hash.specs.declared.hash.Digest.{Digest}
use Rattle.st_hash.specs.declared.hash.Digest.TheVariants.{Sha256, Sha512}

-- the text of bytes
abbrev pub base64url : List ℕ → List ℕ
base64url bytes = encode_of url_safe_no_pad bytes

-- the bytes that a text is the base64url of
abbrev pub bytes_of_text : List ℕ → Option (List ℕ)
bytes_of_text text = result_ok (decode_of url_safe_no_pad text)

-- these bytes, if there are this many
abbrev pub so_many : ℕ → List ℕ → Option (List ℕ)
so_many n bytes = if length bytes == n then Some bytes else None

-- the bytes of this length that a text is the base64url of
abbrev pub fixed_of_text : ℕ → List ℕ → Option (List ℕ)
fixed_of_text n text = option_and_then (so_many n) (bytes_of_text text)

-- ---- Hashes of SHA-256 and SHA-512 (FIPS 180-4), their multihashes and their texts.

-- the multihash code of the algorithm, and the digest
pub record HashValue : Type 0 where
  pub code : ℕ
  pub digest : List ℕ

-- The code names an algorithm: 0x12 is SHA-256, and 0x13 is SHA-512.
abbrev pub IsCode : ℕ → Type 0
IsCode code = (code ≡ 0x12) ⊎ (code ≡ 0x13)

-- how many bytes a digest of this algorithm has
abbrev pub digest_length : ℕ → ℕ
digest_length code = if code == 0x13 then 64 else 32

-- the length of a hash text: base64url of 66 bytes, or of 34
abbrev pub text_length : ℕ → ℕ
text_length code = if code == 0x13 then 88 else 46

-- the digest of bytes by this algorithm
abbrev pub digest_with : ℕ → List ℕ → List ℕ
digest_with code bytes = if code == 0x13 then sha512 bytes else sha256 bytes

-- the values that a hash has
pub record IsHash (hash : HashValue) : Type 0 where
  pub code : IsCode hash.code
  pub long : length hash.digest ≡ digest_length hash.code
  pub bytes : IsBytes hash.digest

-- the hash of bytes by this algorithm
abbrev pub hash_of_with : ℕ → List ℕ → HashValue
hash_of_with code bytes = record { code = code; digest = digest_with code bytes }

-- the SHA-256 hash of bytes; of a file's bytes it is the file's URI
abbrev pub hash_of : List ℕ → HashValue
hash_of bytes = record { code = 0x12; digest = sha256 bytes }

-- the URI of a file: the SHA-256 hash of its bytes, in every version
abbrev pub uri_of : List ℕ → HashValue
uri_of file = hash_of file

-- the digest of a SHA-256 hash
abbrev pub sha256_digest : HashValue → Option (List ℕ)
sha256_digest hash = if hash.code == 0x12 then Some hash.digest else None

-- the code, the length of the digest, the digest
abbrev pub multihash : HashValue → List ℕ
multihash hash = hash.code ∷ length hash.digest ∷ hash.digest

-- the text of a hash
abbrev pub hash_text : HashValue → List ℕ
hash_text hash = base64url (multihash hash)

-- the hash of this algorithm that has this multihash
abbrev pub hash_of_multihash : ℕ → List ℕ → Option HashValue
hash_of_multihash code (first ∷ size ∷ digest) =
    if (first == code) && ((size == digest_length code) && (length digest == digest_length code))
    then Some (record { code = code; digest = digest }) else None
hash_of_multihash code bytes = None

-- the hash of this algorithm that has this text
abbrev pub hash_of_text_with : ℕ → List ℕ → Option HashValue
hash_of_text_with code text = option_and_then (hash_of_multihash code) (bytes_of_text text)

-- the SHA-256 hash that has this text
abbrev pub hash_of_text : List ℕ → Option HashValue
hash_of_text text = hash_of_text_with 0x12 text

-- Version 1 has only SHA-256, version 2 both algorithms.
abbrev pub IsOfVersion : ℕ → HashValue → Type 0
IsOfVersion version hash = version ≡ 1 → hash.code ≡ 0x12

-- the hash of this version that has this text
abbrev pub hash_of_text_at : ℕ → List ℕ → Option HashValue
hash_of_text_at version text =
    if version == 1 then hash_of_text text else option_or (hash_of_text text) (hash_of_text_with 0x13 text)

-- hashes in order: by the code, then by the bytes of the digest
abbrev pub hash_cmp : HashValue → HashValue → Ordering
hash_cmp first second = ordering_then (nat_cmp first.code second.code) (slice_cmp nat_cmp first.digest second.digest)

-- the two hashes are the same
abbrev pub same_hash : HashValue → HashValue → Bool
same_hash first second = (first.code == second.code) && bytes_eq first.digest second.digest

-- ---- The laws of the order of hashes, and of the bytes that a hash passes to a hasher.

pub same_hash-equivalence : IsEquivalence same_hash
same_hash-equivalence = and_equiv (on_equiv (λ hash. hash.code) nat_eq_equiv) (on_equiv (λ hash. hash.digest) nat_list_eq_equiv)

pub hash_cmp-total : IsTotalOrder hash_cmp
hash_cmp-total = then_total (on_total (λ hash. hash.code) nat_cmp_total) (on_total (λ hash. hash.digest) nat_list_cmp_total)

-- two hashes are the same if and only if they tie in the order
pub same_hash-ties : (first second : HashValue) → same_hash first second ≡ eq_by_cmp hash_cmp first second
same_hash-ties first second =
    both_tied _ _ _ _ (unsigned_ties first.code second.code) (texts_ties first.digest second.digest)

pub hash_cmp-partial : IsPartialOrder same_hash (as_partial_cmp hash_cmp)
hash_cmp-partial = po hash_cmp-total same_hash-ties

-- a hash passes the bytes of its digest to a hasher
abbrev pub fed : HashValue → List (List ℕ)
fed hash = hash.digest ∷ []

pub same_hash-fed : (first second : HashValue) → IsTrue (same_hash first second) → fed first ≡ fed second
same_hash-fed first second same =
    ap (λ digest. digest ∷ [])
    ((bytes_decides first.digest second.digest).0 (second_so (first.code == second.code) (bytes_eq first.digest second.digest) same))

-- ---- A digest of one of the two algorithms, as contracts see it.

-- a digest with the code of its algorithm (Multihash)
abbrev pub hash_in : Digest → HashValue
hash_in (Sha256 digest) = record { code = 0x12; digest = digest }
hash_in (Sha512 digest) = record { code = 0x13; digest = digest }

-- the digest of a hash, by its code
abbrev pub digest_in : HashValue → Digest
digest_in hash = if hash.code == 0x13 then Sha512 hash.digest else Sha256 hash.digest

pub digest_in-hash_in : (digest : Digest) → digest_in (hash_in digest) ≡ digest
digest_in-hash_in (Sha256 digest) = refl
digest_in-hash_in (Sha512 digest) = refl

-- Nothing in base64url is escaped, so canonical text has a hash text unchanged, and a text with an escaped byte is
-- not a hash text.
use Rattle.std.proofs.Common.{◌≡◌, ◌≢◌, ◌==◌, ◌++◌, Bool, true, false, cond, List, ℕ, [], ◌∷◌, codes, Option, Some, None, option_and_then, refl, sym, ap, append_assoc, arith}
use Rattle.std.specs.List.{AllByRecursion, flat_map}
use Rattle.std.specs.Option.{option_or}
use Rattle.std.proofs.lemmas.Bool.Decides.{nat_tests}
use Rattle.st_plain.specs.Plain.{canonical, escape, Plain, null, boolean, whole, text, list, object}
use Rattle.st_plain.specs.Objects.{text_in, object_of}
use Rattle.st_plain.proofs.NameLemmas.{names_on_literals}
use Rattle.st_hash.specs.Hash.{bytes_of_text, HashValue, IsHash, hash_of_multihash, hash_of_text_at, hash_of_text_with, hash_text, multihash}
use Rattle.st_hash.proofs.HashLemmas.{multihash_bytes}
use Rattle.st_hash.proofs.Base64Lemmas.{IsApart, base64url_apart, decoded_apart}
use Rattle.st_indexfiles.specs.CoreIndex.{hash_in, uri_in, suffix_data_json}
use Rattle.st_indexfiles.specs.declared.suffix_data.SuffixData.{SuffixData}

-- none of these bytes is escaped
abbrev pub IsBare : List ℕ → Type 0
IsBare bytes = flat_map escape bytes ≡ bytes

byte_bare : (byte : ℕ) → IsApart byte → escape byte ≡ byte ∷ []
unfolding escape
byte_bare byte apart = grind (arith, nat_tests)

pub apart_bare : (bytes : List ℕ) → AllByRecursion IsApart bytes → IsBare bytes
apart_bare [] apart = refl
apart_bare (byte ∷ bytes) apart = rw (byte_bare byte apart.0, apart_bare bytes apart.1) refl

-- no byte of a hash text is escaped
pub hash_text_bare : (hash : HashValue) → IsHash hash → IsBare (hash_text hash)
hash_text_bare hash is = apart_bare (hash_text hash) (base64url_apart (multihash hash) (multihash_bytes hash is))

-- ---- suffix data

-- the canonical text of an object of two texts without escaped bytes
both_bare : (delta_hash recovery_commitment : List ℕ) → IsBare delta_hash → IsBare recovery_commitment
    → canonical (object_of ((codes "deltaHash", text delta_hash) ∷ (codes "recoveryCommitment", text recovery_commitment) ∷ []))
    ≡ (((codes "{\"deltaHash\":\"" ++ delta_hash) ++ codes "\",\"recoveryCommitment\":\"") ++ recovery_commitment) ++ codes "\"}"
unfolding names_on_literals escape
both_bare delta_hash recovery_commitment first second = simp (first, second, append_assoc)

-- the canonical text of suffix data is its two hash texts between fixed parts
pub suffix_data_text : (suffix_data : SuffixData) → IsHash suffix_data.delta_hash → IsHash suffix_data.recovery_commitment
    → canonical (suffix_data_json suffix_data)
    ≡ (((codes "{\"deltaHash\":\"" ++ hash_text suffix_data.delta_hash) ++ codes "\",\"recoveryCommitment\":\"")
    ++ hash_text suffix_data.recovery_commitment) ++ codes "\"}"
suffix_data_text suffix_data first second =
    both_bare (hash_text suffix_data.delta_hash) (hash_text suffix_data.recovery_commitment)
    (hash_text_bare suffix_data.delta_hash first) (hash_text_bare suffix_data.recovery_commitment second)

-- ---- a text with an escaped byte

by_reading : (bytes : List ℕ) (read : Option (List ℕ)) → bytes_of_text bytes ≡ read → flat_map escape bytes ≢ bytes → read ≡ None
by_reading bytes None is escaped = refl
by_reading bytes (Some found) is escaped = absurd (escaped (apart_bare bytes (decoded_apart bytes found is)))

-- it is not a text, or JSON escapes a byte of it
abbrev pub IsNotBare : Plain → Type 0
IsNotBare value = (bytes : List ℕ) → value ≡ text bytes → flat_map escape bytes ≢ bytes

no_bytes_in : (value : Plain) → IsNotBare value → option_and_then bytes_of_text (text_in value) ≡ None
no_bytes_in null escaped = refl
no_bytes_in (boolean b) escaped = refl
no_bytes_in (whole z) escaped = refl
no_bytes_in (text bytes) escaped = by_reading bytes (bytes_of_text bytes) refl (escaped bytes refl)
no_bytes_in (list ps) escaped = refl
no_bytes_in (object ms) escaped = refl

no_hash_with : (code : ℕ) (there : Option (List ℕ)) → option_and_then bytes_of_text there ≡ None
    → option_and_then (hash_of_text_with code) there ≡ None
no_hash_with code None none = refl
no_hash_with code (Some bytes) none = ap (option_and_then (hash_of_multihash code)) none

no_hash_at : (version : ℕ) (there : Option (List ℕ)) → option_and_then bytes_of_text there ≡ None
    → option_and_then (hash_of_text_at version) there ≡ None
no_hash_at version None none = refl
no_hash_at version (Some bytes) none = neither (version == 1) _ _ (no_hash_with 0x12 (Some bytes) none) (no_hash_with 0x13 (Some bytes) none)
  where
    neither : (first : Bool) (sha256 sha512 : Option HashValue) → sha256 ≡ None → sha512 ≡ None
        → cond first sha256 (option_or sha256 sha512) ≡ None
    neither true sha256 sha512 e f = e
    neither false sha256 sha512 e f = rw (e, f) refl

-- so it is not a URI
pub no_uri_in : (value : Plain) → IsNotBare value → None ≡ uri_in (Some value)
no_uri_in value escaped = sym (no_hash_with 0x12 (text_in value) (no_bytes_in value escaped))

-- nor a hash text of any version
pub no_hash_in : (value : Plain) → IsNotBare value → (version : ℕ) → None ≡ hash_in version (Some value)
no_hash_in value escaped version = sym (no_hash_at version (text_in value) (no_bytes_in value escaped))

-- Two hashes are the same if and only if `same_hash` says so.
use Rattle.std.proofs.Common.{◌≡◌, ◌≢◌, ◌==◌, bytes_eq, Bool, true, false, refl, ◌∙◌, ℕ, ◌&&◌, ◌<◌, ◌+◌, ◌-◌, slice_set, zero, suc, List, [], ◌∷◌, length, drop, slice_index, cond, if◌then◌else◌, Option, Some, None, option_and_then, ◌⊎◌, inl, inr, sym, ap, subst, arith}
use Rattle.std.proofs.lemmas.Bool.{and_parts, eqb-true, eqb-false, eq-eqb, ne_eqb}
use Rattle.std.proofs.lemmas.List.{append-nil, drop_all}
use Rattle.std.proofs.lemmas.Option.{cond_some}
use Rattle.std.proofs.lemmas.Slice.Eq.{bytes_eq-Decides}
use Rattle.std.specs.Option.{option_or}
use Rattle.base64.specs.GeneralPurpose.{IsBytes}
use borrow.Rule.Slice.PartMut.{put_mid}
use Rattle.st_hash.proofs.Base64Lemmas.{spelled, bytes_of_text-base64url, length-base64url}
use Rattle.st_hash.specs.Hash.{base64url, bytes_of_text, fixed_of_text, so_many, HashValue, same_hash, IsCode, IsHash, IsOfVersion, digest_length, hash_text, hash_of_text, hash_of_text_at, hash_of_text_with, hash_of_multihash, multihash, text_length, same_hash-equivalence}

pub same_hash-is : (first second : HashValue) → same_hash first second ≡ true → first ≡ second
same_hash-is first second same =
    let parts = and_parts (first.code == second.code) (bytes_eq first.digest second.digest) same in
    let codes : first.code ≡ second.code = eqb-true first.code second.code parts.0 in
    let digests : first.digest ≡ second.digest = (bytes_eq-Decides first.digest second.digest).0 parts.1 in
    rw (codes, digests) refl

pub same_hash-itself : (hash : HashValue) → same_hash hash hash ≡ true
same_hash-itself hash = same_hash-equivalence.refl hash

differs : (first second : HashValue) (same : Bool) → same_hash first second ≡ same → first ≢ second → same ≡ false
differs first second true e other = absurd (other (same_hash-is first second e))
differs first second false e other = refl

pub same_hash-other : (first second : HashValue) → first ≢ second → same_hash first second ≡ false
same_hash-other first second other =
    differs first second (same_hash first second) refl other

-- ---- Hash texts are read as the hash they were written from, and as nothing else.

-- a choice by three tests that don't all hold
first_fails : (a b c : Bool) (hash : HashValue) → a ≡ false → cond (a && (b && c)) (Some hash) None ≡ None
first_fails a b c hash fails = rw fails refl

second_fails : (a b c : Bool) (hash : HashValue) → b ≡ false → cond (a && (b && c)) (Some hash) None ≡ None
second_fails true b c hash fails = rw fails refl
second_fails false b c hash fails = refl

third_fails : (a b c : Bool) (hash : HashValue) → c ≡ false → cond (a && (b && c)) (Some hash) None ≡ None
third_fails true true c hash fails = rw fails refl
third_fails true false c hash fails = refl
third_fails false b c hash fails = refl

-- bytes that are no multihash of this algorithm: of another length, code or size
pub hash_of_multihash-length : (code : ℕ) (bytes : List ℕ) → length bytes ≢ 2 + digest_length code
    → hash_of_multihash code bytes ≡ None
hash_of_multihash-length code [] other = refl
hash_of_multihash-length code (first ∷ []) other = refl
hash_of_multihash-length code (first ∷ size ∷ digest) other =
    third_fails (first == code) (size == digest_length code) (length digest == digest_length code) (record { code = code; digest = digest })
    (ne_eqb (length digest) (digest_length code) (λ same. other (omega (arith, same))))

pub hash_of_multihash-code : (code : ℕ) (bytes : List ℕ) → slice_index bytes 0 ≢ code
    → hash_of_multihash code bytes ≡ None
hash_of_multihash-code code [] other = refl
hash_of_multihash-code code (first ∷ []) other = refl
hash_of_multihash-code code (first ∷ size ∷ digest) other = first_fails (first == code) (size == digest_length code) (length digest == digest_length code) (record { code = code; digest = digest }) (ne_eqb first code other)

pub hash_of_multihash-size : (code : ℕ) (bytes : List ℕ) → slice_index bytes 1 ≢ digest_length code
    → hash_of_multihash code bytes ≡ None
hash_of_multihash-size code [] other = refl
hash_of_multihash-size code (first ∷ []) other = refl
hash_of_multihash-size code (first ∷ size ∷ digest) other =
    second_fails (first == code) (size == digest_length code) (length digest == digest_length code) (record { code = code; digest = digest }) (ne_eqb size (digest_length code) other)

-- and bytes that are one
pub hash_of_multihash-some : (code : ℕ) (bytes : List ℕ) → slice_index bytes 0 ≡ code
    → slice_index bytes 1 ≡ digest_length code → length bytes ≡ 2 + digest_length code
    → hash_of_multihash code bytes ≡ Some (record { code = code; digest = drop 2 bytes })
hash_of_multihash-some code [] first size long = absurd (omega (arith, long))
hash_of_multihash-some code (a ∷ []) first size long = absurd (omega (arith, long))
hash_of_multihash-some code (a ∷ b ∷ digest) first size long =
    let same : length digest ≡ digest_length code = omega (arith, long) in
    rw (eq-eqb a code first, eq-eqb b (digest_length code) size, eq-eqb (length digest) (digest_length code) same) refl

-- a hash has one multihash
pub hash_of_multihash-spelled : (code : ℕ) (bytes : List ℕ) (hash : HashValue) → hash_of_multihash code bytes ≡ Some hash
    → (bytes ≡ multihash hash) × (hash.code ≡ code)
hash_of_multihash-spelled code [] hash found = cc
hash_of_multihash-spelled code (a ∷ []) hash found = cc
hash_of_multihash-spelled code (a ∷ b ∷ digest) hash found =
    let taken = cond_some _ _ hash found in
    let tests = and_parts (a == code) ((b == digest_length code) && (length digest == digest_length code)) taken.0 in
    let sizes = and_parts (b == digest_length code) (length digest == digest_length code) tests.1 in
    let first : a ≡ code = eqb-true a code tests.0 in
    let size : b ≡ length digest = eqb-true b (digest_length code) sizes.0 ∙ sym (eqb-true (length digest) (digest_length code) sizes.1) in
    (rw (← taken.1, first, size) refl, rw (← taken.1) refl)

-- codes and lengths are bytes
code_fits : (code : ℕ) → IsCode code → code < 256
code_fits code (inl e) = omega (arith, e)
code_fits code (inr e) = omega (arith, e)

by_code : (second : Bool) → (if second then 64 else 32) < 256
by_code true = omega arith
by_code false = omega arith

long_fits : (code : ℕ) → digest_length code < 256
long_fits code = by_code (code == 0x13)

pub multihash_bytes : (hash : HashValue) → IsHash hash → IsBytes (multihash hash)
multihash_bytes hash is zero = code_fits hash.code is.code
multihash_bytes hash is (suc zero) =
    let fits = long_fits hash.code in
    omega (arith, is.long, fits)
multihash_bytes hash is (suc (suc i)) = is.bytes i

-- its own algorithm reads a hash text as the hash it was written from
pub hash_of_text_with-hash_text : (hash : HashValue) → IsHash hash
    → hash_of_text_with hash.code (hash_text hash) ≡ Some hash
hash_of_text_with-hash_text hash is =
    let read = ap (option_and_then (hash_of_multihash hash.code)) (bytes_of_text-base64url (multihash hash) (multihash_bytes hash is)) in
    let long : length (multihash hash) ≡ 2 + digest_length hash.code = omega (arith, is.long) in
    read ∙ hash_of_multihash-some hash.code (multihash hash) refl is.long long

-- another algorithm refuses it
pub hash_of_text_with-another : (code : ℕ) (hash : HashValue) → IsHash hash → hash.code ≢ code
    → hash_of_text_with code (hash_text hash) ≡ None
hash_of_text_with-another code hash is other =
    ap (option_and_then (hash_of_multihash code)) (bytes_of_text-base64url (multihash hash) (multihash_bytes hash is))
    ∙ hash_of_multihash-code code (multihash hash) other

-- how many characters it has
pub length-hash_text : (hash : HashValue) → IsHash hash → length (hash_text hash) ≡ text_length hash.code
length-hash_text hash is =
    let whole = length-base64url (multihash hash) in
    elim is.code as (λ _. length (hash_text hash) ≡ text_length hash.code) [
      | inl code ↦
          let long : length hash.digest ≡ 32 = is.long ∙ ap digest_length code in
          let characters : length (hash_text hash) ≡ 46 = omega (arith, whole, long) in
          characters ∙ sym (ap text_length code)
      | inr code ↦
          let long : length hash.digest ≡ 64 = is.long ∙ ap digest_length code in
          let characters : length (hash_text hash) ≡ 88 = omega (arith, whole, long) in
          characters ∙ sym (ap text_length code)
    ]

-- each version that has the hash reads it
of_sha256 : (first : Bool) (found other : Option HashValue) (hash : HashValue) → found ≡ Some hash
    → (if first then found else option_or found other) ≡ Some hash
of_sha256 true found other hash e = e
of_sha256 false found other hash e = rw e refl

of_sha512 : (first : Bool) (missing found : Option HashValue) (hash : HashValue) → first ≡ false → missing ≡ None
    → found ≡ Some hash → (if first then missing else option_or missing found) ≡ Some hash
of_sha512 first missing found hash second e f = rw (second, e, f) refl

second_version : (version code : ℕ) (first : Bool) → (version == 1) ≡ first → (version ≡ 1 → code ≡ 0x12) → code ≡ 0x13
    → first ≡ false
second_version version code true e of_version is =
    let first = of_version (eqb-true version 1 e) in
    absurd (omega (arith, first, is))
second_version version code false e of_version is = refl

pub hash_of_text_at-hash_text : (version : ℕ) (hash : HashValue) → IsHash hash → IsOfVersion version hash
    → hash_of_text_at version (hash_text hash) ≡ Some hash
hash_of_text_at-hash_text version hash is of_version =
    let own = hash_of_text_with-hash_text hash is in
    let text = hash_text hash in
    let read_by : ℕ → Type 0 = λ code. hash_of_text_with code text ≡ Some hash in
    elim is.code as (λ _. hash_of_text_at version text ≡ Some hash) [
      | inl code ↦ of_sha256 (version == 1) (hash_of_text text) (hash_of_text_with 0x13 text) hash (subst read_by code own)
      | inr code ↦
          let other : hash.code ≢ 0x12 = λ first. omega (arith, first, code) in
          of_sha512 (version == 1) (hash_of_text text) (hash_of_text_with 0x13 text) hash
          (second_version version hash.code (version == 1) refl of_version code)
          (hash_of_text_with-another 0x12 hash is other) (subst read_by code own)
    ]

-- a text is that of the hash it is read as
by_bytes : (code : ℕ) (text : List ℕ) (bytes : Option (List ℕ)) (hash : HashValue)
    → ((found : List ℕ) → bytes ≡ Some found → text ≡ base64url found)
    → option_and_then (hash_of_multihash code) bytes ≡ Some hash → (text ≡ hash_text hash) × (hash.code ≡ code)
by_bytes code text None hash spelling e = cc
by_bytes code text (Some found) hash spelling e =
    let parts = hash_of_multihash-spelled code found hash e in
    (spelling found refl ∙ ap base64url parts.0, parts.1)

pub hash_of_text_with-spelled : (code : ℕ) (text : List ℕ) (hash : HashValue) → IsBytes text
    → hash_of_text_with code text ≡ Some hash → (text ≡ hash_text hash) × (hash.code ≡ code)
hash_of_text_with-spelled code text hash are_bytes found =
    by_bytes code text (bytes_of_text text) hash (λ bytes e. spelled text bytes are_bytes e) found

-- the reading of a text by a version
either : (first : Bool) (found other : Option HashValue) (hash : HashValue)
    → (if first then found else option_or found other) ≡ Some hash
    → (found ≡ Some hash) ⊎ ((first ≡ false) × (other ≡ Some hash))
either true found other hash e = inl e
either false None other hash e = inr (refl, e)
either false (Some found) other hash e = inl e

pub hash_of_text_at-spelled : (version : ℕ) (text : List ℕ) (hash : HashValue) → IsBytes text
    → hash_of_text_at version text ≡ Some hash → (text ≡ hash_text hash) × IsOfVersion version hash
hash_of_text_at-spelled version text hash are_bytes found =
    elim (either (version == 1) (hash_of_text text) (hash_of_text_with 0x13 text) hash found) [
      | inl e ↦
          let parts = hash_of_text_with-spelled 0x12 text hash are_bytes e in
          (parts.0, λ first. parts.1)
      | inr e ↦
          let parts = hash_of_text_with-spelled 0x13 text hash are_bytes e.1 in
          (parts.0, λ first. absurd (eqb-false version 1 e.0 first))
    ]

-- a text that an algorithm does not read is not the text of one of its hashes
pub hash_of_text_with-none : (code : ℕ) (text : List ℕ) (hash : HashValue) → hash_of_text_with code text ≡ None
    → IsHash hash → hash.code ≡ code → text ≢ hash_text hash
hash_of_text_with-none code text hash none is of_code same =
    let read : hash_of_text_with code (hash_text hash) ≡ Some hash =
    rw (← of_code) (hash_of_text_with-hash_text hash is) in
    let refused : hash_of_text_with code (hash_text hash) ≡ None = ap (hash_of_text_with code) (sym same) ∙ none in
    cc

-- the multihash is looked for in the bytes of this length that the text encodes
of_so_many : (code : ℕ) (bytes : List ℕ) (same : Bool) → (length bytes == 2 + digest_length code) ≡ same
    → hash_of_multihash code bytes ≡ option_and_then (hash_of_multihash code) (if same then Some bytes else None)
of_so_many code bytes true e = refl
of_so_many code bytes false e = hash_of_multihash-length code bytes (eqb-false _ _ e)

of_bytes : (code : ℕ) (bytes : Option (List ℕ)) → option_and_then (hash_of_multihash code) bytes
    ≡ option_and_then (hash_of_multihash code) (option_and_then (so_many (2 + digest_length code)) bytes)
of_bytes code None = refl
of_bytes code (Some bytes) = of_so_many code bytes (length bytes == 2 + digest_length code) refl

pub hash_of_text_with-fixed : (code : ℕ) (text : List ℕ) → hash_of_text_with code text
    ≡ option_and_then (hash_of_multihash code) (fixed_of_text (2 + digest_length code) text)
hash_of_text_with-fixed code text = of_bytes code (bytes_of_text text)

-- a text of another length is not read
pub read-none : (code n d : ℕ) (text : List ℕ) → n ≡ 2 + d → d ≡ digest_length code → fixed_of_text n text ≡ None
    → hash_of_text_with code text ≡ None
read-none code n d text whole long none =
    hash_of_text_with-fixed code text
    ∙ ap (option_and_then (hash_of_multihash code))
    (ap (λ m. fixed_of_text m text) (sym (whole ∙ ap (λ m. 2 + m) long)) ∙ none)

pub read-some : (code n d : ℕ) (text bytes : List ℕ) → n ≡ 2 + d → d ≡ digest_length code
    → fixed_of_text n text ≡ Some bytes → hash_of_text_with code text ≡ hash_of_multihash code bytes
read-some code n d text bytes whole long found =
    hash_of_text_with-fixed code text
    ∙ ap (option_and_then (hash_of_multihash code))
    (ap (λ m. fixed_of_text m text) (sym (whole ∙ ap (λ m. 2 + m) long)) ∙ found)

-- the SHA-256 reading of a text
pub hash_of_text-hash_text : (hash : HashValue) → IsHash hash → hash.code ≡ 0x12
    → hash_of_text (hash_text hash) ≡ Some hash
hash_of_text-hash_text hash is code =
    let read_by : ℕ → Type 0 = λ code. hash_of_text_with code (hash_text hash) ≡ Some hash in
    subst read_by code (hash_of_text_with-hash_text hash is)

-- a text that neither algorithm reads
pub neither-none : (text : List ℕ) (hash : HashValue) → hash_of_text_with 0x12 text ≡ None
    → hash_of_text_with 0x13 text ≡ None → IsHash hash → text ≢ hash_text hash
neither-none text hash none other is = elim is.code as (λ _. text ≢ hash_text hash) [
  | inl code ↦ hash_of_text_with-none 0x12 text hash none is code
  | inr code ↦ hash_of_text_with-none 0x13 text hash other is code
]

-- a buffer into which the code, the length and the digest are put
pub multihash_put : (code size : ℕ) (into digest copied : List ℕ) → length into ≡ 2 + length digest → copied ≡ digest
    → put_mid 2 (length (slice_set (slice_set into 0 code) 1 size) - 2) (slice_set (slice_set into 0 code) 1 size) copied
    ≡ code ∷ size ∷ digest
multihash_put code size [] digest copied long same = absurd (omega (arith, long))
multihash_put code size (a ∷ []) digest copied long same = absurd (omega (arith, long))
multihash_put code size (a ∷ b ∷ rest) digest copied long same =
    let past = drop_all (length (code ∷ size ∷ rest) - 2) rest (omega arith) in
    rw (past, append-nil, same) refl

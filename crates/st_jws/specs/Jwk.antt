-- LMS keys as JSON Web Keys (RFC 7517), in this project's form.
use Rattle.std.specs.Prelude.{ℕ, Bool, false, ◌&&◌, List, [], ◌∷◌, codes, Option, Some, None, option_map, option_and_then, ◌≡◌}
use Rattle.st_base.specs.Options.{◌>>=◌, ◌>>◌}
use Rattle.st_plain.specs.Plain.{canonical, Plain, text}
use Rattle.st_plain.specs.Names.{is_name}
use Rattle.st_plain.specs.Objects.{object_of_some, text_in}
use Rattle.st_plain.specs.Shapes.{is_object_of, member_in, text_at}
use Rattle.st_hash.specs.Hash.{base64url, fixed_of_text, HashValue, hash_of_with}
use Rattle.st_lms.specs.Signature.{public_in}
use Rattle.st_lms.specs.Tree.{PublicKey, public_text}
use Rattle.st_jws.specs.declared.jwk.Jwk.{Jwk}

-- the name of the algorithm, and of the type of key
abbrev pub lms : List ℕ
lms = codes "LMS"

-- ---- written

-- the text of bytes
abbrev pub bytes_json : List ℕ → Plain
bytes_json bytes = text (base64url bytes)

-- the members of a key
abbrev pub jwk_members : Jwk → List (List ℕ × Option Plain)
jwk_members key =
    (codes "alg", Some (text lms))
    ∷ (codes "kty", Some (text lms))
    ∷ (codes "pub", Some (bytes_json (public_text key.public)))
    ∷ (codes "nonce", option_map bytes_json key.nonce)
    ∷ []

-- the JSON of a key
abbrev pub jwk_json : Jwk → Plain
jwk_json key = object_of_some (jwk_members key)

-- the members that a key may have as JSON
abbrev pub jwk_names : List (List ℕ)
jwk_names = codes "alg" ∷ codes "kty" ∷ codes "pub" ∷ codes "nonce" ∷ []

-- the text is `LMS`, and not missing
abbrev pub is_lms : Option (List ℕ) → Bool
is_lms None = false
is_lms (Some bytes) = is_name bytes lms

-- an object with no members except those of a key, whose `alg` and `kty` are `LMS`
abbrev pub is_lms_key : Option Plain → Bool
is_lms_key there =
    is_object_of jwk_names there && (is_lms (text_at (codes "alg") there) && is_lms (text_at (codes "kty") there))

-- the public key whose 56 bytes a text has in base64url
abbrev pub public_of_text : List ℕ → Option PublicKey
public_of_text bytes = option_and_then public_in (fixed_of_text 56 bytes)

-- the nonce whose 16 bytes a text has in base64url, or that there is none
abbrev pub nonce_at : Option Plain → Option (Option (List ℕ))
nonce_at None = Some None
nonce_at (Some value) = option_map Some (option_and_then (fixed_of_text 16) (text_in value))

-- the key of a value
abbrev pub jwk_of : Plain → Option Jwk
jwk_of value = do
  is_lms_key (Some value)
  public ← option_and_then public_of_text (text_at (codes "pub") (Some value))
  nonce ← nonce_at (member_in (codes "nonce") (Some value))
  Some (record { public = public; nonce = nonce })

-- ---- Reveal values and commitments of keys (DIF Sidetree v1.0.0, "Public Key Commitment Scheme"), by the
-- multihash code of their algorithm.

-- the hash of the canonical text of the key's JSON
abbrev pub reveal_of_with : ℕ → Jwk → HashValue
reveal_of_with code key = hash_of_with code (canonical (jwk_json key))

-- the hash of the digest of the reveal value with this algorithm
abbrev pub commitment_of_with : ℕ → Jwk → HashValue
commitment_of_with code key = hash_of_with code (reveal_of_with code key).digest

-- the reveal value by SHA-256
abbrev pub reveal_of : Jwk → HashValue
reveal_of key = reveal_of_with 0x12 key

-- the commitment by SHA-256
abbrev pub commitment_of : Jwk → HashValue
commitment_of key = commitment_of_with 0x12 key

-- the reveal value meets the commitment, which is the hash of its digest with the same algorithm
abbrev pub Meets : HashValue → HashValue → Type 0
Meets reveal commitment = commitment ≡ hash_of_with reveal.code reveal.digest

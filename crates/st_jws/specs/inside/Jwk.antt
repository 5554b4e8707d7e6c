-- The members of a key's object, however it was read.
use Rattle.std.specs.Prelude.{◌≡◌, true, Some, codes, option_map, ⊤, ℕ, List, length, Option, None}
use Rattle.base64.specs.GeneralPurpose.{IsBytes}
use Rattle.st_plain.specs.Objects.{has_only, member_at}
use Rattle.st_plain.specs.Plain.{Members, text}
use Rattle.st_canon.specs.View.{plain}
use Rattle.st_canon.specs.declared.value.Json.{Json}
use Rattle.st_lms.specs.Tree.{public_text}
use Rattle.st_jws.specs.Jwk.{bytes_json, jwk_names, lms}
use Rattle.st_jws.specs.Signing.{Opened}
use Rattle.st_jws.specs.declared.jwk.Jwk.{Jwk}

-- the members are those written for the key, in any order
pub record HasKey (members : Members) (key : Jwk) : Type 0 where
  pub only : has_only jwk_names members ≡ true
  pub alg : member_at (codes "alg") members ≡ Some (text lms)
  pub kty : member_at (codes "kty") members ≡ Some (text lms)
  pub public : member_at (codes "pub") members ≡ Some (bytes_json (public_text key.public))
  pub nonce : member_at (codes "nonce") members ≡ option_map bytes_json key.nonce

-- ---- read

-- a nonce, if any, has 16 bytes
abbrev pub IsNonce : Option (List ℕ) → Type 0
IsNonce None = ⊤
IsNonce (Some nonce) = (length nonce ≡ 16) × IsBytes nonce

-- the view of a pair of a payload and a key
abbrev pub found_view : Json × Jwk → Opened
found_view found = record { payload = plain found.0; key = found.1 }

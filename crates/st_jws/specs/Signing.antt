-- The content of a compact signed text (RFC 7515, section 5.2) with the algorithm LMS and a key inside the payload.
use Rattle.std.specs.Option.{ok_or, option_xor}
use Rattle.std.specs.Prelude.{ℕ, Bool, ◌&&◌, nat_le, List, [], ◌∷◌, length, codes, Option, Some, None, option_and_then, Result, Ok, ◌≡◌, ◌≤◌, ◌++◌}
use Rattle.st_base.specs.Answers.{◌>>=◌, ◌>>◌, holds_or}
use Rattle.st_plain.specs.Plain.{canonical, Plain, IsProper}
use Rattle.st_plain.specs.Measures.{depth_of}
use Rattle.st_plain.specs.Shapes.{is_object_of, is_text_if_there, json_in, member_in, text_at}
use Rattle.st_hash.specs.Hash.{bytes_of_text, base64url}
use Rattle.st_lms.specs.Signature.{is_signature, IsSignature}
use Rattle.st_jws.specs.Jwk.{is_lms, jwk_of}
use Rattle.st_jws.specs.Texts.{texts_of, dot}
use Rattle.st_jws.specs.declared.jwk.Jwk.{Jwk}
use Rattle.st_jws.specs.declared.signed.Signed.{Signed}
use Rattle.st_jws.specs.declared.signed.SignedRefused.{SignedRefused}
use Rattle.st_jws.specs.declared.signed.SignedRefused.TheVariants.{BadForm, BadHeader, BadPayload, BadSignature, WantOfMemory}

-- an object with exactly `alg`, which is `LMS`, and optionally a text `kid`
abbrev pub is_header : Option Plain → Bool
is_header there =
    is_object_of (codes "alg" ∷ codes "kid" ∷ []) there
    && (is_lms (text_at (codes "alg") there) && is_text_if_there (member_in (codes "kid") there))

-- the key of a payload: there is exactly one of `updateKey` and `recoveryKey` among its members
abbrev pub key_in : Plain → Option Jwk
key_in payload =
    option_and_then jwk_of (option_xor (member_in (codes "updateKey") (Some payload)) (member_in (codes "recoveryKey") (Some payload)))

-- the content of a signed text: its payload, and the key that signed it
pub record Opened : Type 0 where
  pub payload : Plain
  pub key : Jwk

-- the payload and the key of a signed text of at most this many bytes, or the first rule that it breaks
abbrev pub opened : List ℕ → ℕ → Result Opened SignedRefused
opened compact limit = do
  holds_or (nat_le (length compact) limit) BadForm
  texts ← ok_or (texts_of compact) BadForm
  header ← ok_or (bytes_of_text texts.header) BadForm
  payload ← ok_or (bytes_of_text texts.payload) BadForm
  signature ← ok_or (bytes_of_text texts.signature) BadForm
  holds_or (is_header (json_in header)) BadHeader
  json ← ok_or (json_in payload) BadPayload
  key ← ok_or (key_in json) BadPayload
  holds_or (is_signature key.public texts.input signature) BadSignature
  Ok (record { payload = json; key = key })

-- the refusal of an error, if it is one
abbrev pub refusal_of : SignedRefused → Option SignedRefused
refusal_of WantOfMemory = None
refusal_of refusal = Some refusal

-- ---- Opened texts, as definitions see them.

-- the view of an opened text
abbrev pub opened_view : Signed → Opened
opened_view signed = record { payload = signed.payload; key = signed.key }

-- ---- Writing compact signed texts (RFC 7515, section 5.1).

-- the header that is written
abbrev pub header_text : List ℕ
header_text = codes "{\"alg\":\"LMS\"}"

-- the input of a signature of a payload: the header and the canonical payload, with a dot between their texts
abbrev pub signing_input : Plain → List ℕ
signing_input payload = base64url header_text ++ dot ∷ base64url (canonical payload)

-- the input, a dot, the text of the signature
abbrev pub join_signed : List ℕ → List ℕ → List ℕ
join_signed input signature = input ++ dot ∷ base64url signature

-- a payload that is read again, with one key, and a signature over it under that key
pub record Signs (payload : Plain) (key : Jwk) (signature : List ℕ) : Type 0 where
  pub proper : IsProper payload
  pub shallow : depth_of payload ≤ 127
  pub keyed : key_in payload ≡ Some key
  pub signed : IsSignature key.public (signing_input payload) signature

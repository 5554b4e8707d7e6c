-- Texts split at their dots.
use Rattle.std.proofs.Common.{◌≡◌, ◌∙◌, ℕ, ◌+◌, List, ◌∷◌, ◌++◌, length, take, Some, sym, ap, refl, append_assoc, length-append, arith, Result, Ok, Err, IsOk, MatchResult, lit<, ◌≤◌, true, nat_le, codes, subst, lit≤}
use Rattle.std.proofs.lemmas.Bool.Decides.{nat_tests}
use Rattle.std.proofs.lemmas.List.{take_at}
use Rattle.std.proofs.lemmas.Str.{IsAscii-append}
use Rattle.std.proofs.lemmas.Str.Ascii.{IsAscii-cons}
use Rattle.std.specs.Result.{result_ok}
use Rattle.std.specs.Str.{IsAscii, IsUtf8}
use Rattle.base64.proofs.EngineFacts.{IsAscii-encode_of}
use Rattle.base64.specs.Engines.{url_safe_no_pad}
use Rattle.base64.specs.GeneralPurpose.{IsBytes}
use lib.Utf8.{encode}
use Rattle.st_base.proofs.TextLemmas.{cut_at-append}
use Rattle.st_base.specs.Texts.{cut_at}
use Rattle.st_plain.proofs.ReadableLemmas.{reads_back}
use Rattle.st_plain.proofs.Compact.{IsUtf8-canonical}
use Rattle.st_plain.specs.Plain.{canonical, escape, Plain, text, object, no_members, member, IsProper}
use Rattle.st_plain.specs.Shapes.{json_in}
use Rattle.st_hash.proofs.Base64Lemmas.{bytes_of_text-base64url, base64url_apart, no_dot, IsBytes-IsUtf8}
use Rattle.st_hash.specs.Hash.{base64url}
use Rattle.st_lms.proofs.LawLemmas.{is_signature-IsSignature}
use Rattle.st_jws.specs.Jwk.{lms}
use Rattle.st_jws.specs.Signing.{is_header, opened, header_text, signing_input, join_signed, Signs}
use Rattle.st_jws.specs.Texts.{dot, Texts, texts_of}
use Rattle.st_jws.specs.declared.jwk.Jwk.{Jwk}

-- three texts joined by dots, grouped from the left
pub regrouped : (a b c : List ℕ) → a ++ dot ∷ (b ++ dot ∷ c) ≡ (a ++ dot ∷ b) ++ dot ∷ c
regrouped a b c = sym (append_assoc a (dot ∷ b) (dot ∷ c))

-- the first two texts with their dot
pub input_of : (whole a b c : List ℕ) → whole ≡ (a ++ dot ∷ b) ++ dot ∷ c
    → take (length a + 1 + length b) whole ≡ a ++ dot ∷ b
input_of whole a b c e =
    let long : length (a ++ dot ∷ b) ≡ length a + 1 + length b = omega (arith, length-append a (dot ∷ b)) in
    ap (take (length a + 1 + length b)) e ∙ take_at (a ++ dot ∷ b) (dot ∷ c) (length a + 1 + length b) long

-- the texts split off one after another
pub texts_found : (whole header rest payload signature : List ℕ) → whole ≡ (header ++ dot ∷ payload) ++ dot ∷ signature
    → cut_at dot whole ≡ Some (header, rest) → cut_at dot rest ≡ Some (payload, signature)
    → Some (record { input = take (length header + 1 + length payload) whole; header = header; payload = payload; signature = signature }) ≡ texts_of whole
texts_found whole header rest payload signature e first second =
    let texts : List ℕ → Texts = λ input. record { input = input; header = header; payload = payload; signature = signature } in
    ap (λ input. Some (texts input)) (input_of whole header payload signature e) ∙ sym (rw (first, second) refl)

-- ---- Texts joined by dots.

-- bytes in UTF-8 are decoded
pub decodes : {T E : Type 0} (r : Result T E) (P : T → Type 0) (Q : E → Type 0) (U : Type 0)
    → MatchResult r P (λ e. ¬ U × Q e) → U → IsOk r
decodes (Ok x) P Q U cases utf8 = refl
decodes (Err e) P Q U cases utf8 = absurd (cases.0 utf8)

pub IsAscii-signing_input : (payload : Plain) → IsAscii (signing_input payload)
IsAscii-signing_input payload =
    let second = base64url (canonical payload) in
    IsAscii-append (base64url header_text) (dot ∷ second) (IsAscii-encode_of url_safe_no_pad header_text)
    (IsAscii-cons dot second (lit< tt) (IsAscii-encode_of url_safe_no_pad (canonical payload)))

-- ---- A text joined from a signature over a payload opens to that payload and its key.

-- ---- the header

abbrev lms_header : Plain
lms_header = object (member (codes "alg") (text lms) no_members)

alg_is_text : IsUtf8 (codes "alg")
unfolding encode
alg_is_text = (codes "alg", (refl, refl))

lms_is_text : IsUtf8 lms
unfolding encode
lms_is_text = (lms, (refl, refl))

proper_header : IsProper lms_header
proper_header = (alg_is_text, tt, lms_is_text, tt)

canonical_header : canonical lms_header ≡ header_text
unfolding escape
canonical_header = refl

json_in-header_text : json_in header_text ≡ Some lms_header
json_in-header_text =
    ap json_in (sym canonical_header) ∙ ap result_ok (reads_back lms_header proper_header (lit≤ tt))

header_holds : is_header (json_in header_text) ≡ true
header_holds = ap is_header json_in-header_text

header_bytes : IsBytes header_text
header_bytes =
    subst IsBytes canonical_header (IsBytes-IsUtf8 (canonical lms_header) (IsUtf8-canonical lms_header proper_header))

-- ---- the texts

texts_of-joined : (header payload signature : List ℕ) → IsBytes header → IsBytes payload
    → texts_of (join_signed (base64url header ++ dot ∷ base64url payload) signature)
    ≡ Some (record {
      input = base64url header ++ dot ∷ base64url payload;
      header = base64url header;
      payload = base64url payload;
      signature = base64url signature;
    })
texts_of-joined header payload signature header_are payload_are =
    let first = base64url header in
    let second = base64url payload in
    let third = base64url signature in
    let whole : join_signed (first ++ dot ∷ second) signature ≡ first ++ dot ∷ (second ++ dot ∷ third) = append_assoc first (dot ∷ second) (dot ∷ third) in
    let cut = cut_at-append dot first (second ++ dot ∷ third) (no_dot first (base64url_apart header header_are)) in
    let cut_again = cut_at-append dot second third (no_dot second (base64url_apart payload payload_are)) in
    rw (whole, cut, cut_again) refl

-- ---- the law

-- a signed text that is short enough opens to its payload and key
pub opened-joined : (payload : Plain) (key : Jwk) (signature : List ℕ) (limit : ℕ) → Signs payload key signature
    → IsBytes signature
    → length (join_signed (signing_input payload) signature) ≤ limit
    → opened (join_signed (signing_input payload) signature) limit ≡ Ok (record { payload = payload; key = key })
opened-joined payload key signature limit signs are_bytes within =
    let input = signing_input payload in
    let short : nat_le (length (join_signed input signature)) limit ≡ true = grind (arith, nat_tests) in
    let payload_bytes = IsBytes-IsUtf8 (canonical payload) (IsUtf8-canonical payload signs.proper) in
    let texts = texts_of-joined header_text (canonical payload) signature header_bytes payload_bytes in
    let first = bytes_of_text-base64url header_text header_bytes in
    let second = bytes_of_text-base64url (canonical payload) payload_bytes in
    let third = bytes_of_text-base64url signature are_bytes in
    let json : json_in (canonical payload) ≡ Some payload = ap result_ok (reads_back payload signs.proper signs.shallow) in
    let holds = is_signature-IsSignature key.public input signature signs.signed in
    rw (short, texts, first, second, third, header_holds, json, signs.keyed, holds) refl

-- The JSON of a key, read again.
use Rattle.std.proofs.Common.{◌≡◌, ◌∙◌, ℕ, true, List, [], ◌∷◌, codes, length, Option, Some, None, option_map, option_and_then, refl, ap, ◌≢◌, false, if◌then◌else◌, Less, Equal, Greater, sym, subst}
use Rattle.std.proofs.lemmas.Bool.{and_parts}
use Rattle.std.proofs.lemmas.Option.{same_Some}
use Rattle.std.proofs.lemmas.Str.{IsUtf8-from_ascii}
use Rattle.std.specs.List.{list_any}
use Rattle.std.specs.Str.{IsUtf8}
use Rattle.base64.proofs.EngineFacts.{IsAscii-encode_of}
use Rattle.base64.specs.Engines.{url_safe_no_pad}
use Rattle.base64.specs.GeneralPurpose.{IsBytes}
use lib.Utf8.{encode}
use Rattle.st_plain.proofs.NameLemmas.{names_on_literals, name_total, less_from_greater, same_from_tied, same_from_is_name, is_name_from_same, not_name_from_less}
use Rattle.st_plain.specs.Objects.{has_only, member_at, object_of_some, put_some, some_listed}
use Rattle.st_plain.specs.Names.{is_name, name_cmp}
use Rattle.st_plain.specs.Plain.{Plain, text, Members, no_members, member, AllAbove, MembersAreProper}
use Rattle.st_plain.specs.Shapes.{member_in}
use Rattle.st_hash.proofs.Base64Lemmas.{fixed_of_text-base64url}
use Rattle.st_hash.specs.Hash.{base64url}
use Rattle.st_lms.proofs.LawLemmas.{public_in-public_text}
use Rattle.st_lms.specs.Signature.{public_in}
use Rattle.st_lms.specs.Tree.{PublicKey, IsPublicKey, public_text}
use Rattle.st_jws.specs.Jwk.{lms, bytes_json, jwk_json, is_lms_key, public_of_text, nonce_at, jwk_of, jwk_members, jwk_names}
use Rattle.st_jws.specs.declared.jwk.Jwk.{Jwk}
use Rattle.st_jws.specs.inside.Jwk.{HasKey, IsNonce}

-- an object with the members of a key
abbrev json_written : Plain → Option Plain → Plain
json_written public nonce =
    object_of_some ((codes "alg", Some (text lms)) ∷ (codes "kty", Some (text lms)) ∷ (codes "pub", Some public) ∷ (codes "nonce", nonce) ∷ [])

written_is_lms_key : (public : Plain) (nonce : Option Plain) → is_lms_key (Some (json_written public nonce)) ≡ true
unfolding names_on_literals put_some
written_is_lms_key public None = refl
written_is_lms_key public (Some nonce) = refl

written_public : (public : Plain) (nonce : Option Plain) → member_in (codes "pub") (Some (json_written public nonce)) ≡ Some public
unfolding names_on_literals put_some
written_public public None = refl
written_public public (Some nonce) = refl

written_nonce : (public : Plain) (nonce : Option Plain) → member_in (codes "nonce") (Some (json_written public nonce)) ≡ nonce
unfolding names_on_literals put_some
written_nonce public None = refl
written_nonce public (Some nonce) = refl

public_again : (key : PublicKey) → IsPublicKey key → length (public_text key) ≡ 56 → IsBytes (public_text key)
    → public_of_text (base64url (public_text key)) ≡ Some key
public_again key is long are_bytes =
    ap (option_and_then public_in) (fixed_of_text-base64url 56 (public_text key) are_bytes long) ∙ public_in-public_text key is

nonce_again : (nonce : Option (List ℕ)) → IsNonce nonce → nonce_at (option_map bytes_json nonce) ≡ Some nonce
nonce_again None is = refl
nonce_again (Some nonce) is = ap (option_map Some) (fixed_of_text-base64url 16 nonce is.1 is.0)

-- the JSON of a key is read as that key
pub jwk_of-jwk_json : (key : Jwk) → IsPublicKey key.public → length (public_text key.public) ≡ 56
    → IsBytes (public_text key.public) → IsNonce key.nonce
    → jwk_of (jwk_json key) ≡ Some key
jwk_of-jwk_json key is long are_bytes sixteen =
    let public = bytes_json (public_text key.public) in
    let nonce = option_map bytes_json key.nonce in
    rw (written_is_lms_key public nonce, written_public public nonce, written_nonce public nonce, public_again key.public is long are_bytes, nonce_again key.nonce sixteen) refl

-- ---- Members are determined by the value under each name.

-- a name below all others is none of them
not_above : (name : List ℕ) (ms : Members) → AllAbove name ms → member_at name ms ≡ None
not_above name no_members above = refl
not_above name (member n p ms) above = rw (not_name_from_less name n above.0) (not_above name ms above.1)

-- a name below this one is below all that are above it
above_lower : (low name : List ℕ) (ms : Members) → name_cmp low name ≡ Less → AllAbove name ms → AllAbove low ms
above_lower low name no_members less above = tt
above_lower low name (member n p ms) less above =
    (name_total.trans low name n less above.0, above_lower low name ms less above.1)

first_found : (name : List ℕ) (p : Plain) (ms : Members) → member_at name (member name p ms) ≡ Some p
first_found name p ms = rw (is_name_from_same name name refl) refl

-- a first member whose name is below all others is missing from them
missed : (low name : List ℕ) (p q : Plain) (ms ns : Members) → name_cmp low name ≡ Less → AllAbove name ns
    → member_at low (member low p ms) ≢ member_at low (member name q ns)
missed low name p q ms ns less above same =
    let there : member_at low (member low p ms) ≡ Some p = first_found low p ms in
    let none : member_at low (member name q ns) ≡ None = not_above low (member name q ns) (less, above_lower low name ns less above) in
    cc

-- the rest of the members has the same under the other names
behind_first : (name other : List ℕ) (p : Plain) (ms : Members) → AllAbove name ms
    → member_at other ms ≡ (if is_name other name then None else member_at other (member name p ms))
behind_first name other p ms above =
    elim (is_name other name) as (λ t. is_name other name ≡ t → member_at other ms ≡ (if t then None else (if t then Some p else member_at other ms))) [
      | true ↦ λ is. rw (same_from_is_name other name is) (not_above name ms above)
      | false ↦ λ is. refl
    ] refl

-- Members that ascend, and have the same under each name, are the same.
pub same_members : (ms ns : Members) → MembersAreProper ms → MembersAreProper ns
    → ((name : List ℕ) → member_at name ms ≡ member_at name ns)
    → ms ≡ ns
same_members no_members no_members first second agree = refl
same_members no_members (member n q ns) first second agree =
    let found = first_found n q ns in
    let none = agree n in
    absurd cc
same_members (member m p ms) no_members first second agree =
    let found = first_found m p ms in
    let none = agree m in
    absurd cc
same_members (member m p ms) (member n q ns) first second agree =
    elim (name_cmp m n) as (λ o. name_cmp m n ≡ o → member m p ms ≡ member n q ns) [
      | Less ↦ λ is. absurd (missed m n p q ms ns is second.1 (agree m))
      | Equal ↦ λ is.
          let name : n ≡ m = sym (same_from_tied m n first.0 second.0 is) in
          let again : (other : List ℕ) → member_at other (member m p ms) ≡ member_at other (member m q ns) = rw name at agree in
          let value = same_Some p q (sym (first_found m p ms) ∙ again m ∙ first_found m q ns) in
          let above : AllAbove m ns = rw name at second.1 in
          let agree_behind : (other : List ℕ) → member_at other ms ≡ member_at other ns = λ other.
          behind_first m other p ms first.1 ∙ ap (λ found. if is_name other m then None else found) (again other) ∙ sym (behind_first m other q ns above) in
          let rest = same_members ms ns first.3 second.3 agree_behind in
          rw (name, value, rest) refl
      | Greater ↦ λ is. absurd (missed n m q p ns ms (less_from_greater m n is) first.1 (sym (agree n)))
    ] refl

-- members that all have one of these names have nothing under another
pub none_beside : (names : List (List ℕ)) (name : List ℕ) (ms : Members) → has_only names ms ≡ true
    → list_any (is_name name) names ≡ false
    → member_at name ms ≡ None
none_beside names name no_members only beside = refl
none_beside names name (member n p ms) only beside =
    let parts = and_parts (list_any (is_name n) names) (has_only names ms) only in
    elim (is_name name n) as (λ t. is_name name n ≡ t → member_at name (member n p ms) ≡ None) [
      | true ↦ λ is. let among : list_any (is_name name) names ≡ true = subst (λ k. list_any (is_name k) names ≡ true) (sym (same_from_is_name name n is)) parts.0 in
          absurd cc
      | false ↦ λ is. rw is (none_beside names name ms parts.1 beside)
    ] refl

-- ---- A proper value that is read as a key is the one written for it.

-- ---- the written value is proper

utf8_alg : IsUtf8 (codes "alg")
unfolding encode
utf8_alg = (codes "alg", (refl, refl))

utf8_kty : IsUtf8 (codes "kty")
unfolding encode
utf8_kty = (codes "kty", (refl, refl))

utf8_pub : IsUtf8 (codes "pub")
unfolding encode
utf8_pub = (codes "pub", (refl, refl))

utf8_nonce : IsUtf8 (codes "nonce")
unfolding encode
utf8_nonce = (codes "nonce", (refl, refl))

utf8_lms : IsUtf8 lms
unfolding encode
utf8_lms = (lms, (refl, refl))

utf8_base64url : (bytes : List ℕ) → IsUtf8 (base64url bytes)
utf8_base64url bytes = IsUtf8-from_ascii (base64url bytes) (IsAscii-encode_of url_safe_no_pad bytes)

-- the written members
abbrev members_of : Plain → Option Plain → Members
members_of public nonce =
    some_listed ((codes "alg", Some (text lms)) ∷ (codes "kty", Some (text lms)) ∷ (codes "pub", Some public) ∷ (codes "nonce", nonce) ∷ [])

proper_members : (public : List ℕ) (nonce : Option (List ℕ)) → MembersAreProper (members_of (bytes_json public) (option_map bytes_json nonce))
unfolding names_on_literals put_some
proper_members public None =
    (utf8_alg, (refl, (refl, tt)), utf8_lms, (utf8_kty, (refl, tt), utf8_lms, (utf8_pub, tt, utf8_base64url public, tt)))
proper_members public (Some nonce) =
    (utf8_alg, (refl, (refl, (refl, tt))), utf8_lms, (utf8_kty, (refl, (refl, tt)), utf8_lms, (utf8_nonce, (refl, tt), utf8_base64url nonce, (utf8_pub, tt, utf8_base64url public, tt))))

-- ---- the value under each name

-- the value written under each name
record Holds (public : Plain) (nonce : Option Plain) : Type 0 where
  alg : member_at (codes "alg") (members_of public nonce) ≡ Some (text lms)
  kty : member_at (codes "kty") (members_of public nonce) ≡ Some (text lms)
  pub_ : member_at (codes "pub") (members_of public nonce) ≡ Some public
  nonce_ : member_at (codes "nonce") (members_of public nonce) ≡ nonce
  beside : (name : List ℕ) → is_name name (codes "alg") ≡ false → is_name name (codes "kty") ≡ false
      → is_name name (codes "pub") ≡ false
      → is_name name (codes "nonce") ≡ false
      → member_at name (members_of public nonce) ≡ None

holds : (public : Plain) (nonce : Option Plain) → Holds public nonce
unfolding names_on_literals put_some
holds public None = record {
  alg = refl;
  kty = refl;
  pub_ = refl;
  nonce_ = refl;
  beside = λ name a k p n. rw (a, k, p) refl;
}
holds public (Some nonce) = record {
  alg = refl;
  kty = refl;
  pub_ = refl;
  nonce_ = refl;
  beside = λ name a k p n. rw (a, k, n, p) refl;
}

module _ (members : Members) (key : Jwk) where
  module _ (has : HasKey members key) where
    abbrev written : Members
    written = some_listed (jwk_members key)

    abbrev says : Holds (bytes_json (public_text key.public)) (option_map bytes_json key.nonce)
    says = holds (bytes_json (public_text key.public)) (option_map bytes_json key.nonce)

    -- a name that equals one of the four has the same value
    named : (one name : List ℕ) → is_name name one ≡ true → member_at one members ≡ member_at one written
        → member_at name members ≡ member_at name written
    named one name is same =
        subst (λ n. member_at n members ≡ member_at n written) (sym (same_from_is_name name one is)) same

    agree : (name : List ℕ) → member_at name members ≡ member_at name written
    agree name =
        elim (is_name name (codes "alg")) as (λ t. is_name name (codes "alg") ≡ t → member_at name members ≡ member_at name written) [
          | true ↦ λ is. named (codes "alg") name is (has.alg ∙ sym says.alg)
          | false ↦ λ a. elim (is_name name (codes "kty")) as (λ t. is_name name (codes "kty") ≡ t → member_at name members ≡ member_at name written) [
            | true ↦ λ is. named (codes "kty") name is (has.kty ∙ sym says.kty)
            | false ↦ λ k. elim (is_name name (codes "pub")) as (λ t. is_name name (codes "pub") ≡ t → member_at name members ≡ member_at name written) [
              | true ↦ λ is. named (codes "pub") name is (has.public ∙ sym says.pub_)
              | false ↦ λ p. elim (is_name name (codes "nonce")) as (λ t. is_name name (codes "nonce") ≡ t → member_at name members ≡ member_at name written) [
                | true ↦ λ is. named (codes "nonce") name is (has.nonce ∙ sym says.nonce_)
                | false ↦ λ n. none_beside jwk_names name members has.only (rw (a, k, p, n) refl) ∙ sym (says.beside name a k p n)
              ] refl
            ] refl
          ] refl
        ] refl

    -- proper members that are read as a key are those written for it
    pub members-written : MembersAreProper members → members ≡ some_listed (jwk_members key)
    members-written proper =
        same_members members written proper (proper_members (public_text key.public) key.nonce) agree

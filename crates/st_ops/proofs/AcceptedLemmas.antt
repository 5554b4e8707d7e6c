-- The conditions on an operation that a request is accepted for.
use Rattle.std.proofs.Common.{◌∙◌, false, cond, List, [], ◌∷◌, None, codes, refl, ap, subst}
use Rattle.std.specs.Prelude.{◌≡◌, ℕ, is_some, IsSome, IsSomeAnd, Bool, true, Option, Some, option_and_then}
use Rattle.std.specs.Str.{IsUtf8}
use Rattle.st_plain.specs.Objects.{members_in, text_in}
use Rattle.st_plain.specs.Plain.{Plain}
use Rattle.st_plain.specs.Shapes.{member_in, is_object_of}
use Rattle.st_hash.proofs.HashLemmas.{hash_of_multihash-spelled, hash_of_text_at-hash_text, hash_of_text_at-spelled}
use Rattle.st_hash.proofs.Base64Lemmas.{IsBytes-IsUtf8}
use Rattle.st_hash.specs.Hash.{bytes_of_text, HashValue, hash_of_text_at, hash_text, IsHash, IsOfVersion, hash_of_multihash}
use Rattle.st_params.specs.ParamsValue.{ParamsValue}
use Rattle.st_indexfiles.specs.CoreIndex.{hash_in, suffix_data_of}
use Rattle.st_indexfiles.specs.declared.suffix_data.SuffixData.{SuffixData}
use Rattle.st_indexfiles.specs.declared.entries.Target.{Target}
use Rattle.st_ops.specs.Claim.{claim_of, proof_of, target_in}
use Rattle.st_ops.specs.Operation.{PlainOperation, Proof, creating, updating, recovering, deactivating}

-- the version reads the hash from its text
abbrev pub IsReadAt : ℕ → HashValue → Type 0
IsReadAt version hash = hash_of_text_at version (hash_text hash) ≡ Some hash

-- the value is an object
abbrev pub is_object_there : Option Plain → Bool
is_object_there there = is_some (option_and_then members_in there)

-- a signed operation: its target is read from hash texts of the version, its proof is there and is the content of its
-- text, and it has a claim
pub record IsProved (limits : ParamsValue) (target : Target) (proof : Option Proof) (operation : PlainOperation) : Type 0 where
  pub suffix : IsReadAt limits.version target.suffix
  pub reveal : IsReadAt limits.version target.reveal
  pub opens : IsSomeAnd proof (λ found. proof_of limits.max_signed found.text ≡ Some found)
  pub claims : IsSome (claim_of limits operation)

-- a request may be accepted for the operation at these limits
abbrev pub IsAccepted : ParamsValue → PlainOperation → Type 0
IsAccepted limits (creating suffix_data delta) =
    IsReadAt limits.version suffix_data.delta_hash × IsReadAt limits.version suffix_data.recovery_commitment × (is_object_there delta ≡ true)
IsAccepted limits (updating target proof delta) = IsProved limits target proof (updating target proof delta) × (is_object_there delta ≡ true)
IsAccepted limits (recovering target proof delta) = IsProved limits target proof (recovering target proof delta) × (is_object_there delta ≡ true)
IsAccepted limits (deactivating target proof) = IsProved limits target proof (deactivating target proof)

-- ---- Hashes that were read, and are read again from their own texts.

-- ---- of a version

of_sha256 : (bytes : Option (List ℕ)) (hash : HashValue) → option_and_then (hash_of_multihash 0x12) bytes ≡ Some hash → hash.code ≡ 0x12
of_sha256 None hash e = absurd cc
of_sha256 (Some bytes) hash e = (hash_of_multihash-spelled 0x12 bytes hash e).1

of_version : (version : ℕ) (text : List ℕ) (hash : HashValue) → hash_of_text_at version text ≡ Some hash → IsOfVersion version hash
of_version version text hash e = λ first.
    of_sha256 (bytes_of_text text) hash (subst (λ v. hash_of_text_at v text ≡ Some hash) first e)

-- a hash that was read is read from its own text
text_again : (version : ℕ) (text : Option (List ℕ)) (hash : HashValue) → IsHash hash → option_and_then (hash_of_text_at version) text ≡ Some hash
    → IsReadAt version hash
text_again version None hash is e = absurd cc
text_again version (Some text) hash is e = hash_of_text_at-hash_text version hash is (of_version version text hash e)

pub read_again : (version : ℕ) (there : Option Plain) (hash : HashValue) → IsHash hash → hash_in version there ≡ Some hash → IsReadAt version hash
read_again version there hash is e = text_again version (option_and_then text_in there) hash is e

-- ---- of a text

-- a hash that was read from bytes in UTF-8 has that text
pub record HasText (version : ℕ) (hash : HashValue) : Type 0 where
  pub read : IsReadAt version hash
  pub utf8 : IsUtf8 (hash_text hash)

pub text_is : (version : ℕ) (bytes : List ℕ) (hash : HashValue) → IsUtf8 bytes → hash_of_text_at version bytes ≡ Some hash
    → HasText version hash
text_is version bytes hash utf8 e =
    let same = (hash_of_text_at-spelled version bytes hash (IsBytes-IsUtf8 bytes utf8) e).0 in
    record {
      read = subst (λ found. hash_of_text_at version found ≡ Some hash) same e;
      utf8 = subst IsUtf8 same utf8;
    }

-- ---- of two hashes

both_read : {Said : Type 0} (make : HashValue → HashValue → Said) (first second : Option HashValue) (said : Said)
    → option_and_then (λ a. option_and_then (λ b. Some (make a b)) second) first ≡ Some said
    → (a : HashValue) × (b : HashValue) × (first ≡ Some a) × (second ≡ Some b) × (make a b ≡ said)
both_read make None second said e = absurd cc
both_read make (Some a) None said e = absurd cc
both_read make (Some a) (Some b) said e = let same : make a b ≡ said = cc in (a, b, refl, refl, same)

-- the two hashes of a target
pub record TargetRead (version : ℕ) (request : Option Plain) (target : Target) : Type 0 where
  pub suffix : hash_in version (member_in (codes "didSuffix") request) ≡ Some target.suffix
  pub reveal : hash_in version (member_in (codes "revealValue") request) ≡ Some target.reveal

pub target_read : (version : ℕ) (request : Option Plain) (target : Target) → target_in version request ≡ Some target
    → TargetRead version request target
unfolding target_in
target_read version request target e =
    let parts = both_read (λ suffix reveal. record { suffix = suffix; reveal = reveal }) _ _ target e in
    record {
      suffix = parts.2 ∙ ap (λ found. Some found.suffix) parts.4;
      reveal = parts.3 ∙ ap (λ found. Some found.reveal) parts.4;
    }

-- the two hashes of suffix data
pub record SuffixDataRead (version : ℕ) (there : Option Plain) (suffix_data : SuffixData) : Type 0 where
  pub delta_hash : hash_in version (member_in (codes "deltaHash") there) ≡ Some suffix_data.delta_hash
  pub recovery_commitment : hash_in version (member_in (codes "recoveryCommitment") there) ≡ Some suffix_data.recovery_commitment

where_it_holds : {B : Type 0} (test : Bool) (there : Option B) (value : B) → cond test there None ≡ Some value → there ≡ Some value
where_it_holds true there value e = e
where_it_holds false there value e = absurd cc

pub suffix_data_read : (version : ℕ) (there : Option Plain) (suffix_data : SuffixData) → suffix_data_of version there ≡ Some suffix_data
    → SuffixDataRead version there suffix_data
suffix_data_read version there suffix_data e =
    let whole = where_it_holds (is_object_of (codes "deltaHash" ∷ codes "recoveryCommitment" ∷ []) there) _ suffix_data e in
    let parts = both_read (λ first second. record { delta_hash = first; recovery_commitment = second }) _ _ suffix_data whole in
    record {
      delta_hash = parts.2 ∙ ap (λ found. Some found.delta_hash) parts.4;
      recovery_commitment = parts.3 ∙ ap (λ found. Some found.recovery_commitment) parts.4;
    }

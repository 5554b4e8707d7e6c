-- The content of a long form.
use Rattle.std.proofs.Common.{◌≡◌, ℕ, List, Bool, not, true, false, Some, Ok, Err, refl, ◌∙◌, [], ◌∷◌, ◌++◌, codes, map, option_map, append_assoc, append-nil, ap}
use Rattle.std.proofs.lemmas.Bool.{false≢true}
use Rattle.std.specs.Prelude.{bytes_eq, is_some}
use Rattle.std.specs.Str.{chars}
use Rattle.st_plain.proofs.ListedLemmas.{canonical-listed}
use Rattle.st_plain.specs.Plain.{canonical, canonical_items, escape, quoted, Plain, boolean, text}
use Rattle.st_plain.specs.Objects.{text_there, object_of_some, some_list, items_of}
use Rattle.st_plain.specs.Shapes.{json_in, member_in}
use Rattle.st_hash.specs.Hash.{HashValue, same_hash}
use Rattle.st_doc.specs.Document.{PlainDocument}
use Rattle.st_indexfiles.specs.CoreIndex.{hash_json, suffix_of}
use Rattle.st_apply.specs.Codes.{State, absent, active, deactivated, is_active}
use Rattle.st_resolve.specs.Result.{described, id_alone, controller_of, method_members, method_of, reference_to, references_for, canonical_id, deactivated_mark, metadata_of, method_metadata, recovery_in, said_of, update_in, is_absent, is_deactivated, service_members, service_of}
use Rattle.st_resolve.specs.Identifier.{long_of, PlainDid}
use Rattle.st_resolve.specs.LongForm.{PlainLong, long_in}
use Rattle.st_resolve.specs.declared.identifier.DidRefused.TheVariants.{SuffixDiffers}
use Rattle.st_resolve.specs.inside.Texts.{alone_text, back_text, described_text, front_text, metadata_text, method_metadata_text, method_text, references_text, said_text, service_text, value_text}

pub other : (same : Bool) → not same ≡ true → same ≡ false
other true e = cc
other false e = refl

pub no_other : (same : Bool) → not same ≡ false → same ≡ true
no_other true e = refl
no_other false e = cc

-- canonical bytes, by whether they make the suffix
module _ (version : ℕ) (suffix : HashValue) (held : List ℕ) (value : Plain) (long : PlainLong) (read : json_in held ≡ Some value)
    (said : long_in version value ≡ Some long) (spelled : bytes_eq held (canonical value) ≡ true) where
  pub long_differs : same_hash (suffix_of long.suffix_data) suffix ≡ false → long_of version suffix held ≡ Err SuffixDiffers
  long_differs differs = rw (read, said, spelled, differs) refl

  pub long_holds : same_hash (suffix_of long.suffix_data) suffix ≡ true → long_of version suffix held ≡ Ok long
  long_holds same = rw (read, said, spelled, same) refl

-- ---- The objects of a result have these texts.

-- ---- optional lists

pub none_there : (front : List ℕ) (entries : List Plain) (back : List ℕ) → is_some (some_list entries) ≡ false
    → text_there front (some_list entries) back ≡ []
unfolding some_list
none_there front [] back none = refl
none_there front (entry ∷ entries) back none = absurd (cc)

pub list_there : (front : List ℕ) (entries : List Plain) (back : List ℕ) → is_some (some_list entries) ≡ true
    → text_there front (some_list entries) back ≡ front ++ (91 ∷ (canonical_items false (items_of entries) ++ 93 ∷ back))
unfolding some_list
list_there front [] back some = absurd (cc)
list_there front (entry ∷ entries) back some = simp append_assoc refl

-- ---- objects

there_some : (front : List ℕ) (value : Plain) (rest : List ℕ) → text_there front (Some value) [] ++ rest ≡ front ++ (canonical value ++ rest)
there_some front value rest = simp (append_assoc, append-nil) refl

five : (a b c d e rest : List ℕ) → a ++ (b ++ (c ++ (d ++ (e ++ rest)))) ≡ (a ++ (b ++ (c ++ (d ++ e)))) ++ rest
five a b c d e rest = simp append_assoc refl

pub canonical_service : (service : Plain) → canonical (service_of service) ≡ service_text service
unfolding chars escape service_text
canonical_service service = canonical-listed (service_members service) [] (codes "id") (text (reference_to service))
    ((codes "serviceEndpoint", member_in (codes "serviceEndpoint") (Some service)) ∷ (codes "type", member_in (codes "type") (Some service)) ∷ []) refl refl

pub canonical_method : (did : List ℕ) (key : Plain) → canonical (method_of did key) ≡ method_text did key
unfolding chars escape method_text value_text
canonical_method did key = canonical-listed (method_members did key) [] (codes "controller") (controller_of did key)
    ((codes "id", Some (text (reference_to key))) ∷ (codes "publicKeyJwk", member_in (codes "publicKeyJwk") (Some key)) ∷ (codes "type", member_in (codes "type") (Some key)) ∷ []) refl refl
    ∙ ap (λ rest. codes "{\"controller\":" ++ (canonical (controller_of did key) ++ rest))
    (there_some (codes ",\"id\":") (text (reference_to key)) (text_there (codes ",\"publicKeyJwk\":") (member_in (codes "publicKeyJwk") (Some key)) []
    ++ (text_there (codes ",\"type\":") (member_in (codes "type") (Some key)) [] ++ codes "}")))

pub canonical_described : (did : List ℕ) (document : PlainDocument) → canonical (object_of_some (described did document)) ≡ described_text did document
unfolding chars escape described_text front_text back_text
canonical_described did document = canonical-listed (described did document)
    ((codes "alsoKnownAs", some_list (map text document.names))
    ∷ (codes "assertionMethod", some_list (references_for (codes "assertionMethod") document.keys))
    ∷ (codes "authentication", some_list (references_for (codes "authentication") document.keys))
    ∷ (codes "capabilityDelegation", some_list (references_for (codes "capabilityDelegation") document.keys))
    ∷ (codes "capabilityInvocation", some_list (references_for (codes "capabilityInvocation") document.keys)) ∷ [])
    (codes "id") (text did)
    ((codes "keyAgreement", some_list (references_for (codes "keyAgreement") document.keys))
    ∷ (codes "service", some_list (map service_of document.services))
    ∷ (codes "verificationMethod", some_list (map (method_of did) document.keys)) ∷ []) refl refl
    ∙ ap (λ rest. codes "{" ++ rest) (five
    (text_there (codes "\"alsoKnownAs\":") (some_list (map text document.names)) (codes ","))
    (references_text (codes "\"assertionMethod\":") (codes "assertionMethod") document.keys (codes ","))
    (references_text (codes "\"authentication\":") (codes "authentication") document.keys (codes ","))
    (references_text (codes "\"capabilityDelegation\":") (codes "capabilityDelegation") document.keys (codes ","))
    (references_text (codes "\"capabilityInvocation\":") (codes "capabilityInvocation") document.keys (codes ","))
    (codes "\"id\":" ++ (quoted did ++ back_text did document)))

pub canonical_alone : (did : List ℕ) → canonical (object_of_some (id_alone did)) ≡ alone_text did
unfolding chars escape alone_text
canonical_alone did = canonical-listed (id_alone did) [] (codes "id") (text did) [] refl refl

pub canonical_method_metadata : (published : Bool) (state : State HashValue PlainDocument)
    → canonical (method_metadata published state) ≡ method_metadata_text published state
unfolding chars escape method_metadata_text value_text
canonical_method_metadata published state = canonical-listed
    ((codes "published", Some (boolean published)) ∷ (codes "recoveryCommitment", option_map hash_json (recovery_in state)) ∷ (codes "updateCommitment", option_map hash_json (update_in state)) ∷ [])
    [] (codes "published") (boolean published)
    ((codes "recoveryCommitment", option_map hash_json (recovery_in state)) ∷ (codes "updateCommitment", option_map hash_json (update_in state)) ∷ []) refl refl

pub canonical_metadata : (published : Bool) (did : PlainDid) (state : State HashValue PlainDocument)
    → canonical (metadata_of published did state) ≡ metadata_text published did state
unfolding chars escape metadata_text value_text
canonical_metadata published did state = canonical-listed
    ((codes "canonicalId", canonical_id published did.suffix) ∷ (codes "deactivated", deactivated_mark state) ∷ (codes "method", Some (method_metadata published state)) ∷ [])
    ((codes "canonicalId", canonical_id published did.suffix) ∷ (codes "deactivated", deactivated_mark state) ∷ [])
    (codes "method") (method_metadata published state) [] refl refl

pub canonical_said : (published : Bool) (did : PlainDid) (state : State HashValue PlainDocument)
    → canonical (said_of published did state) ≡ said_text published did state
unfolding chars escape said_text value_text
canonical_said published did state = simp (append_assoc, append-nil) refl

-- ---- The states that are opened without a count.

pub absent_idle : (state : State HashValue PlainDocument) → is_absent state ≡ true → is_active state ≡ false
absent_idle absent is = refl
absent_idle (active recovery update document) is = absurd (false≢true is)
absent_idle deactivated is = refl

pub deactivated_idle : (state : State HashValue PlainDocument) → is_deactivated state ≡ true → is_active state ≡ false
deactivated_idle absent is = refl
deactivated_idle (active recovery update document) is = absurd (false≢true is)
deactivated_idle deactivated is = refl

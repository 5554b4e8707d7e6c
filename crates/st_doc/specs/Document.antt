-- The forms of the keys and services of a document (after DIF Sidetree v1.0.0, "DID State Patches", in this project's
-- own bounds). `None` is a missing value.
use Rattle.std.specs.Char.{is_ascii_alphanumeric}
use Rattle.std.specs.List.{list_all, list_any, filter_map}
use Rattle.std.specs.Prelude.{ℕ, ◌==◌, Bool, true, false, ◌&&◌, ◌||◌, nat_le, List, [], ◌∷◌, length, codes, Option, Some, None, is_some, option_and_then, option_map, unwrap_or, map, if◌then◌else◌, Result, Ok, Err}
use Rattle.st_base.specs.Lists.{each_is}
use Rattle.st_plain.specs.Measures.{fits}
use Rattle.st_plain.specs.Objects.{some_list, some_listed, list_in, members_in, text_in, items_of}
use Rattle.st_plain.specs.Plain.{Plain, text, list, object, Members}
use Rattle.st_plain.specs.Shapes.{is_object_of, member_in, text_at, entries_in, is_list_if_there}
use Rattle.st_canon.specs.View.{plain}
use Rattle.st_scan.specs.Texts.{is_text_of}
use Rattle.st_params.specs.ParamsValue.{ParamsValue}
use Rattle.st_doc.specs.Alike.{none_twice}
use Rattle.st_doc.specs.declared.document.Document.{Document}
use Rattle.st_doc.specs.declared.document.DocumentRefused.{DocumentRefused}
use Rattle.st_doc.specs.declared.document.DocumentRefused.TheVariants.{NotDocument, WantOfMemory}

-- all of the tests are true
abbrev pub all_hold : List Bool → Bool
all_hold tests = list_all (λ holds. holds) tests

-- ---- texts

-- a text of 1 to `most` bytes
abbrev pub is_short : ℕ → List ℕ → Bool
is_short most bytes = nat_le 1 (length bytes) && nat_le (length bytes) most

-- a text with this property
abbrev pub is_text_that : (List ℕ → Bool) → Option Plain → Bool
is_text_that holds there = unwrap_or (option_map holds (option_and_then text_in there)) false

-- a text of 1 to `most` bytes
abbrev pub is_short_text : ℕ → Option Plain → Bool
is_short_text most there = is_text_that (is_short most) there

-- the same, or no value
abbrev pub is_short_text_if_there : ℕ → Option Plain → Bool
is_short_text_if_there most None = true
is_short_text_if_there most (Some value) = is_short_text most (Some value)

-- a letter, a digit, `-` or `_` (RFC 4648, section 5)
abbrev pub is_base64url_sign : ℕ → Bool
is_base64url_sign byte = is_ascii_alphanumeric byte || ((byte == 45) || (byte == 95))

-- 1 to 50 base64url characters
abbrev pub is_id : List ℕ → Bool
is_id bytes = is_short 50 bytes && list_all is_base64url_sign bytes

-- a text that is an id
abbrev pub is_id_text : Option Plain → Bool
is_id_text there = is_text_that is_id there

-- 1 to 100 bytes
abbrev pub is_name : List ℕ → Bool
is_name bytes = is_short 100 bytes

-- ---- keys

-- an object with any contents
abbrev pub is_object : Option Plain → Bool
is_object there = is_some (option_and_then members_in there)

-- the purposes of a key (after DIF Sidetree v1.0.0, "add-public-keys")
abbrev pub purposes : List (List ℕ)
purposes = codes "authentication" ∷ codes "assertionMethod" ∷ codes "keyAgreement"
    ∷ codes "capabilityInvocation" ∷ codes "capabilityDelegation" ∷ []

-- a text that is one of the purposes
abbrev pub is_purpose : Plain → Bool
is_purpose value = list_any (λ word. is_text_of word value) purposes

-- the texts of a list
abbrev pub texts_of : List Plain → List (List ℕ)
texts_of values = filter_map text_in values

-- values that are purposes, all different
abbrev pub are_purposes : List Plain → Bool
are_purposes values = list_all is_purpose values && none_twice (texts_of values)

-- a list of these, or no value
abbrev pub are_purposes_if_there : Option Plain → Bool
are_purposes_if_there None = true
are_purposes_if_there (Some value) = unwrap_or (option_map are_purposes (list_in value)) false

-- the members that a key may have
abbrev pub key_names : List (List ℕ)
key_names = codes "id" ∷ codes "type" ∷ codes "publicKeyJwk" ∷ codes "purposes" ∷ codes "controller" ∷ []

-- a key: the rules of its members
abbrev pub key_rules : Option Plain → List Bool
key_rules key =
    is_object_of key_names key
    ∷ is_id_text (member_in (codes "id") key)
    ∷ is_short_text 100 (member_in (codes "type") key)
    ∷ is_object (member_in (codes "publicKeyJwk") key)
    ∷ are_purposes_if_there (member_in (codes "purposes") key)
    ∷ is_short_text_if_there 200 (member_in (codes "controller") key)
    ∷ []

-- a key: all its rules hold
unfoldable pub is_key : Plain → Bool
is_key key = all_hold (key_rules (Some key))

-- ---- services

-- the members that a service may have
abbrev pub service_names : List (List ℕ)
service_names = codes "id" ∷ codes "type" ∷ codes "serviceEndpoint" ∷ []

-- a text of 1 to 100 bytes, or an object
abbrev pub is_endpoint : Option Plain → Bool
is_endpoint there = is_short_text 100 there || is_object there

-- a service: the rules of its members
abbrev pub service_rules : Option Plain → List Bool
service_rules service =
    is_object_of service_names service
    ∷ is_id_text (member_in (codes "id") service)
    ∷ is_short_text 30 (member_in (codes "type") service)
    ∷ is_endpoint (member_in (codes "serviceEndpoint") service)
    ∷ []

-- a service: all its rules hold
unfoldable pub is_service : Plain → Bool
is_service service = all_hold (service_rules (Some service))

-- ---- ids

-- the id of a key or a service, or the empty text if it has none
abbrev pub id_of : Plain → List ℕ
id_of entry = unwrap_or (text_at (codes "id") (Some entry)) []

-- ---- Documents, and the values that are documents in a version of the parameters.

-- keys, services, and the identifier's other names (`alsoKnownAs`)
pub record PlainDocument : Type 0 where
  pub keys : List Plain
  pub services : List Plain
  pub names : List (List ℕ)

-- a document before any patch
abbrev pub empty_document : PlainDocument
empty_document = record { keys = []; services = []; names = [] }

-- the contents of a `Document`
abbrev pub plain_document : Document → PlainDocument
plain_document document =
    record { keys = map plain document.keys; services = map plain document.services; names = document.names }

-- Its JSON: keys and services are always written, names if and only if there is one.
abbrev pub document_members : PlainDocument → Members
document_members document = some_listed (
    (codes "publicKeys", Some (list (items_of document.keys)))
    ∷ (codes "services", Some (list (items_of document.services)))
    ∷ (codes "alsoKnownAs", some_list (map text document.names))
    ∷ [])

-- a document as JSON
abbrev pub document_json : PlainDocument → Plain
document_json document = object (document_members document)

-- ---- the rules of a document

-- only version 2 has names
abbrev pub may_have_names : ℕ → Bool
may_have_names version = version == 2

-- a document without names
abbrev pub has_no_names : PlainDocument → Bool
has_no_names document = length document.names == 0

-- the rules of the keys, services and names of a document of a version
abbrev pub document_rules : ℕ → PlainDocument → List Bool
document_rules version document =
    (may_have_names version || has_no_names document)
    ∷ list_all is_key document.keys
    ∷ list_all is_service document.services
    ∷ list_all is_name document.names
    ∷ none_twice (map id_of document.keys)
    ∷ none_twice (map id_of document.services)
    ∷ none_twice document.names
    ∷ []

-- a document that keeps every rule of its version
unfoldable pub keeps_rules : ℕ → PlainDocument → Bool
keeps_rules version document = all_hold (document_rules version document)

-- the rules hold, and its JSON is within the bounds on depth and size
abbrev pub is_document : ParamsValue → PlainDocument → Bool
is_document limits document =
    keeps_rules limits.version document && fits limits.max_depth limits.max_document (document_json document)

-- the document, if it is one of the version
abbrev pub if_document : ParamsValue → PlainDocument → Option PlainDocument
if_document limits document = if is_document limits document then Some document else None

-- ---- values that are documents

-- the members that a document may have
abbrev pub document_names : ℕ → List (List ℕ)
document_names version = codes "publicKeys" ∷ codes "services" ∷ (if may_have_names version then codes "alsoKnownAs" ∷ [] else [])

-- an object with no other members, each of them a list; that of the names is a list of texts
abbrev pub form_rules : ℕ → Option Plain → List Bool
form_rules version value =
    is_object_of (document_names version) value
    ∷ is_list_if_there (member_in (codes "publicKeys") value)
    ∷ is_list_if_there (member_in (codes "services") value)
    ∷ is_list_if_there (member_in (codes "alsoKnownAs") value)
    ∷ each_is text_in (entries_in (member_in (codes "alsoKnownAs") value))
    ∷ []

-- a value with the form of a document; its keys and services are not checked
unfoldable pub has_document_form : ℕ → Plain → Bool
has_document_form version value = all_hold (form_rules version (Some value))

-- the contents of the lists; a missing one is read as empty
abbrev pub document_in : Plain → PlainDocument
document_in value = record {
  keys = entries_in (member_in (codes "publicKeys") (Some value));
  services = entries_in (member_in (codes "services") (Some value));
  names = texts_of (entries_in (member_in (codes "alsoKnownAs") (Some value)));
}

-- The document of a version in a value.
abbrev pub document_of : ParamsValue → Plain → Result PlainDocument DocumentRefused
document_of limits value =
    if has_document_form limits.version value && is_document limits (document_in value)
    then Ok (document_in value) else Err NotDocument

-- what a refusal says about the value: nothing, if memory ran out
abbrev pub refusal_of : DocumentRefused → Option DocumentRefused
refusal_of NotDocument = Some NotDocument
refusal_of WantOfMemory = None

use Rattle.std.specs.Prelude.{ℕ, Bool, List, [], ◌++◌, codes, map, Some, option_map, ◌∷◌}
use Rattle.st_plain.specs.Plain.{canonical, quoted, Plain, boolean, text}
use Rattle.st_plain.specs.Objects.{text_there, some_list}
use Rattle.st_plain.specs.Shapes.{member_in}
use Rattle.st_hash.specs.Hash.{base64url, HashValue, hash_text}
use Rattle.st_doc.specs.Document.{PlainDocument}
use Rattle.st_indexfiles.specs.CoreIndex.{hash_json}
use Rattle.st_apply.specs.Codes.{State}
use Rattle.st_resolve.specs.Result.{did_document, controller_of, method_of, reference_to, references_for, canonical_id, deactivated_mark, metadata_of, method_metadata, recovery_in, update_in, service_of}
use Rattle.st_resolve.specs.Identifier.{PlainDid, did_prefix, colon}

-- the canonical text of a value
unfoldable pub value_text : Plain → List ℕ
value_text value = canonical value

-- of a service in a DID document
unfoldable pub service_text : Plain → List ℕ
service_text service =
    codes "{\"id\":" ++ (quoted (reference_to service)
    ++ (text_there (codes ",\"serviceEndpoint\":") (member_in (codes "serviceEndpoint") (Some service)) []
    ++ (text_there (codes ",\"type\":") (member_in (codes "type") (Some service)) [] ++ codes "}")))

-- of a key as a verification method of the identifier `did`
unfoldable pub method_text : List ℕ → Plain → List ℕ
method_text did key =
    codes "{\"controller\":" ++ (value_text (controller_of did key) ++ (codes ",\"id\":" ++ (quoted (reference_to key)
    ++ (text_there (codes ",\"publicKeyJwk\":") (member_in (codes "publicKeyJwk") (Some key)) []
    ++ (text_there (codes ",\"type\":") (member_in (codes "type") (Some key)) [] ++ codes "}")))))

-- a list of references after a prefix
abbrev pub references_text : List ℕ → List ℕ → List Plain → List ℕ → List ℕ
references_text front purpose keys back = text_there front (some_list (references_for purpose keys)) back

-- the text before the identifier
unfoldable pub front_text : PlainDocument → List ℕ
front_text document =
    text_there (codes "\"alsoKnownAs\":") (some_list (map text document.names)) (codes ",")
    ++ (references_text (codes "\"assertionMethod\":") (codes "assertionMethod") document.keys (codes ",")
    ++ (references_text (codes "\"authentication\":") (codes "authentication") document.keys (codes ",")
    ++ (references_text (codes "\"capabilityDelegation\":") (codes "capabilityDelegation") document.keys (codes ",")
    ++ (references_text (codes "\"capabilityInvocation\":") (codes "capabilityInvocation") document.keys (codes ",")))))

-- the text after the identifier
unfoldable pub back_text : List ℕ → PlainDocument → List ℕ
back_text did document =
    references_text (codes ",\"keyAgreement\":") (codes "keyAgreement") document.keys []
    ++ (text_there (codes ",\"service\":") (some_list (map service_of document.services)) []
    ++ (text_there (codes ",\"verificationMethod\":") (some_list (map (method_of did) document.keys)) [] ++ codes "}"))

-- of the DID document of an active identifier
unfoldable pub described_text : List ℕ → PlainDocument → List ℕ
described_text did document =
    codes "{" ++ (front_text document ++ (codes "\"id\":" ++ (quoted did ++ back_text did document)))

-- of the DID document of any other identifier
unfoldable pub alone_text : List ℕ → List ℕ
alone_text did = codes "{\"id\":" ++ (quoted did ++ codes "}")

-- of the `method` member of the metadata
unfoldable pub method_metadata_text : Bool → State HashValue PlainDocument → List ℕ
method_metadata_text published state =
    codes "{\"published\":" ++ (value_text (boolean published)
    ++ (text_there (codes ",\"recoveryCommitment\":") (option_map hash_json (recovery_in state)) []
    ++ (text_there (codes ",\"updateCommitment\":") (option_map hash_json (update_in state)) [] ++ codes "}")))

-- of the document's metadata
unfoldable pub metadata_text : Bool → PlainDid → State HashValue PlainDocument → List ℕ
metadata_text published did state =
    codes "{" ++ (text_there (codes "\"canonicalId\":") (canonical_id published did.suffix) (codes ",")
    ++ (text_there (codes "\"deactivated\":") (deactivated_mark state) (codes ",")
    ++ (codes "\"method\":" ++ (value_text (method_metadata published state) ++ codes "}"))))

-- of the whole result
unfoldable pub said_text : Bool → PlainDid → State HashValue PlainDocument → List ℕ
said_text published did state =
    codes "{\"didDocument\":" ++ (value_text (did_document did.text state)
    ++ (codes ",\"didDocumentMetadata\":" ++ (value_text (metadata_of published did state) ++ codes "}")))

-- the long form: the same, a `:`, and the base64url of its content
abbrev pub long_form : HashValue → List ℕ → List ℕ
long_form suffix held = did_prefix ++ (hash_text suffix ++ colon ∷ base64url held)

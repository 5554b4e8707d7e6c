-- A document's JSON converts back to the document.
use Rattle.std.proofs.Common.{◌≡◌, ℕ, Bool, true, false, List, [], ◌∷◌, map, Option, Some, None, if◌then◌else◌, refl, ap, sym, ◌∙◌}
use Rattle.std.specs.Prelude.{codes, ◌&&◌}
use Rattle.st_plain.specs.Measures.{fits}
use Rattle.st_plain.specs.Objects.{some_list, items_of}
use Rattle.st_plain.specs.Plain.{Plain, text, list}
use Rattle.st_plain.specs.Shapes.{entries_in}
use Rattle.st_plain.proofs.ListedLemmas.{entries-items_of, entries_in-some_list, member_at-some_listed}
use Rattle.st_params.specs.ParamsValue.{ParamsValue}
use Rattle.st_doc.specs.Document.{PlainDocument, document_in, document_json, if_document, is_document, keeps_rules, texts_of}

texts_of-text : (texts : List (List ℕ)) → texts_of (map text texts) ≡ texts
texts_of-text [] = refl
texts_of-text (t ∷ texts) = ap (λ rest. t ∷ rest) (texts_of-text texts)

-- the members of a document's JSON, as its definition lists them
members : PlainDocument → List (List ℕ × Option Plain)
members document =
    (codes "publicKeys", Some (list (items_of document.keys)))
    ∷ (codes "services", Some (list (items_of document.services)))
    ∷ (codes "alsoKnownAs", some_list (map text document.names))
    ∷ []

same_parts : (it : PlainDocument) (k s : List Plain) (n : List (List ℕ)) → k ≡ it.keys → s ≡ it.services → n ≡ it.names
    → let old : PlainDocument = record { keys = k; services = s; names = n } in old ≡ record { keys = it.keys; services = it.services; names = it.names }
same_parts it k s n keys services names = cc

pub document_in-json : (document : PlainDocument) → document_in (document_json document) ≡ document
unfolding members
document_in-json document =
    same_parts document _ _ _
    (ap entries_in (member_at-some_listed (codes "publicKeys") (members document) refl) ∙ entries-items_of document.keys)
    (ap entries_in (member_at-some_listed (codes "services") (members document) refl) ∙ entries-items_of document.services)
    (ap (λ there. texts_of (entries_in there)) (member_at-some_listed (codes "alsoKnownAs") (members document) refl)
    ∙ ap texts_of (entries_in-some_list (map text document.names)) ∙ texts_of-text document.names)

swapped : (first second : Bool) → (first && second) ≡ (second && first)
swapped true true = refl
swapped true false = refl
swapped false true = refl
swapped false false = refl

-- the check of its JSON is the check of the document
right_is : (limits : ParamsValue) (document : PlainDocument) (json : Plain) → json ≡ document_json document
    → (fits limits.max_depth limits.max_document json && keeps_rules limits.version (document_in json)) ≡ is_document limits document
right_is limits document json is =
    ap (λ j. fits limits.max_depth limits.max_document j && keeps_rules limits.version (document_in j)) is
    ∙ ap (λ d. fits limits.max_depth limits.max_document (document_json document) && keeps_rules limits.version d) (document_in-json document)
    ∙ swapped (fits limits.max_depth limits.max_document (document_json document)) (keeps_rules limits.version document)

given : (right : Bool) (document : PlainDocument) → right ≡ true → Some document ≡ (if right then Some document else None)
given true document is = refl
given false document is = absurd cc

none : (right : Bool) (document : PlainDocument) → right ≡ false → None ≡ (if right then Some document else None)
none true document is = absurd cc
none false document is = refl

-- a document that passes, taken back out of its JSON, is unchanged
pub taken_is : (limits : ParamsValue) (document taken : PlainDocument) (json : Plain)
    → (fits limits.max_depth limits.max_document json && keeps_rules limits.version (document_in json)) ≡ true
    → json ≡ document_json document → taken ≡ document_in json → Some taken ≡ if_document limits document
taken_is limits document taken json right is from =
    ap Some (from ∙ ap document_in is ∙ document_in-json document)
    ∙ given (is_document limits document) document (sym (right_is limits document json is) ∙ right)

-- a value that fails is not a document
pub none_is : (limits : ParamsValue) (document : PlainDocument) (json : Plain)
    → (fits limits.max_depth limits.max_document json && keeps_rules limits.version (document_in json)) ≡ false
    → json ≡ document_json document → None ≡ if_document limits document
none_is limits document json wrong is = none (is_document limits document) document (sym (right_is limits document json is) ∙ wrong)

-- A signed request has its signed text.
use Rattle.std.proofs.Common.{◌≡◌, true, Option, codes, Bool, false, cond, Some, None, Result, Ok, Err, ◌⊎◌, inl, inr, refl, ◌≢◌, ◌∙◌, ℕ, List, sym, ap, subst, option_and_then}
use Rattle.std.proofs.lemmas.Bool.{and_parts}
use Rattle.std.proofs.lemmas.Option.{same_Some}
use Rattle.std.specs.List.{flat_map}
use Rattle.std.specs.Option.{ok_or}
use Rattle.std.specs.Prelude.{is_some, IfOk, IsSome}
use Rattle.std.specs.Result.{result_map_both}
use Rattle.std.specs.Str.{IsUtf8}
use lib.Utf8.{encode, encodes, scalars}
use Rattle.st_base.specs.Answers.{◌>>=◌, ◌>>◌, holds_or, GivesAs}
use Rattle.st_plain.proofs.NameLemmas.{names_on_literals, same_from_is_name}
use Rattle.st_plain.specs.Plain.{escape, Plain, null, boolean, whole, text, list, object, Members, no_members, member, IsProper, MembersAreProper}
use Rattle.st_plain.specs.Objects.{member_at, put_some, members_in, text_in}
use Rattle.st_plain.specs.Names.{is_name}
use Rattle.st_plain.specs.Shapes.{json_of, text_at, member_in, object_at}
use Rattle.st_hash.specs.Hash.{HashValue, hash_of_text_at, hash_text}
use Rattle.st_params.specs.ParamsValue.{ParamsValue}
use Rattle.st_indexfiles.specs.CoreIndex.{hash_in, suffix_data_of, suffix_data_json}
use Rattle.st_indexfiles.specs.declared.suffix_data.SuffixData.{SuffixData}
use Rattle.st_indexfiles.specs.declared.entries.Target.{Target}
use Rattle.st_ops.proofs.AcceptedLemmas.{HasText, text_is}
use Rattle.st_ops.specs.Claim.{claim_of, proof_in, target_in}
use Rattle.st_ops.specs.Operation.{PlainOperation, Proof, creating, updating, recovering, deactivating}
use Rattle.st_ops.specs.Request.{refusal_of, asked, asked_by_type, create_asked, deactivate_asked, recover_asked, request_of, update_asked, with_claim, unread, IsComplete, has_signed_texts, is_change_form, is_deactivate_form, is_create_form, request_json, signed_json}
use Rattle.st_ops.specs.declared.request.RequestRefused.{RequestRefused}
use Rattle.st_ops.specs.declared.request.RequestRefused.TheVariants.{BadForm, BadHash, BadProof}

signed_text : (request : Option Plain) → has_signed_texts request ≡ true → is_some (text_at (codes "signedData") request) ≡ true
unfolding has_signed_texts
signed_text request has = (and_parts _ _ (and_parts _ _ has).1).1

pub change_signed : (request : Option Plain) → is_change_form request ≡ true → is_some (text_at (codes "signedData") request) ≡ true
unfolding is_change_form
change_signed request is = signed_text request (and_parts _ _ (and_parts _ _ is).1).0

pub deactivate_signed : (request : Option Plain) → is_deactivate_form request ≡ true → is_some (text_at (codes "signedData") request) ≡ true
unfolding is_deactivate_form
deactivate_signed request is = signed_text request (and_parts _ _ is).1

-- ---- The steps of a definition that gave a value.

-- the first step gave the input of the second
pub went_on : {A B E : Type 0} (first : Result A E) (next : A → Result B E) (value : B) → (first >>= next) ≡ Ok value
    → (found : A) × (first ≡ Ok found) × (next found ≡ Ok value)
went_on (Ok found) next value e = (found, refl, e)
went_on (Err refusal) next value e = absurd cc

-- a test passed
pub held : {B E : Type 0} (test : Bool) (refusal : E) (next : Result B E) (value : B) → (holds_or test refusal >> next) ≡ Ok value
    → (test ≡ true) × (next ≡ Ok value)
held true refusal next value e = (refl, e)
held false refusal next value e = absurd cc

-- a value was present
pub was_there : {A B E : Type 0} (there : Option A) (refusal : E) (next : A → Result B E) (value : B) → (ok_or there refusal >>= next) ≡ Ok value
    → (found : A) × (there ≡ Some found) × (next found ≡ Ok value)
was_there None refusal next value e = absurd cc
was_there (Some found) refusal next value e = (found, refl, e)

-- the same after a change of the refusal
pub was_given : {A E F : Type 0} (change : E → F) (answer : Result A E) (found : A) → result_map_both (λ x. x) change answer ≡ Ok found
    → answer ≡ Ok found
was_given change (Ok x) found e = cc
was_given change (Err refusal) found e = absurd cc

-- one of two was taken
pub taken : {B : Type 0} (test : Bool) (first second value : B) → cond test first second ≡ value
    → ((test ≡ true) × (first ≡ value)) ⊎ ((test ≡ false) × (second ≡ value))
taken true first second value e = inl (refl, e)
taken false first second value e = inr (refl, e)

-- a property of each value that the definition allows is one of the answer
pub of_given : {Found Value : Type 0} (P : Value → Type 0) (view : Found → Value)
    (says : Result Value RequestRefused) (answer : Result Found RequestRefused) → GivesAs view refusal_of says answer
    → ((value : Value) → says ≡ Ok value → P value) → IfOk answer (λ found. P (view found))
of_given P view says (Ok found) gives all = all (view found) gives
of_given P view says (Err error) gives all = tt

-- ---- Properties of a request and of its operation.

-- a create and its request
pub record CreateAsked (limits : ParamsValue) (request : Option Plain) (suffix_data : SuffixData) : Type 0 where
  pub form : is_create_form request ≡ true
  pub named : suffix_data_of limits.version (member_in (codes "suffixData") request) ≡ Some suffix_data

-- a signed operation and its request
pub record SignedAsked (limits : ParamsValue) (request : Option Plain) (target : Target) (proof : Proof) (operation : PlainOperation) : Type 0 where
  pub named : target_in limits.version request ≡ Some target
  pub proved : proof_in limits.max_signed request ≡ Some proof
  pub claimed : with_claim limits operation ≡ Ok operation

-- The operation of a request, by its kind.
pub data Asked (limits : ParamsValue) (request : Option Plain) (operation : PlainOperation) : Type 0 where
  create : (suffix_data : SuffixData) → CreateAsked limits request suffix_data
      → creating suffix_data (member_in (codes "delta") request) ≡ operation → Asked limits request operation
  update : (target : Target) (proof : Proof) → is_change_form request ≡ true
      → SignedAsked limits request target proof (updating target (Some proof) (member_in (codes "delta") request))
      → updating target (Some proof) (member_in (codes "delta") request) ≡ operation → Asked limits request operation
  recover : (target : Target) (proof : Proof) → is_change_form request ≡ true
      → SignedAsked limits request target proof (recovering target (Some proof) (member_in (codes "delta") request))
      → recovering target (Some proof) (member_in (codes "delta") request) ≡ operation → Asked limits request operation
  deactivate : (target : Target) (proof : Proof) → is_deactivate_form request ≡ true
      → SignedAsked limits request target proof (deactivating target (Some proof))
      → deactivating target (Some proof) ≡ operation → Asked limits request operation

-- an operation with a claim is itself
claimed_is : (limits : ParamsValue) (operation found : PlainOperation) → with_claim limits operation ≡ Ok found
    → (operation ≡ found) × (with_claim limits operation ≡ Ok operation)
unfolding with_claim
claimed_is limits operation found e =
    let step = was_there (claim_of limits operation) BadProof (λ claim. Ok operation) found e in
    let same : operation ≡ found = cc step.2 in
    (same, e ∙ ap Ok (sym same))

create_is : (limits : ParamsValue) (request : Option Plain) (operation : PlainOperation) → create_asked limits request ≡ Ok operation
    → Asked limits request operation
create_is limits request operation e =
    let form = held (is_create_form request) BadForm _ operation e in
    let named = was_there (suffix_data_of limits.version (member_in (codes "suffixData") request)) BadHash _ operation form.1 in
    let same : creating named.0 (member_in (codes "delta") request) ≡ operation = cc named.2 in
    create named.0 (record { form = form.0; named = named.1 }) same

update_is : (limits : ParamsValue) (request : Option Plain) (operation : PlainOperation) → update_asked limits request ≡ Ok operation
    → Asked limits request operation
update_is limits request operation e =
    let form = held (is_change_form request) BadForm _ operation e in
    let named = was_there (target_in limits.version request) BadHash _ operation form.1 in
    let proved = was_there (proof_in limits.max_signed request) BadProof _ operation named.2 in
    let claimed = claimed_is limits (updating named.0 (Some proved.0) (member_in (codes "delta") request)) operation proved.2 in
    update named.0 proved.0 form.0 (record { named = named.1; proved = proved.1; claimed = claimed.1 }) claimed.0

recover_is : (limits : ParamsValue) (request : Option Plain) (operation : PlainOperation) → recover_asked limits request ≡ Ok operation
    → Asked limits request operation
recover_is limits request operation e =
    let form = held (is_change_form request) BadForm _ operation e in
    let named = was_there (target_in limits.version request) BadHash _ operation form.1 in
    let proved = was_there (proof_in limits.max_signed request) BadProof _ operation named.2 in
    let claimed = claimed_is limits (recovering named.0 (Some proved.0) (member_in (codes "delta") request)) operation proved.2 in
    recover named.0 proved.0 form.0 (record { named = named.1; proved = proved.1; claimed = claimed.1 }) claimed.0

deactivate_is : (limits : ParamsValue) (request : Option Plain) (operation : PlainOperation) → deactivate_asked limits request ≡ Ok operation
    → Asked limits request operation
deactivate_is limits request operation e =
    let form = held (is_deactivate_form request) BadForm _ operation e in
    let named = was_there (target_in limits.version request) BadHash _ operation form.1 in
    let proved = was_there (proof_in limits.max_signed request) BadProof _ operation named.2 in
    let claimed = claimed_is limits (deactivating named.0 (Some proved.0)) operation proved.2 in
    deactivate named.0 proved.0 form.0 (record { named = named.1; proved = proved.1; claimed = claimed.1 }) claimed.0

by_type : (type : List ℕ) (limits : ParamsValue) (request : Option Plain) (operation : PlainOperation) → asked_by_type type limits request ≡ Ok operation
    → Asked limits request operation
by_type type limits request operation e =
    elim (taken (is_name type (codes "create")) (create_asked limits request) _ (Ok operation) e) [
      | inl first ↦ create_is limits request operation first.1
      | inr others ↦ elim (taken (is_name type (codes "update")) (update_asked limits request) _ (Ok operation) others.1) [
        | inl second ↦ update_is limits request operation second.1
        | inr others ↦ elim (taken (is_name type (codes "recover")) (recover_asked limits request) _ (Ok operation) others.1) [
          | inl third ↦ recover_is limits request operation third.1
          | inr others ↦ elim (taken (is_name type (codes "deactivate")) (deactivate_asked limits request) _ (Ok operation) others.1) [
            | inl fourth ↦ deactivate_is limits request operation fourth.1
            | inr none ↦ absurd cc
          ]
        ]
      ]
    ]

pub asked_is : (limits : ParamsValue) (request : Plain) (operation : PlainOperation) → asked limits request ≡ Ok operation
    → Asked limits (Some request) operation
unfolding asked
asked_is limits request operation e =
    let type = was_there (text_at (codes "type") (Some request)) BadForm _ operation e in
    by_type type.0 limits (Some request) operation type.2

-- ---- complete

-- the value is an object
there_is : (there : Option Plain) → is_some (option_and_then members_in there) ≡ true → IsSome there
there_is None e = cc
there_is (Some value) e = refl

pub delta_of_create : (request : Option Plain) → is_create_form request ≡ true → is_some (object_at (codes "delta") request) ≡ true
unfolding is_create_form
delta_of_create request e = (and_parts _ _ (and_parts _ _ e).1).1

pub delta_of_change : (request : Option Plain) → is_change_form request ≡ true → is_some (object_at (codes "delta") request) ≡ true
unfolding is_change_form
delta_of_change request e = (and_parts _ _ (and_parts _ _ e).1).1

-- the operation of a request has its proof and its delta, if its kind has them
pub complete_is : (limits : ParamsValue) (request : Option Plain) (operation : PlainOperation) → Asked limits request operation → IsComplete operation
complete_is limits request operation (create suffix_data asked same) =
    subst IsComplete same (there_is (member_in (codes "delta") request) (delta_of_create request asked.form))
complete_is limits request operation (update target proof form asked same) =
    subst IsComplete same (refl, there_is (member_in (codes "delta") request) (delta_of_change request form))
complete_is limits request operation (recover target proof form asked same) =
    subst IsComplete same (refl, there_is (member_in (codes "delta") request) (delta_of_change request form))
complete_is limits request operation (deactivate target proof form asked same) = subst IsComplete same refl

pub request_is : (limits : ParamsValue) (bytes : List ℕ) (operation : PlainOperation) → request_of limits bytes ≡ Ok operation
    → (request : Plain) × (json_of bytes ≡ Ok request) × (asked limits request ≡ Ok operation)
request_is limits bytes operation e =
    let read = went_on _ (asked limits) operation e in
    (read.0, was_given unread (json_of bytes) read.0 read.1, read.2)

-- ---- a type with escaped bytes

-- it is not a word without escaped bytes
unnamed : (kind word : List ℕ) → flat_map escape word ≡ word → (flat_map escape kind ≢ kind) → (b : Bool) → is_name kind word ≡ b → is_name kind word ≡ false
unnamed kind word bare escaped true is =
    absurd (escaped (subst (λ t. flat_map escape t ≡ t) (sym (same_from_is_name kind word is)) bare))
unnamed kind word bare escaped false is = is

escaped_kind : (limits : ParamsValue) (request : Option Plain) (kind : List ℕ) → (flat_map escape kind ≢ kind) → asked_by_type kind limits request ≡ Err BadForm
unfolding escape
escaped_kind limits request kind escaped =
    rw (unnamed kind (codes "create") refl escaped _ refl, unnamed kind (codes "update") refl escaped _ refl, unnamed kind (codes "recover") refl escaped _ refl, unnamed kind (codes "deactivate") refl escaped _ refl) refl

by_kind : (limits : ParamsValue) (request : Option Plain) (there : Option (List ℕ)) → ((kind : List ℕ) → there ≡ Some kind → flat_map escape kind ≢ kind)
    → (ok_or there BadForm >>= (λ kind. asked_by_type kind limits request)) ≡ Err BadForm
by_kind limits request None escaped = refl
by_kind limits request (Some kind) escaped = escaped_kind limits request kind (escaped kind refl)

-- with such a type, or none, there is no operation
pub no_kind : (limits : ParamsValue) (request : Plain)
    → ((kind : List ℕ) → text_at (codes "type") (Some request) ≡ Some kind → flat_map escape kind ≢ kind) → asked limits request ≡ Err BadForm
unfolding asked
no_kind limits request escaped = by_kind limits (Some request) (text_at (codes "type") (Some request)) escaped

-- ---- The parts of a proper request make a proper request again.

-- ---- inside a proper value

member_proper : (name : List ℕ) (ms : Members) (p : Plain) → MembersAreProper ms → member_at name ms ≡ Some p → IsProper p
member_proper name no_members p proper e = absurd cc
member_proper name (member n q ms) p proper e = elim (taken (is_name name n) (Some q) (member_at name ms) (Some p) e) [
  | inl here ↦ subst IsProper (same_Some q p here.1) proper.2
  | inr later ↦ member_proper name ms p proper.3 later.1
]

pub inside_proper : (name : List ℕ) (request p : Plain) → IsProper request → member_in name (Some request) ≡ Some p → IsProper p
inside_proper name (object ms) p proper e = member_proper name ms p proper e
inside_proper name null p proper e = absurd cc
inside_proper name (boolean b) p proper e = absurd cc
inside_proper name (whole z) p proper e = absurd cc
inside_proper name (text t) p proper e = absurd cc
inside_proper name (list ps) p proper e = absurd cc

-- the texts of a value are UTF-8, if it is present
abbrev pub IsProperThere : Option Plain → Type 0
IsProperThere there = (p : Plain) → there ≡ Some p → IsProper p

pub there_proper : (name : List ℕ) (there : Option Plain) → IsProperThere there → IsProperThere (member_in name there)
there_proper name None proper p e = absurd cc
there_proper name (Some value) proper p e = inside_proper name value p (proper value refl) e

text_utf8 : (there : Option Plain) (bytes : List ℕ) → IsProperThere there → option_and_then text_in there ≡ Some bytes → IsUtf8 bytes
text_utf8 None bytes proper e = absurd cc
text_utf8 (Some (text t)) bytes proper e = subst IsUtf8 (same_Some t bytes e) (proper (text t) refl)
text_utf8 (Some null) bytes proper e = absurd cc
text_utf8 (Some (boolean b)) bytes proper e = absurd cc
text_utf8 (Some (whole z)) bytes proper e = absurd cc
text_utf8 (Some (list ps)) bytes proper e = absurd cc
text_utf8 (Some (object ms)) bytes proper e = absurd cc

pub text_at_utf8 : (name : List ℕ) (there : Option Plain) (bytes : List ℕ) → IsProperThere there → text_at name there ≡ Some bytes → IsUtf8 bytes
text_at_utf8 name there bytes proper e = text_utf8 (member_in name there) bytes (there_proper name there proper) e

hash_there : (version : ℕ) (found : Option (List ℕ)) (hash : HashValue) → ((bytes : List ℕ) → found ≡ Some bytes → IsUtf8 bytes)
    → option_and_then (hash_of_text_at version) found ≡ Some hash → HasText version hash
hash_there version None hash utf8 e = absurd cc
hash_there version (Some bytes) hash utf8 e = text_is version bytes hash (utf8 bytes refl) e

pub hash_has_text : (version : ℕ) (there : Option Plain) (hash : HashValue) → IsProperThere there → hash_in version there ≡ Some hash → HasText version hash
hash_has_text version there hash proper e =
    hash_there version (option_and_then text_in there) hash (λ bytes. text_utf8 there bytes proper) e

-- ---- requests built from proper values

utf8 : (literal : List ℕ) → (scalars literal ≡ true) × (encodes literal ≡ literal) → IsUtf8 literal
utf8 literal is = (literal, is)

pub update_utf8 : IsUtf8 (codes "update")
unfolding encode
update_utf8 = utf8 (codes "update") (refl, refl)

pub recover_utf8 : IsUtf8 (codes "recover")
unfolding encode
recover_utf8 = utf8 (codes "recover") (refl, refl)

pub deactivate_utf8 : IsUtf8 (codes "deactivate")
unfolding encode
deactivate_utf8 = utf8 (codes "deactivate") (refl, refl)

suffix_data_proper : (suffix_data : SuffixData) → IsUtf8 (hash_text suffix_data.delta_hash) → IsUtf8 (hash_text suffix_data.recovery_commitment)
    → IsProper (suffix_data_json suffix_data)
unfolding names_on_literals encode
suffix_data_proper suffix_data first second =
    (utf8 (codes "deltaHash") (refl, refl), (refl, tt), first, (utf8 (codes "recoveryCommitment") (refl, refl), tt, second, tt))

pub create_proper : (suffix_data : SuffixData) (delta : Plain) → IsUtf8 (hash_text suffix_data.delta_hash) → IsUtf8 (hash_text suffix_data.recovery_commitment)
    → IsProper delta → IsProper (request_json (creating suffix_data (Some delta)))
unfolding put_some names_on_literals encode
create_proper suffix_data delta first second proper = (
  utf8 (codes "delta") (refl, refl),
  (refl, (refl, tt)),
  proper,
  (
    utf8 (codes "suffixData") (refl, refl),
    (refl, tt),
    suffix_data_proper suffix_data first second,
    (utf8 (codes "type") (refl, refl), tt, utf8 (codes "create") (refl, refl), tt),
  ),
)

pub signed_proper : (type : List ℕ) (target : Target) (proof : Proof) → IsUtf8 type → IsUtf8 (hash_text target.suffix) → IsUtf8 (hash_text target.reveal)
    → IsUtf8 proof.text → IsProper (signed_json type target (Some proof) None)
unfolding put_some names_on_literals encode
signed_proper type target proof kind suffix reveal signed = (
  utf8 (codes "didSuffix") (refl, refl),
  (refl, (refl, (refl, tt))),
  suffix,
  (
    utf8 (codes "revealValue") (refl, refl),
    (refl, (refl, tt)),
    reveal,
    (
      utf8 (codes "signedData") (refl, refl),
      (refl, tt),
      signed,
      (utf8 (codes "type") (refl, refl), tt, kind, tt),
    ),
  ),
)

pub change_proper : (type : List ℕ) (target : Target) (proof : Proof) (delta : Plain) → IsProper (signed_json type target (Some proof) None)
    → IsProper delta → IsProper (signed_json type target (Some proof) (Some delta))
unfolding put_some names_on_literals encode
change_proper type target proof delta others proper =
    (utf8 (codes "delta") (refl, refl), (refl, (refl, (refl, (refl, tt)))), proper, others)

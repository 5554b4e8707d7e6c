-- The text of an accepted operation is a request for it.
use Rattle.std.proofs.Common.{◌≡◌, ◌∙◌, ℕ, ◌≤◌, true, List, codes, Option, Some, None, Ok, refl, ap, arith, option_and_then, subst}
use Rattle.std.proofs.lemmas.Option.{same_Some}
use Rattle.std.specs.Prelude.{is_some, IsSome}
use Rattle.std.specs.Result.{result_map_both, result_ok}
use Rattle.std.specs.Str.{IsUtf8}
use Rattle.st_base.specs.Answers.{◌>>=◌}
use Rattle.st_plain.proofs.ReadableLemmas.{reads_back}
use Rattle.st_plain.proofs.NameLemmas.{names_on_literals}
use Rattle.st_plain.specs.Measures.{depth_of}
use Rattle.st_plain.specs.Objects.{put_some, members_in}
use Rattle.st_plain.specs.Plain.{Plain, IsProper}
use Rattle.st_plain.specs.Shapes.{member_in, text_at}
use Rattle.st_hash.specs.Hash.{hash_text}
use Rattle.st_params.specs.ParamsValue.{ParamsValue}
use Rattle.st_jws.specs.Signing.{Opened, opened}
use Rattle.st_indexfiles.specs.declared.suffix_data.SuffixData.{SuffixData}
use Rattle.st_indexfiles.specs.declared.entries.Target.{Target}
use Rattle.st_ops.proofs.AcceptedLemmas.{IsAccepted, IsProved, IsReadAt, read_again, suffix_data_read, target_read, HasText}
use Rattle.st_ops.proofs.RequestLemmas.{Asked, SignedAsked, create, update, recover, deactivate, asked_is, delta_of_change, delta_of_create, request_is, IsProperThere, change_proper, create_proper, hash_has_text, deactivate_utf8, recover_utf8, signed_proper, text_at_utf8, there_proper, update_utf8}
use Rattle.st_ops.specs.Claim.{claim_of, proof_in, target_in, proof_of}
use Rattle.st_ops.specs.Operation.{HasHashes, PlainOperation, Proof, creating, updating, recovering, deactivating}
use Rattle.st_ops.specs.Request.{asked, unread, with_claim, request_of, has_signed_texts, is_change_form, is_create_form, is_deactivate_form, is_suffix_data_form, request_json, signed_json, IsDeltaWithin, IsReadAgain}
use Rattle.st_ops.specs.declared.claim.Claim.{Claim}

-- ---- the operation of a request's JSON

create_asks : (limits : ParamsValue) (suffix_data : SuffixData) (delta : Plain)
    → IsReadAt limits.version suffix_data.delta_hash → IsReadAt limits.version suffix_data.recovery_commitment → is_some (members_in delta) ≡ true
    → asked limits (request_json (creating suffix_data (Some delta))) ≡ Ok (creating suffix_data (Some delta))
unfolding asked is_create_form is_suffix_data_form put_some names_on_literals
create_asks limits suffix_data delta first second object = rw (object, first, second) refl

has_claim : (limits : ParamsValue) (operation : PlainOperation) (claim : Option Claim) → claim_of limits operation ≡ claim → IsSome claim
    → with_claim limits operation ≡ Ok operation
unfolding with_claim
has_claim limits operation None is some = absurd cc
has_claim limits operation (Some claim) is some = rw is refl

module _ (limits : ParamsValue) (target : Target) (proof : Proof) where
  update_asks : (delta : Plain) → IsProved limits target (Some proof) (updating target (Some proof) (Some delta)) → is_some (members_in delta) ≡ true
      → asked limits (request_json (updating target (Some proof) (Some delta))) ≡ Ok (updating target (Some proof) (Some delta))
  unfolding asked is_change_form has_signed_texts target_in proof_in put_some names_on_literals
  update_asks delta right object =
      let claimed = has_claim limits (updating target (Some proof) (Some delta)) _ refl right.claims in
      rw (object, right.suffix, right.reveal, right.opens, claimed) refl

  recover_asks : (delta : Plain) → IsProved limits target (Some proof) (recovering target (Some proof) (Some delta)) → is_some (members_in delta) ≡ true
      → asked limits (request_json (recovering target (Some proof) (Some delta))) ≡ Ok (recovering target (Some proof) (Some delta))
  unfolding asked is_change_form has_signed_texts target_in proof_in put_some names_on_literals
  recover_asks delta right object =
      let claimed = has_claim limits (recovering target (Some proof) (Some delta)) _ refl right.claims in
      rw (object, right.suffix, right.reveal, right.opens, claimed) refl

  deactivate_asks : IsProved limits target (Some proof) (deactivating target (Some proof))
      → asked limits (request_json (deactivating target (Some proof))) ≡ Ok (deactivating target (Some proof))
  unfolding asked is_deactivate_form has_signed_texts target_in proof_in put_some names_on_literals
  deactivate_asks right =
      let claimed = has_claim limits (deactivating target (Some proof)) _ refl right.claims in
      rw (right.suffix, right.reveal, right.opens, claimed) refl

-- ---- how deep it nests

create_depth : (suffix_data : SuffixData) (delta : Plain) → depth_of delta ≤ 125 → depth_of (request_json (creating suffix_data (Some delta))) ≤ 127
unfolding put_some names_on_literals
create_depth suffix_data delta within = omega arith

signed_depth : (type : List ℕ) (target : Target) (proof : Proof) (delta : Plain) → depth_of delta ≤ 125 → depth_of (signed_json type target (Some proof) (Some delta)) ≤ 127
unfolding put_some names_on_literals
signed_depth type target proof delta within = omega arith

deactivate_depth : (target : Target) (proof : Proof) → depth_of (request_json (deactivating target (Some proof))) ≤ 127
unfolding put_some names_on_literals
deactivate_depth target proof = omega arith

-- ---- the law

-- a value that is proper and not too deep is read again, as the same request
text_asks : (limits : ParamsValue) (operation : PlainOperation) → IsProper (request_json operation) → depth_of (request_json operation) ≤ 127
    → asked limits (request_json operation) ≡ Ok operation → IsReadAgain limits operation
text_asks limits operation proper shallow asks =
    ap (λ answer. result_map_both (λ json. json) unread answer >>= asked limits) (reads_back (request_json operation) proper shallow) ∙ asks

-- The text of an accepted operation is a request for it, if it is proper and the delta does not nest too deep.
pub accepted_again : (limits : ParamsValue) (operation : PlainOperation) → IsAccepted limits operation → IsProper (request_json operation)
    → IsDeltaWithin 125 operation → IsReadAgain limits operation
accepted_again limits (creating suffix_data None) right proper within = absurd cc
accepted_again limits (creating suffix_data (Some delta)) right proper within =
    text_asks limits (creating suffix_data (Some delta)) proper (create_depth suffix_data delta within) (create_asks limits suffix_data delta right.0 right.1 right.2)
accepted_again limits (updating target None delta) right proper within = absurd right.0.opens
accepted_again limits (updating target (Some proof) None) right proper within = absurd cc
accepted_again limits (updating target (Some proof) (Some delta)) right proper within =
    text_asks limits (updating target (Some proof) (Some delta)) proper (signed_depth (codes "update") target proof delta within) (update_asks limits target proof delta right.0 right.1)
accepted_again limits (recovering target None delta) right proper within = absurd right.0.opens
accepted_again limits (recovering target (Some proof) None) right proper within = absurd cc
accepted_again limits (recovering target (Some proof) (Some delta)) right proper within =
    text_asks limits (recovering target (Some proof) (Some delta)) proper (signed_depth (codes "recover") target proof delta within) (recover_asks limits target proof delta right.0 right.1)
accepted_again limits (deactivating target None) right proper within = absurd right.opens
accepted_again limits (deactivating target (Some proof)) right proper within =
    text_asks limits (deactivating target (Some proof)) proper (deactivate_depth target proof) (deactivate_asks limits target proof right)

-- ---- A request is accepted only for such operations.

own_text : (limit : ℕ) (text : List ℕ) (proof : Proof) (opening : Option Opened)
    → option_and_then (λ found. Some (record { text = text; payload = found.payload; key = found.key })) opening ≡ Some proof → text ≡ proof.text
own_text limit text proof None e = absurd cc
own_text limit text proof (Some found) e = ap (λ p. p.text) (same_Some (record { text = text; payload = found.payload; key = found.key }) proof e)

opens_again : (limit : ℕ) (text : Option (List ℕ)) (proof : Proof) → option_and_then (proof_of limit) text ≡ Some proof
    → (proof_of limit proof.text ≡ Some proof) × (text ≡ Some proof.text)
unfolding proof_of
opens_again limit None proof e = absurd cc
opens_again limit (Some text) proof e =
    let same = own_text limit text proof (result_ok (opened text limit)) e in
    (subst (λ found. proof_of limit found ≡ Some proof) same e, ap Some same)

pub proof_opens : (limit : ℕ) (request : Option Plain) (proof : Proof) → proof_in limit request ≡ Some proof
    → (proof_of limit proof.text ≡ Some proof) × (text_at (codes "signedData") request ≡ Some proof.text)
unfolding proof_in
proof_opens limit request proof e = opens_again limit (text_at (codes "signedData") request) proof e

claim_is : (limits : ParamsValue) (operation : PlainOperation) (claim : Option Claim) → claim_of limits operation ≡ claim
    → with_claim limits operation ≡ Ok operation → IsSome claim
unfolding with_claim
claim_is limits operation None is e = absurd (let none = rw is at e in cc)
claim_is limits operation (Some claim) is e = refl

-- a signed operation that a request is accepted for
pub signed_right : (limits : ParamsValue) (request : Option Plain) (target : Target) (proof : Proof) (operation : PlainOperation)
    → SignedAsked limits request target proof operation → IsReadAt limits.version target.suffix → IsReadAt limits.version target.reveal
    → IsProved limits target (Some proof) operation
signed_right limits request target proof operation asked suffix reveal = record {
  suffix = suffix;
  reveal = reveal;
  opens = (proof_opens limits.max_signed request proof asked.proved).0;
  claims = claim_is limits operation (claim_of limits operation) refl asked.claimed;
}

asked_accepted : (limits : ParamsValue) (request : Option Plain) (operation : PlainOperation) → Asked limits request operation
    → HasHashes operation → IsAccepted limits operation
asked_accepted limits request operation (create suffix_data asked same) =
    let read = suffix_data_read limits.version (member_in (codes "suffixData") request) suffix_data asked.named in
    subst (λ one. HasHashes one → IsAccepted limits one) same
    (λ are. (read_again _ _ _ are.0 read.delta_hash, read_again _ _ _ are.1 read.recovery_commitment, delta_of_create request asked.form))
asked_accepted limits request operation (update target proof form asked same) =
    let read = target_read limits.version request target asked.named in
    subst (λ one. HasHashes one → IsAccepted limits one) same
    (λ are. (signed_right limits request target proof _ asked (read_again _ _ _ are.0 read.suffix) (read_again _ _ _ are.1 read.reveal), delta_of_change request form))
asked_accepted limits request operation (recover target proof form asked same) =
    let read = target_read limits.version request target asked.named in
    subst (λ one. HasHashes one → IsAccepted limits one) same
    (λ are. (signed_right limits request target proof _ asked (read_again _ _ _ are.0 read.suffix) (read_again _ _ _ are.1 read.reveal), delta_of_change request form))
asked_accepted limits request operation (deactivate target proof form asked same) =
    let read = target_read limits.version request target asked.named in
    subst (λ one. HasHashes one → IsAccepted limits one) same
    (λ are. signed_right limits request target proof _ asked (read_again _ _ _ are.0 read.suffix) (read_again _ _ _ are.1 read.reveal))

-- The operation of accepted bytes satisfies the conditions, if its hashes satisfy theirs.
pub accepted : (limits : ParamsValue) (bytes : List ℕ) (operation : PlainOperation) → request_of limits bytes ≡ Ok operation → HasHashes operation
    → IsAccepted limits operation
accepted limits bytes operation e are =
    let read = request_is limits bytes operation e in
    asked_accepted limits (Some read.0) operation (asked_is limits read.0 operation read.2) are

-- ---- An operation that was read is read again from its own text.

create_made : (suffix_data : SuffixData) (delta : Option Plain) → is_some (option_and_then members_in delta) ≡ true → IsProperThere delta
    → IsUtf8 (hash_text suffix_data.delta_hash) → IsUtf8 (hash_text suffix_data.recovery_commitment)
    → IsProper (request_json (creating suffix_data delta))
create_made suffix_data None object proper first second = absurd cc
create_made suffix_data (Some delta) object proper first second = create_proper suffix_data delta first second (proper delta refl)

change_made : (type : List ℕ) (target : Target) (proof : Proof) (delta : Option Plain) → is_some (option_and_then members_in delta) ≡ true → IsProperThere delta
    → IsProper (signed_json type target (Some proof) None) → IsProper (signed_json type target (Some proof) delta)
change_made type target proof None object proper others = others
change_made type target proof (Some delta) object proper others = change_proper type target proof delta others (proper delta refl)

-- a proper request is accepted for it
record IsProperAgain (limits : ParamsValue) (operation : PlainOperation) : Type 0 where
  right : IsAccepted limits operation
  proper : IsProper (request_json operation)

-- a signed operation read from a proper request
record SignedTexts (version : ℕ) (target : Target) (proof : Proof) : Type 0 where
  suffix : HasText version target.suffix
  reveal : HasText version target.reveal
  signed : IsUtf8 proof.text

signed_texts : (limits : ParamsValue) (request : Option Plain) (target : Target) (proof : Proof) (operation : PlainOperation) → IsProperThere request
    → SignedAsked limits request target proof operation → SignedTexts limits.version target proof
signed_texts limits request target proof operation proper asked =
    let read = target_read limits.version request target asked.named in
    record {
      suffix = hash_has_text limits.version _ target.suffix (there_proper (codes "didSuffix") request proper) read.suffix;
      reveal = hash_has_text limits.version _ target.reveal (there_proper (codes "revealValue") request proper) read.reveal;
      signed = text_at_utf8 (codes "signedData") request proof.text proper (proof_opens limits.max_signed request proof asked.proved).1;
    }

signed_made : (version : ℕ) (type : List ℕ) (target : Target) (proof : Proof) → IsUtf8 type → SignedTexts version target proof
    → IsProper (signed_json type target (Some proof) None)
signed_made version type target proof utf8 texts = signed_proper type target proof utf8 texts.suffix.utf8 texts.reveal.utf8 texts.signed

proper_again : (limits : ParamsValue) (request : Option Plain) (operation : PlainOperation) → IsProperThere request → Asked limits request operation
    → IsProperAgain limits operation
proper_again limits request operation proper (create suffix_data asked same) =
    let there = member_in (codes "suffixData") request in
    let inside : IsProperThere there = there_proper (codes "suffixData") request proper in
    let read = suffix_data_read limits.version there suffix_data asked.named in
    let first = hash_has_text limits.version _ suffix_data.delta_hash (there_proper (codes "deltaHash") there inside) read.delta_hash in
    let second = hash_has_text limits.version _ suffix_data.recovery_commitment (there_proper (codes "recoveryCommitment") there inside) read.recovery_commitment in
    subst (IsProperAgain limits) same (record {
      right = (first.read, second.read, delta_of_create request asked.form);
      proper = create_made suffix_data _ (delta_of_create request asked.form) (there_proper (codes "delta") request proper) first.utf8 second.utf8;
    })
proper_again limits request operation proper (update target proof form asked same) =
    let texts = signed_texts limits request target proof _ proper asked in
    subst (IsProperAgain limits) same (record {
      right = (signed_right limits request target proof _ asked texts.suffix.read texts.reveal.read, delta_of_change request form);
      proper = change_made (codes "update") target proof _ (delta_of_change request form) (there_proper (codes "delta") request proper)
          (signed_made limits.version (codes "update") target proof update_utf8 texts);
    })
proper_again limits request operation proper (recover target proof form asked same) =
    let texts = signed_texts limits request target proof _ proper asked in
    subst (IsProperAgain limits) same (record {
      right = (signed_right limits request target proof _ asked texts.suffix.read texts.reveal.read, delta_of_change request form);
      proper = change_made (codes "recover") target proof _ (delta_of_change request form) (there_proper (codes "delta") request proper)
          (signed_made limits.version (codes "recover") target proof recover_utf8 texts);
    })
proper_again limits request operation proper (deactivate target proof form asked same) =
    let texts = signed_texts limits request target proof _ proper asked in
    subst (IsProperAgain limits) same (record {
      right = signed_right limits request target proof _ asked texts.suffix.read texts.reveal.read;
      proper = signed_made limits.version (codes "deactivate") target proof deactivate_utf8 texts;
    })

-- the text of an operation that a proper request is accepted for is a request for it
pub read_asks_again : (limits : ParamsValue) (request : Plain) (operation : PlainOperation) → IsProper request → asked limits request ≡ Ok operation
    → IsDeltaWithin 125 operation → IsReadAgain limits operation
read_asks_again limits request operation proper e within =
    let asks = asked_is limits request operation e in
    let there : IsProperThere (Some request) = λ value same. subst IsProper (same_Some request value same) proper in
    let again = proper_again limits (Some request) operation there asks in
    accepted_again limits operation again.right again.proper within

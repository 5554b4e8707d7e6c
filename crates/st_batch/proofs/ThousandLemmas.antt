-- The length of a signed text as JSON, if it can be opened. Nothing in it is escaped: it is three texts in base64url
-- with dots between them.
use Rattle.std.proofs.Common.{◌≡◌, ◌∙◌, ℕ, ◌+◌, ◌≤◌, ◌==◌, Bool, true, false, nat_le, List, [], ◌∷◌, ◌++◌, length, take, drop, position, Option, Some, None, option_map, option_and_then, Result, Ok, Err, refl, sym, ap, subst, length-append, arith, ◌*◌, if◌then◌else◌, filter, ◌<◌, codes}
use Rattle.std.proofs.lemmas.Bool.{leb-true, and_from, le-leb}
use Rattle.std.proofs.lemmas.Bool.Decides.{nat_tests}
use Rattle.std.proofs.lemmas.List.{length-take-le}
use Rattle.std.proofs.lemmas.List.Concat.{flat_map-append}
use Rattle.std.proofs.lemmas.List.Elements.{All-from_recursion}
use Rattle.std.proofs.lemmas.List.Sums.{sum_by-le}
use Rattle.std.proofs.lemmas.Option.{same_Some}
use Rattle.std.specs.List.{flat_map, AllByRecursion, sum_by}
use Rattle.std.specs.Option.{ok_or}
use Rattle.std.specs.Prelude.{is_some, IfSome, min}
use Rattle.std.specs.Result.{result_ok}
use Rattle.st_base.proofs.TextLemmas.{around}
use Rattle.st_base.proofs.ListLemmas.{each-filter, each-weaker, each-take}
use Rattle.st_base.specs.Answers.{◌>>=◌, ◌>>◌, holds_or}
use Rattle.st_base.specs.Texts.{cut_at}
use Rattle.st_plain.specs.Plain.{escape, Plain}
use Rattle.st_plain.specs.Measures.{size_of}
use Rattle.st_hash.proofs.Base64Lemmas.{decoded_apart}
use Rattle.st_hash.specs.Hash.{bytes_of_text, HashValue, IsHash}
use Rattle.st_params.specs.ParamsValue.{ParamsValue, in_version, params_of}
use Rattle.st_jws.specs.Signing.{Opened, opened}
use Rattle.st_jws.specs.Texts.{Texts, dot, texts_of}
use Rattle.st_jws.specs.declared.signed.SignedRefused.TheVariants.{BadForm}
use Rattle.st_indexfiles.proofs.BareLemmas.{IsBare, apart_bare}
use Rattle.st_indexfiles.specs.CoreIndex.{target_json}
use Rattle.st_indexfiles.specs.declared.entries.Target.{Target}
use Rattle.st_datafiles.specs.ProofFiles.{signed_json}
use Rattle.st_datafiles.specs.declared.role.Role.{Role}
use Rattle.st_datafiles.specs.declared.role.Role.TheVariants.{Core, CoreProof, Provisional, ProvisionalProof, Chunk}
use Rattle.st_ops.proofs.AcceptedLemmas.{IsAccepted}
use Rattle.st_ops.proofs.AgainLemmas.{accepted}
use Rattle.st_ops.specs.Operation.{HasHashes, Proof, PlainOperation, creating, updating, recovering, deactivating}
use Rattle.st_ops.specs.Request.{delta_there, request_text}
use Rattle.st_ops.specs.Claim.{proof_of}
use Rattle.st_apply.specs.Applied.{counted}
use Rattle.st_batch.proofs.ReadBackLemmas.{counted_size, right_holds}
use Rattle.st_batch.proofs.SizeLemmas.{signed_long, create_long, target_long, text_short}
use Rattle.st_batch.proofs.FileSizeLemmas.{file_long}
use Rattle.st_batch.proofs.GivenOperationsLemmas.{batch_longest}
use Rattle.st_batch.proofs.PrefixSizeLemmas.{most_go}
use Rattle.st_batch.proofs.GivenBatchLemmas.{all_counted}
use Rattle.st_batch.proofs.Sizes.{create_size, delta_size, entry_size, proof_size, target_size, Sizes, chunk_size, core_proof_size, core_size, file_size, member_size, provisional_proof_size, provisional_size, sizes_of, uri_size, where_any}
use Rattle.st_batch.proofs.SmallLemmas.{short_small, small_all}
use Rattle.st_batch.specs.Laws.{TakesAThousand, TakesTheFirst, ThousandFit}
use Rattle.st_batch.specs.Queue.{Fits, IsQueued}
use Rattle.st_batch.specs.Groups.{signed_text_in, grouped, is_create, is_deactivate, is_recover, is_update}
use Rattle.st_batch.specs.Batch.{are_files_small, batch_count, is_batch, most_bytes}

-- ---- steps that gave a value

then_some : {A B : Type 0} (there : Option A) (next : A → Option B) (value : B) → option_and_then next there ≡ Some value
    → (found : A) × (there ≡ Some found) × (next found ≡ Some value)
then_some None next value is = absurd cc
then_some (Some found) next value is = (found, refl, is)

was_there : {A B E : Type 0} (there : Option A) (refusal : E) (next : A → Result B E) (value : B) → (ok_or there refusal >>= next) ≡ Ok value
    → (found : A) × (there ≡ Some found) × (next found ≡ Ok value)
was_there None refusal next value is = absurd cc
was_there (Some found) refusal next value is = (found, refl, is)

held : {B E : Type 0} (test : Bool) (refusal : E) (next : Result B E) (value : B) → (holds_or test refusal >> next) ≡ Ok value
    → (test ≡ true) × (next ≡ Ok value)
held true refusal next value is = (refl, is)
held false refusal next value is = absurd cc

given : {Found Refusal : Type 0} (answer : Result Found Refusal) (found : Found) → result_ok answer ≡ Some found → answer ≡ Ok found
given (Ok value) found is = cc
given (Err refusal) found is = cc

-- ---- texts between dots

cut_parts : (text before behind : List ℕ) → cut_at dot text ≡ Some (before, behind) → text ≡ before ++ dot ∷ behind
cut_parts text before behind cut = by (position (λ byte. byte == dot) text) refl cut
  where
    by : (found : Option ℕ) → position (λ byte. byte == dot) text ≡ found
        → option_map {U = List ℕ × List ℕ} (λ place. (take place text, drop (place + 1) text)) found ≡ Some (before, behind) → text ≡ before ++ dot ∷ behind
    by None e is = absurd cc
    by (Some place) e is =
        around dot text place e
        ∙ ap (λ (parts : List ℕ × List ℕ). parts.0 ++ dot ∷ parts.1)
        (same_Some {A = List ℕ × List ℕ} (take place text, drop (place + 1) text) (before, behind) is)

-- a signed text is its three texts with dots between them
abbrev joined : List ℕ → List ℕ → List ℕ → List ℕ
joined header payload signature = header ++ dot ∷ (payload ++ dot ∷ signature)

texts_joined : (text : List ℕ) (texts : Texts) → texts_of text ≡ Some texts → text ≡ joined texts.header texts.payload texts.signature
texts_joined text texts is =
    let first = then_some (cut_at dot text) _ texts is in
    let second = then_some (cut_at dot first.0.1) _ texts first.2 in
    let same = same_Some {A = Texts} _ texts second.2 in
    cut_parts text first.0.0 first.0.1 first.1
    ∙ (ap (λ rest. first.0.0 ++ dot ∷ rest) (cut_parts first.0.1 second.0.0 second.0.1 second.1)
    ∙ ap (λ (texts : Texts). joined texts.header texts.payload texts.signature) same)

-- ---- nothing is escaped

bare_both : (xs ys : List ℕ) → IsBare xs → IsBare ys → IsBare (xs ++ ys)
bare_both xs ys first second = flat_map-append escape xs ys ∙ rw (first, second) refl

bare_dot : (bytes : List ℕ) → IsBare bytes → IsBare (dot ∷ bytes)
unfolding escape
bare_dot bytes bare = ap (λ more. dot ∷ more) bare

bare_joined : (header payload signature : List ℕ) → IsBare header → IsBare payload → IsBare signature → IsBare (joined header payload signature)
bare_joined header payload signature first second third =
    bare_both header (dot ∷ (payload ++ dot ∷ signature)) first
    (bare_dot (payload ++ dot ∷ signature) (bare_both payload (dot ∷ signature) second (bare_dot signature third)))

-- nor is anything in a decoded text
decoded_bare : (text bytes : List ℕ) → bytes_of_text text ≡ Some bytes → IsBare text
decoded_bare text bytes found = apart_bare text (decoded_apart text bytes found)

-- ---- opening

-- the signed text can be opened, if it may have this many bytes
abbrev pub Opens : ℕ → List ℕ → Type 0
Opens limit signed = (proof : Proof) × (proof_of limit signed ≡ Some proof)

opening_of : (limit : ℕ) (signed : List ℕ) → Opens limit signed → (opening : Opened) × (opened signed limit ≡ Ok opening)
unfolding proof_of
opening_of limit signed opens =
    let step = then_some (result_ok (opened signed limit)) _ opens.0 opens.1 in
    (step.0, given (opened signed limit) step.0 step.1)

-- it is at most as long as it may be
opened_short : (limit : ℕ) (signed : List ℕ) → Opens limit signed → length signed ≤ limit
opened_short limit signed opens =
    let opening = opening_of limit signed opens in
    leb-true (length signed) limit (held (nat_le (length signed) limit) BadForm _ opening.0 opening.1).0

-- and nothing in it is escaped
pub opened_bare : (limit : ℕ) (signed : List ℕ) → Opens limit signed → IsBare signed
opened_bare limit signed opens =
    let opening = opening_of limit signed opens in
    let short = held (nat_le (length signed) limit) BadForm _ opening.0 opening.1 in
    let texts = was_there (texts_of signed) BadForm _ opening.0 short.1 in
    let header = was_there (bytes_of_text texts.0.header) BadForm _ opening.0 texts.2 in
    let payload = was_there (bytes_of_text texts.0.payload) BadForm _ opening.0 header.2 in
    let signature = was_there (bytes_of_text texts.0.signature) BadForm _ opening.0 payload.2 in
    subst IsBare (sym (texts_joined signed texts.0 texts.1))
    (bare_joined texts.0.header texts.0.payload texts.0.signature (decoded_bare texts.0.header header.0 header.1)
    (decoded_bare texts.0.payload payload.0 payload.1) (decoded_bare texts.0.signature signature.0 signature.1))

-- ---- as JSON

-- a text that is opened has at most this many bytes as JSON
pub opened_within : (limit : ℕ) (signed : List ℕ) → Opens limit signed → size_of (signed_json signed) ≤ limit + 17
opened_within limit signed opens =
    omega (
      arith,
      opened_short limit signed opens,
      signed_long signed,
      ap length (opened_bare limit signed opens),
      length-append (flat_map escape signed) (34 ∷ []),
    )

-- ---- The length of the entries that one operation adds to lists, if it fits the limits of some version; and the sums
-- over those of a kind.

-- ---- one operation

-- every version limits a delta to this length
longest_delta : (version : ℕ) → (params_of version).max_delta ≤ 2000
longest_delta version = most (version == 1)
  where
    most : (first : Bool) → (if first then 1000 else 2000) ≤ 2000
    most true = omega (arith)
    most false = omega (arith)

-- each of its entries is short
pub record IsLow (operation : PlainOperation) : Type 0 where
  pub create : create_size operation ≤ 300
  pub target : target_size operation ≤ 300
  pub proof : proof_size operation ≤ 15000
  pub delta : delta_size operation ≤ 5000

create_low : (operation : PlainOperation) → HasHashes operation → create_size operation ≤ 300
create_low (creating create delta) are =
    omega (arith, create_long create are.0 are.1, text_short create.delta_hash are.0, text_short create.recovery_commitment are.1)
create_low (updating target proof delta) are = omega arith
create_low (recovering target proof delta) are = omega arith
create_low (deactivating target proof) are = omega arith

one_low_target : (target : Target) → IsHash target.suffix × IsHash target.reveal → size_of (target_json target) + 1 ≤ 300
one_low_target target are =
    omega (arith, target_long target are.0 are.1, text_short target.suffix are.0, text_short target.reveal are.1)

target_low : (operation : PlainOperation) → HasHashes operation → target_size operation ≤ 300
target_low (creating create delta) are = omega arith
target_low (updating target proof delta) are = one_low_target target are
target_low (recovering target proof delta) are = one_low_target target are
target_low (deactivating target proof) are = one_low_target target are

-- ---- signed texts

-- the signed text of an accepted operation can be opened
signed_opens : (limits : ParamsValue) (operation : PlainOperation) → IsAccepted limits operation
    → IfSome (signed_text_in operation) (Opens limits.max_signed)
signed_opens limits (creating create delta) right = tt
signed_opens limits (updating target None delta) right = tt
signed_opens limits (updating target (Some proof) delta) right = (proof, right.0.opens)
signed_opens limits (recovering target None delta) right = tt
signed_opens limits (recovering target (Some proof) delta) right = (proof, right.0.opens)
signed_opens limits (deactivating target None) right = tt
signed_opens limits (deactivating target (Some proof)) right = (proof, right.opens)

signed_low : (there : Option (List ℕ)) → IfSome there (Opens 13000) → entry_size (option_map signed_json there) ≤ 15000
signed_low None opens = omega arith
signed_low (Some signed) opens = omega (arith, opened_within 13000 signed opens)

-- ---- for an operation that fits

module _ (version : ℕ) where
  counted_low : (delta_hash : HashValue) (there : Option Plain) → is_some (counted (params_of version) delta_hash there) ≡ true
      → IfSome there (λ delta. size_of delta ≤ 2000)
  counted_low delta_hash there some = low there (counted_size (params_of version) delta_hash there some)
    where
      low : (there : Option Plain) → IfSome there (λ delta. size_of delta ≤ in_version version 1000 2000) → IfSome there (λ delta. size_of delta ≤ 2000)
      low None short = tt
      low (Some delta) short = omega (arith, short, longest_delta version)

  entry_low : (there : Option Plain) → IfSome there (λ delta. size_of delta ≤ 2000) → entry_size (option_map (λ (delta : Plain). delta) there) ≤ 5000
  entry_low None short = omega arith
  entry_low (Some delta) short = omega (arith, short)

  delta_low : (operation : PlainOperation) → Fits (params_of version) operation → delta_size operation ≤ 5000
  delta_low operation fits =
      entry_low (delta_there operation) (right_holds (params_of version) (λ delta. size_of delta ≤ 2000) counted_low operation fits.delta)

  opens_there : (operation : PlainOperation) → HasHashes operation → Fits (params_of version) operation
      → IfSome (signed_text_in operation) (Opens 13000)
  opens_there operation are fits =
      signed_opens (params_of version) operation (accepted (params_of version) (request_text operation) operation fits.request are)

  pub one_low : (operation : PlainOperation) → HasHashes operation → Fits (params_of version) operation → IsLow operation
  one_low operation are fits = record {
    create = create_low operation are;
    target = target_low operation are;
    proof = signed_low (signed_text_in operation) (opens_there operation are fits);
    delta = delta_low operation fits;
  }

-- for one that is queued
module _ (operation : PlainOperation) (is : IsQueued operation) where
  fitted : Fits (params_of is.limits.version) operation
  fitted = subst (λ limits. Fits limits operation) is.versioned is.fitted

  pub queued_low : IsLow operation
  queued_low = one_low is.limits.version operation is.formed.hashes fitted

-- ---- many operations

-- up to 1,000
pub record AreLow (operations : List PlainOperation) : Type 0 where
  pub each : AllByRecursion IsLow operations
  pub few : length operations ≤ 1000

-- the bytes that those of a kind add to a list, by how many they are
pub kind_low : (operations : List PlainOperation) → AllByRecursion IsLow operations → (size : PlainOperation → ℕ) (most : ℕ)
    → ((operation : PlainOperation) → IsLow operation → size operation ≤ most) → (is_kind : PlainOperation → Bool)
    → sum_by size (filter is_kind operations) ≤ length (filter is_kind operations) * most
kind_low operations low size most holds is_kind =
    let Short : PlainOperation → Type 0 = λ operation. size operation ≤ most in
    let all = each-weaker IsLow Short holds (filter is_kind operations) (each-filter IsLow is_kind operations low) in
    sum_by-le size most (filter is_kind operations) (All-from_recursion Short (filter is_kind operations) all)

-- ---- Up to 1,000 operations that fit the limits of some version fit into files at the limits of each version. So in
-- version 1 a batch takes the first 1,000 of a queue, and always the first one.

-- ---- files of this few bytes

any_within : (p x : ℕ) → where_any p x ≤ x
any_within p x = grind (arith, nat_tests)

member_within : (name : List ℕ) (inside : ℕ) → member_size name inside ≤ length name + inside + 5
member_within name inside = any_within inside (length name + inside + 5)

uri_within : (name : List ℕ) (entries : ℕ) → uri_size name entries ≤ length name + 52
uri_within name entries = any_within entries (length name + 52)

any_below : (entries size most : ℕ) → size ≤ most → where_any entries size ≤ most
any_below entries size most below = omega (arith, below, any_within entries size)

module _ (operations : List PlainOperation) (low : AreLow operations) where
  abbrev sizes : Sizes
  sizes = sizes_of operations

  -- at most so many bytes for each operation of a kind
  creates : sizes.creates ≤ length (filter is_create operations) * 300
  creates = kind_low operations low.each create_size 300 (λ operation is. is.create) is_create

  targets : (is_kind : PlainOperation → Bool) → sum_by target_size (filter is_kind operations) ≤ length (filter is_kind operations) * 300
  targets = kind_low operations low.each target_size 300 (λ operation is. is.target)

  proofs : (is_kind : PlainOperation → Bool) → sum_by proof_size (filter is_kind operations) ≤ length (filter is_kind operations) * 15000
  proofs = kind_low operations low.each proof_size 15000 (λ operation is. is.proof)

  deltas : (is_kind : PlainOperation → Bool) → sum_by delta_size (filter is_kind operations) ≤ length (filter is_kind operations) * 5000
  deltas = kind_low operations low.each delta_size 5000 (λ operation is. is.delta)

  core_low : core_size sizes ≤ 1000000
  unfolding core_size
  core_low =
      let create = member_within (codes "create") sizes.creates in
      let recover = member_within (codes "recover") sizes.recovers in
      let deactivate = member_within (codes "deactivate") sizes.deactivates in
      let all = member_within (codes "operations") (member_size (codes "create") sizes.creates
      + member_size (codes "recover") sizes.recovers + member_size (codes "deactivate") sizes.deactivates) in
      let first = uri_within (codes "coreProofFileUri") sizes.for_core_proof in
      let second = uri_within (codes "provisionalIndexFileUri") sizes.for_chunk in
      omega (arith, low.few, all_counted operations, creates, targets is_recover, targets is_deactivate, create, recover, deactivate, all, first, second)

  core_proof_low : core_proof_size sizes ≤ 16000000
  unfolding core_proof_size
  core_proof_low =
      let recover = member_within (codes "recover") sizes.recover_proofs in
      let deactivate = member_within (codes "deactivate") sizes.deactivate_proofs in
      let all = member_within (codes "operations") (member_size (codes "recover") sizes.recover_proofs
      + member_size (codes "deactivate") sizes.deactivate_proofs) in
      any_below sizes.for_core_proof _ 16000000
      (omega (arith, low.few, all_counted operations, proofs is_recover, proofs is_deactivate, recover, deactivate, all))

  provisional_low : provisional_size sizes ≤ 1000000
  unfolding provisional_size
  provisional_low =
      let update = member_within (codes "update") sizes.updates in
      let all = member_within (codes "operations") (member_size (codes "update") sizes.updates) in
      let first = uri_within (codes "provisionalProofFileUri") sizes.for_update_proof in
      any_below sizes.for_chunk _ 1000000 (omega (arith, low.few, all_counted operations, targets is_update, update, all, first))

  provisional_proof_low : provisional_proof_size sizes ≤ 16000000
  unfolding provisional_proof_size
  provisional_proof_low =
      let update = member_within (codes "update") sizes.update_proofs in
      let all = member_within (codes "operations") (member_size (codes "update") sizes.update_proofs) in
      any_below sizes.for_update_proof _ 16000000 (omega (arith, low.few, all_counted operations, proofs is_update, update, all))

  chunk_low : chunk_size sizes ≤ 10000000
  unfolding chunk_size
  chunk_low = any_below sizes.for_chunk _ 10000000 (omega (
    arith,
    low.few,
    all_counted operations,
    deltas is_create,
    deltas is_recover,
    deltas is_update,
    member_within (codes "deltas") sizes.deltas,
  ))

  file_low : (version : ℕ) (role : Role) → file_size role sizes ≤ most_bytes (params_of version) role
  file_low version Core = core_low
  file_low version CoreProof = core_proof_low
  file_low version Provisional = provisional_low
  file_low version ProvisionalProof = provisional_proof_low
  file_low version Chunk = chunk_low

  low_small : (version : ℕ) → are_files_small (params_of version) operations ≡ true
  unfolding are_files_small
  low_small version =
      small_all (params_of version) (grouped operations) (λ role. short_small (params_of version) (grouped operations) role
      (omega (arith, file_long operations role, file_low version role)))

-- ---- operations that fit

pub thousand_fit : ThousandFit
thousand_fit version operations are few = low_small operations (record { each = each-weaker IsQueued IsLow queued_low operations are; few = few }) version

-- in version 1 the first 1,000 go into one batch, or all
pub takes_a_thousand : TakesAThousand
takes_a_thousand queue are =
    let count : ℕ = min (length queue) 1000 in
    let long : length (take count queue) ≡ count = length-take-le count queue (omega arith) in
    let small = thousand_fit 1 (take count queue) (each-take IsQueued count queue are) (omega (arith, long)) in
    let same : count ≡ min 1000 (length queue) = omega arith in
    sym (most_go (params_of 1) queue small) ∙ same

-- ---- the first operation

many : (one : Bool) → 1 ≤ (if one then 1000 else 5000)
many true = omega arith
many false = omega arith

-- it goes into a batch alone
goes_alone : (first second : ℕ) (operation : PlainOperation) → HasHashes operation → Fits (params_of first) operation
    → is_batch (params_of second) (operation ∷ []) ≡ true
goes_alone first second operation are fits =
    and_from (nat_le 1 (in_version second 1000 5000)) (are_files_small (params_of second) (operation ∷ []))
    (le-leb 1 (in_version second 1000 5000) (many (second == 1)))
    (low_small (operation ∷ []) (record { each = (one_low first operation are fits, tt); few = omega arith }) second)

pub takes_the_first : TakesTheFirst
takes_the_first first second operation waiting are fits =
    let longest = batch_longest (params_of second) (operation ∷ waiting) in
    let none : batch_count (params_of second) (operation ∷ waiting) < 1 → ⊥ = λ below. (
    let fails = longest.longest 1 below (omega arith) in
    let goes = goes_alone first second operation are fits in
    cc) in
    omega (arith, none)

-- If the parts of a file have their form, as many entries and URIs are read as the file has.
use Rattle.std.proofs.Common.{◌≡◌, ◌∙◌, ℕ, suc, ◌+◌, true, if◌then◌else◌, List, [], ◌∷◌, codes, length, Option, Some, None, refl, ap, ◌≤◌, map, arith, ◌==◌, Bool, false, cond, option_and_then}
use Rattle.std.proofs.lemmas.Bool.{and_parts}
use Rattle.std.proofs.lemmas.Str.{IsUtf8-from_ascii}
use Rattle.std.specs.List.{cons_option, filter_map, AllByRecursion}
use Rattle.std.specs.Option.{option_or}
use Rattle.std.specs.Prelude.{◌||◌, is_some, nat_lt, option_map, IfSome}
use Rattle.std.specs.Str.{IsUtf8}
use Rattle.base64.proofs.EngineFacts.{IsAscii-encode_of}
use Rattle.base64.specs.Engines.{url_safe_no_pad}
use lib.Utf8.{encode, encodes, scalars}
use Rattle.st_base.specs.Lists.{each_is}
use Rattle.st_plain.proofs.NameLemmas.{names_on_literals}
use Rattle.st_plain.proofs.ReadableLemmas.{IsReadable, IsReadableThere, deeper, list_there, listed_readable, object_readable, object_there}
use Rattle.st_plain.specs.Plain.{Plain}
use Rattle.st_plain.specs.Shapes.{member_in}
use Rattle.st_hash.specs.Hash.{HashValue, hash_text, hash_of_text, hash_of_text_at, hash_of_text_with}
use Rattle.st_indexfiles.specs.CoreIndex.{core_index_of, operations_of, core_json, core_lists, core_members, core_operations, has_core_entries, has_core_members, has_signed, one_alone, operation_count, is_uri_if_there, uri_in, hash_json, create_of, create_json, target_of, target_json, IsHashReadAgain, ReadsAs}
use Rattle.st_indexfiles.specs.ProvisionalIndex.{updates_in, chunk_json, provisional_json, provisional_lists, provisional_members, provisional_operations, core_count, has_provisional_entries, update_count}
use Rattle.st_indexfiles.specs.declared.core_index.CoreIndex.{CoreIndex}
use Rattle.st_indexfiles.specs.declared.provisional_index.ProvisionalIndex.{ProvisionalIndex}
use Rattle.st_indexfiles.specs.declared.suffix_data.SuffixData.{SuffixData}
use Rattle.st_indexfiles.specs.declared.entries.Target.{Target}
use Rattle.st_indexfiles.specs.inside.CoreParts.{core_operations_in, core_said, core_uris_in, says_stray_proof, AreReadAgain, IsUriReadAgain}

-- ---- entries and URIs

one_read : {Read : Type 0} (found : Option Read) (others : List Read) → is_some found ≡ true → length (cons_option found others) ≡ suc (length others)
one_read None others some = cc some
one_read (Some one) others some = refl

-- if each item is read, as many are read
length-read : {Item Read : Type 0} (read : Item → Option Read) (items : List Item) → each_is read items ≡ true
    → length (filter_map read items) ≡ length items
length-read read [] each = refl
length-read read (item ∷ items) each =
    let parts = and_parts (is_some (read item)) (each_is read items) each in
    one_read (read item) (filter_map read items) parts.0 ∙ ap suc (length-read read items parts.1)

-- if the value is a URI or missing, a URI is read if and only if it is present
uri_there : (there : Option Plain) → is_uri_if_there there ≡ true → is_some (uri_in there) ≡ is_some there
uri_there None is = refl
uri_there (Some value) is = is

-- ---- core index files

-- the content of its parts is its content
pub said_core : (version : ℕ) (index : Option Plain)
    → core_said version (core_uris_in index) (core_operations_in index) ≡ (if has_core_entries version index then Some (core_index_of version index) else None)
unfolding core_said core_uris_in core_operations_in has_core_entries core_index_of
said_core version index = refl

module _ (version : ℕ) (index : Option Plain) (are_entries : has_core_entries version index ≡ true) where
  -- as many operations are read as the file has
  pub counted_core : core_count (core_index_of version index) ≡ operation_count index
  unfolding has_core_entries core_index_of operation_count
  counted_core =
      let parts = and_parts _ _ are_entries in
      let later = and_parts _ _ parts.1 in
      let creates = length-read (create_of version) (operations_of (codes "create") index) parts.0 in
      let recovers = length-read (target_of version) (operations_of (codes "recover") index) later.0 in
      let deactivates = length-read (target_of version) (operations_of (codes "deactivate") index) later.1 in
      λ i. creates i + recovers i + deactivates i

  -- and it shows whether only one of a proof file and a signed operation is there
  pub stray_core : (max_lock_id : ℕ) → has_core_members max_lock_id index ≡ true
      → says_stray_proof (core_index_of version index) ≡ one_alone (is_some (member_in (codes "coreProofFileUri") index)) (has_signed index)
  unfolding has_core_entries has_core_members core_index_of says_stray_proof has_signed
  stray_core max_lock_id are_members =
      let later = and_parts _ _ (and_parts _ _ are_entries).1 in
      let recovers = length-read (target_of version) (operations_of (codes "recover") index) later.0 in
      let deactivates = length-read (target_of version) (operations_of (codes "deactivate") index) later.1 in
      let proof = uri_there (member_in (codes "coreProofFileUri") index) (and_parts _ _ are_members).0 in
      λ i. one_alone (proof i) (nat_lt 0 (recovers i) || nat_lt 0 (deactivates i))

-- ---- provisional index files

module _ (version : ℕ) (index : Option Plain) (are_entries : has_provisional_entries version index ≡ true) where
  -- as many updates are read as the file has
  pub counted_updates : length (updates_in version index) ≡ update_count index
  unfolding has_provisional_entries updates_in update_count
  counted_updates = length-read (target_of version) (operations_of (codes "update") index) (and_parts _ _ are_entries).1

  -- and the URI of the proof file is read if and only if it is present
  pub stray_provisional : is_some (uri_in (member_in (codes "provisionalProofFileUri") index)) ≡ is_some (member_in (codes "provisionalProofFileUri") index)
  unfolding has_provisional_entries
  stray_provisional = uri_there (member_in (codes "provisionalProofFileUri") index) (and_parts _ _ are_entries).0

-- ---- The JSON of index files is proper and does not nest too deep, so its canonical text is read again.

-- ---- hash texts

-- a hash text is UTF-8
pub hash_text_utf8 : (hash : HashValue) → IsUtf8 (hash_text hash)
hash_text_utf8 hash = IsUtf8-from_ascii (hash_text hash) (IsAscii-encode_of url_safe_no_pad _)

-- so a hash as JSON is readable
pub hash_readable : (hash : HashValue) → IsReadable 1 (hash_json hash)
hash_readable hash = (hash_text_utf8 hash, omega arith)

-- ---- entries

-- a name that is a literal
pub utf8 : (literal : List ℕ) → (scalars literal ≡ true) × (encodes literal ≡ literal) → IsUtf8 literal
utf8 literal is = (literal, is)

pub target_readable : (target : Target) → IsReadable 3 (target_json target)
unfolding names_on_literals encode
target_readable target = (
  (
    utf8 (codes "didSuffix") (refl, refl),
    (refl, tt),
    hash_text_utf8 target.suffix,
    (utf8 (codes "revealValue") (refl, refl), tt, hash_text_utf8 target.reveal, tt),
  ),
  omega arith,
)

pub create_readable : (create : SuffixData) → IsReadable 3 (create_json create)
unfolding names_on_literals encode
create_readable create = (
  (
    utf8 (codes "suffixData") (refl, refl),
    tt,
    (
      utf8 (codes "deltaHash") (refl, refl),
      (refl, tt),
      hash_text_utf8 create.delta_hash,
      (utf8 (codes "recoveryCommitment") (refl, refl), tt, hash_text_utf8 create.recovery_commitment, tt),
    ),
    tt,
  ),
  omega arith,
)

targets_readable : (targets : List Target) → AllByRecursion (IsReadable 3) (map target_json targets)
targets_readable [] = tt
targets_readable (target ∷ targets) = (target_readable target, targets_readable targets)

creates_readable : (creates : List SuffixData) → AllByRecursion (IsReadable 3) (map create_json creates)
creates_readable [] = tt
creates_readable (create ∷ creates) = (create_readable create, creates_readable creates)

-- an optional URI
pub uri_readable : (most : ℕ) (uri : Option HashValue) → 1 ≤ most → IsReadableThere most (option_map hash_json uri)
uri_readable most None some = tt
uri_readable most (Some uri) some = deeper 1 most (hash_json uri) some (hash_readable uri)

-- ---- a core index

module _ (index : CoreIndex) where
  pub core_readable : IsReadable 127 (core_json index)
  unfolding encode
  core_readable =
      let operations = listed_readable 4 (core_lists index) (
        (utf8 (codes "create") (refl, refl), list_there 3 (map create_json index.creates) (creates_readable index.creates)),
        (
          (utf8 (codes "recover") (refl, refl), list_there 3 (map target_json index.recovers) (targets_readable index.recovers)),
          ((utf8 (codes "deactivate") (refl, refl), list_there 3 (map target_json index.deactivates) (targets_readable index.deactivates)), tt),
        ),
      ) in
      let all = listed_readable 5 (core_members index) (
        (utf8 (codes "coreProofFileUri") (refl, refl), uri_readable 5 index.core_proof (omega arith)),
        (
          (utf8 (codes "provisionalIndexFileUri") (refl, refl), uri_readable 5 index.provisional (omega arith)),
          ((utf8 (codes "operations") (refl, refl), object_there 4 (core_operations index) operations), tt),
        ),
      ) in
      deeper 6 127 (core_json index) (omega arith) (object_readable 5 _ all)

-- ---- a provisional index

module _ (index : ProvisionalIndex) where
  chunk_readable : IsReadable 4 (chunk_json index.chunk)
  unfolding encode
  chunk_readable = ((utf8 (codes "chunkFileUri") (refl, refl), tt, hash_text_utf8 index.chunk, tt), omega arith)

  pub provisional_readable : IsReadable 127 (provisional_json index)
  unfolding encode
  provisional_readable =
      let operations = listed_readable 4 (provisional_lists index) ((utf8 (codes "update") (refl, refl), list_there 3 (map target_json index.updates) (targets_readable index.updates)), tt) in
      let all = listed_readable 5 (provisional_members index) (
        (utf8 (codes "provisionalProofFileUri") (refl, refl), uri_readable 5 index.proof (omega arith)),
        (
          (utf8 (codes "chunks") (refl, refl), list_there 4 (chunk_json index.chunk ∷ []) (chunk_readable, tt)),
          ((utf8 (codes "operations") (refl, refl), object_there 4 (provisional_operations index) operations), tt),
        ),
      ) in
      deeper 6 127 (provisional_json index) (omega arith) (object_readable 5 _ all)

-- ---- What was written is read again: hashes, lists of entries, URIs.

-- ---- hashes

reads_as : {Said : Type 0} (read : Option Said) (said : Said) → read ≡ Some said → ReadsAs read said
reads_as None said e = tt
reads_as (Some found) said e = cc

in_version : (first : Bool) (sha256 sha512 : Option HashValue) (hash : HashValue) → option_or sha256 sha512 ≡ Some hash
    → ReadsAs (cond first sha256 (option_or sha256 sha512)) hash
in_version true None sha512 hash e = tt
in_version true (Some found) sha512 hash e = cc
in_version false sha256 sha512 hash e = reads_as (option_or sha256 sha512) hash e

-- a hash that version 2 reads again is read as itself in each version
pub hash_again : (hash : HashValue) → hash_of_text_at 2 (hash_text hash) ≡ Some hash → IsHashReadAgain hash
hash_again hash e = λ version.
    in_version (version == 1) (hash_of_text (hash_text hash)) (hash_of_text_with 0x13 (hash_text hash)) hash e

-- a value built from two hashes is read again if these are
pub both_again : {Said : Type 0} (make : HashValue → HashValue → Said) (first second : Option HashValue) (x y : HashValue)
    → ReadsAs first x → ReadsAs second y
    → ReadsAs (option_and_then (λ a. option_and_then (λ b. Some (make a b)) second) first) (make x y)
both_again make None second x y p q = tt
both_again make (Some a) None x y p q = tt
both_again make (Some a) (Some b) x y p q = λ i. make (p i) (q i)

-- if it is read, it is read as this
pub read_as : {Said : Type 0} (read : Option Said) (said : Said) → is_some read ≡ true → ReadsAs read said → read ≡ Some said
read_as None said some again = cc
read_as (Some found) said some again = ap Some again

-- ---- lists of entries

-- this is read from its written form
abbrev pub IsAgain : {Item Said : Type 0} → (Item → Option Said) → (Said → Item) → Said → Type 0
IsAgain read write said = read (write said) ≡ Some said

module _ {Item Said : Type 0} (read : Item → Option Said) (write : Said → Item) where
  -- each entry is read
  pub each_again : (said : List Said) → AllByRecursion (IsAgain read write) said → each_is read (map write said) ≡ true
  each_again [] all = refl
  each_again (one ∷ more) all = rw all.0 (each_again more all.1)

  -- and they are read as their originals
  pub all_again : (said : List Said) → AllByRecursion (IsAgain read write) said → filter_map read (map write said) ≡ said
  all_again [] all = refl
  all_again (one ∷ more) all = rw all.0 (ap (λ others. one ∷ others) (all_again more all.1))

-- entries that are read are read as their originals, if they are in each version that reads them
pub now_again : {Said : Type 0} (read : ℕ → Plain → Option Said) (json : Said → Plain) (version : ℕ) (said : List Said)
    → each_is (read version) (map json said) ≡ true → AreReadAgain read json said → AllByRecursion (IsAgain (read version) json) said
now_again read json version [] some again = tt
now_again read json version (one ∷ more) some again =
    let parts = and_parts (is_some (read version (json one))) (each_is (read version) (map json more)) some in
    (read_as (read version (json one)) one parts.0 (again.0 version), now_again read json version more parts.1 again.1)

-- an entry is read if its hashes are
pub target_again : (version : ℕ) (target : Target) → hash_of_text_at version (hash_text target.suffix) ≡ Some target.suffix
    → hash_of_text_at version (hash_text target.reveal) ≡ Some target.reveal → IsAgain (target_of version) target_json target
unfolding names_on_literals
target_again version target suffix reveal = rw (suffix, reveal) refl

pub create_again : (version : ℕ) (create : SuffixData) → hash_of_text_at version (hash_text create.delta_hash) ≡ Some create.delta_hash
    → hash_of_text_at version (hash_text create.recovery_commitment) ≡ Some create.recovery_commitment
    → IsAgain (create_of version) create_json create
unfolding names_on_literals
create_again version create first second = rw (first, second) refl

-- ---- URIs

-- an optional URI is read from its text
abbrev pub IsUriAgain : Option HashValue → Type 0
IsUriAgain uri = IfSome uri (λ found. hash_of_text (hash_text found) ≡ Some found)

pub uri_read : (uri : Option HashValue) → IsUriAgain uri → uri_in (option_map hash_json uri) ≡ uri
uri_read None again = refl
uri_read (Some uri) again = again

pub uri_passes : (uri : Option HashValue) → IsUriAgain uri → is_uri_if_there (option_map hash_json uri) ≡ true
uri_passes None again = refl
uri_passes (Some uri) again = rw again refl

-- a URI that is read is read as itself, if it is in each version that reads it
pub uri_again : (uri : Option HashValue) → is_uri_if_there (option_map hash_json uri) ≡ true → IsUriReadAgain uri → IsUriAgain uri
uri_again None is again = tt
uri_again (Some uri) is again = read_as (uri_in (Some (hash_json uri))) uri is (again 1)

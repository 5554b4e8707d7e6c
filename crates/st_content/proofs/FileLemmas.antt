-- Lookups of files, before and after one is added.
use Rattle.std.proofs.Common.{◌≡◌, ◌≢◌, ◌∙◌, ℕ, ◌==◌, Bool, true, false, List, [], ◌∷◌, if◌then◌else◌, Option, Some, None, is_some, Bor, IfSome, refl, sym, ap, subst}
use Rattle.std.specs.BTreeMap.{insert_entry, is_at}
use Rattle.std.specs.Cmp.Lexicographic.{slice_cmp, texts_ties}
use Rattle.std.specs.Map.{lookup}
use Rattle.std.specs.Option.{option_copied, option_or}
use Rattle.std.specs.Ordering.{is_eq, match_ordering, nat_cmp}
use Rattle.std.specs.declared.cmp.Ordering.{Ordering}
use Rattle.std.specs.declared.cmp.Ordering.TheVariants.{Less, Equal, Greater}
use Rattle.std.proofs.lemmas.Bool.{eqb-true, eqb-false, ne_eqb}
use Rattle.std.proofs.lemmas.Option.{cond_some}
use Rattle.st_hash.specs.Hash.{HashValue, hash_cmp, same_hash, sha256, sha256_digest, uri_of, same_hash-ties}
use Rattle.st_hash.proofs.HashLemmas.{same_hash-is, same_hash-itself, same_hash-other}
use Rattle.st_content.specs.Files.{AreNamed, Files, file_at, files_of, with_file}
use Rattle.st_content.specs.inside.Files.{with_entry}

-- ---- files by their digests

-- a URI's file is the one with its digest
pub file_at-files_of : (digest : List ℕ) (entries : List (List ℕ × List ℕ))
    → file_at (record { code = 0x12; digest = digest }) (files_of entries) ≡ lookup (is_at (slice_cmp nat_cmp digest)) entries
file_at-files_of digest [] = refl
file_at-files_of digest (entry ∷ entries) = rw (texts_ties digest entry.0, file_at-files_of digest entries) refl

-- a hash of another algorithm is not a URI
pub file_at-other : (uri : HashValue) (entries : List (List ℕ × List ℕ)) → uri.code ≢ 0x12
    → file_at uri (files_of entries) ≡ None
file_at-other uri [] other = refl
file_at-other uri (entry ∷ entries) other = rw (ne_eqb uri.code 0x12 other) (file_at-other uri entries other)

-- a file put by its digest is put by its URI
put_at : (order : Ordering) (digest file : List ℕ) (entry : List ℕ × List ℕ) (entries after : List (List ℕ × List ℕ)) (later : Files)
    → files_of after ≡ later
    → files_of (match_ordering order ((digest, file) ∷ entry ∷ entries) ((entry.0, file) ∷ entries) (entry ∷ after))
    ≡ match_ordering order
    ((record { code = 0x12; digest = digest }, file) ∷ (record { code = 0x12; digest = entry.0 }, entry.1) ∷ files_of entries)
    ((record { code = 0x12; digest = entry.0 }, file) ∷ files_of entries)
    ((record { code = 0x12; digest = entry.0 }, entry.1) ∷ later)
put_at Less digest file entry entries after later e = refl
put_at Equal digest file entry entries after later e = refl
put_at Greater digest file entry entries after later e = rw e refl

files_of-insert : (digest file : List ℕ) (entries : List (List ℕ × List ℕ))
    → files_of (insert_entry (slice_cmp nat_cmp) entries digest file)
    ≡ insert_entry hash_cmp (files_of entries) (record { code = 0x12; digest = digest }) file
files_of-insert digest file [] = refl
files_of-insert digest file (entry ∷ entries) =
    put_at (slice_cmp nat_cmp digest entry.0) digest file entry entries _ _ (files_of-insert digest file entries)

-- ---- a file is added

-- a new file is found by its URI
own_at : (order : Ordering) (uri : HashValue) (file : List ℕ) (entry : HashValue × List ℕ) (files later : Files)
    → same_hash uri entry.0 ≡ is_eq order → file_at uri later ≡ Some file
    → file_at uri (match_ordering order ((uri, file) ∷ entry ∷ files) ((entry.0, file) ∷ files) (entry ∷ later)) ≡ Some file
own_at Less uri file entry files later same found = rw (same_hash-itself uri) refl
own_at Equal uri file entry files later same found = rw same refl
own_at Greater uri file entry files later same found = rw (same, found) refl

found_own : (uri : HashValue) (file : List ℕ) (files : Files) → file_at uri (insert_entry hash_cmp files uri file) ≡ Some file
found_own uri file [] = rw (same_hash-itself uri) refl
found_own uri file (entry ∷ files) =
    own_at (hash_cmp uri entry.0) uri file entry files (insert_entry hash_cmp files uri file) (same_hash-ties uri entry.0)
    (found_own uri file files)

-- and the file of any other URI is unchanged
found_other : (other uri : HashValue) (file : List ℕ) (files : Files) → same_hash other uri ≡ false
    → file_at other (insert_entry hash_cmp files uri file) ≡ file_at other files
found_other other uri file [] differs = rw differs refl
found_other other uri file (entry ∷ files) differs =
    at (hash_cmp uri entry.0) (insert_entry hash_cmp files uri file) (same_hash-ties uri entry.0) (found_other other uri file files differs)
  where
    at : (order : Ordering) (later : Files) → same_hash uri entry.0 ≡ is_eq order → file_at other later ≡ file_at other files
        → file_at other (match_ordering order ((uri, file) ∷ entry ∷ files) ((entry.0, file) ∷ files) (entry ∷ later))
        ≡ file_at other (entry ∷ files)
    at Less later same stays = rw differs refl
    at Equal later same stays =
        let is : uri ≡ entry.0 = same_hash-is uri entry.0 same in
        let no : same_hash other entry.0 ≡ false = subst (λ hash. same_hash other hash ≡ false) is differs in
        rw no refl
    at Greater later same stays = rw stays refl

-- the file of its URI is the earlier one, if any, or else this one
first_by : (file : List ℕ) (files : Files) (old : Option (List ℕ)) → file_at (uri_of file) files ≡ old
    → file_at (uri_of file) (if is_some old then files else insert_entry hash_cmp files (uri_of file) file)
    ≡ option_or old (Some file)
first_by file files None e = found_own (uri_of file) file files
first_by file files (Some old) e = e

pub file_at-with_file : (file : List ℕ) (files : Files)
    → file_at (uri_of file) (with_file file files) ≡ option_or (file_at (uri_of file) files) (Some file)
file_at-with_file file files = first_by file files (file_at (uri_of file) files) refl

-- the file of every other URI stays
other_by : (there : Bool) (uri : HashValue) (file : List ℕ) (files : Files) → uri ≢ uri_of file
    → file_at uri (if there then files else insert_entry hash_cmp files (uri_of file) file) ≡ file_at uri files
other_by true uri file files other = refl
other_by false uri file files other = found_other uri (uri_of file) file files (same_hash-other uri (uri_of file) other)

pub file_at-with_file-other : (uri : HashValue) (file : List ℕ) (files : Files) → uri ≢ uri_of file
    → file_at uri (with_file file files) ≡ file_at uri files
file_at-with_file-other uri file files other = other_by (is_some (file_at (uri_of file) files)) uri file files other

-- ---- each file has its URI

named_or : (file : List ℕ) (files : Files) (old : Option (List ℕ)) (found : List ℕ) → AreNamed files
    → file_at (uri_of file) files ≡ old → option_or old (Some file) ≡ Some found → uri_of found ≡ uri_of file
named_or file files None found named e is = let same : file ≡ found = cc in rw same refl
named_or file files (Some old) found named e is = named (uri_of file) found (e ∙ is)

named_at : (same : Bool) (uri : HashValue) (file found : List ℕ) (files : Files) → same_hash uri (uri_of file) ≡ same
    → AreNamed files → file_at uri (with_file file files) ≡ Some found → uri_of found ≡ uri
named_at true uri file found files e named is =
    let own : uri ≡ uri_of file = same_hash-is uri (uri_of file) e in
    let here : file_at (uri_of file) (with_file file files) ≡ Some found =
    subst (λ hash. file_at hash (with_file file files) ≡ Some found) own is in
    named_or file files (file_at (uri_of file) files) found named refl (sym (file_at-with_file file files) ∙ here) ∙ sym own
named_at false uri file found files e named is =
    let other : uri ≢ uri_of file = λ own.
    let itself : same_hash uri (uri_of file) ≡ true = subst (λ hash. same_hash uri hash ≡ true) own (same_hash-itself uri) in
    cc in
    named uri found (sym (file_at-with_file-other uri file files other) ∙ is)

pub AreNamed-with_file : (file : List ℕ) (files : Files) → AreNamed files → AreNamed (with_file file files)
AreNamed-with_file file files named = λ uri found is.
    named_at (same_hash uri (uri_of file)) uri file found files refl named is

-- ---- a file is added by its digest

-- the entries are the representation of the files, and the digest is the file's
pub record IsPut (digest file : List ℕ) (entries : List (List ℕ × List ℕ)) (files : Files) : Type 0 where
  pub named : digest ≡ sha256 file
  pub seen : files_of entries ≡ files

pub is_put : (uri : HashValue) (digest file : List ℕ) (entries : List (List ℕ × List ℕ)) (files : Files)
    → uri ≡ uri_of file → sha256_digest uri ≡ Some digest → files_of entries ≡ files → IsPut digest file entries files
is_put uri digest file entries files own is seen =
    let both : Some digest ≡ Some (sha256 file) = sym is ∙ ap sha256_digest own in
    record { named = cc; seen = seen }

pub before : (digest file : List ℕ) (entries : List (List ℕ × List ℕ)) (files : Files) → IsPut digest file entries files
    → lookup (is_at (slice_cmp nat_cmp digest)) entries ≡ file_at (uri_of file) files
before digest file entries files is =
    let at : List ℕ → Type 0 = λ d. lookup (is_at (slice_cmp nat_cmp d)) entries ≡ file_at (record { code = 0x12; digest = d }) files in
    let own : at digest = rw (← is.seen) (sym (file_at-files_of digest entries)) in
    ap (λ d. lookup (is_at (slice_cmp nat_cmp d)) entries) is.named ∙ subst at is.named own

after_by : (there : Bool) (digest file : List ℕ) (entries : List (List ℕ × List ℕ))
    → files_of (if there then entries else insert_entry (slice_cmp nat_cmp) entries digest file)
    ≡ (if there then files_of entries else insert_entry hash_cmp (files_of entries) (record { code = 0x12; digest = digest }) file)
after_by true digest file entries = refl
after_by false digest file entries = files_of-insert digest file entries

pub after : (digest file : List ℕ) (entries : List (List ℕ × List ℕ)) (files : Files) → IsPut digest file entries files
    → files_of (with_entry digest file entries) ≡ with_file file files
after digest file entries files is =
    let there = is_some (lookup (is_at (slice_cmp nat_cmp digest)) entries) in
    after_by there digest file entries
    ∙ ap (λ d. if there then files_of entries else insert_entry hash_cmp (files_of entries) (record { code = 0x12; digest = d }) file) is.named
    ∙ ap (λ fs. if there then fs else insert_entry hash_cmp fs (uri_of file) file) is.seen
    ∙ ap (λ o. if is_some o then files else insert_entry hash_cmp files (uri_of file) file) (before digest file entries files is)

-- ---- a lookup by a hash

pub found : (uri : HashValue) (digest : List ℕ) (entries : List (List ℕ × List ℕ)) → sha256_digest uri ≡ Some digest
    → lookup (is_at (slice_cmp nat_cmp digest)) entries ≡ file_at uri (files_of entries)
found uri digest entries is =
    let taken = cond_some (uri.code == 0x12) uri.digest digest is in
    let code : uri.code ≡ 0x12 = eqb-true uri.code 0x12 taken.0 in
    let same : record { code = 0x12; digest = digest } ≡ uri = rw (code, taken.1) refl in
    sym (file_at-files_of digest entries) ∙ ap (λ hash. file_at hash (files_of entries)) same

other_code : (code : ℕ) (digest : List ℕ) (same : Bool) → (code == 0x12) ≡ same
    → (if same then Some digest else None) ≡ None → code ≢ 0x12
other_code code digest true e none = cc
other_code code digest false e none = eqb-false code 0x12 e

pub no_uri : (uri : HashValue) (entries : List (List ℕ × List ℕ)) → sha256_digest uri ≡ None
    → file_at uri (files_of entries) ≡ None
no_uri uri entries none = file_at-other uri entries (other_code uri.code uri.digest (uri.code == 0x12) refl none)

-- a file that a lookup lends has the requested URI
pub named_found : (lent : Option (Bor (List ℕ))) (uri : HashValue) (files : Files) → AreNamed files
    → option_copied lent ≡ file_at uri files → IfSome lent (λ file. uri_of file.now ≡ uri)
named_found None uri files named e = tt
named_found (Some file) uri files named e = named uri file.now (sym e)

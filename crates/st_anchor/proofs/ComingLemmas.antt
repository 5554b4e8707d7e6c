-- The files with one more.
--     with_file-extends    they have all the earlier ones
--     with_file-others     only that one is new
--     known_from-unmissed  a file that is missing for no role of an entry adds nothing to it
use Rattle.std.proofs.Common.{◌≡◌, ◌≢◌, ◌∙◌, ◌⊎◌, inl, inr, ℕ, Bool, true, false, List, Some, None, refl, sym, ap}
use Rattle.std.specs.Option.{option_or}
use Rattle.st_content.specs.Files.{Files, file_at, with_file}
use Rattle.st_content.proofs.FileLemmas.{file_at-with_file, file_at-with_file-other}
use Rattle.st_datafiles.specs.declared.role.Role.{Role}
use Rattle.st_hash.specs.Hash.{HashValue, same_hash, uri_of}
use Rattle.st_hash.proofs.HashLemmas.{same_hash-is, same_hash-itself}
use Rattle.st_anchor.specs.Gives.{IsUnmissed}
use Rattle.st_anchor.specs.inside.Coming.{Extends}
use Rattle.st_anchor.specs.BoundValue.{BoundValue, known_from}
use Rattle.st_anchor.specs.States.{role_state}
use Rattle.st_anchor.specs.declared.part.RoleState.TheVariants.{Missing}
use Rattle.st_anchor.proofs.KnownLemmas.{known_from-again, known_from-missing, known_from-rest}

same_or : (first second : HashValue) (same : Bool) → same_hash first second ≡ same → (first ≡ second) ⊎ (first ≢ second)
same_or first second true e = inl (same_hash-is first second e)
same_or first second false e = inr (λ is.
    let own : same_hash first second ≡ true = ap (same_hash first) (sym is) ∙ same_hash-itself first in
    let wrong : true ≡ false = sym own ∙ e in
    cc)

pub same_or_not : (first second : HashValue) → (first ≡ second) ⊎ (first ≢ second)
same_or_not first second = same_or first second (same_hash first second) refl

kept_by : (file : List ℕ) (files : Files) (uri : HashValue) (old : List ℕ) → (uri ≡ uri_of file) ⊎ (uri ≢ uri_of file)
    → file_at uri files ≡ Some old → file_at uri (with_file file files) ≡ Some old
kept_by file files uri old (inl own) there =
    ap (λ at. file_at at (with_file file files)) own ∙ file_at-with_file file files
    ∙ ap (λ found. option_or found (Some file)) (ap (λ at. file_at at files) (sym own) ∙ there)
kept_by file files uri old (inr other) there = file_at-with_file-other uri file files other ∙ there

pub with_file-extends : (file : List ℕ) (files : Files) → Extends files (with_file file files)
with_file-extends file files = record {
  kept = λ uri old there. kept_by file files uri old (same_or_not uri (uri_of file)) there;
}

others_by : (file : List ℕ) (files : Files) (uri : HashValue) → (uri ≡ uri_of file) ⊎ (uri ≢ uri_of file)
    → file_at uri files ≡ None → (uri ≡ uri_of file) ⊎ (file_at uri (with_file file files) ≡ None)
others_by file files uri (inl own) none = inl own
others_by file files uri (inr other) none = inr (file_at-with_file-other uri file files other ∙ none)

pub with_file-others : (file : List ℕ) (files : Files) (uri : HashValue) → file_at uri files ≡ None
    → (uri ≡ uri_of file) ⊎ (file_at uri (with_file file files) ≡ None)
with_file-others file files uri none = others_by file files uri (same_or_not uri (uri_of file)) none

absent_by : (file : List ℕ) (files : Files) (bound : BoundValue) (role : Role) (uri : HashValue) → IsUnmissed (uri_of file) bound
    → role_state role bound ≡ Missing uri → (uri ≡ uri_of file) ⊎ (file_at uri (with_file file files) ≡ None)
    → file_at uri (with_file file files) ≡ None
absent_by file files bound role uri unmissed is (inl own) = absurd (unmissed role (is ∙ ap (λ at. Missing at) own))
absent_by file files bound role uri unmissed is (inr none) = none

pub known_from-unmissed : (file : List ℕ) (files : Files) (bound : BoundValue) → IsUnmissed (uri_of file) (known_from files bound)
    → known_from (with_file file files) bound ≡ known_from files bound
known_from-unmissed file files bound unmissed =
    sym (known_from-again files (with_file file files) (with_file-extends file files) bound)
    ∙ known_from-rest (with_file file files) (known_from files bound) (record {
      absent = λ role uri is.
          absent_by file files (known_from files bound) role uri unmissed is
          (with_file-others file files uri (known_from-missing role files bound uri is));
    })

-- The files of operations, role by role.
--     each_role, all_roles       each has a property, if and only if that of each role has
--     small_each, small_all      all are small enough, if and only if that of each role is
--     small_short, short_small   one is, if and only if it has at most as many bytes as it may have
--     not_all                    if one is not, not all are
use Rattle.std.proofs.Common.{◌≡◌, ◌∙◌, ℕ, ◌≤◌, Bool, true, false, cond, nat_le, List, [], ◌∷◌, ◌++◌, length, Option, Some, None, refl, sym, ap, arith}
use Rattle.std.specs.List.{AllByRecursion, list_all}
use Rattle.std.proofs.Math.Bool.{and-true}
use Rattle.std.proofs.lemmas.Bool.{and_from, and_parts, le-leb, leb-true}
use Rattle.std.proofs.lemmas.Option.{cond_some}
use Rattle.st_base.proofs.ListLemmas.{each-append}
use Rattle.st_datafiles.specs.declared.role.Role.{Role}
use Rattle.st_datafiles.specs.declared.role.Role.TheVariants.{Core, CoreProof, Provisional, ProvisionalProof, Chunk}
use Rattle.st_params.specs.ParamsValue.{ParamsValue}
use Rattle.st_batch.specs.Batch.{batch_of_groups, bytes_there, file_in, filed, files_of, is_small, most_bytes}
use Rattle.st_batch.specs.Groups.{Grouped}
use Rattle.st_batch.specs.inside.Groups.{batch_where_small, where_small}
use Rattle.st_batch.specs.declared.batch.Batch.{Batch}
use Rattle.st_batch.specs.declared.batch.BatchFile.{BatchFile}

-- the test failed if there is no value
pub none_fails : {Found : Type 0} (test : Bool) (found : Found) → cond test (Some found) None ≡ None → test ≡ false
none_fails true found none = cc none
none_fails false found none = refl

-- ---- one file

filed_test : (limits : ParamsValue) (role : Role) (file : Option (List ℕ))
    → list_all (is_small limits) (filed role file) ≡ nat_le (bytes_there file) (most_bytes limits role)
filed_test limits role None = sym (le-leb 0 (most_bytes limits role) (omega arith))
filed_test limits role (Some bytes) = and-true (nat_le (length bytes) (most_bytes limits role))

-- a file that is too long is not written
pub filed_long : (limits : ParamsValue) (role : Role) (bytes : List ℕ) → nat_le (length bytes) (most_bytes limits role) ≡ false
    → where_small limits (filed role (Some bytes)) ≡ None
filed_long limits role bytes long = rw long refl

-- ---- those of operations

module _ (P : BatchFile → Type 0) where
  split : (xs ys : List BatchFile) → AllByRecursion P (xs ++ ys) → AllByRecursion P xs × AllByRecursion P ys
  split [] ys all = (tt, all)
  split (x ∷ xs) ys all = let later = split xs ys all.1 in ((all.0, later.0), later.1)

  module _ (groups : Grouped) where
    abbrev in_role : Role → List BatchFile
    in_role role = filed role (file_in role groups)

    pub each_role : AllByRecursion P (files_of groups) → (role : Role) → AllByRecursion P (filed role (file_in role groups))
    unfolding files_of
    each_role all role =
        let four = split (in_role Core ++ in_role CoreProof ++ in_role Provisional ++ in_role ProvisionalProof) (in_role Chunk) all in
        let three = split (in_role Core ++ in_role CoreProof ++ in_role Provisional) (in_role ProvisionalProof) four.0 in
        let two = split (in_role Core ++ in_role CoreProof) (in_role Provisional) three.0 in
        let one = split (in_role Core) (in_role CoreProof) two.0 in
        elim role as (λ role. AllByRecursion P (filed role (file_in role groups))) [
          | Core ↦ one.0
          | CoreProof ↦ one.1
          | Provisional ↦ two.1
          | ProvisionalProof ↦ three.1
          | Chunk ↦ four.1
        ]

    pub all_roles : ((role : Role) → AllByRecursion P (filed role (file_in role groups))) → AllByRecursion P (files_of groups)
    unfolding files_of
    all_roles each =
        let two = each-append P (in_role Core) (in_role CoreProof) (each Core) (each CoreProof) in
        let three = each-append P (in_role Core ++ in_role CoreProof) (in_role Provisional) two (each Provisional) in
        let four = each-append P (in_role Core ++ in_role CoreProof ++ in_role Provisional) (in_role ProvisionalProof) three (each ProvisionalProof) in
        each-append P (in_role Core ++ in_role CoreProof ++ in_role Provisional ++ in_role ProvisionalProof) (in_role Chunk) four (each Chunk)

each_of_all : {Item : Type 0} (test : Item → Bool) (items : List Item) → list_all test items ≡ true → AllByRecursion (λ item. test item ≡ true) items
each_of_all test [] all = tt
each_of_all test (item ∷ items) all =
    let parts = and_parts (test item) (list_all test items) all in (parts.0, each_of_all test items parts.1)

all_of_each : {Item : Type 0} (test : Item → Bool) (items : List Item) → AllByRecursion (λ item. test item ≡ true) items → list_all test items ≡ true
all_of_each test [] each = refl
all_of_each test (item ∷ items) each = and_from (test item) (list_all test items) each.0 (all_of_each test items each.1)

module _ (limits : ParamsValue) (groups : Grouped) where
  -- whether the file of a role is small
  abbrev pub is_role_small : Role → Bool
  is_role_small role = list_all (is_small limits) (filed role (file_in role groups))

  -- and whether all are
  abbrev pub are_all_small : Bool
  are_all_small = list_all (is_small limits) (files_of groups)

  abbrev Small : BatchFile → Type 0
  Small file = is_small limits file ≡ true

  pub small_each : are_all_small ≡ true → (role : Role) → is_role_small role ≡ true
  small_each small role =
      all_of_each (is_small limits) (filed role (file_in role groups)) (each_role Small groups (each_of_all (is_small limits) (files_of groups) small) role)

  pub small_all : ((role : Role) → is_role_small role ≡ true) → are_all_small ≡ true
  small_all each =
      all_of_each (is_small limits) (files_of groups)
      (all_roles Small groups (λ role. each_of_all (is_small limits) (filed role (file_in role groups)) (each role)))

  -- files that were written are these
  pub role_kept : (role : Role) {found : List BatchFile} → where_small limits (filed role (file_in role groups)) ≡ Some found
      → (is_role_small role ≡ true) × (filed role (file_in role groups) ≡ found)
  role_kept role {found} kept = cond_some (is_role_small role) (filed role (file_in role groups)) found kept

  pub not_all : (role : Role) → is_role_small role ≡ false → are_all_small ≡ false
  not_all role long = by are_all_small refl
    where
      by : (all : Bool) → are_all_small ≡ all → all ≡ false
      by true e = let small : is_role_small role ≡ true = small_each e role in cc
      by false e = refl

  pub small_short : (role : Role) → is_role_small role ≡ true → bytes_there (file_in role groups) ≤ most_bytes limits role
  small_short role small = leb-true (bytes_there (file_in role groups)) (most_bytes limits role) (sym (filed_test limits role (file_in role groups)) ∙ small)

  pub short_small : (role : Role) → bytes_there (file_in role groups) ≤ most_bytes limits role → is_role_small role ≡ true
  short_small role short =
      filed_test limits role (file_in role groups) ∙ le-leb (bytes_there (file_in role groups)) (most_bytes limits role) short

-- ---- a batch

module _ (limits : ParamsValue) (count : ℕ) (groups : Grouped) where
  -- if a file is too long, it is not written
  pub one_long : (role : Role) → None ≡ where_small limits (filed role (file_in role groups)) → None ≡ batch_where_small limits count groups
  one_long role long =
      let all : are_all_small limits groups ≡ false =
      not_all limits groups role (none_fails (is_role_small limits groups role) (filed role (file_in role groups)) (sym long)) in
      rw all refl

  -- and else it is
  pub none_long : {batch : Batch} → ((role : Role) → is_role_small limits groups role ≡ true) → batch ≡ batch_of_groups count groups
      → Some batch ≡ batch_where_small limits count groups
  none_long each is =
      let all : are_all_small limits groups ≡ true = small_all limits groups each in
      rw all (ap Some is)

use Rattle.std.proofs.Common.{◌≡◌, ◌∙◌, sym, ap, refl, take, drop, Ok, Some, arith}
use Rattle.st_lms.specs.Tree.{PublicKey, public_text, tree_type_in, one_time_type_in}
use Rattle.st_lms.specs.OneTime.{IsOneTimeType, IsTreeType, one_time_number, tree_number}
use Rattle.st_lms.specs.Strings.{str_to_u32}
use Rattle.st_lms.proofs.KeyLemmas.{key_in, public_text-key_in, shows_key, same_key, one_time_known, tree_known}
use Rattle.st_lms.proofs.LawLemmas.{public_in-known, public_in-none}
use Rattle.st_lms.proofs.public.Public.read.Goals as goal
use Rattle.st_lms.proofs.public.Public.read.Goals.{In_default, In_default-read, After-copied-2}

-- the number that was read is that of a type of the text
abbrev one_time_type_is : (c : In_default) → c.str_to_u32.result ≡ one_time_type_in c.args.bytes.now
unfolding one_time_type_in
one_time_type_is c =
    c.str_to_u32.ensures ∙ ap str_to_u32 (c.split_at-2.ensures.front ∙ ap (take 4) c.split_at.ensures.back)

abbrev tree_type_is : (c : In_default-read) → c.str_to_u32-2.result ≡ tree_type_in c.args.bytes.now
unfolding tree_type_in
tree_type_is c = c.str_to_u32-2.ensures ∙ ap str_to_u32 c.split_at.ensures.front

-- the key that was read is the one in the text
abbrev key_read : After-copied-2 → PublicKey
key_read c = record {
  ots = one_time_number c.in-Some.ots;
  tree = tree_number c.in-Some-read.tree;
  id = c.copied.result;
  root = c.copied-2.result;
}

key_is : (c : After-copied-2) → key_read c ≡ key_in c.args.bytes.now
unfolding one_time_type_in tree_type_in
key_is c =
    let behind = c.split_at-2.ensures.back ∙ ap (drop 4) c.split_at.ensures.back in
    let ots : one_time_number c.in-Some.ots ≡ (key_in c.args.bytes.now).ots = c.in-Some.ensures ∙ c.str_to_u32.ensures ∙ ap str_to_u32 (c.split_at-2.ensures.front ∙ ap (take 4) c.split_at.ensures.back) in
    let tree : tree_number c.in-Some-read.tree ≡ (key_in c.args.bytes.now).tree = c.in-Some-read.ensures ∙ c.str_to_u32-2.ensures ∙ ap str_to_u32 c.split_at.ensures.front in
    same_key (key_read c) c.args.bytes.now ots tree
    (c.copied.ensures ∙ c.split_at-3.ensures.front ∙ ap (take 16) behind) (c.copied-2.ensures ∙ c.split_at-3.ensures.back ∙ ap (drop 16) behind)

pub returns-then-bytes-ne56-clause-written : goal.returns-then-bytes-ne56-clause-written
returns-then-bytes-ne56-clause-written c =
    λ key is e. absurd (c.if-bytes-ne56.true (shows_key key c.args.bytes.now is e).long)

pub returns-in_default-clause-bad_type : goal.returns-in_default-clause-bad_type
returns-in_default-clause-bad_type c =
    (λ _. (c.if-bytes-ne56.false, λ types. (rw (c.in_default.is, one_time_type_is c) at c.read.ensures) types.0), λ _. refl)

pub returns-in_default-clause-written : goal.returns-in_default-clause-written
returns-in_default-clause-written c = λ key is e.
    absurd ((rw (c.in_default.is, one_time_type_is c, (shows_key key c.args.bytes.now is e).one_time_type) at c.read.ensures) is.ots)

pub returns-in_default-read-clause-bad_type : goal.returns-in_default-read-clause-bad_type
returns-in_default-read-clause-bad_type c =
    (λ _. (c.if-bytes-ne56.false, λ types. (rw (c.in_default-read.is, tree_type_is c) at c.read-2.ensures) types.1), λ _. refl)

pub returns-in_default-read-clause-written : goal.returns-in_default-read-clause-written
returns-in_default-read-clause-written c = λ key is e.
    absurd ((rw (c.in_default-read.is, tree_type_is c, (shows_key key c.args.bytes.now is e).tree_type) at c.read-2.ensures) is.tree)

pub returns-clause-ok : goal.returns-clause-ok
returns-clause-ok c =
    sym (ap public_text (key_is c) ∙ public_text-key_in c.args.bytes.now c.if-bytes-ne56.false (λ i. omega (arith, c.type_inv.bytes i)))

pub returns-clause-bad_type : goal.returns-clause-bad_type
unfolding one_time_type_in tree_type_in
returns-clause-bad_type c =
    let ots : IsOneTimeType (one_time_type_in c.args.bytes.now) =
    rw (← ap (λ key. key.ots) (key_is c)) (one_time_known c.in-Some.ots) in
    let tree : IsTreeType (tree_type_in c.args.bytes.now) =
    rw (← ap (λ key. key.tree) (key_is c)) (tree_known c.in-Some-read.tree) in
    (λ h. absurd cc, λ h. absurd (h.1 (ots, tree)))

pub returns-clause-written : goal.returns-clause-written
returns-clause-written c = λ key is e. ap Ok (key_is c ∙ (shows_key key c.args.bytes.now is e).parts)

pub returns-then-bytes-ne56-clause-value : goal.returns-then-bytes-ne56-clause-value
returns-then-bytes-ne56-clause-value c =
    sym (public_in-none c.args.bytes.now (λ long ots tree. c.if-bytes-ne56.true long))

pub returns-in_default-clause-value : goal.returns-in_default-clause-value
returns-in_default-clause-value c =
    sym (public_in-none c.args.bytes.now (λ long ots tree. (rw (c.in_default.is, one_time_type_is c) at c.read.ensures) ots))

pub returns-in_default-read-clause-value : goal.returns-in_default-read-clause-value
returns-in_default-read-clause-value c =
    sym (public_in-none c.args.bytes.now (λ long ots tree. (rw (c.in_default-read.is, tree_type_is c) at c.read-2.ensures) tree))

pub returns-clause-value : goal.returns-clause-value
unfolding one_time_type_in tree_type_in
returns-clause-value c =
    let ots : IsOneTimeType (one_time_type_in c.args.bytes.now) =
    rw (← ap (λ key. key.ots) (key_is c)) (one_time_known c.in-Some.ots) in
    let tree : IsTreeType (tree_type_in c.args.bytes.now) =
    rw (← ap (λ key. key.tree) (key_is c)) (tree_known c.in-Some-read.tree) in
    ap Some (key_is c) ∙ sym (public_in-known c.args.bytes.now c.if-bytes-ne56.false ots tree)

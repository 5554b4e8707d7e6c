use Rattle.std.proofs.Common.{◌≡◌, ◌∙◌, ◌+◌, ◌≤◌, length, drop, Ok, ap, sym, subst, arith}
use Rattle.std.proofs.lemmas.Bool.{false≢true}
use Rattle.std.proofs.lemmas.List.{take_rest}
use Rattle.st_lms.specs.OneTime.{IsOneTimeType, IsTreeType}
use Rattle.st_vault.proofs.ImageLemmas.{IsVault}
use Rattle.st_vault.proofs.OpeningLemmas.{IsHead, key-damaged, key-shut, key-whole}
use Rattle.st_vault.specs.Image.{key_of_header, count_of}
use Rattle.st_vault.proofs.opening.key_of_head.Goals as goal

pub returns-then-head-clause-gives : goal.returns-then-head-clause-gives
returns-then-head-clause-gives c image is long =
    let at : IsHead c.args.head.now image = record { is = is; long = omega (arith, long, c.requires.long) } in
    key-shut c.args.head.now image at c.if-head.true

pub returns-then-len-from-clause-gives : goal.returns-then-len-from-clause-gives
returns-then-len-from-clause-gives c image is long =
    let head = c.args.head.now in
    let at : IsHead head image = record { is = is; long = omega (arith, long, c.requires.long) } in
    let key : c.in-Ok.secret ≡ key_of_header (drop 1 head) = c.in-Ok.ensures.value ∙ ap key_of_header (take_rest head 1) in
    key-damaged head image at c.if-head.false (λ vault.
    let fits : 64 + count_of c.in-Ok.secret ≤ length image = subst (λ k. 64 + count_of k ≤ length image) (sym key) vault.long in
    omega (arith, fits, long, c.if-len-from.true, c.from.ensures, c.leaf_count.ensures.count))

pub returns-else-len-from-clause-gives : goal.returns-else-len-from-clause-gives
returns-else-len-from-clause-gives c image is long =
    let head = c.args.head.now in
    let at : IsHead head image = record { is = is; long = omega (arith, long, c.requires.long) } in
    let key : c.in-Ok.secret ≡ key_of_header (drop 1 head) = c.in-Ok.ensures.value ∙ ap key_of_header (take_rest head 1) in
    let known = c.leaf_count.ensures.known in
    let vault : IsVault c.in-Ok.secret (length image) = record {
      ots = known.ots;
      tree = known.tree;
      long = omega (arith, long, c.if-len-from.false, c.from.ensures, c.leaf_count.ensures.count);
    } in
    key-whole head image at c.if-head.false (subst (λ k. IsVault k (length image)) key vault) ∙ ap Ok (sym key)

pub returns-in-Err-clause-gives : goal.returns-in-Err-clause-gives
returns-in-Err-clause-gives c image is long =
    let head = c.args.head.now in
    let at : IsHead head image = record { is = is; long = omega (arith, long, c.requires.long) } in
    key-damaged head image at c.if-head.false (λ vault.
    let types = subst (λ header. IsOneTimeType (key_of_header header).ots × IsTreeType (key_of_header header).tree) (sym (take_rest head 1)) (vault.ots, vault.tree) in
    false≢true (c.in-Err.ensures.known.1 types))

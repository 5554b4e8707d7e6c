use Rattle.std.proofs.Common.{◌∙◌, ◌≤◌, sym, take, arith}
use Rattle.std.proofs.lemmas.Bool.{cond-false, cond-true, eq-eqb, ne_eqb}
use Rattle.st_vault.specs.Image.{nonzero_from, one_past}
use Rattle.st_vault.proofs.ImageLemmas.{next_more}
use Rattle.st_vault.proofs.layout.next_in.Goals as goal
use Rattle.st_vault.proofs.layout.next_in.Goals.{then-byte-ne0, else-byte-ne0}

pub bytes-preserved : goal.bytes-preserved
bytes-preserved c =
    let is = c.bytes.invariant in
    let small : one_past (nonzero_from 0 (take c.bytes.place c.args.map.now)) ≤ c.bytes.place = omega (arith, is.next, is.small) in
    let more = next_more c.args.map.now c.bytes.place c.bytes-test.true small in
    elim c.if-byte-ne0.branch [
      | then-byte-ne0 w ↦ record {
        next = w.next-is ∙ sym (more ∙ cond-false _ _ _ (ne_eqb _ 0 w.if-byte-ne0.true));
        small = omega (arith, w.next-is);
      }
      | else-byte-ne0 w ↦ record {
        next = w.next-is ∙ is.next ∙ sym (more ∙ cond-true _ _ _ (eq-eqb _ 0 w.if-byte-ne0.false));
        small = omega (arith, w.next-is, is.small);
      }
    ]

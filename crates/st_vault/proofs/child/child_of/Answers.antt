use Rattle.st_vault.specs.Image.{child_of}
use Rattle.st_vault.proofs.child.child_of.Goals as goal

pub returns-clause-value : goal.returns-clause-value
unfolding child_of
returns-clause-value c =
    let made = rw c.unwrap-child.ensures at c.new.ensures.value in
    rw (made, c.ots.ensures.value, c.copied.ensures, c.child_hash-id.ensures, c.child_hash-seed.ensures)

use Rattle.st_vault.specs.Image.{child_hash}
use Rattle.st_vault.proofs.child.child_hash.Goals as goal

pub returns : goal.returns
unfolding child_hash
returns c =
    rw (← c.id.ensures.value, ← c.u32str.ensures, ← c.u16str.ensures, ← c.seed.ensures.value)
    (c.finalize.ensures _ (c.update-4.ensures _ (c.update-3.ensures _ (c.update-2.ensures _ (c.update.ensures _ c.new-hasher.ensures)))))

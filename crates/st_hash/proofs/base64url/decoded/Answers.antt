use Rattle.std.proofs.Common.{ℕ, sym}
use Rattle.std.proofs.lemmas.List.{length-replicate}
use Rattle.st_hash.proofs.Base64Lemmas.{fixed_of_text-count, fixed_of_text-error}
use Rattle.st_hash.proofs.base64url.decoded.Goals as goal

pub returns-else-count : goal.returns-else-count
returns-else-count g c =
    sym (fixed_of_text-count g.row.N c.args.text.now c.in-Ok.count c.decode_slice.result (rw (length-replicate {A = ℕ} g.row.N 0) at c.decode_slice.ensures.value) c.in-Ok.is c.if-count.false)

pub returns-in-Err : goal.returns-in-Err
returns-in-Err g c =
    sym (fixed_of_text-error g.row.N c.args.text.now c.in-Err.field-0 c.decode_slice.result (rw (length-replicate {A = ℕ} g.row.N 0) at c.decode_slice.ensures.value) c.in-Err.is)

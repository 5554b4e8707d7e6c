use Rattle.std.proofs.Common.{◌≡◌, ◌∙◌, ◌+◌, ◌≤◌, length, Ok, ap, sym, arith}
use Rattle.std.proofs.lemmas.Result.{err_from_is_err_and}
use Rattle.st_vault.proofs.OpeningLemmas.{err-opened, long_enough, opened-map}
use Rattle.st_vault.specs.Image.{map_in, nonzero_from, one_past, count_of}
use Rattle.st_vault.proofs.opening.open_synced.Goals as goal

pub returns-in_err-secret-clause-gives : goal.returns-in_err-secret-clause-gives
returns-in_err-secret-clause-gives g c image told =
    let is = err_from_is_err_and c.from_residual.result c.from_residual.ensures.1 in
    rw (is.1, is.2) (err-opened image c.in_err-secret.field-0.0 (c.in_err-secret.ensures.gives image told))

pub read_next-requires-clause-there : goal.read_next-requires-clause-there
read_next-requires-clause-there g c image told =
    let key = c.in_ok-secret.secret in
    let long : 64 + count_of key ≤ length image = long_enough image key (c.in_ok-secret.ensures.gives image (sym c.read_key.ensures.as_it_was.reads ∙ told)) in
    omega (arith, long, c.leaf_count.ensures.count)

pub returns-clause-gives : goal.returns-clause-gives
returns-clause-gives g c image told =
    let key = c.in_ok-secret.secret in
    let next : c.in_ok-next.next ≡ one_past (nonzero_from 0 (map_in (count_of key) image))
    = c.in_ok-next.ensures.next image (c.read_key.ensures.as_it_was.reads ∙ told) ∙ ap (λ n. one_past (nonzero_from 0 (map_in n image))) c.leaf_count.ensures.count in
    opened-map image key c.in_ok-next.next (c.in_ok-secret.ensures.gives image told) next ∙ ap Ok (sym c.new.ensures)

pub returns-clause-reads_as : goal.returns-clause-reads_as
returns-clause-reads_as g c image told =
    let key = c.in_ok-secret.secret in
    let keyed = sym c.read_next.ensures.as_it_was.reads ∙ told in
    let next : c.in_ok-next.next ≡ one_past (nonzero_from 0 (map_in (count_of key) image))
    = c.in_ok-next.ensures.next image keyed ∙ ap (λ n. one_past (nonzero_from 0 (map_in n image))) c.leaf_count.ensures.count in
    opened-map image key c.in_ok-next.next (c.in_ok-secret.ensures.gives image (sym c.read_key.ensures.as_it_was.reads ∙ keyed)) next ∙ ap Ok (sym c.new.ensures)

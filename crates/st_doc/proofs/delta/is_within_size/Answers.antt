use Rattle.std.proofs.Common.{nat_le, ap, ◌∙◌}
use Rattle.st_plain.specs.Measures.{size_of}
use Rattle.st_canon.specs.View.{plain}
use Rattle.st_doc.proofs.DeltaLemmas.{fits_by_size}
use Rattle.st_doc.proofs.delta.is_within_size.Goals as goal

pub returns : goal.returns
returns c =
    c.fits.ensures ∙ fits_by_size (plain c.args.value.now) c.max_delta.result c.max_delta.type_inv
    ∙ ap (λ most. nat_le (size_of (plain c.args.value.now)) most) c.max_delta.ensures

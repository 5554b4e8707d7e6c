use Rattle.std.proofs.Common.{◌∙◌, refl, append_assoc}
use Rattle.st_resolve.proofs.metadata.append_short.Goals as goal

pub returns : goal.returns
returns c = c.in_ok-push_all-2.ensures.ok
    ∙ rw (c.in_ok-append_short_form.ensures, c.in_ok-push_all.ensures.ok) (simp append_assoc refl)

use Rattle.std.proofs.Common.{◌∙◌, refl, append_assoc}
use Rattle.st_resolve.specs.inside.Texts.{method_metadata_text}
use Rattle.st_resolve.proofs.metadata.append_method_parts.Goals as goal

pub returns : goal.returns
unfolding method_metadata_text
returns c = c.in_ok-push_all-2.ensures.ok
    ∙ rw (c.in_ok-append_update.ensures, c.in_ok-append_recovery.ensures, c.in_ok-append_bool.ensures, c.in_ok-push_all.ensures.ok) (simp append_assoc refl)

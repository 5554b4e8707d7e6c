use Rattle.std.proofs.Common.{◌∙◌, refl, append_assoc}
use Rattle.st_resolve.specs.inside.Texts.{metadata_text}
use Rattle.st_resolve.proofs.metadata.append_metadata_parts.Goals as goal

pub returns : goal.returns
unfolding metadata_text
returns c = c.in_ok-push_all-3.ensures.ok
    ∙ rw (c.in_ok-append_method_metadata.ensures, c.in_ok-push_all-2.ensures.ok, c.in_ok-append_mark.ensures, c.in_ok-append_canonical_id.ensures, c.in_ok-push_all.ensures.ok) (simp append_assoc refl)

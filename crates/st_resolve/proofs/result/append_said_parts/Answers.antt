use Rattle.std.proofs.Common.{◌∙◌, refl, append_assoc}
use Rattle.st_resolve.specs.inside.Texts.{said_text}
use Rattle.st_resolve.proofs.result.append_said_parts.Goals as goal

pub returns : goal.returns
unfolding said_text
returns c = c.in_ok-push_all-3.ensures.ok
    ∙ rw (c.in_ok-append_metadata.ensures, c.in_ok-push_all-2.ensures.ok, c.in_ok-append_did_document.ensures, c.as_str.ensures, c.in_ok-push_all.ensures.ok) (simp append_assoc refl)

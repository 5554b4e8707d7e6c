use Rattle.std.proofs.Common.{◌∙◌, refl, append_assoc}
use Rattle.st_resolve.specs.inside.Texts.{described_text}
use Rattle.st_resolve.proofs.document.append_described_parts.Goals as goal

pub returns : goal.returns
unfolding described_text
returns c = c.in_ok-append_back.ensures
    ∙ rw (c.in_ok-append_text.ensures.text, c.in_ok-push_all-2.ensures.ok, c.in_ok-append_front.ensures, c.in_ok-push_all.ensures.ok) (simp append_assoc refl)

use Rattle.std.proofs.Common.{◌∙◌, refl, append_assoc}
use Rattle.st_resolve.specs.inside.Texts.{method_text}
use Rattle.st_resolve.proofs.keys.append_method_parts.Goals as goal

pub returns : goal.returns
unfolding method_text
returns c = c.in_ok-push_all-3.ensures.ok
    ∙ rw (c.in_ok-append_there-2.ensures, c.in_ok-append_there.ensures, c.in_ok-append_reference.ensures, c.in_ok-push_all-2.ensures.ok, c.in_ok-append_controller.ensures, c.in_ok-push_all.ensures.ok, c.member-jwk.ensures, c.member-kind.ensures) (simp append_assoc refl)

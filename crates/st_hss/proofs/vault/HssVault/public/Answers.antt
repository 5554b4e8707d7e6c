use Rattle.std.proofs.Common.{◌∙◌, ap, subst}
use Rattle.st_lms.specs.Tree.{PublicKey}
use Rattle.st_lms.specs.Signature.{public_of}
use Rattle.st_vault.specs.Image.{child_of, VaultValue}
use Rattle.st_hss.specs.Trees.{IfKept}
use Rattle.st_hss.specs.Uses.{hss_public_of}
use Rattle.st_hss.specs.declared.public.HssPublic.{HssPublic}
use Rattle.st_hss.proofs.vault.HssVault.public.Goals as goal

abbrev with_top : PublicKey → HssPublic
with_top top = record { top = top }

abbrev of_vault : VaultValue → HssPublic
of_vault vault = with_top (public_of (child_of vault.key 0))

pub returns-in-Some : goal.returns-in-Some
unfolding hss_public_of
returns-in-Some c =
    let trees = subst (IfKept c.self.inside.vault.key) c.in-Some.is c.self.invariant.1 in
    ap with_top (c.public.ensures ∙ ap public_of trees.top) ∙ ap of_vault c.self.view_is

pub returns-in-None : goal.returns-in-None
unfolding hss_public_of
returns-in-None c =
    ap with_top (c.public-in-None.ensures.value ∙ ap public_of c.child.ensures.value) ∙ ap of_vault c.self.view_is

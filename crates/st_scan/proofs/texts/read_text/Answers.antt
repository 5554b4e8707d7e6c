use mathlib.Core.Bool.{false≢true}
use Rattle.std.proofs.Common.{◌≡◌, ◌∙◌, ℕ, Some, Vec, Global, ap, sym, subst}
use Rattle.std.specs.Str.{IsUtf8}
use Rattle.st_plain.specs.Objects.{name_in}
use Rattle.st_plain.specs.ReadAgain.{behind_first}
use Rattle.st_scan.proofs.ContentLemmas.{word_inside}
use Rattle.st_scan.proofs.texts.read_text.Goals as goal

pub unreachable-requires : goal.unreachable-requires
unreachable-requires c =
    let inside = word_inside c.args.canonical.now c.requires.text c.requires.kind in
    let same : c.in_ok-unescaped.field-0.items ≡ name_in (behind_first c.args.canonical.now) = c.in_ok-unescaped.ensures ∙ ap name_in c.behind_first.ensures in
    absurd (false≢true (c.in-Err.ensures.succeeds (subst IsUtf8 (sym same) inside.1)))

pub returns : goal.returns
returns c =
    let inside = word_inside c.args.canonical.now c.requires.text c.requires.kind in
    let same : c.in_ok-unescaped.field-0.items ≡ name_in (behind_first c.args.canonical.now) = c.in_ok-unescaped.ensures ∙ ap name_in c.behind_first.ensures in
    ap Some (c.from_string.ensures ∙ ap (λ (v : Vec ℕ Global). v.items) c.in-Ok.ensures.ok ∙ same) ∙ inside.0

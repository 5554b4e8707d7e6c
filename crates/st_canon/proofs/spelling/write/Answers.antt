use Rattle.std.proofs.Common.{◌≡◌, ◌++◌, ap, sym, ◌∙◌}
use Rattle.st_plain.specs.Plain.{canonical}
use Rattle.st_plain.specs.Shapes.{json_of}
use Rattle.st_plain.proofs.ReadableLemmas.{reads_as, reads_back, same_value}
use Rattle.st_canon.specs.View.{plain}
use Rattle.st_canon.proofs.spelling.write.Goals as goal

pub returns-clause-read : goal.returns-clause-read
returns-clause-read c = λ shallow.
    let written : c.append.new.out ≡ canonical (plain c.args.value.now) =
    c.in_ok-append.ensures.text ∙ ap (λ l. l ++ canonical (plain c.args.value.now)) c.in_ok-out.ensures in
    ap json_of written ∙ reads_back (plain c.args.value.now) c.in_ok-append.ensures.proper shallow

pub returns-clause-only : goal.returns-clause-only
returns-clause-only c = λ other proper same.
    let written : c.append.new.out ≡ canonical (plain c.args.value.now) =
    c.in_ok-append.ensures.text ∙ ap (λ l. l ++ canonical (plain c.args.value.now)) c.in_ok-out.ensures in
    same_value other (plain c.args.value.now) proper c.in_ok-append.ensures.proper (same ∙ written)

pub returns-clause-same : goal.returns-clause-same
returns-clause-same c = λ other is.
    let written : c.append.new.out ≡ canonical (plain c.args.value.now) =
    c.in_ok-append.ensures.text ∙ ap (λ l. l ++ canonical (plain c.args.value.now)) c.in_ok-out.ensures in
    reads_as (plain c.args.value.now) other c.in_ok-append.ensures.proper (sym (ap json_of written) ∙ is)

use Rattle.std.proofs.Common.{◌∙◌, List, [], ◌∷◌, ℕ, ◌++◌, map, append-nil, ap, sym}
use Rattle.st_generate.proofs.SummaryLemmas.{file_next, no_line}
use Rattle.st_generate.specs.Summary.{content_line}
use Rattle.st_generate.proofs.rounds.push_files.Goals as goal

pub lines-preserved : goal.lines-preserved
lines-preserved c =
    file_next c.lines.files c.push.new.self c.lines.rest.now c.in-Some.line.now c.in-Some.more.now
    c.in-Some.ensures.first c.in-Some.ensures.whole
    (c.in_ok-push.ensures.ok ∙ ap (λ (file : List ℕ). c.lines.files ++ file ∷ []) c.in_ok-file.ensures)
    ∙ c.lines.invariant

pub returns : goal.returns
returns c =
    sym (append-nil c.lines.files)
    ∙ sym (ap (λ (lines : List (List ℕ)). c.lines.files ++ map content_line lines) (no_line c.lines.rest.now c.in_default.ensures.none))
    ∙ c.lines.invariant
    ∙ ap (λ (lines : List (List ℕ)). c.args.files.now ++ map content_line lines) c.behind_line-rest.ensures

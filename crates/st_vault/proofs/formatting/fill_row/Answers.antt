use Rattle.std.proofs.Common.{◌≡◌, ◌∙◌, ◌+◌, ◌++◌, ◌≤◌, length, take, drop, ap, arith}
use Rattle.st_vault.proofs.FormatLemmas.{row_is}
use Rattle.st_vault.proofs.ImageLemmas.{length-header_of}
use Rattle.st_vault.specs.Formatting.{zeros}
use Rattle.st_vault.specs.Image.{header_of, count_of}
use Rattle.st_vault.proofs.formatting.fill_row.Goals as goal

pub returns-clause-bytes : goal.returns-clause-bytes
returns-clause-bytes c =
    let key = c.args.secret.now in
    let counts = c.leaf_count.ensures in
    let row : c.begin_with.new.row ≡ header_of key ++ drop 56 (zeros 1087)
    = c.begin_with.ensures ∙ ap (λ h. h ++ drop (length h) c.args.row.now) c.write_header.ensures
    ∙ ap (λ n. header_of key ++ drop n c.args.row.now) (length-header_of key counts.known) ∙ ap (λ l. header_of key ++ drop 56 l) c.requires.zeros in
    let small : count_of key ≤ 1024 = omega (arith, counts.count, counts.small) in
    ap (λ n. take (63 + n) c.begin_with.new.row) counts.count ∙ ap (take (63 + count_of key)) row ∙ row_is key counts.known small

use Rattle.std.proofs.Common.{◌≡◌, ℕ, ◌+◌, ◌*◌, List, ◌∷◌, [], slice_index, arith, refl}
use Rattle.sha2.specs.Sha256.{word_at}
use Rattle.st_lanes.proofs.Lanes.{below_eight, AreBytes, value_from_words, words_fit}
use Rattle.st_lanes.proofs.rows.values.Goals as goal

pub returns-clause-words : goal.returns-clause-words
returns-clause-words c k lt =
    let row = c.args.row.now in
    let bytes : AreBytes row = λ i. omega (arith, c.type_inv.row i) in
    let i = slice_index c.args.numbers.now k in
    let h : List ℕ = slice_index c.gather.result k ∷ slice_index c.gather-2.result k ∷ slice_index c.gather-3.result k ∷ slice_index c.gather-4.result k ∷ slice_index c.gather-5.result k ∷ slice_index c.gather-6.result k ∷ slice_index c.gather-7.result k ∷ slice_index c.gather-8.result k ∷ [] in
    words_fit row i h bytes refl (below_eight (λ t. slice_index h t ≡ word_at row (32 * i + 4 * t)) (c.gather.ensures k lt, c.gather-2.ensures k lt, c.gather-3.ensures k lt, c.gather-4.ensures k lt, c.gather-5.ensures k lt, c.gather-6.ensures k lt, c.gather-7.ensures k lt, c.gather-8.ensures k lt))

pub returns-clause-values : goal.returns-clause-values
returns-clause-values c k lt =
    let row = c.args.row.now in
    let bytes : AreBytes row = λ i. omega (arith, c.type_inv.row i) in
    let i = slice_index c.args.numbers.now k in
    let h : List ℕ = slice_index c.gather.result k ∷ slice_index c.gather-2.result k ∷ slice_index c.gather-3.result k ∷ slice_index c.gather-4.result k ∷ slice_index c.gather-5.result k ∷ slice_index c.gather-6.result k ∷ slice_index c.gather-7.result k ∷ slice_index c.gather-8.result k ∷ [] in
    value_from_words row i h bytes (c.requires k lt)
    (below_eight (λ t. slice_index h t ≡ word_at row (32 * i + 4 * t)) (c.gather.ensures k lt, c.gather-2.ensures k lt, c.gather-3.ensures k lt, c.gather-4.ensures k lt, c.gather-5.ensures k lt, c.gather-6.ensures k lt, c.gather-7.ensures k lt, c.gather-8.ensures k lt))

use Rattle.std.proofs.Common.{◌≡◌, ℕ, ◌<◌, ◌*◌, slice_index, length, refl, ap, sym, subst, ◌∙◌}
use Rattle.sha2.specs.Sha256.{add_state, compress, rounds, word_at}
use Rattle.sha2.proofs.Schedule256.{IsWindow_first, length-first_words, slice_index-first_words}
use Rattle.st_lanes.specs.inside.Lanes.{lane, AreWords}
use Rattle.st_lanes.proofs.LinkLemmas.{add_state_words}
use Rattle.st_lanes.proofs.block.compress.Goals as goal

pub returns-clause-value : goal.returns-clause-value
unfolding compress rounds
returns-clause-value c = λ j b lt words.
    let w = lane j c.args.block.now in
    let h = lane j c.args.state.now in
    let at : (k : ℕ) → k < 16 → slice_index w k ≡ word_at b (4 * k) =
    λ k low. ap (λ xs. slice_index xs k) words ∙ slice_index-first_words b 16 k low in
    let window = IsWindow_first b w (ap length words ∙ length-first_words b 16) at in
    let s1 = c.first_four_steps-v.ensures j b h lt window refl in
    let s2 = c.first_four_steps-v-2.ensures j b h lt window s1 in
    let s3 = c.first_four_steps-v-3.ensures j b h lt window s2 in
    let s4 = c.first_four_steps-v-4.ensures j b h lt window s3 in
    let s5 = c.sixteen_steps-v.ensures j b h lt (window, s4) in
    let s6 = c.sixteen_steps-v-2.ensures j b h lt s5 in
    let s7 = c.sixteen_steps-v-3.ensures j b h lt s6 in
    c.add_states.ensures j lt ∙ ap (add_state h) s7.1

pub returns-clause-words : goal.returns-clause-words
returns-clause-words c j lt = subst AreWords (sym (c.add_states.ensures j lt)) (add_state_words (lane j c.args.state.now) (lane j c.sixteen_steps-v-3.result))

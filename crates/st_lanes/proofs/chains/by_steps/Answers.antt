use Rattle.std.proofs.Common.{◌≡◌, ◌<◌, ◌∙◌, All, arith, drop, length, take}
use Rattle.std.proofs.lemmas.List.{get_or_append_left, get_or_default, length-take-le}
use Rattle.std.proofs.lemmas.List.Sorted.{All-permutation, Contains-permutation}
use Rattle.st_lanes.proofs.LinkLemmas.{numbered}
use Rattle.st_lanes.proofs.chains.by_steps.Goals as goal

size : (c : goal.After-numbers-2-1) → length c.sort_unstable_by_key.new.self ≡ c.args.count
size c = c.sort_unstable_by_key.ensures.len ∙ length-take-le c.args.count c.all_numbers-numbers.result (omega (arith, c.all_numbers-numbers.ensures.long, c.requires))

pub returns-clause-all : goal.returns-clause-all
returns-clause-all c = λ i lt.
    let numbers = c.all_numbers-numbers in
    let long : i < length (take c.args.count numbers.result) = omega (arith, lt, length-take-le c.args.count numbers.result (omega (arith, numbers.ensures.long, c.requires))) in
    let found =
    Contains-permutation _ _ i c.sort_unstable_by_key.ensures.permutation
    (i, long, numbered numbers.result c.args.count i i numbers.ensures.long numbers.ensures.numbers c.requires lt)
    in (
      found.0,
      omega (arith, found.1, size c),
      get_or_append_left c.sort_unstable_by_key.new.self _ 0 found.0 found.1
          ∙ get_or_default c.sort_unstable_by_key.new.self found.0 0 i found.1 ∙ found.2,
    )

pub returns-clause-chains : goal.returns-clause-chains
returns-clause-chains c k lt =
    let numbers = c.all_numbers-numbers in
    let below : All (λ i. i < c.args.count) (take c.args.count numbers.result) = λ m d less.
    let in_front : m < c.args.count = omega (arith, less, length-take-le c.args.count numbers.result (omega (arith, numbers.ensures.long, c.requires))) in
    omega (arith, in_front, numbered numbers.result c.args.count m d numbers.ensures.long numbers.ensures.numbers c.requires in_front) in
    let here : k < length c.sort_unstable_by_key.new.self = omega (arith, lt, size c) in
    omega (
      arith,
      get_or_append_left c.sort_unstable_by_key.new.self (drop c.args.count numbers.result) 0 k here,
      All-permutation (λ i. i < c.args.count) _ _ c.sort_unstable_by_key.ensures.permutation below k 0 here,
    )

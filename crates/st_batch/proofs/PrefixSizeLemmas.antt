-- More operations make no file shorter, so a batch that can't take one more is the longest.
use Rattle.std.proofs.Common.{◌≡◌, ◌∙◌, ℕ, ◌+◌, ◌<◌, ◌≤◌, true, false, nat_le, List, filter, length, take, Some, None, sym, ap, arith}
use Rattle.std.specs.Prelude.{min}
use Rattle.std.specs.List.{sum_by}
use Rattle.std.proofs.lemmas.Bool.{and_from, and_left, and_parts, and_right, le-leb, leb-true, lt-leb}
use Rattle.std.proofs.lemmas.List.{length-take-le}
use Rattle.std.proofs.lemmas.Option.{cond_some}
use Rattle.st_ops.specs.Operation.{PlainOperation}
use Rattle.st_params.specs.ParamsValue.{ParamsValue}
use Rattle.st_batch.specs.Batch.{batch_of_groups, batch_with, are_files_small, batch_count, batch_of, is_batch}
use Rattle.st_batch.specs.Laws.{NeverShorter}
use Rattle.st_batch.specs.Groups.{grouped}
use Rattle.st_batch.specs.inside.Groups.{batch_where_small}
use Rattle.st_batch.specs.declared.batch.Batch.{Batch}
use Rattle.st_batch.proofs.FileSizeLemmas.{file_long, file_more}
use Rattle.st_batch.proofs.GivenOperationsLemmas.{batch_longest}
use Rattle.st_batch.proofs.SizeLemmas.{grows}
use Rattle.st_batch.proofs.SmallLemmas.{none_fails, short_small, small_all, small_each, small_short}

-- a longer prefix has no shorter file
pub never_shorter : NeverShorter
never_shorter role queue fewer more less =
    let few = file_long (take fewer queue) role in
    let many = file_long (take more queue) role in
    let within = file_more (λ is_kind size. sum_by size (filter is_kind (take fewer queue))) (λ is_kind size. sum_by size (filter is_kind (take more queue)))
    (λ is_kind size. grows is_kind size fewer more queue less) role in
    rw (few, many) within

-- ---- batches

-- nor is a file too long with fewer operations if none was
fewer_small : (limits : ParamsValue) (few many : ℕ) (operations : List PlainOperation) → few ≤ many
    → are_files_small limits (take many operations) ≡ true → are_files_small limits (take few operations) ≡ true
unfolding are_files_small
fewer_small limits few many operations less small =
    let before = grouped (take few operations) in
    let after = grouped (take many operations) in
    small_all limits before (λ role. short_small limits before role
    (omega (arith, never_shorter role operations few many less, small_short limits after role (small_each limits after small role))))

-- operations that go into a batch do so without the last ones
fewer_go : (limits : ParamsValue) (few many : ℕ) (operations : List PlainOperation) → few ≤ many → many ≤ length operations
    → is_batch limits (take many operations) ≡ true → is_batch limits (take few operations) ≡ true
fewer_go limits few many operations less within go =
    let parts = and_parts (nat_le (length (take many operations)) limits.max_operations) (are_files_small limits (take many operations)) go in
    let most = leb-true (length (take many operations)) limits.max_operations parts.0 in
    let count = le-leb (length (take few operations)) limits.max_operations
    (omega (arith, less, within, most, length-take-le few operations, length-take-le many operations)) in
    and_from (nat_le (length (take few operations)) limits.max_operations) (are_files_small limits (take few operations)) count
    (fewer_small limits few many operations less parts.1)

-- this many first operations go, and either there are no more or one more does not go
record IsLast (limits : ParamsValue) (operations : List PlainOperation) (n : ℕ) : Type 0 where
  within : n ≤ length operations
  goes : 1 ≤ n → is_batch limits (take n operations) ≡ true
  stops : n < length operations → is_batch limits (take (n + 1) operations) ≡ false

-- these are as many as a batch takes
last_is_count : (limits : ParamsValue) (operations : List PlainOperation) (n : ℕ) → IsLast limits operations n → n ≡ batch_count limits operations
last_is_count limits operations n last =
    let found = batch_count limits operations in
    let longest = batch_longest limits operations in
    let none_below : n < found → ⊥ = λ below. (
    let go = fewer_go limits (n + 1) found operations (omega (arith, below)) longest.within (longest.goes (omega (arith, below))) in
    let stop = last.stops (omega (arith, below, longest.within)) in
    cc) in
    let none_above : found < n → ⊥ = λ above. (
    let go = last.goes (omega (arith, above)) in
    let stop = longest.longest n above last.within in
    cc) in
    omega (arith, none_below, none_above)

-- ---- how many a batch takes

-- this many are at most as many as a batch may declare, and no file of theirs is too long
goes_by : (limits : ParamsValue) (operations : List PlainOperation) (n : ℕ) → n ≤ length operations → n ≤ limits.max_operations
    → are_files_small limits (take n operations) ≡ true → is_batch limits (take n operations) ≡ true
goes_by limits operations n within few small =
    and_from (nat_le (length (take n operations)) limits.max_operations) (are_files_small limits (take n operations))
    (le-leb (length (take n operations)) limits.max_operations (omega (arith, few, length-take-le n operations within))) small

-- as many as a batch may declare, or all, if no file of these is too long
pub most_go : (limits : ParamsValue) (operations : List PlainOperation)
    → are_files_small limits (take (min (length operations) limits.max_operations) operations) ≡ true
    → min (length operations) limits.max_operations ≡ batch_count limits operations
most_go limits operations small =
    let most : ℕ = min (length operations) limits.max_operations in
    last_is_count limits operations most (record {
      within = omega arith;
      goes = λ some. goes_by limits operations most (omega arith) (omega arith) small;
      stops = λ more. and_left (nat_le (length (take (most + 1) operations)) limits.max_operations) (are_files_small limits (take (most + 1) operations))
          (lt-leb (length (take (most + 1) operations)) limits.max_operations (omega (arith, more, length-take-le (most + 1) operations)));
    })

-- those taken are at most as many as it may declare, and no file of theirs is too long
record Taken (limits : ParamsValue) (operations : List PlainOperation) : Type 0 where
  few : batch_count limits operations ≤ limits.max_operations
  small : are_files_small limits (take (batch_count limits operations) operations) ≡ true

taken_of : (limits : ParamsValue) (operations : List PlainOperation) → 1 ≤ batch_count limits operations → Taken limits operations
taken_of limits operations some =
    let count = batch_count limits operations in
    let longest = batch_longest limits operations in
    let parts = and_parts (nat_le (length (take count operations)) limits.max_operations) (are_files_small limits (take count operations)) (longest.goes some) in
    let few = leb-true (length (take count operations)) limits.max_operations parts.0 in
    record { few = omega (arith, few, length-take-le count operations longest.within); small = parts.1 }

-- ---- halving

-- no file of this many first operations is too long, and one of this many more is
pub record IsBetween (limits : ParamsValue) (operations : List PlainOperation) (goes stops : ℕ) : Type 0 where
  pub less : goes < stops
  pub within : stops ≤ length operations
  pub few : stops ≤ limits.max_operations
  pub small : 1 ≤ goes → are_files_small limits (take goes operations) ≡ true
  pub long : are_files_small limits (take stops operations) ≡ false

module _ (limits : ParamsValue) (operations : List PlainOperation) where
  pub at_first : 1 ≤ batch_count limits operations → {most : ℕ} → most ≡ min (length operations) limits.max_operations
      → are_files_small limits (take most operations) ≡ false → IsBetween limits operations 0 most
  at_first some {most} is long =
      let taken = taken_of limits operations some in
      let longest = batch_longest limits operations in
      record {
        less = omega (arith, some, is, taken.few, longest.within);
        within = omega (arith, is);
        few = omega (arith, is);
        small = λ none. absurd (omega (arith, none));
        long = long;
      }

  module _ {goes stops : ℕ} (between : IsBetween limits operations goes stops) where
    pub more_go : (middle : ℕ) → middle < stops → are_files_small limits (take middle operations) ≡ true
        → IsBetween limits operations middle stops
    more_go middle less small = record { less = less; within = between.within; few = between.few; small = λ some. small; long = between.long }

    pub fewer_stop : (middle : ℕ) → goes < middle → middle < stops → are_files_small limits (take middle operations) ≡ false
        → IsBetween limits operations goes middle
    fewer_stop middle less below long = record {
      less = less;
      within = omega (arith, below, between.within);
      few = omega (arith, below, between.few);
      small = between.small;
      long = long;
    }

    -- with the names of the numbers after a turn
    pub turned : {before behind : ℕ} → before ≡ goes → behind ≡ stops → IsBetween limits operations before behind
    turned first second = rw (first, second) between

    pub nothing_between : stops ≤ goes + 1 → goes ≡ batch_count limits operations
    nothing_between next =
        let is : stops ≡ goes + 1 = omega (arith, next, between.less) in
        last_is_count limits operations goes (record {
          within = omega (arith, between.less, between.within);
          goes = λ some. goes_by limits operations goes (omega (arith, between.less, between.within)) (omega (arith, between.less, between.few)) (between.small some);
          stops = λ more. and_right (nat_le (length (take (goes + 1) operations)) limits.max_operations) (are_files_small limits (take (goes + 1) operations))
              (ap (λ n. are_files_small limits (take n operations)) (sym is) ∙ between.long);
        })

-- ---- the written batch

-- no file of this many first operations is too long, or one is
pub written_small : (limits : ParamsValue) (operations : List PlainOperation) (n : ℕ) (batch : Batch)
    → batch_where_small limits n (grouped (take n operations)) ≡ Some batch → are_files_small limits (take n operations) ≡ true
unfolding are_files_small
written_small limits operations n batch written = (cond_some _ _ batch written).0

pub written_long : (limits : ParamsValue) (operations : List PlainOperation) (n : ℕ)
    → batch_where_small limits n (grouped (take n operations)) ≡ None → are_files_small limits (take n operations) ≡ false
unfolding are_files_small
written_long limits operations n none = none_fails _ _ none

-- as many as a batch takes can be written
pub is_written : (limits : ParamsValue) (operations : List PlainOperation) (n : ℕ) → 1 ≤ batch_count limits operations → n ≡ batch_count limits operations
    → batch_where_small limits n (grouped (take n operations)) ≡ None → ⊥
is_written limits operations n some is none =
    let long = ap (λ m. are_files_small limits (take m operations)) (sym is) ∙ written_long limits operations n none in
    let small = (taken_of limits operations some).small in
    cc

-- and the batch is that of the queue
pub written_of : (limits : ParamsValue) (operations : List PlainOperation) (n : ℕ) (batch : Batch) → n ≡ batch_count limits operations
    → batch_where_small limits n (grouped (take n operations)) ≡ Some batch → batch ≡ batch_of limits operations
unfolding batch_with
written_of limits operations n batch is written =
    let long : length (take n operations) ≡ n = length-take-le n operations (omega (arith, is, (batch_longest limits operations).within)) in
    sym (cond_some _ _ batch written).1
    ∙ (ap (λ m. batch_of_groups m (grouped (take n operations))) (sym long)
    ∙ ap (λ m. batch_of_groups (length (take m operations)) (grouped (take m operations))) is)

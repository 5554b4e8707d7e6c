use Rattle.std.proofs.Common.{rules, ℕ, Bool, ◌∙◌, ap, map, subst, sym}
use Rattle.std.specs.Cmp.Lexicographic.{nat_list_cmp_total}
use Rattle.std.specs.List.{AllByRecursion}
use Rattle.std.specs.Ordering.{is_lt}
use Rattle.std.proofs.lemmas.Fn.{always_returns_same}
use Rattle.std.proofs.lemmas.List.Elements.{All-from_recursion, recursion_from_All}
use Rattle.std.proofs.lemmas.List.MinMax.{ranks_by}
use Rattle.std.proofs.lemmas.List.Sorted.{All-permutation}
use Rattle.st_plain.specs.inside.Objects.{IsHeld, between, entry_at, name_at, rank, ranks_cmp, in_order}
use Rattle.st_plain.proofs.HeldLemmas.{held_order}
use Rattle.st_plain.proofs.SortLemmas.{firsts_from_sort, never_fall}
use Rattle.st_plain.proofs.objects.sort.Goals as goal

pub returns-clause-held : goal.returns-clause-held
returns-clause-held c =
    let text = c.args.text.now in
    let old = c.reverse.new.self.items in
    let new = c.sort_by.new.self.items in
    let held = subst (AllByRecursion (IsHeld text)) (sym c.reverse.ensures.items) c.requires in
    recursion_from_All (IsHeld text) new
    (All-permutation (IsHeld text) old new c.in_ok-sort_by.ensures.permutation (All-from_recursion (IsHeld text) old held))

pub returns-clause-first : goal.returns-clause-first
returns-clause-first c =
    let text = c.args.text.now in
    let lt : ℕ × ℕ → ℕ × ℕ → Bool = λ first second. is_lt (ranks_cmp (name_at text first.0) (name_at text second.0)) in
    let compares = always_returns_same _ _ _ (λ a r after called. (search rules, search rules)) in
    let order = ranks_by nat_list_cmp_total (λ place. map rank (name_at text place.0)) in
    let sorted = c.in_ok-sort_by.ensures.sorted lt order compares in
    let stable = c.in_ok-sort_by.ensures.stable lt order compares in
    let old = c.reverse.new.self.items in
    let new = c.sort_by.new.self.items in
    let held = subst (AllByRecursion (IsHeld text)) (sym c.reverse.ensures.items) c.requires in
    let still = recursion_from_All (IsHeld text) new
    (All-permutation (IsHeld text) old new c.in_ok-sort_by.ensures.permutation (All-from_recursion (IsHeld text) old held)) in
    firsts_from_sort (λ place. name_at text place.0) (between text) (IsHeld text) lt
    (λ first second a b. ap is_lt (held_order text first second a b)) old new (held, still) (never_fall lt order new sorted) stable
    ∙ ap (λ ps. in_order (map (entry_at text) ps)) c.reverse.ensures.items

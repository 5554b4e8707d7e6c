use Rattle.std.proofs.Common.{rules, sym, subst}
use Rattle.std.proofs.lemmas.List.MinMax.{ranks_by}
use Rattle.std.proofs.lemmas.List.Sorted.{answers_always}
use Rattle.st_plain.specs.inside.Objects.{NamesAscend}
use Rattle.st_plain.proofs.NameLemmas.{name_total}
use Rattle.st_plain.proofs.SortLemmas.{named_below, in_order_from_sort, ascend_in_order}
use Rattle.st_canon.proofs.object.Members.sorted.Goals as goal

pub invariant_of-result : goal.invariant_of-result
invariant_of-result g c =
    let compares = answers_always _ _ _ (λ f a r after called. search rules) in
    let order = ranks_by name_total (λ p. p.0) in
    let sorted = c.in_ok-sort_by.ensures.sorted named_below order compares in
    let stable = c.in_ok-sort_by.ensures.stable named_below order compares in
    subst NamesAscend (sym (in_order_from_sort c.args.pairs.items c.sort_by.new.self.items c.requires sorted stable)) (ascend_in_order c.args.pairs.items)

pub returns : goal.returns
returns g c =
    let compares = answers_always _ _ _ (λ f a r after called. search rules) in
    let order = ranks_by name_total (λ p. p.0) in
    let sorted = c.in_ok-sort_by.ensures.sorted named_below order compares in
    let stable = c.in_ok-sort_by.ensures.stable named_below order compares in
    in_order_from_sort c.args.pairs.items c.sort_by.new.self.items c.requires sorted stable

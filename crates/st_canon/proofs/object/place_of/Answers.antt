use Rattle.std.proofs.Common.{rules}
use Rattle.std.proofs.lemmas.Fn.{always_returns_same}
use Rattle.st_plain.specs.Names.{name_cmp}
use Rattle.st_canon.proofs.MemberLemmas.{exact_cmp, exact_from_compare, place_from_search, gap_from_search}
use Rattle.st_canon.proofs.object.place_of.Goals as goal

pub returns-clause-place : goal.returns-clause-place
returns-clause-place g c =
    let by_exact = c.binary_search_by.ensures.position (λ p. exact_cmp p.0 c.args.name.now)
    (always_returns_same _ _ _ (λ a r after called. (exact_from_compare a.0.now.0 c.args.name.now r (search rules) (search rules), search rules))) in
    place_from_search c.args.name.now c.args.pairs.now _ c.binary_search_by.ensures.bound by_exact

pub returns-clause-gap : goal.returns-clause-gap
returns-clause-gap g c =
    let by_name = c.binary_search_by.ensures.position (λ p. name_cmp p.0 c.args.name.now)
    (always_returns_same _ _ _ (λ a r after called. (search rules, search rules))) in
    gap_from_search c.args.name.now c.args.pairs.now _ c.requires c.binary_search_by.ensures.bound by_name

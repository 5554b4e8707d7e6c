use Rattle.std.proofs.Common.{◌≡◌, [], ◌∷◌, ◌++◌, Some, sym, ap, ◌∙◌, subst}
use Rattle.std.specs.Prelude.{ok_or}
use Rattle.std.specs.List.Sorted.{IsStrictlySortedBy}
use Rattle.std.specs.Map.{keys_of}
use Rattle.std.specs.String.{string_cmp}
use Rattle.std.specs.Vec.Iter.{into_iter_items}
use Rattle.std.proofs.lemmas.List.{nil_from_length}
use Rattle.serde_json.specs.View.{items_view, members_view}
use Rattle.st_plain.specs.Plain.{MembersAreProper}
use Rattle.st_plain.specs.Shapes.{whole_items, whole_members}
use Rattle.st_plain.specs.declared.respelling.ReadRefused.TheVariants.{NotWhole}
use Rattle.st_plain.proofs.ReadableLemmas.{whole_from}
use Rattle.st_canon.specs.View.{plain_items, plain_members}
use Rattle.st_canon.proofs.TreeLemmas.{ItemsSoFar, MembersSoFar, all_items, all_members, names_differ, names_in, one_more_item, one_more_member, one_more_name}
use Rattle.st_canon.proofs.MemberLemmas.{members_proper, one_more_proper, one_more_proper_pair}
use Rattle.st_canon.proofs.trees.+convert.Goals as goal

pub convert_items-loop-item-preserved : goal.convert_items-loop-item-preserved
convert_items-loop-item-preserved t c =
    let all = into_iter_items c.into_iter-item-iterator.result in
    let so_far = subst (λ left. ItemsSoFar all left c.loop-item.found.items) c.in-Some.ensures.steps.0 c.loop-item.invariant.whole in
    rw c.in_ok-push.ensures.items record {
      whole = one_more_item all (into_iter_items c.next.new.self) c.loop-item.found.items c.in-Some.item so_far c.in_ok-json.json
          (whole_from _ _ c.in_ok-json.ensures.value);
      proper = one_more_proper c.loop-item.found.items c.in_ok-json.json c.loop-item.invariant.proper c.in_ok-json.ensures.proper;
    }

pub convert_items-returns-clause-value : goal.convert_items-returns-clause-value
convert_items-returns-clause-value t c =
    let all = into_iter_items c.into_iter-item-iterator.result in
    let none : into_iter_items c.loop-item.item-iterator ≡ [] = nil_from_length _ (sym c.loop-item.item-iterator.rest.ok.0 ∙ c.in-None.ensures.steps.0) in
    let so_far = subst (λ left. ItemsSoFar all left c.loop-item.found.items) none c.loop-item.invariant.whole in
    let whole = ap (λ items. whole_items (items_view items)) (sym c.into_iter-item-iterator.ensures.into_iter_gives.0)
    ∙ all_items all c.loop-item.found.items so_far in
    ap (λ o. ok_or o NotWhole) (whole ∙ ap (λ items. Some (plain_items items)) (sym c.from_vec.ensures))

pub convert_members-loop-key-preserved : goal.convert_members-loop-key-preserved
convert_members-loop-key-preserved t c =
    let all = c.into_iter-key-iterator.result in
    let so_far = subst (λ left. MembersSoFar all left c.loop-key.pairs.items) c.in-Some.ensures.steps c.loop-key.invariant.whole in
    let named = subst (λ left. names_in all ≡ keys_of c.loop-key.pairs.items ++ names_in left) c.in-Some.ensures.steps c.loop-key.invariant.names in
    let name = c.text_of.ensures in
    rw c.in_ok-push.ensures.items record {
      whole = one_more_member all c.next.new.self c.loop-key.pairs.items c.in-Some.key c.in-Some.member so_far c.text_of.result c.in_ok-json.json name.value
          (whole_from _ _ c.in_ok-json.ensures.value);
      names = one_more_name (names_in all) (names_in c.next.new.self) c.loop-key.pairs.items c.text_of.result c.in_ok-json.json
          (named ∙ ap (λ n. keys_of c.loop-key.pairs.items ++ n ∷ names_in c.next.new.self) (sym name.value));
      proper = one_more_proper_pair c.loop-key.pairs.items _ c.loop-key.invariant.proper name.utf8 c.in_ok-json.ensures.proper;
    }

pub convert_members-sorted-requires : goal.convert_members-sorted-requires
convert_members-sorted-requires t c =
    let all = c.into_iter-key-iterator.result in
    let gives = c.into_iter-key-iterator.ensures.into_iter_gives in
    let ordered = subst (λ entries. IsStrictlySortedBy string_cmp (keys_of entries)) (sym gives.0) gives.5 in
    names_differ all c.loop-key.key-iterator c.loop-key.pairs.items ordered c.in-None.ensures.steps.0 c.loop-key.invariant.names

pub convert_members-returns-clause-value : goal.convert_members-returns-clause-value
convert_members-returns-clause-value t c =
    let all = c.into_iter-key-iterator.result in
    let so_far = subst (λ left. MembersSoFar all left c.loop-key.pairs.items) c.in-None.ensures.steps.0 c.loop-key.invariant.whole in
    let whole = ap (λ members. whole_members (members_view members)) (sym c.into_iter-key-iterator.ensures.into_iter_gives.0)
    ∙ all_members all c.loop-key.pairs.items so_far in
    ap (λ o. ok_or o NotWhole) (whole ∙ ap (λ es. Some (plain_members es)) (sym c.in_ok-sorted.ensures))

pub convert_members-returns-clause-proper : goal.convert_members-returns-clause-proper
convert_members-returns-clause-proper t c =
    subst (λ es. MembersAreProper (plain_members es)) (sym c.in_ok-sorted.ensures)
    (members_proper c.loop-key.pairs.items c.loop-key.invariant.proper)

use Rattle.std.proofs.Common.{◌≡◌, [], ◌∷◌, None, Some, IfOk, option_map, option_and_then, ap, sym, subst, ◌∙◌, rules}
use Rattle.std.proofs.lemmas.List.{nil_from_length}
use Rattle.std.specs.Map.{lookup}
use Rattle.st_plain.specs.Objects.{member_at, put}
use Rattle.st_plain.specs.Names.{is_name}
use Rattle.st_canon.specs.View.{plain, plain_items, plain_members}
use Rattle.st_canon.proofs.MemberLemmas.{plain-lookup, plain_members-placed}
use Rattle.st_jsonpatch.specs.Pointer.{at, item_at, selected}
use Rattle.st_jsonpatch.specs.inside.Changed.{handed_out, plain_act, HandsOut}
use Rattle.st_jsonpatch.specs.Edited.{edited, put_back, with_item}
use Rattle.st_jsonpatch.proofs.Changing.{from_on_some, whole_changes}
use Rattle.st_jsonpatch.proofs.PointerLemmas.{last_token}
use Rattle.st_jsonpatch.proofs.edits.+edit.Goals as goal

pub edit-returns-in_default-clause-out : goal.edit-returns-in_default-clause-out
edit-returns-in_default-clause-out t c =
    let token = c.args.token.now in
    let old = plain c.args.value.now in
    let act = plain_act c.args.action in
    let none : c.args.path.now ≡ [] = nil_from_length c.args.path.now (rw c.in_default.is at c.split_first.ensures.cases) in
    subst (λ path. HandsOut act (at (token ∷ path) old) c.act.result) (sym none)
    (subst (λ there. HandsOut act there c.act.result) (sym (last_token (selected token old))) c.act.ensures.out)

pub edit_item-returns-in-Some-clause-items : goal.edit_item-returns-in-Some-clause-items
edit_item-returns-in-Some-clause-items t c =
    let token = c.args.token.now in
    let old = plain_items c.args.items.now in
    let there : item_at token old ≡ Some (plain c.in-Some.item.now) = search rules in
    let written = from_on_some c.in-Some.is (c.item_mut.follows.holds c.edit.new.value) in
    rw there (whole_changes (λ new. with_item token new old) _ (plain c.edit.new.value) _ c.edit.result written c.edit.ensures.value)

pub edit_member-returns-in-Some-clause-members : goal.edit_member-returns-in-Some-clause-members
edit_member-returns-in-Some-clause-members t c =
    let token = c.args.token.now in
    let old = c.args.members.now in
    let found : lookup (is_name token) old ≡ Some c.in-Some.member.now = search rules in
    let there = sym (plain-lookup token old) ∙ ap (option_map plain) found in
    let written = from_on_some c.in-Some.is (c.get_mut.follows.holds c.edit.new.value) in
    rw there (whole_changes (λ new. put token new (plain_members old)) _ (plain c.edit.new.value) _ c.edit.result
    (ap plain_members written ∙ plain_members-placed token c.edit.new.value old) c.edit.ensures.value)

pub edit_member-returns-in-Some-clause-out : goal.edit_member-returns-in-Some-clause-out
edit_member-returns-in-Some-clause-out t c =
    let token = c.args.token.now in
    let old = c.args.members.now in
    let found : lookup (is_name token) old ≡ Some c.in-Some.member.now = search rules in
    let there : member_at token (plain_members old) ≡ Some (plain c.in-Some.member.now) = sym (plain-lookup token old) ∙ ap (option_map plain) found in
    subst (λ o. IfOk c.edit.result (λ out. option_map plain out ≡ handed_out (plain_act c.args.action) (option_and_then (at (c.args.next.now ∷ c.args.path.now)) o))) (sym there) c.edit.ensures.out

pub edit_member-returns-in-None-clause-members : goal.edit_member-returns-in-None-clause-members
edit_member-returns-in-None-clause-members t c =
    let token = c.args.token.now in
    let old = c.args.members.now in
    let none : lookup (is_name token) old ≡ None = search rules in
    let there : member_at token (plain_members old) ≡ None = sym (plain-lookup token old) ∙ ap (option_map plain) none in
    ap (put_back (λ new. put token new (plain_members old)) (edited (plain_act c.args.action) c.args.next.now c.args.path.now)) there

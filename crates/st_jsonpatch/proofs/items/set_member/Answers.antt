use Rattle.std.proofs.Common.{◌≡◌, ap, sym, ◌∙◌, None, Some, option_map, rules}
use Rattle.std.specs.Map.{lookup}
use Rattle.st_plain.specs.Objects.{put}
use Rattle.st_plain.specs.inside.Objects.{placed}
use Rattle.st_plain.specs.Names.{is_name}
use Rattle.st_canon.specs.View.{plain, plain_members}
use Rattle.st_canon.proofs.MemberLemmas.{plain-lookup, plain_members-placed}
use Rattle.st_jsonpatch.proofs.Changing.{from_on_some}
use Rattle.st_jsonpatch.proofs.items.set_member.Goals as goal

pub returns-in-Some : goal.returns-in-Some
returns-in-Some c =
    let token = c.args.token.now in
    let old = c.args.members.now in
    let new = put token (plain c.args.new) (plain_members old) in
    let written : c.get_mut.follows.lender c.args.new ≡ placed (token, c.args.new) old = from_on_some c.in-Some.is (c.get_mut.follows.holds c.args.new) in
    let there : lookup (is_name token) old ≡ Some c.in-Some.member.now = search rules in
    ap (option_map (λ _. new)) (sym (plain-lookup token old) ∙ ap (option_map plain) there) ∙ ap Some (sym (ap plain_members written ∙ plain_members-placed token c.args.new old))

pub returns-in-None : goal.returns-in-None
returns-in-None c =
    let new = put c.args.token.now (plain c.args.new) (plain_members c.args.members.now) in
    let there : lookup (is_name c.args.token.now) c.args.members.now ≡ None = search rules in
    ap (option_map (λ _. new)) (sym (plain-lookup c.args.token.now c.args.members.now) ∙ ap (option_map plain) there)

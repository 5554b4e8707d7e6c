use Rattle.std.proofs.Common.{◌≡◌, ◌+◌, ℕ, Bool, true, List, ◌∷◌, ◌++◌, drop, length, length-append, ap, sym, subst, arith}
use Rattle.std.specs.Str.{IsUtf8}
use Rattle.st_base.proofs.ListLemmas.{next_item}
use Rattle.st_plain.specs.Plain.{canonical, canonical_members, comma, quoted, Plain, Members, member}
use Rattle.st_plain.specs.inside.Objects.{NamesAscend}
use Rattle.st_canon.specs.View.{plain, plain_members}
use Rattle.st_canon.proofs.MemberLemmas.{one_more_member}
use Rattle.st_canon.proofs.measures.+add.Goals as goal

-- the parts of a member's text
member_long : (b : Bool) (n : List ℕ) (p : Plain) (ms : Members)
    → length (canonical_members b (member n p ms)) ≡ length (comma b) + (length (quoted n) + (1 + (length (canonical p) + length (canonical_members true ms))))
member_long b n p ms =
    let rest = canonical_members true ms in
    let first = length-append (comma b) (quoted n ++ (58 ∷ (canonical p ++ rest))) in
    omega (arith, first, length-append (quoted n) (58 ∷ (canonical p ++ rest)), length-append (canonical p) rest)

pub add_members-loop-name-preserved : goal.add_members-loop-name-preserved
add_members-loop-name-preserved t c =
    let pairs = c.pairs-name-items.result.now in
    let pair = c.loop-name-item.result in
    let next = next_item pairs c.loop-name.name-index pair c.loop-name-test.true c.loop-name-item.is in
    let rest = plain_members (drop (c.loop-name.name-index + 1) pairs) in
    let ascend : NamesAscend pairs = subst NamesAscend (sym c.pairs-name-items.ensures.all) c.pairs-name-items.ensures.ascend in
    let here = ap (λ l. length (canonical_members c.loop-name.comma (plain_members l))) next in
    let long = member_long c.loop-name.comma pair.0 (plain pair.1) rest in
    let name = ap (λ n. length (quoted n)) c.as_str.ensures in
    record {
      size = omega (arith, here, long, name);
      fits = omega arith;
      proper = λ h. c.loop-name.invariant.proper
          (one_more_member pairs c.loop-name.name-index pair ascend next
          (subst IsUtf8 c.as_str.ensures c.add_text-named.ensures.utf8) c.add-size.ensures.proper h);
    }

use Rattle.std.proofs.Common.{sym, subst, arith}
use Rattle.std.proofs.lemmas.Grind.{common_steps}
use Rattle.std.specs.Str.{IsUtf8}
use Rattle.st_base.proofs.ListLemmas.{next_item}
use Rattle.st_plain.specs.inside.Objects.{NamesAscend}
use Rattle.st_canon.proofs.MemberLemmas.{one_more_member}
use Rattle.st_canon.proofs.spelling.+append.Goals as goal

pub append_members-loop-name-preserved : goal.append_members-loop-name-preserved
append_members-loop-name-preserved t c =
    let next = next_item c.pairs-name-items.result.now c.loop-name.name-index c.loop-name-item.result c.loop-name-test.true c.loop-name-item.is in
    let ascend : NamesAscend c.pairs-name-items.result.now = subst NamesAscend (sym c.pairs-name-items.ensures.all) c.pairs-name-items.ensures.ascend in
    let utf8 = subst IsUtf8 c.as_str.ensures c.in_ok-append_text.ensures.utf8 in
    record {
      text = grind (arith, common_steps);
      proper =
          λ h. c.loop-name.invariant.proper
          (one_more_member c.pairs-name-items.result.now c.loop-name.name-index c.loop-name-item.result ascend next utf8
          c.in_ok-append.ensures.proper h);
    }

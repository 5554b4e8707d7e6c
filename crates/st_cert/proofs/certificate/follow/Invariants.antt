use Rattle.std.proofs.Common.{◌≡◌, ◌++◌, drop}
use Rattle.st_apply.specs.Laws.{all_applied}
use Rattle.st_apply.specs.Codes.{absent}
use Rattle.st_base.specs.Work.{WorkValue, AppliesAtMost}
use Rattle.st_cert.specs.Certificate.{acting_count, anchored_items}
use Rattle.st_cert.specs.inside.Following.{verdicts_from}
use Rattle.st_cert.proofs.certificate.follow.Given as goal

abbrev pub invariant-loop-item : goal.invariant-loop-item
invariant-loop-item l = record {
  verdicts : l.verdicts ++ verdicts_from l.schedule l.standing (anchored_items (drop l.item-index l.items))
      ≡ verdicts_from l.schedule absent (anchored_items l.items);
  state : all_applied l.schedule l.standing (anchored_items (drop l.item-index l.items))
      ≡ all_applied l.schedule absent (anchored_items l.items);
  work : (new : WorkValue)
      → AppliesAtMost (acting_count (verdicts_from l.schedule l.standing (anchored_items (drop l.item-index l.items)))) l.work new
      → AppliesAtMost (acting_count (verdicts_from l.schedule absent (anchored_items l.items))) l.initial.work new;
}

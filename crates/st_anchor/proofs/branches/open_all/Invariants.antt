use Rattle.std.proofs.Common.{◌≡◌, map, option_map, take}
use Rattle.st_ops.specs.Operation.{plain_proof}
use Rattle.st_anchor.specs.inside.Coming.{more_proofs}
use Rattle.st_anchor.specs.SignedTexts.{proof_of}
use Rattle.st_anchor.proofs.branches.open_all.Given as goal

abbrev pub invariant-texts : goal.invariant-texts
invariant-texts l = record {
  value : map (option_map plain_proof) l.items ≡ map (proof_of l.limit) (take l.text-index l.texts);
  work : l.work ≡ more_proofs l.text-index l.initial.work;
}

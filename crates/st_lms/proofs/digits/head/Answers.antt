use Rattle.std.proofs.Common.{◌≡◌, ◌∙◌, ◌++◌, length, take, sym, arith}
use Rattle.std.proofs.lemmas.List.{take_all}
use Rattle.st_lms.specs.Strings.{u32str}
use Rattle.st_lms.proofs.KeyLemmas.{length-u32str, written}
use Rattle.st_lms.proofs.digits.head.Goals as goal

pub returns : goal.returns
returns c =
    let id = c.args.id.now in
    let q = u32str c.args.q in
    let long : length c.put-2.new.row ≡ 20 = c.put-2.auto.row ∙ c.put.auto.row in
    let first : take 16 c.put.new.row ≡ id = rw c.told-id at c.put.ensures in
    let second : take 20 c.put-2.new.row ≡ id ++ q =
    rw (length-u32str c.args.q) at (written id q c.put.new.row c.put-2.new.row 16 first (rw c.u32str.ensures at c.put-2.ensures)) in
    sym (take_all 20 c.put-2.new.row (omega arith)) ∙ second

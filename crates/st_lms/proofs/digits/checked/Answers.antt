use Rattle.std.proofs.Common.{◌≡◌, ◌∙◌, ◌++◌, length, take, sym, arith}
use Rattle.std.proofs.lemmas.List.{take_all}
use Rattle.st_lms.specs.OneTime.{checked, checksum, one_time_number}
use Rattle.st_lms.specs.Strings.{u16str}
use Rattle.st_lms.proofs.KeyLemmas.{length-u16str, written}
use Rattle.st_lms.proofs.digits.checked.Goals as goal

pub returns : goal.returns
unfolding checked
returns c =
    let hash = c.args.hash.now in
    let sum = u16str (checksum (one_time_number c.args.kind) hash) in
    let long : length c.put-2.new.row ≡ 34 = c.put-2.auto.row ∙ c.put.auto.row in
    let first : take 32 c.put.new.row ≡ hash = rw c.told-hash at c.put.ensures in
    let second : take 34 c.put-2.new.row ≡ hash ++ sum =
    rw (length-u16str (checksum (one_time_number c.args.kind) hash)) at (written hash sum c.put.new.row c.put-2.new.row 32 first (rw (c.u16str.ensures, c.checksum.ensures) at c.put-2.ensures)) in
    sym (take_all 34 c.put-2.new.row (omega arith)) ∙ second

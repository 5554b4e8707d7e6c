use Rattle.std.proofs.Common.{◌≡◌, ◌∙◌, ◌++◌, length, take, sym, arith}
use Rattle.std.proofs.lemmas.List.{take_all}
use Rattle.st_lms.proofs.KeyLemmas.{length-u32str, written}
use Rattle.st_lms.specs.Strings.{u32str}
use Rattle.st_vault.specs.Image.{header_of}
use Rattle.st_vault.proofs.layout.write_header.Goals as goal

pub returns : goal.returns
unfolding header_of
returns c =
    let key = c.args.secret.now in
    let ots = u32str key.ots in
    let tree = u32str key.tree in
    let long : length c.put_in-4.new.row ≡ 56 = c.put_in-4.auto.row ∙ c.put_in-3.auto.row ∙ c.put_in-2.auto.row ∙ c.put_in.auto.row ∙ c.zeros-header.ensures in
    let first : take 4 c.put_in.new.row ≡ ots = rw (c.u32str.ensures, c.ots.ensures.value, length-u32str key.ots) at c.put_in.ensures in
    let second : take 8 c.put_in-2.new.row ≡ ots ++ tree =
    rw (length-u32str key.tree) at (written ots tree c.put_in.new.row c.put_in-2.new.row 4 first (rw (c.u32str-2.ensures, c.tree.ensures.value) at c.put_in-2.ensures)) in
    let third : take 24 c.put_in-3.new.row ≡ ots ++ tree ++ key.id =
    rw c.id.ensures.known.id at (written (ots ++ tree) key.id c.put_in-2.new.row c.put_in-3.new.row 8 second (rw c.id.ensures.value at c.put_in-3.ensures)) in
    let fourth : take 56 c.put_in-4.new.row ≡ ots ++ tree ++ key.id ++ key.seed =
    rw c.seed.ensures.known.seed at (written (ots ++ tree ++ key.id) key.seed c.put_in-3.new.row c.put_in-4.new.row 24 third (rw c.seed.ensures.value at c.put_in-4.ensures)) in
    sym (take_all 56 c.put_in-4.new.row (omega arith)) ∙ fourth

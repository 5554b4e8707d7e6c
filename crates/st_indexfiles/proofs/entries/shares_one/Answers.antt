use Rattle.std.proofs.Common.{◌∙◌, sym}
use Rattle.st_indexfiles.proofs.MemberLemmas.{found_in, shares_one-found, shares_one-later}
use Rattle.st_indexfiles.proofs.entries.shares_one.Goals as goal

pub returns-then-contains : goal.returns-then-contains
returns-then-contains c =
    let hash = c.hash-item.result in
    let found = found_in c.in_ok-others.others c.args.others.now c.in_ok-others.ensures hash in
    sym (c.hashes.invariant ∙ shares_one-found c.args.hashes.now c.args.others.now c.hashes.hash-index hash c.hashes-test.true c.hash-item.is
    (sym found ∙ sym c.contains.ensures ∙ c.if-contains.true))

pub hashes-preserved : goal.hashes-preserved
hashes-preserved c =
    let hash = c.hash-item.result in
    let found = found_in c.in_ok-others.others c.args.others.now c.in_ok-others.ensures hash in
    c.hashes.invariant ∙ shares_one-later c.args.hashes.now c.args.others.now c.hashes.hash-index hash c.hashes-test.true c.hash-item.is
    (sym found ∙ sym c.contains.ensures ∙ c.if-contains.false)

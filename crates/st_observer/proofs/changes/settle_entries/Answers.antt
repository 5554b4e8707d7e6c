use Rattle.std.proofs.Common.{get_or}
use Rattle.st_observer.proofs.LookingLemmas.{entry-inside, entry-past, looking-few, looking-inside, looking-next, looking-skipped, looking-wanting, number-is}
use Rattle.st_observer.proofs.changes.settle_entries.Goals as goal

pub settle-requires-clause-inside : goal.settle-requires-clause-inside
settle-requires-clause-inside c =
    let entries = c.args.entries.now in
    let n = get_or entries c.entries.n-index 0 in
    looking-inside entries c.entries.n-index n c.entries-test.true (number-is entries c.entries.n-index c.entries-test.true) c.entries.invariant
    (entry-inside c.args.ledger.now n c.in-Some.entry.now c.in-Some.ensures)

pub entries-preserved-in_default : goal.entries-preserved-in_default
entries-preserved-in_default c =
    let entries = c.args.entries.now in
    let n = get_or entries c.entries.n-index 0 in
    looking-skipped entries c.entries.n-index n c.entries-test.true (number-is entries c.entries.n-index c.entries-test.true) c.entries.invariant
    (entry-past c.args.ledger.now n c.in_default.ensures)

pub entries-preserved : goal.entries-preserved
entries-preserved c =
    let entries = c.args.entries.now in
    let n = get_or entries c.entries.n-index 0 in
    looking-next entries c.entries.n-index n c.entries-test.true (number-is entries c.entries.n-index c.entries-test.true) c.entries.invariant
    c.in-Some.entry.now c.in-Some.ensures c.in_ok-going.ensures.step c.in_ok-going.ensures.exact c.in_ok-going.ensures.few

pub returns-in_err-going-clause-few : goal.returns-in_err-going-clause-few
returns-in_err-going-clause-few c =
    let entries = c.args.entries.now in
    let n = get_or entries c.entries.n-index 0 in
    looking-wanting entries c.entries.n-index n c.entries-test.true (number-is entries c.entries.n-index c.entries-test.true) c.entries.invariant
    c.in-Some.entry.now c.in-Some.ensures c.in_err-going.ensures.few

pub returns-clause-few : goal.returns-clause-few
returns-clause-few c = looking-few c.entries.invariant

pub returns-clause-changes : goal.returns-clause-changes
returns-clause-changes c = c.entries.invariant.covers

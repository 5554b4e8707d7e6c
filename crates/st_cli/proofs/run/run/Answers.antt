use Rattle.std.proofs.Common.{refl}
use Rattle.st_drive.proofs.TableLemmas.{ends_weaker}
use Rattle.st_cli.proofs.RunLemmas.{journal_run, exchange_run, generate_ends, node_run, promised_of}
use Rattle.st_cli.proofs.run.run.Goals as goal

pub returns-in-Some-Node-clause-ends : goal.returns-in-Some-Node-clause-ends
returns-in-Some-Node-clause-ends g c = ends_weaker (λ never. absurd never) c.run_node.ensures.ends

pub returns-in-Some-Node-clause-promised : goal.returns-in-Some-Node-clause-promised
returns-in-Some-Node-clause-promised g c =
    let read = c.in-Some-Node in
    promised_of _ read.field-0-is read.ensures.value (node_run c.run_node.ensures refl)

pub returns-in-Some-Journalled-clause-ends : goal.returns-in-Some-Journalled-clause-ends
returns-in-Some-Journalled-clause-ends g c = c.run_journalled.ensures.ends.ends

pub returns-in-Some-Journalled-clause-promised : goal.returns-in-Some-Journalled-clause-promised
returns-in-Some-Journalled-clause-promised g c =
    let read = c.in-Some-Journalled in
    promised_of _ read.field-0-is read.ensures.value (journal_run c.run_journalled.ensures)

pub returns-in-Some-Wallet-clause-ends : goal.returns-in-Some-Wallet-clause-ends
returns-in-Some-Wallet-clause-ends g c = c.run_wallet.ensures.lines.ends

pub returns-in-Some-Wallet-clause-promised : goal.returns-in-Some-Wallet-clause-promised
returns-in-Some-Wallet-clause-promised g c =
    let read = c.in-Some-Wallet in
    promised_of _ read.field-0-is read.ensures.value (c.run_wallet.ensures, refl)

pub returns-in-Some-Exchange-clause-ends : goal.returns-in-Some-Exchange-clause-ends
returns-in-Some-Exchange-clause-ends g c = ends_weaker (λ never. absurd never) c.run_exchange.ensures.ends

pub returns-in-Some-Exchange-clause-promised : goal.returns-in-Some-Exchange-clause-promised
returns-in-Some-Exchange-clause-promised g c =
    let read = c.in-Some-Exchange in
    promised_of _ read.field-0-is read.ensures.value (exchange_run c.run_exchange.ensures refl)

pub returns-in-Some-Generate-clause-ends : goal.returns-in-Some-Generate-clause-ends
returns-in-Some-Generate-clause-ends g c =
    let ensured = c.run_generate.ensures in
    generate_ends c.run_generate.result ensured.statuses ensured.finished ensured.unfinished ensured.write_fault

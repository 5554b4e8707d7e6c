use Rattle.std.proofs.Common.{arith, refl}
use Rattle.st_drive.proofs.TableLemmas.{lines_by}
use Rattle.st_network.proofs.NetworkLemmas.{exchange_run, unbegun_run}
use Rattle.st_network.proofs.network.run_exchange.Goals as goal

pub returns-in-Ok : goal.returns-in-Ok
returns-in-Ok g c =
    lines_by (exchange_run g.N.Peer.peer g.met.N.Peer.laws _ (c.args.work.now, tt) (c.run_machine.new.context, tt) c.in-Ok.ensures)
    (λ rose. omega (arith, rose)) c.run_machine.ensures

pub returns-in-Err : goal.returns-in-Err
returns-in-Err g c =
    unbegun_run g.N.Peer.peer g.met.N.Peer.laws c.args.work.now (record { left_is = refl; holds_is = refl; finished_is = refl })

use Rattle.palmig_top.specs.Concluding.{Sink}
use Rattle.palmig_top.proofs.ShownRuns.{run-concluded}
use Rattle.palmig_top.proofs.commands.sim.sim.Goals as goal

pub returns : goal.returns
returns g c =
    let out : Sink = record { sent = g.O.Sink.sent c.args.out.now; after = g.O.Sink.sent c.end_run.new.out; faults = g.O.Sink.faults c.args.out.now; faults_after = g.O.Sink.faults c.end_run.new.out } in
    run-concluded c.args.simulation.now c.read_board-board.result (g.F.Files.held c.args.files.now) (g.F.Files.held c.read_board-board.new.files) (g.F.Files.held c.end_run.new.files)
    (g.F.Files.counts c.args.files.now) (g.F.Files.counts c.read_board-board.new.files) (g.F.Files.counts c.end_run.new.files) out c.end_run.result c.read_board-board.ensures.step c.end_run.ensures

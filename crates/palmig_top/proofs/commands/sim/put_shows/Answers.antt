use Rattle.sim_run.proofs.GivenScripts.{script-given}
use Rattle.palmig_top.proofs.HeldParts.{read-writable}
use Rattle.palmig_top.proofs.commands.sim.put_shows.Goals as goal

pub put_run-requires : goal.put_run-requires
put_run-requires g c =
    let read = c.requires.script in
    (script-given c.args.board.now.net read.0 c.args.script.now (read-writable c.args.board.now.net c.requires.wiring) read.1).steps_fit

use Rattle.ranks.proofs.Finishing.{ranked-free}
use Rattle.ranks.proofs.loops.loop_from.Goals as goal

pub returns-then-not-waits-clause-no_loop : goal.returns-then-not-waits-clause-no_loop
returns-then-not-waits-clause-no_loop c = ranked-free c.args.circuit.now c.args.ranks.now c.requires.ranking c.args.home (c.waits.ensures.no c.if-not-waits.true)

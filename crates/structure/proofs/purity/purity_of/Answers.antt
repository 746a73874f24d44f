use Rattle.structure.proofs.Purities.{above-is_purity}
use Rattle.structure.proofs.purity.purity_of.Goals as goal

pub returns : goal.returns
returns c = above-is_purity c.args.circuit.now c.sweep.new.set c.sweep.ensures.above (c.sweep.ensures.stays c.loop-test.false)

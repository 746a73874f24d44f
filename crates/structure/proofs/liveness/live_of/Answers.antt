use Rattle.structure.proofs.Wakings.{awake-is_liveness}
use Rattle.structure.proofs.liveness.live_of.Goals as goal

pub returns : goal.returns
returns c = awake-is_liveness c.args.circuit.now c.wake_pass.new.waking c.wake_pass.ensures.waking (c.wake_pass.ensures.stays c.loop-test.false)

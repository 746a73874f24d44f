use Rattle.std.proofs.Common.{arith}
use Rattle.settle.proofs.StepLaws.{same-all}
use Rattle.settle.proofs.following.copy.Goals as goal

pub returns : goal.returns
returns c = same-all c.loop-place.to c.args.from.now c.loop-place.place c.loop-place.invariant.long (omega arith) c.loop-place.invariant.same

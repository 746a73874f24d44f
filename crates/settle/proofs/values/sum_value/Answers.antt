use Rattle.settle.proofs.LevelLaws.{sum-known, zero-or}
use Rattle.settle.proofs.values.sum_value.Goals as goal

pub loop-term-init : goal.loop-term-init
loop-term-init c = record { known = λ e. cc; value = zero-or _ (sum-known c.args.levels.now c.args.terms.now) }

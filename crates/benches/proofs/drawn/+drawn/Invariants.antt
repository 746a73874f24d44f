use Rattle.std.proofs.Common.{◌-◌}
use Rattle.benches.proofs.drawn.+drawn.Given as goal

abbrev pub decreases-drawn : goal.decreases-drawn
decreases-drawn l = 12 - l.v

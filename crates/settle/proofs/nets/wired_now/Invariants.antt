use Rattle.std.proofs.Common.{◌≡◌, drop, map}
use Rattle.mig_base.specs.Levels.{level_at, resolve2}
use Rattle.settle.specs.Rules.{wired}
use Rattle.settle.proofs.nets.wired_now.Given as goal

abbrev pub invariant-loop-unit : goal.invariant-loop-unit
invariant-loop-unit l = resolve2 l.level (wired (map (level_at l.levels.drives) (drop l.unit-index l.drivers))) ≡ resolve2 l.fn.handed (wired (map (level_at l.levels.drives) l.drivers))

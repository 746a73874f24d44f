use Rattle.std.proofs.Common.{◌≡◌, drop, map}
use Rattle.mig_base.specs.Levels.{resolve2}
use Rattle.settle.specs.Rules.{wired, drive_of}
use Rattle.settle.proofs.nets.wired_with.Given as goal

abbrev pub invariant-loop-unit : goal.invariant-loop-unit
invariant-loop-unit l = resolve2 l.level (wired (map (drive_of l.circuit l.levels) (drop l.unit-index l.drivers))) ≡ resolve2 l.fn.handed (wired (map (drive_of l.circuit l.levels) l.drivers))

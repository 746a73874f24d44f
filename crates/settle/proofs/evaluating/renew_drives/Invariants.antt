use Rattle.std.proofs.Common.{◌≡◌, ◌++◌, map, take, drop}
use Rattle.level_laws.specs.Settled.{drive_level}
use Rattle.settle.specs.Rules.{with_drives}
use Rattle.settle.proofs.evaluating.renew_drives.Given as goal

abbrev pub invariant-loop-unit : goal.invariant-loop-unit
invariant-loop-unit l = l.out ≡ with_drives l.fn.out (map (drive_level l.fn.out) (take l.unit l.circuit.units) ++ drop l.unit l.fn.out.drives)

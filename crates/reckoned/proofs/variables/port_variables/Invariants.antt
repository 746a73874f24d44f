use Rattle.std.proofs.Common.{◌≡◌, take}
use Rattle.reckoned.specs.Variables.{port_variables}
use Rattle.reckoned.proofs.variables.port_variables.Given as goal

abbrev pub invariant-loop-n : goal.invariant-loop-n
invariant-loop-n l = l.vars.items ≡ port_variables 0 (take l.n l.nets)

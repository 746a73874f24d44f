use Rattle.std.proofs.Common.{◌≡◌, take}
use Rattle.rails.specs.Variables.{all_rails}
use Rattle.rails.proofs.lists.all_rails.Given as goal

abbrev pub invariant-loop-i : goal.invariant-loop-i
invariant-loop-i l = l.rails.items ≡ all_rails (take l.i l.vars)

use Rattle.std.proofs.Common.{◌≡◌, ◌++◌, drop}
use Rattle.std.specs.List.{filter_map}
use Rattle.plans.specs.Placings.{placing_of, placings, numbered_units}
use Rattle.plan_lines.proofs.placed.placings.Given as goal

abbrev pub invariant-loop-number : goal.invariant-loop-number
invariant-loop-number l = l.placed.items ++ filter_map (placing_of l.plan) (drop l.number (numbered_units l.board)) ≡ placings l.board l.plan

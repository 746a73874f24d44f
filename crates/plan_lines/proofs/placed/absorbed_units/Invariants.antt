use Rattle.std.proofs.Common.{◌≡◌, ◌++◌, drop}
use Rattle.mig_base.specs.Boards.{places_from}
use Rattle.plans.specs.Placings.{is_absorbed_in, absorbed_units, unit_names}
use Rattle.plan_lines.proofs.placed.absorbed_units.Given as goal

abbrev pub invariant-loop-number : goal.invariant-loop-number
invariant-loop-number l = l.numbers.items ++ places_from (is_absorbed_in l.plan.lines) l.number (drop l.number (unit_names l.board)) ≡ absorbed_units l.board l.plan

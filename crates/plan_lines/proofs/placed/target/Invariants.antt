use Rattle.std.proofs.Common.{◌≡◌, drop}
use Rattle.plans.specs.Placings.{target_in}
use Rattle.plan_lines.proofs.placed.target.Given as goal

abbrev pub invariant-loop-line : goal.invariant-loop-line
invariant-loop-line l = target_in (drop l.line-index l.lines) l.name ≡ target_in l.lines l.name

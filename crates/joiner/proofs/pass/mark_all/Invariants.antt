use Rattle.std.proofs.Common.{◌≡◌, map, reverse}
use Rattle.joiner.specs.Marked.{after_variables}
use Rattle.joiner.proofs.pass.mark_all.Given as goal

abbrev pub invariant-loop-variable : goal.invariant-loop-variable
invariant-loop-variable l = l.marks ≡ after_variables l.board l.nets l.fn.marks (reverse (map (λ b. b.now) l.yielded))

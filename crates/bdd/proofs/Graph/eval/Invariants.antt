use Rattle.std.proofs.Common.{◌≡◌}
use Rattle.bdd.specs.Diagram.{IsValid, function_of, point_of, place}
use Rattle.bdd.proofs.Graph.eval.Given as goal

abbrev pub invariant-loop-value : goal.invariant-loop-value
invariant-loop-value l = record {
  valid : IsValid l.self l.at;
  value : function_of l.self l.fn.f (point_of l.point) ≡ function_of l.self l.at (point_of l.point);
}

abbrev pub decreases-loop-value : goal.decreases-loop-value
decreases-loop-value l = place l.at

use Rattle.std.proofs.Common.{◌≡◌}
use Rattle.bdd.specs.Diagram.{IsValid, function_of, tree}
use Rattle.rails.specs.Compose.{height}
use Rattle.rails.specs.Levels.{point_under}
use Rattle.rails.proofs.values.holds_under.Given as goal

abbrev pub invariant-loop-place : goal.invariant-loop-place
invariant-loop-place l = record {
  valid : IsValid l.graph l.at;
  value : function_of l.graph l.fn.f (point_under l.unknown l.rails l.levels) ≡ function_of l.graph l.at (point_under l.unknown l.rails l.levels);
}

abbrev pub decreases-loop-place : goal.decreases-loop-place
decreases-loop-place l = height (tree l.graph l.at)

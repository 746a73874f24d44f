use Rattle.std.proofs.Common.{◌≤◌, ◌+◌, length}
use Rattle.ranks.specs.Marked.{waiting}
use Rattle.ranks.specs.Ways.{IsWays, IsFrontier}
use Rattle.ranks.proofs.distances.ways_home.Given as goal

abbrev pub invariant-loop-steps : goal.invariant-loop-steps
invariant-loop-steps l = record {
  ways : IsWays l.circuit l.fn.home l.steps l.ways;
  frontier : IsFrontier l.circuit l.fn.home l.steps l.ways l.nodes.items;
  fewer : waiting l.ways + l.steps ≤ length l.graph.nodes;
}

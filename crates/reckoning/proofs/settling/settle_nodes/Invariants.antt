use Rattle.std.proofs.Common.{drop}
use Rattle.bdd.specs.Diagram.{IsCanonical, Keeps}
use Rattle.reckoning.specs.Triples.{NeverFloat}
use Rattle.reckoning.specs.Reached.{Reached}
use Rattle.reckoning.proofs.settling.settle_nodes.Given as goal

abbrev pub invariant-loop-node : goal.invariant-loop-node
invariant-loop-node l = record {
  keeps : Keeps l.fn.graph l.graph;
  canonical : IsCanonical l.graph;
  known : NeverFloat l.fn.graph l.fn.table.visible → NeverFloat l.graph l.table.visible;
  reached : Reached l.fn.graph l.graph l.circuit l.stored l.handed (drop l.node-index l.order) l.table;
}

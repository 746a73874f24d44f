use Rattle.bdd.specs.Diagram.{IsValid, place, tree}
use Rattle.bdd.proofs.PointLemmas.{IsWalk}
use Rattle.bdd.proofs.Graph.some_point.Given as goal

abbrev pub invariant-loop-node : goal.invariant-loop-node
invariant-loop-node l = record {
  valid : IsValid l.self l.at;
  walk : IsWalk l.self.vars (tree l.self l.fn.f) (tree l.self l.at) l.point.items;
}

abbrev pub decreases-loop-node : goal.decreases-loop-node
decreases-loop-node l = place l.at

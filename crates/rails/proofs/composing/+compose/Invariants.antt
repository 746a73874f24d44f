use Rattle.bdd.specs.Diagram.{tree}
use Rattle.rails.specs.Compose.{height}
use Rattle.rails.proofs.composing.+compose.Given as goal

abbrev pub decreases-compose : goal.decreases-compose
decreases-compose l = height (tree l.graph.now l.f)

use Rattle.bdd.specs.Diagram.{place}
use Rattle.bdd.proofs.Graph.+copy.Given as goal

abbrev pub decreases-copy : goal.decreases-copy
decreases-copy l = place l.f

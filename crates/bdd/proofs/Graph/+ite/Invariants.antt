use Rattle.std.proofs.Common.{◌+◌}
use Rattle.bdd.specs.Diagram.{place}
use Rattle.bdd.proofs.Graph.+ite.Given as goal

abbrev pub decreases-ite : goal.decreases-ite
decreases-ite l = place l.f + place l.g + place l.h

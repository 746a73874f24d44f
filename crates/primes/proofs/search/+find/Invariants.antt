use Rattle.std.proofs.Common.{◌-◌}
use Rattle.bdd.specs.Tree.{first_variable}
use Rattle.bdd.specs.Diagram.{tree}
use Rattle.primes.proofs.search.+find.Given as goal

abbrev pub decreases-find : goal.decreases-find
decreases-find l = l.graph.now.vars - first_variable l.graph.now.vars (tree l.graph.now l.f)

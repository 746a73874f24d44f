use Rattle.std.proofs.Common.{◌≡◌}
use Rattle.bdd.proofs.GraphLemmas.{first_keys, first_graph, first_trees, one_alone}
use Rattle.bdd.specs.Graph.{IsGraph}
use Rattle.bdd.proofs.Graph.new.Goals as goal
use Rattle.bdd.proofs.Graph.new.Goals.{After-new-memo}

keys : (c : After-new-memo) → c.insert.new.self.keys ≡ one_alone
keys c = first_keys c.new-nodes.result.keys c.insert.new.self.keys c.new-nodes.ensures.empty c.in_ok-insert.ensures.keys

graph : (c : After-new-memo) → IsGraph (record { vars = c.args.vars; nodes = c.insert.new.self; memo = c.new-memo.result })
graph c = first_graph (record { vars = c.args.vars; nodes = c.insert.new.self; memo = c.new-memo.result }) (keys c) c.new-memo.ensures.empty

pub invariant_of-result : goal.invariant_of-result
invariant_of-result c = graph c

pub returns-clause-nodes : goal.returns-clause-nodes
returns-clause-nodes c = first_trees c.insert.new.self.keys (keys c)

pub returns-clause-canonical : goal.returns-clause-canonical
returns-clause-canonical c = (graph c).canonical

use Rattle.std.proofs.Common.{sym, length, ◌∙◌, ap}
use Rattle.bdd.specs.Diagram.{Diagram}
use Rattle.bdd.proofs.TableLemmas.{length_trees}
use Rattle.bdd.proofs.Graph.nodes.Goals as goal

pub returns-clause-nodes : goal.returns-clause-nodes
returns-clause-nodes c = c.len.ensures.len ∙ sym (length_trees c.self.inside.nodes.keys) ∙ ap (λ (d : Diagram). length d.trees) c.self.view_is

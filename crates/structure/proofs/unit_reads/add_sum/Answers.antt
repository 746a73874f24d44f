use Rattle.std.proofs.Common.{◌∙◌, List, ap}
use Rattle.mig_base.specs.declared.circuit.Literal.{Literal}
use Rattle.mig_base.specs.Values.{product_reads}
use Rattle.structure.specs.NodeSets.{with_nodes}
use Rattle.structure.proofs.Adding.{one-more_term}
use Rattle.structure.proofs.unit_reads.add_sum.Goals as goal

pub loop-term-preserved : goal.loop-term-preserved
loop-term-preserved c =
    one-more_term c.args.set.now c.loop-term.set c.add_product.new.set c.args.terms.now c.loop-term.term-index c.term-item.result c.loop-term-test.true c.term-item.is c.loop-term.invariant
    (c.add_product.ensures ∙ ap (λ (lits : List Literal). with_nodes c.loop-term.set (product_reads lits)) c.items.ensures)

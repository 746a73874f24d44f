use Rattle.std.proofs.Common.{List, sym, subst}
use Rattle.std.proofs.lemmas.List.{take_more}
use Rattle.mig_base.specs.declared.circuit.Read.{Read}
use Rattle.reader_lists.specs.Tables.{AddsNodes}
use Rattle.reader_lists.proofs.Adding.{nodes-more}
use Rattle.reader_lists.proofs.building.add_nodes.Goals as goal

pub loop-node-preserved : goal.loop-node-preserved
loop-node-preserved c =
    subst (λ (some : List Read). AddsNodes c.args.circuit.now c.args.readers.now some c.add_node.new.readers) (sym (take_more c.args.nodes.now c.loop-node.node-index _ c.loop-node-test.true))
    (nodes-more c.args.circuit.now c.args.readers.now c.loop-node.readers c.add_node.new.readers _ _ c.loop-node.invariant c.in_ok-add_node.ensures)

use Rattle.std.proofs.Common.{List, sym, subst, ◌∙◌}
use Rattle.std.proofs.lemmas.List.{take_more}
use Rattle.mig_base.specs.declared.circuit.Read.{Read}
use Rattle.ranks.specs.Graphs.{ReadBy}
use Rattle.ranks.proofs.Graphing.{reads-more}
use Rattle.ranks.proofs.graph.all_readers.Goals as goal

pub loop-node-preserved : goal.loop-node-preserved
loop-node-preserved c =
    let nodes = c.args.nodes.now in
    subst (λ (some : List Read). ReadBy c.args.circuit.now some c.add_reader.new.readers) (sym (take_more nodes c.loop-node.node-index _ c.loop-node-test.true))
    (reads-more c.args.circuit.now _ c.loop-node.readers c.add_reader.new.readers _ c.of.result.now (c.of.ensures ∙ c.requires.is _) c.loop-node.invariant c.in_ok-add_reader.ensures)

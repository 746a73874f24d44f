use Rattle.std.proofs.Common.{List, sym, subst}
use Rattle.std.proofs.lemmas.List.{take_more}
use Rattle.mig_base.specs.declared.circuit.Read.{Read}
use Rattle.ranks.specs.Graphs.{AddsReader}
use Rattle.ranks.proofs.Graphing.{adds-more}
use Rattle.ranks.proofs.graph.add_reader.Goals as goal

pub loop-read-preserved : goal.loop-read-preserved
loop-read-preserved c =
    let reads = c.args.reads.now in
    subst (λ (some : List Read). AddsReader c.args.readers.now c.args.node some c.add.new.self) (sym (take_more reads c.loop-read.read-index _ c.loop-read-test.true))
    (adds-more c.args.readers.now c.loop-read.readers c.add.new.self c.args.node _ _ c.loop-read.invariant c.in_ok-add.ensures)

use Rattle.mig_base.specs.Values.{row_reads}
use Rattle.structure.specs.Live.{part_reads}
use Rattle.structure.proofs.Adding.{then-nodes}
use Rattle.structure.proofs.unit_reads.add_unit.Goals as goal

pub returns : goal.returns
returns c =
    let d = c.args.unit.now in
    then-nodes c.args.set.now c.add_row.new.set c.add_part.new.set (row_reads d.enable) (part_reads c.args.circuit.now d.gives) c.add_row.ensures c.add_part.ensures

use Rattle.std.proofs.Common.{◌∙◌, ◌++◌, List, ap}
use Rattle.mig_base.specs.declared.circuit.Literal.{Literal}
use Rattle.mig_base.specs.Values.{row_reads, sum_reads}
use Rattle.structure.specs.NodeSets.{with_nodes}
use Rattle.structure.proofs.Adding.{then-nodes}
use Rattle.structure.proofs.unit_reads.add_register.Goals as goal

pub returns : goal.returns
returns c =
    let r = c.args.register.now in
    then-nodes c.args.set.now c.add_row.new.set c.add_row-2.new.set (sum_reads r.terms ++ row_reads r.preset) (row_reads r.reset)
    (then-nodes c.args.set.now c.add_sum.new.set c.add_row.new.set (sum_reads r.terms) (row_reads r.preset)
    (c.add_sum.ensures ∙ ap (λ (terms : List (List Literal)). with_nodes c.args.set.now (sum_reads terms)) c.items.ensures) c.add_row.ensures)
    c.add_row-2.ensures

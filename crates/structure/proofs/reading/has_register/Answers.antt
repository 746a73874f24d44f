use Rattle.std.proofs.Common.{◌∙◌, ◌++◌, sym}
use Rattle.mig_base.specs.Values.{row_reads, sum_reads}
use Rattle.structure.specs.NodeSets.{contains}
use Rattle.structure.proofs.Passing.{both-pass, first-fails}
use Rattle.structure.proofs.reading.has_register.Goals as goal

pub returns-then-has_data : goal.returns-then-has_data
returns-then-has_data c =
    let r = c.args.register.now in
    both-pass (contains c.args.set.now) (sum_reads r.terms ++ row_reads r.preset) (row_reads r.reset) c.has_row.result (sym c.has_data.ensures ∙ c.if-has_data.true) c.has_row.ensures

pub returns-else-has_data : goal.returns-else-has_data
returns-else-has_data c =
    let r = c.args.register.now in
    first-fails (contains c.args.set.now) (sum_reads r.terms ++ row_reads r.preset) (row_reads r.reset) c.has_data.result (sym c.has_data.ensures ∙ c.if-has_data.false) c.if-has_data.false

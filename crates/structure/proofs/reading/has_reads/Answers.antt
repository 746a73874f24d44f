use Rattle.std.proofs.Common.{◌∙◌, sym}
use Rattle.mig_base.specs.Values.{row_reads}
use Rattle.mig_base.specs.Reads.{gives_reads}
use Rattle.structure.specs.NodeSets.{contains}
use Rattle.structure.proofs.Passing.{both-pass, first-fails}
use Rattle.structure.proofs.reading.has_reads.Goals as goal

pub returns-then-has_row : goal.returns-then-has_row
returns-then-has_row c =
    both-pass (contains c.args.set.now) (row_reads c.args.driver.now.enable) (gives_reads c.args.driver.now.gives) c.has_gives.result (sym c.has_row.ensures ∙ c.if-has_row.true) c.has_gives.ensures

pub returns-else-has_row : goal.returns-else-has_row
returns-else-has_row c =
    first-fails (contains c.args.set.now) (row_reads c.args.driver.now.enable) (gives_reads c.args.driver.now.gives) c.has_row.result (sym c.has_row.ensures ∙ c.if-has_row.false) c.if-has_row.false

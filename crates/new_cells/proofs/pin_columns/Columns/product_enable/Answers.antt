use Rattle.std.proofs.Common.{sym, ◌∙◌}
use Rattle.new_cells.proofs.CodeColumns.{enable-term}
use Rattle.new_cells.proofs.pin_columns.Columns.product_enable.Goals as goal

pub returns : goal.returns
returns c = enable-term c.args.self.now.nets.old.now c.args.self.now.nets.chip.now c.args.lits.now c.in_ok-product.product (sym c.is_empty.ensures ∙ c.if-is_empty.false) c.in_ok-product.ensures

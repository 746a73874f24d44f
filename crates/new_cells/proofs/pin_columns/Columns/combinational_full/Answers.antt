use Rattle.new_cells.proofs.pin_columns.Columns.combinational_full.Goals as goal

pub returns-in-Product : goal.returns-in-Product
returns-in-Product c = rw (c.in-Product.is, ← c.items.ensures) c.enabled_full.ensures

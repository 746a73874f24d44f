use Rattle.avail.proofs.needed.push_gate.Goals as goal

pub returns-in-Product : goal.returns-in-Product
returns-in-Product c = rw (c.in-Product.is, ← c.items.ensures) c.push_product.ensures

use Rattle.new_circuits.proofs.SeenRows.{product-seen}
use Rattle.new_circuits.proofs.new_products_are_seen.Goals as goal

pub returns : goal.returns
returns c = λ b chips j chip found lits. product-seen b chips j chip found lits

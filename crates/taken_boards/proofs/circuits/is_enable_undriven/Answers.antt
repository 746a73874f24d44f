use Rattle.taken_boards.specs.TakenBoards.{is_undriven}
use Rattle.taken_boards.proofs.circuits.is_enable_undriven.Goals as goal
use Rattle.mig_base.proofs.ReadLaws.{all-product_reads}

pub returns-in-Product : goal.returns-in-Product
returns-in-Product c = let e = all-product_reads (is_undriven c.args.circuit.now) c.in-Product.lits in rw c.in-Product.is (cc e)

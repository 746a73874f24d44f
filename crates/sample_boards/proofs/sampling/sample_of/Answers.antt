use Rattle.std.proofs.Common.{List, subst}
use Rattle.mig_base.specs.declared.nets.ChipLine.{ChipLine}
use Rattle.mig_base.specs.Given.{AreMade}
use Rattle.net_text.proofs.BoardGiven.{given-writable}
use Rattle.sample_boards.proofs.sampling.sample_of.Goals as goal

pub joined-requires : goal.joined-requires
joined-requires c = record { wiring = given-writable c.args.net.now c.in_ok-wiring.wiring c.in_ok-wiring.ensures; cells = subst (λ (lines : List ChipLine). AreMade lines c.in_ok-chips.chips.items) c.items-2.ensures c.in_ok-chips.ensures }

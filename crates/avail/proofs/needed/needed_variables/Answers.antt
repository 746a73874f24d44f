use Rattle.std.proofs.Common.{ap}
use Rattle.new_board.specs.NewChip.{OldBoard}
use Rattle.avail.proofs.CodeNeeded.{needed-read}
use Rattle.avail.proofs.needed.needed_variables.Goals as goal

pub returns : goal.returns
returns c = cc (c.in_ok-variables.ensures, c.as_slice.ensures.value, c.as_slice-2.ensures.value, c.old.invariant.variables_are, needed-read c.old.inside.circuit.now c.args.chip.now c.in_ok-reads.reads.items c.in_ok-reads.ensures, ap (λ (b : OldBoard). b.circuit) c.old.view_is)

use Rattle.std.proofs.Common.{◌<◌, length, sym, subst, arith}
use Rattle.std.specs.List.{All}
use Rattle.mig_base.specs.Boards.{ChipUnit}
use Rattle.equations.proofs.UnitsWithin.{units-within}
use Rattle.avail.proofs.old_board.Old.new.Goals as goal

pub invariant_of-result : goal.invariant_of-result
invariant_of-result c = record {
  numbered_is = c.in_ok-numbers.ensures;
  variables_are = c.in_ok-variables.ensures;
  few_nets = c.requires.nets;
  few_chips = c.requires.lines;
  within =
      subst (All (λ (u : ChipUnit). u.chip < length c.args.net.now.chips)) (sym c.in_ok-units.ensures)
      (units-within 0 (length c.args.net.now.chips) c.args.chips.now (omega (arith, c.requires.chips)));
}

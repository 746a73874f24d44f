use Rattle.std.proofs.Common.{◌≡◌, ◌++◌, drop, ◌&&◌}
use Rattle.std.specs.Prelude.{filter, not, is_some}
use Rattle.new_board.specs.NewChip.{is_read}
use Rattle.new_board.specs.InputPins.{wire_for}
use Rattle.avail.proofs.taking.input_variables.Given as goal

abbrev pub invariant-loop-variable : goal.invariant-loop-variable
invariant-loop-variable l =
    l.variables.items ++ filter (λ v. not (is_read l.nets.old.now l.nets.chip.now v) && is_some (wire_for l.nets.old.now v)) (drop l.variable-index l.needed)
    ≡ filter (λ v. not (is_read l.nets.old.now l.nets.chip.now v) && is_some (wire_for l.nets.old.now v)) l.needed

use Rattle.std.proofs.Common.{◌≡◌, drop}
use Rattle.std.specs.Prelude.{filter}
use Rattle.new_board.specs.NewChip.{first_of, is_literal_of}
use Rattle.avail.specs.ServedVariables.{pin_reads_by}
use Rattle.avail.proofs.chip_nets.reading_pin.Given as goal

abbrev pub invariant-loop-pin : goal.invariant-loop-pin
invariant-loop-pin l =
    first_of (filter (λ pin. is_literal_of l.variable (pin_reads_by l.nets.old.now l.nets.chip.now l.taken pin)) (drop l.pin-index l.pin-items))
    ≡ first_of (filter (λ pin. is_literal_of l.variable (pin_reads_by l.nets.old.now l.nets.chip.now l.taken pin)) l.pin-items)

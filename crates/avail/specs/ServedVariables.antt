-- The input pins of a new chip by the variables that it needs, and what its pins read with them.
use Rattle.std.specs.Prelude.{ℕ, not, ◌&&◌, ◌||◌, Bool, List, [], filter, Option, is_some, option_and_then}
use Rattle.mig_base.specs.First.{or_else}
use Rattle.mig_base.specs.declared.circuit.Read.{Read}
use Rattle.mig_base.specs.declared.circuit.Literal.{Literal}
use Rattle.mig_base.specs.DeviceTables.{pair_pins}
use Rattle.new_board.specs.NewChip.{OldBoard, NewChip, fixed_net, register_on, read_by, is_literal_of, is_read, first_of}
use Rattle.new_board.specs.InputPins.{Taken, wire_for, free_pins, has_pin, take_pins, stood, anywhere, input_at}

-- those of these variables that take an input pin: not read already, and to be wired
abbrev pub wanting : OldBoard → NewChip → List Read → List Read
wanting b chip needed = filter (λ v. not (is_read b chip v) && is_some (wire_for b v)) needed

-- the input pins where these variables are needed: first each takes the lowest free pin where it stood on the old chip of the same name,
-- then the rest take the lowest free pins
abbrev pub pins_for : OldBoard → NewChip → List Read → List Taken
pins_for b chip needed =
    take_pins anywhere (free_pins b chip) (take_pins (stood b chip) (free_pins b chip) [] (wanting b chip needed)) (wanting b chip needed)

-- the net that a pin stands on, with these input pins
abbrev pub pin_net_by : OldBoard → NewChip → List Taken → ℕ → Option ℕ
pin_net_by b chip taken pin = or_else (fixed_net b chip pin) (option_and_then (wire_for b) (input_at taken pin))

-- what the columns of a pin read
abbrev pub pin_reads_by : OldBoard → NewChip → List Taken → ℕ → Option Literal
pin_reads_by b chip taken pin = read_by b.circuit (register_on b.circuit chip pin) (pin_net_by b chip taken pin)

-- the first pin, by rising column, whose columns read a variable
abbrev pub reading_pin_by : OldBoard → NewChip → List Taken → Read → Option ℕ
reading_pin_by b chip taken v = first_of (filter (λ pin. is_literal_of v (pin_reads_by b chip taken pin)) (pair_pins chip.kind chip.mode))

-- whether a variable is read: it needs no input pin, or has one
abbrev pub is_served_by : OldBoard → NewChip → List Taken → Read → Bool
is_served_by b chip taken v = is_read b chip v || has_pin taken v

-- the first of the needed variables that is not
abbrev pub first_unserved_by : OldBoard → NewChip → List Taken → List Read → Option Read
first_unserved_by b chip taken needed = first_of (filter (λ v. not (is_served_by b chip taken v)) needed)

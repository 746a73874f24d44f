-- The input pins of a new chip.
use Rattle.std.specs.Prelude.{ℕ, ◌+◌, Bool, true, false, not, ◌&&◌, ◌||◌, ◌==◌, List, [], ◌∷◌, ◌++◌, filter, if◌then◌else◌, Option, Some, None, is_some, is_none, option_and_then}
use Rattle.std.specs.List.{list_any}
use Rattle.std.specs.Str.{bytes_eq}
use Rattle.mig_base.specs.First.{or_else}
use Rattle.mig_base.specs.declared.kinds.Kind.{Kind}
use Rattle.mig_base.specs.declared.nets.ChipLine.{ChipLine}
use Rattle.mig_base.specs.declared.circuit.Read.{Read}
use Rattle.mig_base.specs.declared.circuit.Literal.{Literal}
use Rattle.mig_base.specs.declared.circuit.Read.TheVariants.{OfNet, OfRegister}
use Rattle.mig_base.specs.DeviceTables.{pair_pins, ordinary_pins, is_ordinary, clock_pin}
use Rattle.mig_base.specs.Boards.{net_of}
use Rattle.mig_base.specs.Structure.{same_read, variable_of}
use Rattle.new_board.specs.NewChip.{OldBoard, NewChip, unit_on, register_on, clock_net, alias_net, can_stand, when, fixed_net, read_by, is_literal_of, is_read, first_of, needed_variables}

-- the net by which a variable can be wired to an input pin: of a register its alias net, if that is named
abbrev pub wire_for : OldBoard → Read → Option ℕ
wire_for b (OfNet n) = when (can_stand b n) (Some n)
wire_for b (OfRegister k) = alias_net b k

-- a pin that may become an input pin: it has columns, holds no unit, and is not the clock pin of registered units
abbrev pub is_free : OldBoard → NewChip → ℕ → Bool
is_free b chip pin =
    list_any (λ p. p == pin) (pair_pins chip.kind chip.mode) && is_none (unit_on chip.units pin)
    && not ((pin == clock_pin chip.kind) && is_some (clock_net b.circuit chip))

-- the pins that may become input pins, rising
abbrev pub free_pins : OldBoard → NewChip → List ℕ
free_pins b chip = filter (is_free b chip) (ordinary_pins chip.kind)

-- the variables that take an input pin, in variable order: needed, not read already, and to be wired
abbrev pub input_variables : OldBoard → NewChip → List Read
input_variables b chip = filter (λ v. not (is_read b chip v) && is_some (wire_for b v)) (needed_variables b.circuit chip)

-- a variable on an input pin
abbrev pub Taken : Type 0
Taken = Read × ℕ

-- whether a variable has an input pin
abbrev pub has_pin : List Taken → Read → Bool
has_pin taken v = list_any (λ t. same_read t.0 v) taken

-- whether a pin has a variable
abbrev pub is_taken : List Taken → ℕ → Bool
is_taken taken pin = list_any (λ t. t.1 == pin) taken

-- a variable takes a pin, if one is left
abbrev pub taking : List Taken → Read → Option ℕ → List Taken
taking taken v None = taken
taking taken v (Some pin) = taken ++ (v, pin) ∷ []

-- each variable that has no pin yet takes the first of these pins that is not taken and suits it
abbrev pub take_pins : (Read → ℕ → Bool) → List ℕ → List Taken → List Read → List Taken
take_pins suits pins taken [] = taken
take_pins suits pins taken (v ∷ vs) =
    take_pins suits pins (if has_pin taken v then taken else taking taken v (first_of (filter (λ p. not (is_taken taken p) && suits v p) pins))) vs

-- the number and the kind of the first chip of this name, from here on
abbrev pub chip_from : ℕ → List ChipLine → List ℕ → Option (ℕ × Kind)
chip_from j [] name = None
chip_from j (c ∷ cs) name = if bytes_eq name c.name then Some (j, c.kind) else chip_from (j + 1) cs name

-- whether the pin of an old chip that is there is ordinary, and stands on a net of the variable
abbrev pub stood_on : OldBoard → Read → ℕ → Option (ℕ × Kind) → Bool
stood_on b v pin None = false
stood_on b v pin (Some old) = is_ordinary old.1 pin && same_read (variable_of b.circuit (net_of b.net (old.0, pin))) v

-- whether the pin of this number of the old chip of the same name stands on a net of the variable
abbrev pub stood : OldBoard → NewChip → Read → ℕ → Bool
stood b chip v pin = stood_on b v pin (chip_from 0 b.net.chips chip.name)

-- each pin suits each variable
abbrev pub anywhere : Read → ℕ → Bool
anywhere v pin = true

-- first each variable takes the lowest free pin where it stood on the old chip of the same name, then the rest take the lowest free pins
abbrev pub input_pins : OldBoard → NewChip → List Taken
input_pins b chip =
    take_pins anywhere (free_pins b chip) (take_pins (stood b chip) (free_pins b chip) [] (input_variables b chip)) (input_variables b chip)

-- the variable on an input pin
abbrev pub input_at : List Taken → ℕ → Option Read
input_at [] pin = None
input_at (t ∷ ts) pin = if t.1 == pin then Some t.0 else input_at ts pin

-- the net that a pin of the new chip stands on
abbrev pub pin_net : OldBoard → NewChip → ℕ → Option ℕ
pin_net b chip pin = or_else (fixed_net b chip pin) (option_and_then (wire_for b) (input_at (input_pins b chip) pin))

-- what the columns of a pin of the new chip read
abbrev pub pin_reads : OldBoard → NewChip → ℕ → Option Literal
pin_reads b chip pin = read_by b.circuit (register_on b.circuit chip pin) (pin_net b chip pin)

-- the first pin, by rising column, whose columns read a variable
abbrev pub reading_pin : OldBoard → NewChip → Read → Option ℕ
reading_pin b chip v = first_of (filter (λ pin. is_literal_of v (pin_reads b chip pin)) (pair_pins chip.kind chip.mode))

-- whether a needed variable is read: it needs no input pin, or has one
abbrev pub is_served : OldBoard → NewChip → Read → Bool
is_served b chip v = is_read b chip v || has_pin (input_pins b chip) v

-- the first needed variable that is not
abbrev pub first_unserved : OldBoard → NewChip → Option Read
first_unserved b chip = first_of (filter (λ v. not (is_served b chip v)) (needed_variables b.circuit chip))

-- What a new chip asks of its pins, and what it gets.
use Rattle.std.specs.Prelude.{ℕ, ◌≡◌, true, ◌&&◌, ◌==◌, List, map, Option, Some, None, option_and_then}
use Rattle.std.specs.List.{filter_map}
use Rattle.std.specs.Option.{option_map}
use Rattle.mig_base.specs.declared.circuit.Read.{Read}
use Rattle.mig_base.specs.declared.nets.Var.{Var}
use Rattle.mig_base.specs.Among.{Among}
use Rattle.mig_base.specs.DeviceTables.{ordinary_pins, pair_pins, enable_pin, is_v8}
use Rattle.board.specs.Joined.{Joined}
use Rattle.board.specs.Variables.{read_of, var_of}
use Rattle.new_board.specs.declared.types.PinNet.{PinNet}
use Rattle.new_board.specs.declared.types.PlacedUnit.{PlacedUnit}
use Rattle.new_board.specs.NewChip.{OldBoard, NewChip, first_registered, needed_variables}
use Rattle.new_board.specs.InputPins.{Taken, wire_for, input_at, input_pins, reading_pin, first_unserved}
use Rattle.new_board.specs.NewFiles.{wire_at}
use Rattle.new_board.specs.OneForOne.{old_board, no_rows}
use Rattle.avail.specs.declared.needs.PinUnit.{PinUnit}
use Rattle.avail.specs.declared.needs.ChipNeed.{ChipNeed}
use Rattle.avail.specs.declared.needs.VarPin.{VarPin}
use Rattle.avail.specs.declared.needs.PinReads.{PinReads}
use Rattle.avail.specs.declared.needs.AvailError.{AvailError}
use Rattle.avail.specs.declared.needs.AvailError.TheVariants.{NoInput, Memory}
use Rattle.avail.specs.declared.needed_inputs.Found.{Found}
use Rattle.avail.specs.declared.needed_inputs.Found.TheVariants.{Reads, Without}
use Rattle.avail.specs.ServedVariables.{pins_for, reading_pin_by, first_unserved_by}

-- a joined board as one that is rebuilt
abbrev pub board_of : Joined → OldBoard
board_of b = old_board b.net b.chips

-- a unit on its pin, without rows
abbrev pub bare_unit : PinUnit → PlacedUnit
bare_unit u = no_rows u.pin u.unit

-- the chip of a need, its units without rows
abbrev pub need_chip : ChipNeed → NewChip
need_chip need = record { name = need.name; kind = need.kind; mode = need.mode; units = map bare_unit need.units }

-- the input pins of variables on a chip
abbrev pub pins_on : Joined → OldBoard → NewChip → List Var → List Taken
pins_on b old chip vars = pins_for old chip (map (read_of b.chips) vars)

-- the first of the variables that no column reads
abbrev pub left_on : Joined → OldBoard → NewChip → List Var → Option Read
left_on b old chip vars = first_unserved_by old chip (pins_on b old chip vars) (map (read_of b.chips) vars)

-- the line of an input pin, if it has one
abbrev pub input_wire : OldBoard → List Taken → ℕ → Option PinNet
input_wire b taken pin = wire_at b pin (option_and_then (wire_for b) (input_at taken pin))

-- the lines of the input pins, rising
abbrev pub input_wires : OldBoard → NewChip → List Taken → List PinNet
input_wires b chip taken = filter_map (input_wire b taken) (ordinary_pins chip.kind)

-- a variable with the pin whose columns read it
abbrev pub column_at : Joined → OldBoard → NewChip → List Taken → Var → Option VarPin
column_at b old chip taken v = option_map (λ pin. record { var = v; pin = pin }) (reading_pin_by old chip taken (read_of b.chips v))

-- the variables with the pins whose columns read them
abbrev pub columns_on : Joined → OldBoard → NewChip → List Var → List VarPin
columns_on b old chip vars = filter_map (column_at b old chip (pins_on b old chip vars)) vars

-- what the pins of a chip read for these variables, all of which are read
pub record AreReads (b : Joined) (old : OldBoard) (chip : NewChip) (vars : List Var) (reads : PinReads) : Type 0 where
  pub served : left_on b old chip vars ≡ None
  pub wires : reads.wires ≡ input_wires old chip (pins_on b old chip vars)
  pub columns : reads.columns ≡ columns_on b old chip vars

-- what the pins read, or the first variable that isn't read
abbrev pub IsFound : Joined → OldBoard → NewChip → List Var → Found → Type 0
IsFound b old chip vars (Reads reads) = AreReads b old chip vars reads
IsFound b old chip vars (Without v) = option_map (var_of b.chips) (left_on b old chip vars) ≡ Some v

-- the input pins of a need
abbrev pub need_pins : Joined → ChipNeed → List Taken
need_pins b need = pins_on b (board_of b) (need_chip need) need.vars

-- the first needed variable that no column reads
abbrev pub first_left : Joined → ChipNeed → Option Read
first_left b need = left_on b (board_of b) (need_chip need) need.vars

-- the lines of a need's input pins, rising
abbrev pub need_wires : Joined → ChipNeed → List PinNet
need_wires b need = input_wires (board_of b) (need_chip need) (need_pins b need)

-- the needed variables with the pins whose columns read them
abbrev pub need_columns : Joined → ChipNeed → List VarPin
need_columns b need = columns_on b (board_of b) (need_chip need) need.vars

-- the first needed variable that no column reads is the one that is named
abbrev pub RefusesNeed : Joined → ChipNeed → AvailError → Type 0
RefusesNeed b need (NoInput v) = option_map (var_of b.chips) (first_left b need) ≡ Some v
RefusesNeed b need Memory = Unit {0}

-- a new chip's unit without its rows
abbrev pub stripped : PlacedUnit → PlacedUnit
stripped x = no_rows x.pin x.unit

-- a new chip with its units without rows
abbrev pub bare : NewChip → NewChip
bare chip = record { name = chip.name; kind = chip.kind; mode = chip.mode; units = map stripped chip.units }

-- a new chip whose need this is: its units stand on these pins, its rows need these variables, and where it has registered units on a V8 the
-- enable pin has no columns, as in registered mode
pub record HasNeed (b : Joined) (need : ChipNeed) (chip : NewChip) : Type 0 where
  pub same : bare chip ≡ need_chip need
  pub vars : needed_variables (board_of b).circuit chip ≡ map (read_of b.chips) need.vars
  pub apart : (pin : ℕ) → Among pin (pair_pins chip.kind chip.mode) → (is_v8 chip.kind && (pin == enable_pin chip.kind)) ≡ true → first_registered (board_of b).circuit chip ≡ None

-- what is said of a need is what is said of the chip
pub record IsOfChip (b : Joined) (need : ChipNeed) (chip : NewChip) : Type 0 where
  pub pins : need_pins b need ≡ input_pins (board_of b) chip
  pub left : first_left b need ≡ first_unserved (board_of b) chip
  pub reads : (v : Read) → reading_pin_by (board_of b) (need_chip need) (need_pins b need) v ≡ reading_pin (board_of b) chip v

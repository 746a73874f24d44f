-- What stands for the literals of an old board on a new chip.
use Rattle.std.specs.Prelude.{ℕ, List, [], ◌∷◌, if◌then◌else◌, Option, Some, None, is_some}
use Rattle.mig_base.specs.declared.cells.Source.{Source}
use Rattle.mig_base.specs.declared.cells.Source.TheVariants.{Pin, Reg}
use Rattle.mig_base.specs.declared.cells.Lit.{Lit}
use Rattle.mig_base.specs.declared.circuit.Literal.{Literal}
use Rattle.mig_base.specs.Bools.{same_bool}
use Rattle.new_board.specs.NewChip.{OldBoard, NewChip, register_on, is_literal_of}
use Rattle.new_board.specs.InputPins.{pin_reads}

-- the columns of a pin: their source on the new chip, and what they read of the old board
abbrev pub PinColumns : Type 0
PinColumns = Source × Option Literal

-- those of a pin of a new chip
abbrev pub pin_columns : OldBoard → NewChip → ℕ → PinColumns
pin_columns b chip pin = (if is_some (register_on b.circuit chip pin) then Reg pin else Pin pin, pin_reads b chip pin)

-- a literal as one of these columns
abbrev pub lit_by : PinColumns → Literal → Option Lit
lit_by (source, None) x = None
lit_by (source, Some y) x = Some (record { source = source; high = same_bool x.high y.high })

-- the literal of the first columns that read the variable
abbrev pub lit_among : List PinColumns → Literal → Option Lit
lit_among [] x = None
lit_among (c ∷ cs) x = if is_literal_of x.source c.1 then lit_by c x else lit_among cs x

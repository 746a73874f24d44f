-- Units of new chips that are marked by whether they have a full row.
use Rattle.std.specs.Prelude.{ℕ, ◌==◌, Bool, false, List, [], ◌∷◌, map, Option, Some, if◌then◌else◌}
use Rattle.std.specs.Str.{bytes_eq}
use Rattle.mig_base.specs.declared.plans.Breach.{Breach}
use Rattle.mig_base.specs.declared.plans.Breach.TheVariants as breach
use Rattle.new_board.specs.declared.types.PlacedUnit.{PlacedUnit}
use Rattle.new_board.specs.NewChip.{OldBoard, NewChip, when}
use Rattle.new_board.specs.NewFiles.{has_full_row}
use Rattle.plans.specs.declared.placing.Placing.{Placing}
use Rattle.fit.specs.declared.marks.UnitMark.{UnitMark}
use Rattle.fit.specs.declared.marks.ChipMarks.{ChipMarks}

-- the mark of a unit
abbrev pub mark_of : OldBoard → NewChip → PlacedUnit → UnitMark
mark_of b chip u = record { pin = u.pin; full = has_full_row b chip u }

-- the marks of a chip
abbrev pub marks_of : OldBoard → NewChip → ChipMarks
marks_of b chip = record { name = chip.name; units = map (mark_of b chip) chip.units }

-- whether the first unit that stands on a pin has a full row
abbrev pub full_at : List UnitMark → ℕ → Bool
full_at [] pin = false
full_at (m ∷ ms) pin = if m.pin == pin then m.full else full_at ms pin

-- whether the unit on a pin of the first chip of this name has one
abbrev pub full_on : List ChipMarks → List ℕ → ℕ → Bool
full_on [] name pin = false
full_on (m ∷ ms) name pin = if bytes_eq m.name name then full_at m.units pin else full_on ms name pin

-- the breach of a placed unit with a full row
abbrev pub full_row : List ChipMarks → Placing → Option Breach
full_row chips x = when (full_on chips x.chip.name x.pin) (Some (breach.FullRow x.name))

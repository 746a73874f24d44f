-- What a board is made of: a wiring that a text can give, and for each chip the cells that some fuses of its kind make.
use Rattle.std.specs.Prelude.{◌≡◌, Bool, List, [], ◌∷◌, Ok}
use Rattle.mig_base.specs.declared.cells.ChipCells.{ChipCells}
use Rattle.mig_base.specs.declared.nets.Net.{Net}
use Rattle.mig_base.specs.declared.nets.ChipLine.{ChipLine}
use Rattle.mig_base.specs.Cells.{cells_of}
use Rattle.mig_base.specs.WrittenBoard.{IsWritable}

-- some fuses of the chip's kind make these cells
abbrev pub IsMade : ChipLine → ChipCells → Type 0
IsMade line cells = (bits : List Bool) × (cells_of line.kind bits ≡ Ok cells)

-- each chip has the cells that some fuses make
abbrev pub AreMade : List ChipLine → List ChipCells → Type 0
AreMade [] [] = Unit {0}
AreMade [] (c ∷ cs) = ⊥
AreMade (line ∷ lines) [] = ⊥
AreMade (line ∷ lines) (c ∷ cs) = IsMade line c × AreMade lines cs

-- a wiring and chips that make a board
pub record IsGiven (net : Net) (chips : List ChipCells) : Type 0 where
  pub wiring : IsWritable net
  pub cells : AreMade net.chips chips

-- A chip whose fuse text is read back.
use Rattle.std.specs.Prelude.{◌≡◌, ◌≤◌, length, Ok}
use Rattle.mig_base.specs.declared.cells.ChipCells.{ChipCells}
use Rattle.mig_base.specs.Cells.{cells_of}
use Rattle.mig_base.specs.FuseText.{fuses_of_text}
use Rattle.mig_base.specs.Limits.{most_file_bytes}
use Rattle.mig_base.specs.WrittenFuses.{written_fuses}
use Rattle.new_board.specs.Files.{chip_fuses}

-- the text of its fuses is no longer than a file may be, it says these fuses, and they make the cells again
pub record IsReadBack (c : ChipCells) : Type 0 where
  pub short : length (written_fuses c.kind (chip_fuses c)) ≤ most_file_bytes
  pub fuses : fuses_of_text (written_fuses c.kind (chip_fuses c)) ≡ Ok (chip_fuses c)
  pub made : cells_of c.kind (chip_fuses c) ≡ Ok c

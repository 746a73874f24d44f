-- The files of a new board.
use Rattle.std.specs.Prelude.{ℕ, Bool, List, [], ◌∷◌, ◌++◌, map, Option, Some, None, if◌then◌else◌, codes}
use Rattle.mig_base.specs.declared.cells.ChipCells.{ChipCells}
use Rattle.mig_base.specs.declared.nets.Net.{Net}
use Rattle.mig_base.specs.declared.plans.Plan.{Plan}
use Rattle.mig_base.specs.DeviceTables.{is_22}
use Rattle.mig_base.specs.Names.{file_name_of}
use Rattle.mig_base.specs.Written22.{v22_fuses}
use Rattle.mig_base.specs.WrittenBoard.{written_net}
use Rattle.mig_base.specs.WrittenCells.{v8_fuses}
use Rattle.mig_base.specs.WrittenFuses.{written_fuses}
use Rattle.mig_base.specs.WrittenPlan.{written_plan}
use Rattle.new_board.specs.declared.types.FittedChip.{FittedChip}
use Rattle.new_board.specs.NewFiles.{new_net}

-- the fuses that are written for a chip's cells, by its kind
abbrev pub chip_fuses : ChipCells → List Bool
chip_fuses c = if is_22 c.kind then v22_fuses c else v8_fuses c

-- a file by what stands behind the stem: the name of a chip, if it is one's, and the ending
pub record NewFile : Type 0 where
  pub chip : Option (List ℕ)
  pub ending : List ℕ
  pub bytes : List ℕ

abbrev pub fuse_file : FittedChip → NewFile
fuse_file f = record { chip = Some f.name; ending = codes "jed"; bytes = written_fuses f.cells.kind (chip_fuses f.cells) }

-- the plan, and then the wiring
abbrev pub last_files : Plan → Net → List NewFile
last_files plan net =
    record { chip = None; ending = codes "plan"; bytes = written_plan plan }
    ∷ record { chip = None; ending = codes "net"; bytes = written_net net } ∷ []

-- of an old wiring, a plan and what is built by it: a fuse text for each chip in plan order, the plan, and the new wiring
abbrev pub files_of : Net → Plan → List FittedChip → List NewFile
files_of net plan built = map fuse_file built ++ last_files plan (new_net net built)

-- the name and the bytes of a file under a stem
abbrev pub file_under : List ℕ → NewFile → List ℕ × List ℕ
file_under stem f = (file_name_of stem f.chip f.ending, f.bytes)

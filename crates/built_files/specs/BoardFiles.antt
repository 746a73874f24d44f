-- The files of a new board, as they are made.
use Rattle.std.specs.Prelude.{List, [], ◌∷◌, ◌++◌, map, Some, None, IsTrue, codes}
use Rattle.mig_base.specs.DeviceTables.{is_gal}
use Rattle.mig_base.specs.WellFormed.{IsWellFormed}
use Rattle.new_board.specs.declared.types.FittedChip.{FittedChip}
use Rattle.new_board.specs.Files.{NewFile}
use Rattle.built_files.specs.declared.writing.FuseFile.{FuseFile}
use Rattle.built_files.specs.declared.writing.NewFiles.{NewFiles}

-- a new chip whose fuses can be written
pub record IsWritableChip (f : FittedChip) : Type 0 where
  pub kind : IsTrue (is_gal f.cells.kind)
  pub cells : IsWellFormed f.cells

-- a fuse file by what stands behind the stem
abbrev pub as_file : FuseFile → NewFile
as_file f = record { chip = Some f.chip; ending = codes "jed"; bytes = f.bytes.items }

-- all files, in the order in which they are saved
abbrev pub as_files : NewFiles → List NewFile
as_files files = map as_file files.jeds.items
    ++ record { chip = None; ending = codes "plan"; bytes = files.plan.items }
    ∷ record { chip = None; ending = codes "net"; bytes = files.net.items } ∷ []

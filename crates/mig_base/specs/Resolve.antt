-- What the drivers of a net and its pull make of it.
use Rattle.std.specs.Prelude.{List, [], ◌∷◌, if◌then◌else◌, filter}
use Rattle.std.specs.List.{list_all}
use Rattle.mig_base.specs.declared.levels.Level.{Level}
use Rattle.mig_base.specs.declared.levels.Level.TheVariants.{Zero, One, Z, X}
use Rattle.mig_base.specs.declared.nets.Pull.{Pull}
use Rattle.mig_base.specs.declared.nets.Pull.TheVariants.{Free, Up, Down}
use Rattle.mig_base.specs.Levels.{same_level, is_driven}

-- what a pull makes of a net that nothing drives
abbrev pub pulled : Pull → Level
pulled Free = Z
pulled Up = One
pulled Down = Zero

-- the pulled level where there is none; else the one level that all have, if there is one; else X
abbrev pub agreed : Pull → List Level → Level
agreed pull [] = pulled pull
agreed pull (y ∷ ys) = if list_all (same_level y) ys then y else X

-- if all are Z, then 1 for Up, 0 for Down and Z for Free; else the one level that all others than Z have, if there is one; else X
abbrev pub resolved : Pull → List Level → Level
resolved pull levels = agreed pull (filter is_driven levels)

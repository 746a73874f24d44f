-- A wiring and the cells of its chips.
use Rattle.std.specs.Prelude.{◌≡◌, ◌<◌, ◌≤◌, ◌^◌, List, length}
use Rattle.mig_base.specs.declared.cells.ChipCells.{ChipCells}
use Rattle.mig_base.specs.declared.nets.Net.{Net}
use Rattle.mig_base.specs.Boards.{ChipUnit, units_from}

pub record Wired : Type 0 where
  pub net : Net
  pub chips : List ChipCells

-- few nets and chips, cells for each chip line, and the units of these cells, whose numbers are u32
pub record HasUnits (net : Net) (chips : List ChipCells) (units : List ChipUnit) : Type 0 where
  pub nets : length net.nets ≤ 1024
  pub lines : length net.chips ≤ 64
  pub cells : length chips ≡ length net.chips
  pub units_are : units ≡ units_from 0 chips
  pub few : length units < 2 ^ 32

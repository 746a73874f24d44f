-- What a board holds.
use Rattle.std.specs.Prelude.{◌≡◌, None, List, length, map}
use Rattle.equations.specs.Tables.{IsTable}
use Rattle.mig_base.specs.declared.cells.ChipCells.{ChipCells}
use Rattle.mig_base.specs.declared.cells.Enable.{Enable}
use Rattle.mig_base.specs.declared.cells.Enable.TheVariants.{Always, Never}
use Rattle.mig_base.specs.declared.circuit.Circuit.{Circuit}
use Rattle.mig_base.specs.declared.nets.Net.{Net}
use Rattle.mig_base.specs.declared.nets.Var.{Var}
use Rattle.mig_base.specs.Boards.{circuit, net_of, units_from}
use Rattle.mig_base.specs.First.{made_from}
use Rattle.mig_base.specs.Given.{IsGiven}
use Rattle.ranks.specs.declared.Ranks.{Ranks}
use Rattle.ranks.specs.RankEquations.{IsRanks}
use Rattle.structure.specs.declared.derived.Structure.{Structure}
use Rattle.structure.specs.Derived.{IsStructure}
use Rattle.board.specs.declared.tables.Tables.{Tables}
use Rattle.board.specs.NodeNames.{net_names, register_pins}
use Rattle.board.specs.Refusals.{first_driven, first_derived}
use Rattle.board.specs.UnitLists.{units_on, register_units}
use Rattle.board.specs.Variables.{register_place, var_of}

-- the tables of a board of this wiring and these chips
pub record IsTables (net : Net) (chips : List ChipCells) (t : Tables) : Type 0 where
  pub pins : IsTable (net_of net) (length net.chips) t.pins
  pub net_names : t.net_names ≡ net_names net
  pub register_pins : t.register_pins ≡ register_pins net chips
  pub units : t.units ≡ units_on net chips
  pub registers : t.registers ≡ register_units chips
  pub places : t.places ≡ made_from (register_place chips) 0 (length (units_from 0 chips))

-- equations with these ranks, where no input has a driver and no clock is derived
pub record IsPassed (c : Circuit) (r : Ranks) : Type 0 where
  pub driven : first_driven c ≡ None
  pub derived : first_derived c ≡ None
  pub ranks : IsRanks c r

-- a wiring and chips that make a board, with their equations, ranks, tables, variables by rank, what follows from the equations,
-- and the two fixed enables
pub record IsBuilt (net : Net) (chips : List ChipCells) (c : Circuit) (r : Ranks) (t : Tables) (vars : List Var) (s : Structure) (always never : Enable) : Type 0 where
  pub given : IsGiven net chips
  pub equations : c ≡ circuit net chips
  pub passed : IsPassed c r
  pub tables : IsTables net chips t
  pub by_rank : vars ≡ map (var_of chips) r.order
  pub structure : IsStructure (circuit net chips) (register_units chips) s
  pub enabled : always ≡ Always
  pub disabled : never ≡ Never

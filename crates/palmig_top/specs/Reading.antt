-- What a board that was read keeps.
use Rattle.std.specs.Prelude.{ℕ, ◌≡◌, Bool, List, Ok}
use Rattle.mig_base.specs.declared.kinds.Kind.{Kind}
use Rattle.mig_base.specs.declared.cells.ChipCells.{ChipCells}
use Rattle.mig_base.specs.declared.nets.Net.{Net}
use Rattle.mig_base.specs.BoardText.{net_of_text}
use Rattle.mig_base.specs.Cells.{cells_of}
use Rattle.mig_base.specs.declared.scripts.Script.{Script}
use Rattle.sim_run.specs.ScriptText.{ports_of, script_of_text}
use Rattle.mig_base.specs.Given.{AreMade}
use Rattle.board.specs.Joined.{Joined}

-- some text says the wiring
abbrev pub IsReadWiring : Net → Type 0
IsReadWiring net = (bytes : List ℕ) × (net_of_text bytes ≡ Ok net)

-- some fuses make the cells
abbrev pub IsReadCells : Kind → ChipCells → Type 0
IsReadCells kind cells = (bits : List Bool) × (cells_of kind bits ≡ Ok cells)

pub record IsReadBoard (parts : Joined) : Type 0 where
  pub wiring : IsReadWiring parts.net
  pub chips : AreMade parts.net.chips parts.chips

-- some text says the script for this wiring
abbrev pub IsReadScript : Net → Script → Type 0
IsReadScript net script = (bytes : List ℕ) × (script_of_text (ports_of net) bytes ≡ Ok script)

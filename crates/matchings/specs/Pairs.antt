-- Two boards side by side: pairs of configurations under inputs that are handed in by port name.
use Rattle.std.specs.Prelude.{ℕ, ◌≡◌, ◌≢◌, ◌+◌, ◌<◌, List, ◌++◌, length, Option, Some, None, slice_index_or, IfSome, All}
use Rattle.mig_base.specs.declared.levels.Level.{Level}
use Rattle.mig_base.specs.declared.levels.Level.TheVariants.{Z}
use Rattle.mig_base.specs.declared.circuit.Circuit.{Circuit}
use Rattle.mig_base.specs.declared.circuit.Levels.{Levels}
use Rattle.mig_base.specs.Levels.{level_at}
use Rattle.level_laws.specs.Runs.{shown_levels}
use Rattle.level_laws.specs.SameBehaviour.{Handing, IsLawful, handed_levels, port_names, shown_at}
use Rattle.level_laws.specs.PureLevels.{HasPureStored}
use Rattle.board.specs.Joined.{Joined, equations_of}

-- what a board is handed, by port name
abbrev pub handed : Joined → Handing → List Level
handed b handing = handed_levels b.net handing

-- its last inputs, where a step was made
abbrev pub last_handed : Joined → Option Handing → Option (List Level)
last_handed b None = None
last_handed b (Some handing) = Some (handed b handing)

-- what is handed in by port name is lawful for a board
abbrev pub IsLawfulFor : Joined → Handing → Type 0
IsLawfulFor b handing = IsLawful (equations_of b) (handed b handing)

-- stored levels of a board: 0, 1 or X for each register, and 0 or 1 for a pure one
pub record IsState (c : Circuit) (stored : List Level) : Type 0 where
  pub lengths : length stored ≡ length c.registers
  pub known : All (λ level. level ≢ Z) stored
  pub pure : HasPureStored c stored

-- how many registers two boards have: those of the first board stand before those of the second, each in unit order
abbrev pub registers_of_both : Joined → Joined → ℕ
registers_of_both a b = length (equations_of a).registers + length (equations_of b).registers

-- the number of a register's class
abbrev pub class_at : List ℕ → ℕ → ℕ
class_at classes i = slice_index_or classes i 0

-- a matching puts two registers of both boards in one class
abbrev pub AreTogether : List ℕ → ℕ → ℕ → Type 0
AreTogether classes i j = class_at classes i ≡ class_at classes j

-- registers of one class have one level
abbrev pub AreEqualInClasses : List ℕ → List Level → Type 0
AreEqualInClasses classes levels = (i j : ℕ) → i < length levels → j < length levels → AreTogether classes i j → level_at levels i ≡ level_at levels j

-- an agreeing pair of configurations: the last inputs are equal, and stored levels are equal within each class
pub record Agrees (a b : Joined) (classes : List ℕ) (left right : List Level) (last : Option Handing) : Type 0 where
  pub left_state : IsState (equations_of a) left
  pub right_state : IsState (equations_of b) right
  pub equal : AreEqualInClasses classes (left ++ right)
  pub lawful : IfSome last (IsLawfulFor a)

-- settled levels of both boards show the same at each port
abbrev pub ShowEqual : Joined → Joined → Levels → Levels → Type 0
ShowEqual a b l m = (name : List ℕ) → shown_at (port_names a.net) (shown_levels (equations_of a) l) name ≡ shown_at (port_names b.net) (shown_levels (equations_of b) m) name

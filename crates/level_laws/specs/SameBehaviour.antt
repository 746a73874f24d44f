-- Boards that show the same.
use Rattle.std.specs.Prelude.{ℕ, ◌≡◌, List, [], ◌∷◌, map, filter, if◌then◌else◌, Option, Some, None}
use Rattle.std.specs.List.{AllByRecursion}
use Rattle.std.specs.Str.{bytes_eq}
use Rattle.mig_base.specs.declared.levels.Level.{Level}
use Rattle.mig_base.specs.declared.levels.Level.TheVariants.{Zero, One, Z, X}
use Rattle.mig_base.specs.declared.nets.Net.{Net}
use Rattle.mig_base.specs.declared.nets.Port.{Port}
use Rattle.mig_base.specs.declared.cells.ChipCells.{ChipCells}
use Rattle.mig_base.specs.Levels.{level_at}
use Rattle.mig_base.specs.Among.{Among}
use Rattle.mig_base.specs.declared.circuit.NetKind.{NetKind}
use Rattle.mig_base.specs.declared.circuit.Circuit.{Circuit}
use Rattle.mig_base.specs.declared.circuit.NetKind.TheVariants.{Handed, Shared}
use Rattle.mig_base.specs.Boards.{circuit, is_port, is_handed}
use Rattle.level_laws.specs.Runs.{IsRun}

-- 0 or 1
abbrev pub IsBit : Level → Type 0
IsBit Zero = Unit {0}
IsBit One = Unit {0}
IsBit Z = ⊥
IsBit X = ⊥

-- 0, 1 or Z
abbrev pub IsHandable : Level → Type 0
IsHandable Zero = Unit {0}
IsHandable One = Unit {0}
IsHandable Z = Unit {0}
IsHandable X = ⊥

abbrev pub IsLawfulAt : List Level → NetKind → Type 0
IsLawfulAt inputs (Handed j) = IsBit (level_at inputs j)
IsLawfulAt inputs (Shared j) = IsHandable (level_at inputs j)
IsLawfulAt inputs _ = Unit {0}

-- Input ports have 0 or 1, Both ports 0, 1 or Z
abbrev pub IsLawful : Circuit → List Level → Type 0
IsLawful c inputs = AllByRecursion (λ w. IsLawfulAt inputs w.kind) c.nets

-- boards with the same ports in the same order show the same levels under the same inputs
abbrev pub ShowsAlike : Circuit → Circuit → Type 0
ShowsAlike a b = (inputs shown_a shown_b : List (List Level)) → AllByRecursion (IsLawful a) inputs →
    IsRun a inputs shown_a → IsRun b inputs shown_b → shown_a ≡ shown_b

-- levels handed in by port name
abbrev pub Handing : Type 0
Handing = List ℕ → Level

-- the levels of the Input and Both ports, in board order
abbrev pub handed_levels : Net → Handing → List Level
handed_levels net handing = map (λ l. handing l.name) (filter (λ l. is_handed l.port) net.nets)

abbrev pub port_names : Net → List (List ℕ)
port_names net = map (λ l. l.name) (filter is_port net.nets)

-- the level shown at a port of this name, where there is one
abbrev pub shown_at : List (List ℕ) → List Level → List ℕ → Option Level
shown_at [] levels name = None
shown_at (n ∷ ns) [] name = None
shown_at (n ∷ ns) (x ∷ xs) name = if bytes_eq name n then Some x else shown_at ns xs name

-- a port and its direction
abbrev pub HasPort : Net → List ℕ → Port → Type 0
HasPort net name dir = Among {T = List ℕ × Port} (name, dir) (map (λ l. (l.name, l.port)) (filter is_port net.nets))

-- each board has the other's port names with the same directions
pub record SamePorts (a b : Net) : Type 0 where
  pub left : (name : List ℕ) (dir : Port) → HasPort a name dir → HasPort b name dir
  pub right : (name : List ℕ) (dir : Port) → HasPort b name dir → HasPort a name dir

-- the same ports, and for every list of lawful inputs from power-up, handed in by port name, the same level on each port after each step
pub record IsSame (a : Net) (chips_a : List ChipCells) (b : Net) (chips_b : List ChipCells) : Type 0 where
  pub ports : SamePorts a b
  pub shown : (handings : List Handing) (shown_a shown_b : List (List Level)) →
      AllByRecursion (λ handing. IsLawful (circuit a chips_a) (handed_levels a handing)) handings →
      IsRun (circuit a chips_a) (map (handed_levels a) handings) shown_a → IsRun (circuit b chips_b) (map (handed_levels b) handings) shown_b →
      (name : List ℕ) → map (λ levels. shown_at (port_names a) levels name) shown_a ≡ map (λ levels. shown_at (port_names b) levels name) shown_b

-- A joined part as a function over two rails, or why there is none.
use Rattle.std.specs.Prelude.{◌≡◌, ℕ, ◌<◌, ◌≤◌, Bool, true, List, length}
use Rattle.bdd.specs.Tree.{Point}
use Rattle.mig_base.specs.Among.{Among}
use Rattle.mig_base.specs.declared.levels.Level.{Level}
use Rattle.mig_base.specs.declared.nets.Var.{Var}
use Rattle.board.specs.Joined.{Joined}
use Rattle.rails.specs.Variables.{all_rails}
use Rattle.rails.specs.Points.{literal_holds, IsMonotone}
use Rattle.rails.specs.Levels.{AreLevels, value_under}
use Rattle.joiner.specs.Joined.{Inverted, Reading, inverted_read, ReadsAbsorbed, IsCone}
use Rattle.level_laws.specs.VariableLevels.{Levelling}
use Rattle.joiner.specs.JoinedLevels.{LevelsAbsorbed, HasLevels, inverted_level}
use Rattle.joiner.specs.declared.JoinError.{JoinError}
use Rattle.joiner.specs.declared.JoinError.TheVariants.{ConeWide, Memory}

-- the literals of the listed variables read what they are at the point
pub record ReadsVariables (vars : List (Var × Bool)) (p : Point) (r : Reading) : Type 0 where
  pub each : (w : Var × Bool) → Among w vars → (side : Bool) → r w.0 side ≡ literal_holds (all_rails vars) (record { var = w.0; high = side }) p

-- the variables are those of the cone, at most 32; at each point something is read, and f holds where the joined part then
-- reads true
pub record IsJoinedPart (b : Joined) (absorbed : List ℕ) (sum : Inverted) (vars : List (Var × Bool)) (f : Point → Bool) : Type 0 where
  pub cone : IsCone b absorbed sum.terms vars
  pub few : length vars ≤ 32
  pub some : (p : Point) → (r : Reading) × ReadsVariables vars p r × ReadsAbsorbed b absorbed r
  pub means : (p : Point) (r : Reading) → ReadsVariables vars p r → ReadsAbsorbed b absorbed r → f p ≡ inverted_read r true sum
  pub monotone : IsMonotone (all_rails vars) f

-- the value of f is the level of the joined part, whatever levels its variables have, 0 or 1 for the pure ones
abbrev pub HasJoinedValue : Joined → List ℕ → Inverted → List (Var × Bool) → (Point → Bool) → Type 0
HasJoinedValue b absorbed sum vars f = (levels : List Level) (l : Levelling) → AreLevels vars levels → HasLevels vars levels l
    → LevelsAbsorbed b absorbed l → value_under (all_rails vars) f levels ≡ inverted_level l sum

-- the cone has more than 32 variables, and so many; or there is no memory
pub record IsWide (b : Joined) (absorbed : List ℕ) (sum : Inverted) (count : ℕ) : Type 0 where
  pub variables : List (Var × Bool)
  pub cone : IsCone b absorbed sum.terms variables
  pub many : 32 < length variables
  pub number : count ≡ length variables

abbrev pub IsJoinRefusal : Joined → List ℕ → Inverted → JoinError → Type 0
IsJoinRefusal b absorbed sum (ConeWide n) = IsWide b absorbed sum n
IsJoinRefusal b absorbed sum Memory = Unit {0}

-- so many variables are too many, or there is no memory
abbrev pub IsTooMany : ℕ → JoinError → Type 0
IsTooMany count (ConeWide n) = (n ≡ count) × (32 < count)
IsTooMany count Memory = Unit {0}

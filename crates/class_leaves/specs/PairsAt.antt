-- Pairs of configurations and the points that encode them.
use Rattle.std.specs.Prelude.{ℕ, ◌≡◌, ◌≤◌, ◌+◌, Bool, List, [], ◌∷◌, ◌++◌, length, map, Some}
use Rattle.std.specs.List.{AllByRecursion}
use Rattle.bdd.specs.Tree.{Point}
use Rattle.bdd.specs.Diagram.{IsEarlier, point_of}
use Rattle.mig_base.specs.declared.levels.Level.{Level}
use Rattle.mig_base.specs.declared.nets.Net.{Net}
use Rattle.mig_base.specs.Given.{IsGiven}
use Rattle.level_laws.specs.SameBehaviour.{Handing}
use Rattle.board.specs.Joined.{Joined, equations_of}
use Rattle.matchings.specs.Pairs.{Agrees, handed, registers_of_both}
use Rattle.leaves.specs.declared.Leaf.{Leaf}
use Rattle.leaves.specs.declared.Range.{Range}
use Rattle.leaves.specs.Leaves.{leaf_levels, point_of_levels, width}
use Rattle.leaves.specs.Orders.{AreBefore}
use Rattle.leaves.specs.Spread.{leader_levels}
use Rattle.class_leaves.specs.Pures.{AreLed, ArePures, ArePureClasses}
use Rattle.class_leaves.specs.ClassLeaves.{IsLeavesOf, class_ranges, handed_ports, port_range}
use Rattle.class_leaves.specs.declared.Leaves.{Leaves}

-- two states and inputs, handed in by port name, that the leaves read at a point
pub record IsPairAt (a b : Joined) (leaves : Leaves) (p : Point) (left right : List Level) (h : Handing) : Type 0 where
  pub left_count : length left ≡ length (equations_of a).registers
  pub right_count : length right ≡ length (equations_of b).registers
  pub stored : left ++ right ≡ leaf_levels p leaves.registers
  pub inputs : handed a h ≡ leaf_levels p leaves.ports

-- the leaves of a matching of two given boards
pub record AreLeaves (a b : Joined) (classes : List ℕ) (bits : List Bool) (leaves : Leaves) : Type 0 where
  pub given : IsGiven a.net a.chips
  pub count : length classes ≡ registers_of_both a b
  pub led : AreLed classes
  pub pures : List Bool
  pub are_pures : ArePures a b pures
  pub are_bits : ArePureClasses pures classes bits
  pub leaves_are : IsLeavesOf (handed_ports a.net) bits classes leaves

-- the ranges of the leaves, in the order of their variables
abbrev pub all_ranges : Net → List Bool → List ℕ → List Range
all_ranges net bits classes = class_ranges bits 0 classes ++ map port_range (handed_ports net)

abbrev pub widths : List Range → ℕ
widths [] = 0
widths (r ∷ rs) = width r + widths rs

-- each leaf has its variables among the first n
abbrev pub AreWithin : ℕ → List Leaf → Type 0
AreWithin n fs = AllByRecursion (λ f. f.place + width f.range ≤ n) fs

-- the least point of a pair
abbrev pub pair_point : Joined → List Bool → List ℕ → List Level → List Level → Handing → Point
pair_point a bits classes left right h = point_of (point_of_levels (all_ranges a.net bits classes) (leader_levels 0 classes (left ++ right) ++ handed a h))

-- every point is that of an agreeing pair
abbrev pub PointsArePairs : Type 0
PointsArePairs = (a b : Joined) (classes : List ℕ) (bits : List Bool) (leaves : Leaves) → AreLeaves a b classes bits leaves →
    (p : Point) → (left right : List Level) × (h : Handing) × IsPairAt a b leaves p left right h × Agrees a b classes left right (Some h)

-- every agreeing pair has a point
abbrev pub PairsHavePoints : Type 0
PairsHavePoints = (a b : Joined) (classes : List ℕ) (bits : List Bool) (leaves : Leaves) → AreLeaves a b classes bits leaves →
    (left right : List Level) (h : Handing) → Agrees a b classes left right (Some h) → IsPairAt a b leaves (pair_point a bits classes left right h) left right h

-- a pair that is lower than that of a point has an earlier point
abbrev pub LowerPairsAreEarlier : Type 0
LowerPairsAreEarlier = (a b : Joined) (classes : List ℕ) (bits : List Bool) (leaves : Leaves) → AreLeaves a b classes bits leaves →
    (p : Point) (left right : List Level) (h : Handing) → IsPairAt a b leaves p left right h →
    (low_left low_right : List Level) (low : Handing) → Agrees a b classes low_left low_right (Some low) →
    AreBefore (low_left ++ (low_right ++ handed a low)) (left ++ (right ++ handed a h)) →
    (n : ℕ) → widths (all_ranges a.net bits classes) ≤ n → IsEarlier n (pair_point a bits classes low_left low_right low) p

-- Refs for both literals of joined nets, and what they read.
use Rattle.std.specs.Prelude.{◌≡◌, ℕ, Bool, true, false, not, ◌||◌, List, Option, Some, None, IfSome, slice_index_or, slice_set}
use Rattle.std.specs.List.{list_any, list_all}
use Rattle.bdd.specs.Tree.{Point}
use Rattle.bdd.specs.Diagram.{Diagram, function_of}
use Rattle.bdd.specs.declared.Ref.{Ref}
use Rattle.mig_base.specs.declared.plans.Part.TheVariants.{Logic}
use Rattle.mig_base.specs.declared.circuit.Circuit.{Circuit}
use Rattle.mig_base.specs.declared.circuit.Read.{Read}
use Rattle.mig_base.specs.declared.circuit.Read.TheVariants.{OfNet, OfRegister}
use Rattle.mig_base.specs.declared.nets.Var.{Var}
use Rattle.mig_base.specs.declared.nets.Var.TheVariants.{Net, Reg}
use Rattle.mig_base.specs.declared.nets.VarLit.{VarLit}
use Rattle.mig_base.specs.declared.nets.VarProduct.{VarProduct}
use Rattle.structure.specs.Absorbable.{IsAbsorbable}
use Rattle.board.specs.Joined.{Joined}
use Rattle.rails.specs.Variables.{all_rails, same_var}
use Rattle.rails.specs.Points.{mirror, IsProper}
use Rattle.joiner.specs.Joined.{Inverted, Reading, StandsIn, Names, IsAbsorbed, unit_part, inverted_read}
use Rattle.joiner.specs.declared.marks.Marks.{Marks}
use Rattle.joiner.specs.Marked.{marked, unit_at}
use Rattle.joiner.specs.JoinedPart.{ReadsVariables}
use Rattle.joiner.specs.declared.pairs.Pair.{Pair}

-- each unit of the table is absorbable
abbrev pub NamesAbsorbable : Circuit → List (Option ℕ) → Type 0
NamesAbsorbable c nets = (n : ℕ) → IfSome (unit_at nets n) (IsAbsorbable c)

abbrev pub pair_at : List (Option Pair) → ℕ → Option Pair
pair_at pairs n = slice_index_or pairs n None

abbrev pub is_pair : Option Pair → Bool
is_pair None = false
is_pair (Some q) = true

-- the pair of a variable, if it is a joined net
abbrev pub pair_named : List (Option Pair) → Var → Option Pair
pair_named pairs (Net n) = pair_at pairs n
pair_named pairs (Reg u) = None

abbrev pub is_listed : List (Var × Bool) → Var → Bool
is_listed vars v = list_any (λ w. same_var w.0 v) vars

-- a joined net, or a listed variable
abbrev pub is_known : List (Var × Bool) → List (Option Pair) → Var → Bool
is_known vars pairs v = is_pair (pair_named pairs v) || is_listed vars v

abbrev pub lits_known : List (Var × Bool) → List (Option Pair) → List VarLit → Bool
lits_known vars pairs lits = list_all (λ x. is_known vars pairs x.var) lits

abbrev pub terms_known : List (Var × Bool) → List (Option Pair) → List VarProduct → Bool
terms_known vars pairs terms = list_all (λ t. lits_known vars pairs t.lits) terms

-- the ref of the true or of the complement literal
abbrev pub literal_by : Bool → Pair → Ref
literal_by true q = q.level
literal_by false q = q.inverse

-- the pair of a sum and its inverse, the other way round where the sum is inverted
abbrev pub pair_by : Bool → Ref → Ref → Pair
pair_by true plain inverse = record { level = inverse; inverse = plain }
pair_by false plain inverse = record { level = plain; inverse = inverse }

abbrev pub IsProperPair : List (Var × Bool) → Diagram → Pair → Type 0
IsProperPair vars d q = (side : Bool) → IsProper (all_rails vars) d (literal_by side q)

pub record AreProper (vars : List (Var × Bool)) (d : Diagram) (pairs : List (Option Pair)) : Type 0 where
  pub each : (n : ℕ) → IfSome (pair_at pairs n) (IsProperPair vars d)

-- both literals of the net are read off the pair
abbrev pub ReadsPair : Diagram → Point → Reading → ℕ → Pair → Type 0
ReadsPair d p r n q = (side : Bool) → r (Net n) side ≡ function_of d (literal_by side q) p

-- at the point p, listed variables and joined nets read this
pub record IsReading (vars : List (Var × Bool)) (d : Diagram) (pairs : List (Option Pair)) (p : Point) (r : Reading) : Type 0 where
  pub variables : ReadsVariables vars p r
  pub nets : (n : ℕ) → IfSome (pair_at pairs n) (ReadsPair d p r n)

-- f is proper, and holds where g does of what is read
pub record Reads (vars : List (Var × Bool)) (d : Diagram) (pairs : List (Option Pair)) (g : Reading → Bool) (f : Ref) : Type 0 where
  pub proper : IsProper (all_rails vars) d f
  pub means : (p : Point) (r : Reading) → IsReading vars d pairs p r → function_of d f p ≡ g r

-- what the inverted literals read
abbrev pub opposite_reading : Reading → Reading
opposite_reading r v side = not (r v (not side))

-- what is read at a point, and the opposite of it at the mirrored one
pub record AreReadings (vars : List (Var × Bool)) (d : Diagram) (pairs : List (Option Pair)) (p : Point) (r : Reading) : Type 0 where
  pub here : IsReading vars d pairs p r
  pub mirrored : IsReading vars d pairs (mirror (all_rails vars) p) (opposite_reading r)

-- f is proper, and holds where g does of what is read
pub record ReadsEither (vars : List (Var × Bool)) (d : Diagram) (pairs : List (Option Pair)) (g : Reading → Bool) (f : Ref) : Type 0 where
  pub proper : IsProper (all_rails vars) d f
  pub means : (p : Point) (r : Reading) → AreReadings vars d pairs p r → function_of d f p ≡ g r

-- both literals of what a unit gives
abbrev pub IsPairOf : List (Var × Bool) → Diagram → List (Option Pair) → Inverted → Pair → Type 0
IsPairOf vars d pairs sum q = (side : Bool) → ReadsEither vars d pairs (λ r. inverted_read r side sum) (literal_by side q)

-- the pair of a net that an absorbed unit drives, or none where something of what it reads is not known
abbrev pub IsNetPair : Joined → List (Option ℕ) → List (Var × Bool) → Diagram → List (Option Pair) → ℕ → Option Pair → Type 0
IsNetPair b nets vars d pairs n None = IfSome (unit_at nets n) (λ u. terms_known vars pairs (unit_part b u Logic).terms ≡ false)
IsNetPair b nets vars d pairs n (Some q) =
    (u : ℕ) × (unit_at nets n ≡ Some u) × IsPairOf vars d pairs (unit_part b u Logic) q

-- both literals of each net of the table read what its unit gives
abbrev pub ReadsNets : Joined → List (Option ℕ) → Reading → Type 0
ReadsNets b nets r = (n u : ℕ) → unit_at nets n ≡ Some u → (side : Bool) → r (Net n) side ≡ inverted_read r side (unit_part b u Logic)

-- where variables read what they are, and nets what their units give, the pairs are right
abbrev pub ReadPairs : Joined → List (Option ℕ) → List (Var × Bool) → Diagram → List (Option Pair) → Type 0
ReadPairs b nets vars d pairs = (p : Point) (r : Reading) → ReadsVariables vars p r → ReadsNets b nets r → IsReading vars d pairs p r

-- the units of absorbed nets that are marked have marked all that they name
abbrev pub AreClosed : Joined → List ℕ → Marks → Type 0
AreClosed b absorbed m = (n u : ℕ) → IsAbsorbed b absorbed n u → marked m (Net n) ≡ true → (x : VarLit) → StandsIn x (unit_part b u Logic).terms → marked m x.var ≡ true

-- all that the unit names is listed
abbrev pub IsWithin : Joined → List ℕ → List (Var × Bool) → List VarProduct → Type 0
IsWithin b absorbed vars terms = (v : Var) → Names b absorbed v terms → is_listed vars v ≡ true

-- each absorbed net that is marked and whose unit names listed variables alone has a pair
abbrev pub HasPairs : Joined → List ℕ → Marks → List (Var × Bool) → List (Option Pair) → Type 0
HasPairs b absorbed m vars pairs =
    (n u : ℕ) → marked m (Net n) ≡ true → IsAbsorbed b absorbed n u → IsWithin b absorbed vars (unit_part b u Logic).terms → is_pair (pair_at pairs n) ≡ true

-- a net gets its pair, and a register changes nothing
abbrev pub IsJoinedVariable : Joined → List (Option ℕ) → List (Var × Bool) → Diagram → List (Option Pair) → List (Option Pair) → Var → Type 0
IsJoinedVariable b nets vars d old new (Net n) = (o : Option Pair) × (new ≡ slice_set old n o) × IsNetPair b nets vars d old n o
IsJoinedVariable b nets vars d old new (Reg u) = new ≡ old

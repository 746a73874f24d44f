-- Levels as variables, so that points stand in the order of levels: 0, 1, and then X or Z.
use Rattle.std.specs.Prelude.{ℕ, ◌+◌, Bool, true, false, List, [], ◌∷◌, ◌++◌, map, if◌then◌else◌}
use Rattle.bdd.specs.Tree.{Point}
use Rattle.mig_base.specs.declared.levels.Level.{Level}
use Rattle.mig_base.specs.declared.levels.Level.TheVariants.{Zero, One, Z, X}
use Rattle.level_laws.specs.SameBehaviour.{IsBit}
use Rattle.leaves.specs.declared.Leaf.{Leaf}
use Rattle.leaves.specs.declared.Range.{Range}
use Rattle.leaves.specs.declared.Range.TheVariants.{Bit, OrX, OrZ}

abbrev pub bit : Bool → Level
bit true = One
bit false = Zero

-- how many variables a leaf has
abbrev pub width : Range → ℕ
width Bit = 1
width OrX = 2
width OrZ = 2

-- Z where the first variable is true, else 0 or 1
abbrev pub level_or_z : Bool → Bool → Level
level_or_z true second = Z
level_or_z false second = bit second

-- the level of a leaf by its variables: two-valued ones have one, others a first one for the third level
abbrev pub level_by : Range → Bool → Bool → Level
level_by Bit first second = bit first
level_by OrX first second = if first then X else bit second
level_by OrZ first second = if first then Z else bit second

-- the level of a leaf at a point
abbrev pub leaf_level : Leaf → Point → Level
leaf_level f p = level_by f.range (p f.place) (p (f.place + 1))

-- leaves of these ranges, from a first variable on
abbrev pub leaves_from : ℕ → List Range → List Leaf
leaves_from n [] = []
leaves_from n (r ∷ rs) = record { place = n; range = r } ∷ leaves_from (n + width r) rs

abbrev pub leaf_levels : Point → List Leaf → List Level
leaf_levels p fs = map (λ f. leaf_level f p) fs

-- a level that a leaf can have
abbrev pub Fits : Range → Level → Type 0
Fits Bit level = IsBit level
Fits OrX Zero = Unit {0}
Fits OrX One = Unit {0}
Fits OrX X = Unit {0}
Fits OrX Z = ⊥
Fits OrZ Zero = Unit {0}
Fits OrZ One = Unit {0}
Fits OrZ X = ⊥
Fits OrZ Z = Unit {0}

abbrev pub AllFit : List Range → List Level → Type 0
AllFit [] [] = Unit {0}
AllFit [] (x ∷ xs) = ⊥
AllFit (r ∷ rs) [] = ⊥
AllFit (r ∷ rs) (x ∷ xs) = Fits r x × AllFit rs xs

-- the least variables of a level
abbrev pub variables_of : Range → Level → List Bool
variables_of Bit One = true ∷ []
variables_of Bit _ = false ∷ []
variables_of _ Zero = false ∷ false ∷ []
variables_of _ One = false ∷ true ∷ []
variables_of _ _ = true ∷ false ∷ []

abbrev pub point_of_levels : List Range → List Level → List Bool
point_of_levels [] xs = []
point_of_levels (r ∷ rs) [] = []
point_of_levels (r ∷ rs) (x ∷ xs) = variables_of r x ++ point_of_levels rs xs

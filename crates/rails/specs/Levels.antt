-- Levels of variables, and the value of a function under them.
use Rattle.std.specs.Prelude.{◌≡◌, ◌≢◌, ◌⊎◌, Bool, true, false, List, [], ◌∷◌, slice_get, Option, Some, None, if◌then◌else◌}
use Rattle.bdd.specs.Tree.{Point}
use Rattle.mig_base.specs.Levels.{not3, and3, or3, level_at}
use Rattle.mig_base.specs.declared.levels.Level.{Level}
use Rattle.mig_base.specs.declared.levels.Level.TheVariants.{Zero, One, Z, X}
use Rattle.mig_base.specs.declared.nets.Var.{Var}
use Rattle.mig_base.specs.declared.nets.VarLit.{VarLit}
use Rattle.mig_base.specs.declared.nets.VarProduct.{VarProduct}
use Rattle.rails.specs.declared.Side.{Side}
use Rattle.rails.specs.declared.Side.TheVariants.{Pure, High, Low}
use Rattle.rails.specs.declared.Rail.{Rail}
use Rattle.rails.specs.Variables.{same_var}

-- a level that a variable may have: 0 or 1 where it is pure, and else anything but Z
abbrev pub IsLevel : Bool → Level → Type 0
IsLevel true level = (level ≡ Zero) ⊎ (level ≡ One)
IsLevel false level = level ≢ Z

-- a level for each variable
abbrev pub AreLevels : List (Var × Bool) → List Level → Type 0
AreLevels [] [] = Unit {0}
AreLevels [] (l ∷ ls) = ⊥
AreLevels (v ∷ vs) [] = ⊥
AreLevels (v ∷ vs) (l ∷ ls) = IsLevel v.1 l × AreLevels vs ls

-- a Boolean under the level of its variable: whether its literal is 1, and where the level is X, whatever `unknown` says
abbrev pub side_under : Bool → Side → Level → Bool
side_under unknown Pure Zero = false
side_under unknown Pure One = true
side_under unknown High Zero = false
side_under unknown High One = true
side_under unknown Low Zero = true
side_under unknown Low One = false
side_under unknown _ _ = unknown

abbrev pub rail_under : Bool → List Level → Option Rail → Bool
rail_under unknown levels None = false
rail_under unknown levels (Some r) = side_under unknown r.side (level_at levels r.variable)

-- the point of levels, with both Booleans of each X variable at `unknown`
abbrev pub point_under : Bool → List Rail → List Level → Point
point_under unknown rs levels n = rail_under unknown levels (slice_get rs n)

-- 1 where a function holds though unknowns are false; else 0 where it fails though they are true; else X
abbrev pub level_between : Bool → Bool → Level
level_between true high = One
level_between false true = X
level_between false false = Zero

-- the value of a function under levels
abbrev pub value_under : List Rail → (Point → Bool) → List Level → Level
value_under rs f levels = level_between (f (point_under false rs levels)) (f (point_under true rs levels))

-- the level of a variable
abbrev pub level_of : List (Var × Bool) → List Level → Var → Level
level_of [] levels v = X
level_of (w ∷ vs) [] v = X
level_of (w ∷ vs) (l ∷ ls) v = if same_var w.0 v then l else level_of vs ls v

-- the levels with the variable v at another one
abbrev pub with_level : List (Var × Bool) → List Level → Var → Level → List Level
with_level [] levels v l = levels
with_level (w ∷ vs) [] v l = []
with_level (w ∷ vs) (k ∷ ks) v l = (if same_var w.0 v then l else k) ∷ with_level vs ks v l

abbrev pub literal_level : List (Var × Bool) → List Level → VarLit → Level
literal_level vs levels x = if x.high then level_of vs levels x.var else not3 (level_of vs levels x.var)

-- the three-valued product of literals, 1 where there is none
abbrev pub row_level : List (Var × Bool) → List Level → List VarLit → Level
row_level vs levels [] = One
row_level vs levels (x ∷ xs) = and3 (literal_level vs levels x) (row_level vs levels xs)

-- the three-valued sum of products, 0 where there is none
abbrev pub sum_level : List (Var × Bool) → List Level → List VarProduct → Level
sum_level vs levels [] = Zero
sum_level vs levels (row ∷ rows) = or3 (row_level vs levels row.lits) (sum_level vs levels rows)

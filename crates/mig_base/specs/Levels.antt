-- The four levels, strong three-valued logic, and two drivers on one net.
use Rattle.std.specs.Prelude.{ℕ, Bool, true, false, List, slice_index_or, Option, Some, None}
use Rattle.mig_base.specs.declared.levels.Level.{Level}
use Rattle.mig_base.specs.declared.levels.Level.TheVariants.{Zero, One, Z, X}

-- a pin that floats reads X
abbrev pub read_level : Level → Level
read_level Z = X
read_level Zero = Zero
read_level One = One
read_level X = X

-- X stays X
abbrev pub not3 : Level → Level
not3 Zero = One
not3 One = Zero
not3 Z = X
not3 X = X

-- 0 where one is 0, 1 where both are 1, else X
abbrev pub and3 : Level → Level → Level
and3 Zero b = Zero
and3 One Zero = Zero
and3 One One = One
and3 One Z = X
and3 One X = X
and3 Z Zero = Zero
and3 Z One = X
and3 Z Z = X
and3 Z X = X
and3 X Zero = Zero
and3 X One = X
and3 X Z = X
and3 X X = X

-- 1 where one is 1, 0 where both are 0, else X
abbrev pub or3 : Level → Level → Level
or3 One b = One
or3 Zero One = One
or3 Zero Zero = Zero
or3 Zero Z = X
or3 Zero X = X
or3 Z One = One
or3 Z Zero = X
or3 Z Z = X
or3 Z X = X
or3 X One = One
or3 X Zero = X
or3 X Z = X
or3 X X = X

-- whether two levels are the same
abbrev pub same_level : Level → Level → Bool
same_level Zero Zero = true
same_level One One = true
same_level Z Z = true
same_level X X = true
same_level _ _ = false

-- something other than Z
abbrev pub is_driven : Level → Bool
is_driven Z = false
is_driven Zero = true
is_driven One = true
is_driven X = true

-- two drivers: Z gives way, equal levels stay, 0 against 1 is X, X wins
abbrev pub resolve2 : Level → Level → Level
resolve2 Z b = b
resolve2 Zero Z = Zero
resolve2 Zero Zero = Zero
resolve2 Zero One = X
resolve2 Zero X = X
resolve2 One Z = One
resolve2 One One = One
resolve2 One Zero = X
resolve2 One X = X
resolve2 X b = X

-- the level at a place, and X where there is none
abbrev pub level_at : List Level → ℕ → Level
level_at levels i = slice_index_or levels i X

-- a level of what may not be there, and X where it isn't
abbrev pub or_x : {T : Type 0} → (T → Level) → Option T → Level
or_x f None = X
or_x f (Some t) = f t

-- the character of a level
abbrev pub level_code : Level → ℕ
level_code Zero = 48
level_code One = 49
level_code Z = 90
level_code X = 88

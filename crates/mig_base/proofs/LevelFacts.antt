-- Levels that are no Z, and inversion.
use Rattle.std.proofs.Common.{◌≡◌, ◌≢◌, Bool, true, false, cond, refl, sym, ◌&&◌, ◌||◌}
use Rattle.mig_base.specs.declared.levels.Level.{Level}
use Rattle.mig_base.specs.declared.levels.Level.TheVariants.{Zero, One, Z, X}
use Rattle.mig_base.specs.Bools.{same_bool}
use Rattle.mig_base.specs.Levels.{read_level, not3, or3, and3}

pub reads-known : (a : Level) → read_level a ≢ Z
reads-known Zero = λ e. cc
reads-known One = λ e. cc
reads-known Z = λ e. cc
reads-known X = λ e. cc

pub or-known : (a b : Level) → or3 a b ≢ Z
or-known One b = λ e. cc
or-known Zero One = λ e. cc
or-known Zero Zero = λ e. cc
or-known Zero Z = λ e. cc
or-known Zero X = λ e. cc
or-known Z Zero = λ e. cc
or-known Z One = λ e. cc
or-known Z Z = λ e. cc
or-known Z X = λ e. cc
or-known X Zero = λ e. cc
or-known X One = λ e. cc
or-known X Z = λ e. cc
or-known X X = λ e. cc

pub inverted-twice : (h q : Bool) (a : Level) → not3 (not3 a) ≡ a → cond (same_bool h q) a (not3 a) ≡ cond h (cond q a (not3 a)) (not3 (cond q a (not3 a)))
inverted-twice true true a e = refl
inverted-twice true false a e = refl
inverted-twice false true a e = refl
inverted-twice false false a e = sym e

abbrev pub is_zero : Level → Bool
is_zero Zero = true
is_zero _ = false

abbrev pub is_one : Level → Bool
is_one One = true
is_one _ = false

-- 0 where one literal is 0, 1 where all are 1, else X
abbrev pub by_tests : Bool → Bool → Level
by_tests true all = Zero
by_tests false true = One
by_tests false false = X

pub and-tests : (a : Level) (any all : Bool) → and3 a (by_tests any all) ≡ by_tests (is_zero a || any) (is_one a && all)
and-tests Zero any all = refl
and-tests One true all = refl
and-tests One false true = refl
and-tests One false false = refl
and-tests Z true all = refl
and-tests Z false true = refl
and-tests Z false false = refl
and-tests X true all = refl
and-tests X false true = refl
and-tests X false false = refl

-- NOT of NOT of a level that is driven
pub not3-twice : (a : Level) → a ≢ Z → not3 (not3 a) ≡ a
not3-twice Zero h = refl
not3-twice One h = refl
not3-twice Z h = absurd (h refl)
not3-twice X h = refl

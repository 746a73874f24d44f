-- Tables of levels, read by the functions that say a level.
use Rattle.std.proofs.Common.{◌≡◌, ◌&&◌, ◌||◌, refl}
use Rattle.mig_base.specs.declared.levels.Level.{Level}
use Rattle.mig_base.specs.declared.levels.Level.TheVariants.{Zero, One, Z, X}
use Rattle.mig_base.specs.Levels.{same_level, and3, or3, resolve2}
use Rattle.level_laws.specs.Settled.{gated}
use Rattle.reckoning.specs.Triples.{allows_one, allows_zero}

pub and-assoc : (x y z : Level) → and3 x (and3 y z) ≡ and3 (and3 x y) z
and-assoc Zero Zero Zero = refl
and-assoc Zero Zero One = refl
and-assoc Zero Zero Z = refl
and-assoc Zero Zero X = refl
and-assoc Zero One Zero = refl
and-assoc Zero One One = refl
and-assoc Zero One Z = refl
and-assoc Zero One X = refl
and-assoc Zero Z Zero = refl
and-assoc Zero Z One = refl
and-assoc Zero Z Z = refl
and-assoc Zero Z X = refl
and-assoc Zero X Zero = refl
and-assoc Zero X One = refl
and-assoc Zero X Z = refl
and-assoc Zero X X = refl
and-assoc One Zero Zero = refl
and-assoc One Zero One = refl
and-assoc One Zero Z = refl
and-assoc One Zero X = refl
and-assoc One One Zero = refl
and-assoc One One One = refl
and-assoc One One Z = refl
and-assoc One One X = refl
and-assoc One Z Zero = refl
and-assoc One Z One = refl
and-assoc One Z Z = refl
and-assoc One Z X = refl
and-assoc One X Zero = refl
and-assoc One X One = refl
and-assoc One X Z = refl
and-assoc One X X = refl
and-assoc Z Zero Zero = refl
and-assoc Z Zero One = refl
and-assoc Z Zero Z = refl
and-assoc Z Zero X = refl
and-assoc Z One Zero = refl
and-assoc Z One One = refl
and-assoc Z One Z = refl
and-assoc Z One X = refl
and-assoc Z Z Zero = refl
and-assoc Z Z One = refl
and-assoc Z Z Z = refl
and-assoc Z Z X = refl
and-assoc Z X Zero = refl
and-assoc Z X One = refl
and-assoc Z X Z = refl
and-assoc Z X X = refl
and-assoc X Zero Zero = refl
and-assoc X Zero One = refl
and-assoc X Zero Z = refl
and-assoc X Zero X = refl
and-assoc X One Zero = refl
and-assoc X One One = refl
and-assoc X One Z = refl
and-assoc X One X = refl
and-assoc X Z Zero = refl
and-assoc X Z One = refl
and-assoc X Z Z = refl
and-assoc X Z X = refl
and-assoc X X Zero = refl
and-assoc X X One = refl
and-assoc X X Z = refl
and-assoc X X X = refl

pub or-assoc : (x y z : Level) → or3 x (or3 y z) ≡ or3 (or3 x y) z
or-assoc Zero Zero Zero = refl
or-assoc Zero Zero One = refl
or-assoc Zero Zero Z = refl
or-assoc Zero Zero X = refl
or-assoc Zero One Zero = refl
or-assoc Zero One One = refl
or-assoc Zero One Z = refl
or-assoc Zero One X = refl
or-assoc Zero Z Zero = refl
or-assoc Zero Z One = refl
or-assoc Zero Z Z = refl
or-assoc Zero Z X = refl
or-assoc Zero X Zero = refl
or-assoc Zero X One = refl
or-assoc Zero X Z = refl
or-assoc Zero X X = refl
or-assoc One Zero Zero = refl
or-assoc One Zero One = refl
or-assoc One Zero Z = refl
or-assoc One Zero X = refl
or-assoc One One Zero = refl
or-assoc One One One = refl
or-assoc One One Z = refl
or-assoc One One X = refl
or-assoc One Z Zero = refl
or-assoc One Z One = refl
or-assoc One Z Z = refl
or-assoc One Z X = refl
or-assoc One X Zero = refl
or-assoc One X One = refl
or-assoc One X Z = refl
or-assoc One X X = refl
or-assoc Z Zero Zero = refl
or-assoc Z Zero One = refl
or-assoc Z Zero Z = refl
or-assoc Z Zero X = refl
or-assoc Z One Zero = refl
or-assoc Z One One = refl
or-assoc Z One Z = refl
or-assoc Z One X = refl
or-assoc Z Z Zero = refl
or-assoc Z Z One = refl
or-assoc Z Z Z = refl
or-assoc Z Z X = refl
or-assoc Z X Zero = refl
or-assoc Z X One = refl
or-assoc Z X Z = refl
or-assoc Z X X = refl
or-assoc X Zero Zero = refl
or-assoc X Zero One = refl
or-assoc X Zero Z = refl
or-assoc X Zero X = refl
or-assoc X One Zero = refl
or-assoc X One One = refl
or-assoc X One Z = refl
or-assoc X One X = refl
or-assoc X Z Zero = refl
or-assoc X Z One = refl
or-assoc X Z Z = refl
or-assoc X Z X = refl
or-assoc X X Zero = refl
or-assoc X X One = refl
or-assoc X X Z = refl
or-assoc X X X = refl

pub and-ends : (x : Level) → and3 x One ≡ and3 One x
and-ends Zero = refl
and-ends One = refl
and-ends Z = refl
and-ends X = refl

pub or-ends : (x : Level) → or3 x Zero ≡ or3 Zero x
or-ends Zero = refl
or-ends One = refl
or-ends Z = refl
or-ends X = refl

pub gated-one : (e a : Level) → same_level (gated e a) One ≡ (same_level e One && same_level a One)
gated-one Zero Zero = refl
gated-one Zero One = refl
gated-one Zero Z = refl
gated-one Zero X = refl
gated-one One Zero = refl
gated-one One One = refl
gated-one One Z = refl
gated-one One X = refl
gated-one Z Zero = refl
gated-one Z One = refl
gated-one Z Z = refl
gated-one Z X = refl
gated-one X Zero = refl
gated-one X One = refl
gated-one X Z = refl
gated-one X X = refl

pub gated-zero : (e a : Level) → same_level (gated e a) Zero ≡ (same_level e One && same_level a Zero)
gated-zero Zero Zero = refl
gated-zero Zero One = refl
gated-zero Zero Z = refl
gated-zero Zero X = refl
gated-zero One Zero = refl
gated-zero One One = refl
gated-zero One Z = refl
gated-zero One X = refl
gated-zero Z Zero = refl
gated-zero Z One = refl
gated-zero Z Z = refl
gated-zero Z X = refl
gated-zero X Zero = refl
gated-zero X One = refl
gated-zero X Z = refl
gated-zero X X = refl

pub gated-float : (e a : Level) → same_level (gated e a) Z ≡ (same_level e Zero || (same_level e One && same_level a Z))
gated-float Zero Zero = refl
gated-float Zero One = refl
gated-float Zero Z = refl
gated-float Zero X = refl
gated-float One Zero = refl
gated-float One One = refl
gated-float One Z = refl
gated-float One X = refl
gated-float Z Zero = refl
gated-float Z One = refl
gated-float Z Z = refl
gated-float Z X = refl
gated-float X Zero = refl
gated-float X One = refl
gated-float X Z = refl
gated-float X X = refl

pub wired-one : (x y : Level) → allows_one (resolve2 x y) ≡ (allows_one x && (same_level y One || same_level y Z))
wired-one Zero Zero = refl
wired-one Zero One = refl
wired-one Zero Z = refl
wired-one Zero X = refl
wired-one One Zero = refl
wired-one One One = refl
wired-one One Z = refl
wired-one One X = refl
wired-one Z Zero = refl
wired-one Z One = refl
wired-one Z Z = refl
wired-one Z X = refl
wired-one X Zero = refl
wired-one X One = refl
wired-one X Z = refl
wired-one X X = refl

pub wired-zero : (x y : Level) → allows_zero (resolve2 x y) ≡ (allows_zero x && (same_level y Zero || same_level y Z))
wired-zero Zero Zero = refl
wired-zero Zero One = refl
wired-zero Zero Z = refl
wired-zero Zero X = refl
wired-zero One Zero = refl
wired-zero One One = refl
wired-zero One Z = refl
wired-zero One X = refl
wired-zero Z Zero = refl
wired-zero Z One = refl
wired-zero Z Z = refl
wired-zero Z X = refl
wired-zero X Zero = refl
wired-zero X One = refl
wired-zero X Z = refl
wired-zero X X = refl

pub wired-float : (x y : Level) → same_level (resolve2 x y) Z ≡ (same_level x Z && same_level y Z)
wired-float Zero Zero = refl
wired-float Zero One = refl
wired-float Zero Z = refl
wired-float Zero X = refl
wired-float One Zero = refl
wired-float One One = refl
wired-float One Z = refl
wired-float One X = refl
wired-float Z Zero = refl
wired-float Z One = refl
wired-float Z Z = refl
wired-float Z X = refl
wired-float X Zero = refl
wired-float X One = refl
wired-float X Z = refl
wired-float X X = refl

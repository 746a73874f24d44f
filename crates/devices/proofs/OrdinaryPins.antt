-- The ordinary pins of chips of 20 and of 24 pins.
use Rattle.std.proofs.Common.{ℕ, ◌≡◌, List, [], ◌∷◌, refl, arith}
use Rattle.mig_base.specs.declared.kinds.Kind.{Kind}
use Rattle.mig_base.specs.declared.kinds.Kind.TheVariants.{Pal16L8, Pal16R4, Pal16R6, Pal16R8, Pal20L8, Pal20R4, Pal20R6, Pal20R8, Gal16V8, Gal20V8, Gal22V10, Gal22V10Q}
use Rattle.mig_base.specs.DeviceTables.{pins_of, ordinary_pins}

abbrev pub ordinary_20 : List ℕ
ordinary_20 = 1 ∷ 2 ∷ 3 ∷ 4 ∷ 5 ∷ 6 ∷ 7 ∷ 8 ∷ 9 ∷ 11 ∷ 12 ∷ 13 ∷ 14 ∷ 15 ∷ 16 ∷ 17 ∷ 18 ∷ 19 ∷ []

abbrev pub ordinary_24 : List ℕ
ordinary_24 = 1 ∷ 2 ∷ 3 ∷ 4 ∷ 5 ∷ 6 ∷ 7 ∷ 8 ∷ 9 ∷ 10 ∷ 11 ∷ 13 ∷ 14 ∷ 15 ∷ 16 ∷ 17 ∷ 18 ∷ 19 ∷ 20 ∷ 21 ∷ 22 ∷ 23 ∷ []

pub ordinary-20 : (k : Kind) → pins_of k ≡ 20 → ordinary_20 ≡ ordinary_pins k
ordinary-20 Pal16L8 e = refl
ordinary-20 Pal16R4 e = refl
ordinary-20 Pal16R6 e = refl
ordinary-20 Pal16R8 e = refl
ordinary-20 Gal16V8 e = refl
ordinary-20 Pal20L8 e = absurd (omega arith)
ordinary-20 Pal20R4 e = absurd (omega arith)
ordinary-20 Pal20R6 e = absurd (omega arith)
ordinary-20 Pal20R8 e = absurd (omega arith)
ordinary-20 Gal20V8 e = absurd (omega arith)
ordinary-20 Gal22V10 e = absurd (omega arith)
ordinary-20 Gal22V10Q e = absurd (omega arith)

pub ordinary-24 : (k : Kind) → (pins_of k ≡ 20 → ⊥) → ordinary_24 ≡ ordinary_pins k
ordinary-24 Pal20L8 e = refl
ordinary-24 Pal20R4 e = refl
ordinary-24 Pal20R6 e = refl
ordinary-24 Pal20R8 e = refl
ordinary-24 Gal20V8 e = refl
ordinary-24 Gal22V10 e = refl
ordinary-24 Gal22V10Q e = refl
ordinary-24 Pal16L8 e = absurd (e refl)
ordinary-24 Pal16R4 e = absurd (e refl)
ordinary-24 Pal16R6 e = absurd (e refl)
ordinary-24 Pal16R8 e = absurd (e refl)
ordinary-24 Gal16V8 e = absurd (e refl)

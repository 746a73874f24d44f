-- Words whose number is wrong.
use Rattle.std.proofs.Common.{ℕ, ◌≡◌, ◌<◌, ◌≤◌, List, [], ◌∷◌, length, map, Err, refl, arith, Bor}
use Rattle.answers.specs.declared.exit.Exit.TheVariants.{Usage}
use Rattle.answers.specs.Commands.{command_or_refusal}

pub few-words : (words : List (Bor (List ℕ))) → length words < 2 → command_or_refusal (map (λ w. w.now) words) ≡ Err Usage
few-words [] few = refl
few-words (a ∷ []) few = refl
few-words (a ∷ b ∷ more) few = absurd (let never : ⊥ = omega arith in never)

pub many-words : (words : List (Bor (List ℕ))) → 5 ≤ length words → command_or_refusal (map (λ w. w.now) words) ≡ Err Usage
many-words [] many = absurd (let never : ⊥ = omega arith in never)
many-words (a ∷ []) many = absurd (let never : ⊥ = omega arith in never)
many-words (a ∷ b ∷ []) many = absurd (let never : ⊥ = omega arith in never)
many-words (a ∷ b ∷ c ∷ []) many = absurd (let never : ⊥ = omega arith in never)
many-words (a ∷ b ∷ c ∷ d ∷ []) many = absurd (let never : ⊥ = omega arith in never)
many-words (a ∷ b ∷ c ∷ d ∷ e ∷ more) many = refl

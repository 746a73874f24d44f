-- The first number that passes.
use Rattle.std.proofs.Common.{ℕ, suc, ◌≡◌, ◌+◌, Bool, false, cond, ◌∷◌, sym, ap, ◌∙◌}
use Rattle.std.specs.Prelude.{filter}
use Rattle.mig_base.specs.First.{made_from}
use Rattle.new_board.specs.NewChip.{first_of}

first-made : (p : ℕ → Bool) (i n m : ℕ) → n ≡ suc m →
    first_of (filter p (made_from (λ k. k) i n)) ≡ first_of (cond (p i) (i ∷ filter p (made_from (λ k. k) (i + 1) m)) (filter p (made_from (λ k. k) (i + 1) m)))
first-made p i n m e = ap (λ (k : ℕ). first_of (filter p (made_from (λ k. k) i k))) e

pub first-later : (p : ℕ → Bool) (i n m : ℕ) → n ≡ suc m → p i ≡ false → first_of (filter p (made_from (λ k. k) (i + 1) m)) ≡ first_of (filter p (made_from (λ k. k) i n))
first-later p i n m e h =
    sym (first-made p i n m e ∙ ap (λ (q : Bool). first_of (cond q (i ∷ filter p (made_from (λ k. k) (i + 1) m)) (filter p (made_from (λ k. k) (i + 1) m)))) h)

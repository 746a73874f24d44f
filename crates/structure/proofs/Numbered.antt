-- Lists of numbers made one by one.
use Rattle.std.proofs.Common.{ℕ, zero, suc, ◌≡◌, ◌+◌, [], ◌∷◌, ◌++◌, ap, ◌∙◌, arith}
use Rattle.mig_base.specs.First.{made_from}

pub made_from-more : {T : Type 0} (f : ℕ → T) (start n : ℕ) → made_from f start (n + 1) ≡ made_from f start n ++ f (start + n) ∷ []
made_from-more f start zero = ap (λ (k : ℕ). f k ∷ []) (omega arith)
made_from-more f start (suc n) =
    let e : suc n + 1 ≡ suc (n + 1) = omega arith in
    ap (made_from f start) e ∙ ap (λ ks. f start ∷ ks) (made_from-more f (start + 1) n ∙ ap (λ (k : ℕ). made_from f (start + 1) n ++ f k ∷ []) (omega arith))

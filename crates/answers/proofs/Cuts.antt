-- A word cut at its first dot.
use Rattle.std.proofs.Common.{ℕ, suc, ◌≡◌, ◌<◌, ◌+◌, Bool, true, false, not, cond, List, [], ◌∷◌, length, take, drop, Option, Some, None, eqb, refl, sym, ap, ◌∙◌, arith, Bor}
use Rattle.std.specs.Prelude.{MatchOption}
use Rattle.std.specs.Option.{option_map}
use Rattle.std.specs.List.{position_or_len, before_first, after_first}
use Rattle.mig_base.specs.FuseText.{cut_at}

-- the two parts
abbrev Parts : Type 0
Parts = Option (List ℕ × List ℕ)

-- the same behind one more byte
abbrev onto : ℕ → Parts → Parts
onto b o = option_map (λ p. (b ∷ p.0, p.1)) o

none-step : (t : Bool) (b n len : ℕ) (bs : List ℕ) (o : Parts) → cond (not t) (1 + n) 0 ≡ suc len → (n ≡ len → o ≡ None) → cond {A = Parts} t (Some ([], bs)) (onto b o) ≡ None
none-step true b n len bs o h rest = absurd (let never : ⊥ = omega arith in never)
none-step false b n len bs o h rest = ap (onto b) (rest (omega arith))

cut-none : (c : ℕ) (bs : List ℕ) → position_or_len (λ b. eqb b c) bs ≡ length bs → cut_at c bs ≡ None
cut-none c [] e = refl
cut-none c (b ∷ bs) e = none-step (eqb b c) b (position_or_len (λ x. eqb x c) bs) (length bs) bs (cut_at c bs) e (cut-none c bs)

-- one place further on
abbrev parts_at : ℕ → List ℕ → Parts
parts_at n bs = Some (take n bs, drop (n + 1) bs)

further : (b n : ℕ) (bs : List ℕ) → onto b (parts_at n bs) ≡ parts_at (1 + n) (b ∷ bs)
further b n bs =
    let one : 1 + n ≡ suc n = omega arith in
    let two : suc n + 1 ≡ suc (n + 1) = omega arith in
    ap (λ (k : ℕ). Some (b ∷ take n bs, drop k (b ∷ bs))) (sym two) ∙ ap (λ (k : ℕ). parts_at k (b ∷ bs)) (sym one)

first-step : (t : Bool) (b n : ℕ) (bs : List ℕ) (o : Parts) → cond (not t) (1 + n) 0 < suc (length bs) → (n < length bs → o ≡ parts_at n bs) →
    cond {A = Parts} t (Some ([], bs)) (onto b o) ≡ parts_at (cond (not t) (1 + n) 0) (b ∷ bs)
first-step true b n bs o h rest = refl
first-step false b n bs o h rest = ap (onto b) (rest (omega arith)) ∙ further b n bs

cut-first : (c : ℕ) (bs : List ℕ) → position_or_len (λ b. eqb b c) bs < length bs → cut_at c bs ≡ Some (before_first (λ b. eqb b c) bs, after_first (λ b. eqb b c) bs)
cut-first c [] e = absurd (let never : ⊥ = omega arith in never)
cut-first c (b ∷ bs) e = first-step (eqb b c) b (position_or_len (λ x. eqb x c) bs) bs (cut_at c bs) e (cut-first c bs)

-- the two parts that were found, or none
pub cut-by : (c : ℕ) (bs : List ℕ) (r : Option (Bor (List ℕ) × Bor (List ℕ))) →
    MatchOption r (position_or_len (λ b. eqb b c) bs ≡ length bs) (λ x. (position_or_len (λ b. eqb b c) bs < length bs) × (x.0.now ≡ before_first (λ b. eqb b c) bs) × (x.1.now ≡ after_first (λ b. eqb b c) bs)) →
    option_map (λ p. (p.0.now, p.1.now)) r ≡ cut_at c bs
cut-by c bs None found = sym (cut-none c bs found)
cut-by c bs (Some x) found =
    ap (λ (front : List ℕ). Some (front, x.1.now)) found.1 ∙ ap (λ (rest : List ℕ). Some (before_first (λ b. eqb b c) bs, rest)) found.2 ∙ sym (cut-first c bs found.0)

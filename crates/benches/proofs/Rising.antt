-- Units that can be absorbed, chosen one at a time.
use Rattle.std.proofs.Common.{ℕ, zero, suc, ◌≡◌, refl, ◌+◌, ◌<◌, ◌⊎◌, List, [], ◌∷◌, ◌++◌, subst, sym, arith, inl, inr}
use Rattle.std.specs.List.{AllPairs, All}
use Rattle.std.proofs.lemmas.List.Kept.{AllPairs-cons}
use Rattle.mig_base.specs.Among.{Among}
use Rattle.structure.specs.Absorbable.{IsAbsorbable}
use Rattle.board.specs.Joined.{Joined, equations_of}
use Rattle.mig_base.proofs.Amongs.{among-split}

-- all are below
abbrev pub AreBelow : ℕ → List ℕ → Type 0
AreBelow n xs = (u : ℕ) → Among u xs → u < n

-- a list of no number
no_number : (x : ℕ) → All (λ y. x < y) []
no_number x i d lt = absurd (omega arith)

above_more : (x n : ℕ) (xs : List ℕ) → x < n → All (λ y. x < y) xs → All (λ y. x < y) (xs ++ n ∷ [])
above_more x n [] lt h zero d within = lt
above_more x n [] lt h (suc i) d within = absurd (omega arith)
above_more x n (y ∷ ys) lt h zero d within = h zero d (omega arith)
above_more x n (y ∷ ys) lt h (suc i) d within = above_more x n ys lt (λ j e inside. h (suc j) e (omega arith)) i d (omega arith)

-- a number above all others stands last
pub rises_more : (n : ℕ) (xs : List ℕ) → AllPairs (λ x y. x < y) xs → AreBelow n xs → AllPairs (λ x y. x < y) (xs ++ n ∷ [])
rises_more n [] h below = AllPairs-cons (λ x y. x < y) n [] (no_number n) h
rises_more n (x ∷ xs) h below =
    AllPairs-cons (λ a b. a < b) x (xs ++ n ∷ []) (above_more x n xs (below x (inl refl)) (λ j d within. h zero (suc j) d (omega arith) (omega arith)))
    (rises_more n xs (λ i j d lt within. h (suc i) (suc j) d (omega arith) (omega arith)) (λ u a. below u (inr a)))

-- units of a board that can be absorbed, rising and all below n
abbrev pub Chosen : Joined → ℕ → List ℕ → Type 0
Chosen b n xs = AllPairs (λ x y. x < y) xs × AreBelow n xs × ((u : ℕ) → Among u xs → IsAbsorbable (equations_of b) u)

pub chosen_stays : (b : Joined) (n : ℕ) (xs ys : List ℕ) → ys ≡ xs → Chosen b n xs → Chosen b (n + 1) ys
chosen_stays b n xs ys e h = subst (Chosen b (n + 1)) (sym e) (h.0, (λ u a. later u (h.1 u a)), h.2)
  where
    later : (u : ℕ) → u < n → u < n + 1
    later u l = omega arith

pub chosen_more : (b : Joined) (n : ℕ) (xs ys : List ℕ) → ys ≡ xs ++ n ∷ [] → Chosen b n xs → IsAbsorbable (equations_of b) n → Chosen b (n + 1) ys
chosen_more b n xs ys e h p = subst (Chosen b (n + 1)) (sym e) (rises_more n xs h.0 h.1, below, each)
  where
    below_by : (u : ℕ) → Among u xs ⊎ Among u (n ∷ []) → u < n + 1
    below_by u (inl a) = let l : u < n = h.1 u a in omega arith
    below_by u (inr (inl q)) = omega (arith, q)
    below_by u (inr (inr none)) = absurd none

    below : (u : ℕ) → Among u (xs ++ n ∷ []) → u < n + 1
    below u a = below_by u (among-split u xs (n ∷ []) a)

    each_by : (u : ℕ) → Among u xs ⊎ Among u (n ∷ []) → IsAbsorbable (equations_of b) u
    each_by u (inl a) = h.2 u a
    each_by u (inr (inl q)) = subst (IsAbsorbable (equations_of b)) (sym q) p
    each_by u (inr (inr none)) = absurd none

    each : (u : ℕ) → Among u (xs ++ n ∷ []) → IsAbsorbable (equations_of b) u
    each u a = each_by u (among-split u xs (n ∷ []) a)

-- The leaves of the first registers of classes, in the order of their variables.
use Rattle.std.proofs.Common.{ℕ, suc, ◌≡◌, ◌⊎◌, ◌+◌, ◌<◌, Bool, true, false, cond, List, [], ◌∷◌, ◌++◌, length, refl, sym, ap, ◌∙◌, subst, arith, inl, inr}
use Rattle.std.specs.Prelude.{◌==◌}
use Rattle.std.proofs.lemmas.Bool.{eq-eqb, eqb-true}
use Rattle.std.proofs.lemmas.List.{length-append}
use Rattle.bdd.specs.Tree.{Point}
use Rattle.mig_base.specs.declared.levels.Level.{Level}
use Rattle.mig_base.specs.Levels.{level_at}
use Rattle.leaves.specs.declared.Leaf.{Leaf}
use Rattle.leaves.specs.declared.Range.{Range}
use Rattle.leaves.specs.Leaves.{AllFit, Fits, leaf_level, leaf_levels, leaves_from, point_of_levels, variables_of, width}
use Rattle.leaves.specs.Spread.{AreTied, leader_levels}
use Rattle.leaves.proofs.Points.{width-is}
use Rattle.class_leaves.specs.Pures.{flag_at}
use Rattle.class_leaves.specs.ClassLeaves.{class_end, class_leaves, class_range, class_ranges, leaf_at, new_leaf, next_leaf, next_place}
use Rattle.class_leaves.specs.PairsAt.{widths}
use Rattle.pairs_at.proofs.ClassLevels.{level-at-leaf, levels-long, levels-push, new-next, old-next}

pub leaves-append : (n : ℕ) (rs ss : List Range) → leaves_from n (rs ++ ss) ≡ leaves_from n rs ++ leaves_from (n + widths rs) ss
leaves-append n [] ss = ap (λ (m : ℕ). leaves_from m ss) (let e : n ≡ n + 0 = omega arith in e)
leaves-append n (r ∷ rs) ss =
    ap (λ (fs : List Leaf). record { place = n; range = r } ∷ fs)
    (leaves-append (n + width r) rs ss ∙ ap (λ (m : ℕ). leaves_from (n + width r) rs ++ leaves_from m ss) (let e : n + width r + widths rs ≡ n + (width r + widths rs) = omega arith in e))

longer : (done : List Leaf) (f : Leaf) → length (done ++ f ∷ []) ≡ length done + 1
longer done f = length-append done (f ∷ [])

-- the first variable behind the leaves of the classes
pub end-is : (bits : List Bool) (place : ℕ) (done : List Leaf) (cs : List ℕ) → class_end bits place done cs ≡ place + widths (class_ranges bits (length done) cs)
end-is bits place done [] = let e : place ≡ place + 0 = omega arith in e
end-is bits place done (c ∷ cs) =
    let f = next_leaf bits place done c in
    end-is bits (next_place bits place done c) (done ++ f ∷ []) cs
    ∙ ap (λ (m : ℕ). next_place bits place done c + widths (class_ranges bits m cs)) (longer done f)
    ∙ sums (class_range (flag_at bits c)) (class_ranges bits (length done + 1) cs) (c == length done)
  where
    sums : (r : Range) (rs : List Range) (q : Bool) → cond q (place + width r) place + widths rs ≡ place + widths (cond q (r ∷ rs) rs)
    sums r rs true = let e : place + width r + widths rs ≡ place + (width r + widths rs) = omega arith in e
    sums r rs false = refl

-- the leaves have these levels where those of the first registers have
pub stored-back : (p : Point) (bits : List Bool) (place : ℕ) (done : List Leaf) (cs : List ℕ) (xs : List Level) → AreTied (leaf_levels p done) cs xs →
    leaf_levels p (leaves_from place (class_ranges bits (length done) cs)) ≡ leader_levels (length done) cs xs → leaf_levels p (class_leaves bits place done cs) ≡ xs
stored-back p bits place done [] [] tied e = refl
stored-back p bits place done [] (x ∷ xs) tied e = absurd tied
stored-back p bits place done (c ∷ cs) [] tied e = absurd tied
stored-back p bits place done (c ∷ cs) (x ∷ xs) tied e =
    let f = next_leaf bits place done c in
    let first : leaf_level f p ≡ x = at tied.0 in
    let later : leaf_levels p (leaves_from (next_place bits place done c) (class_ranges bits (length done + 1) cs)) ≡ leader_levels (length done + 1) cs xs =
    rest (class_range (flag_at bits c)) (class_ranges bits (length done + 1) cs) (leader_levels (length done + 1) cs xs) (c == length done) e in
    (λ i. first i ∷ stored-back p bits (next_place bits place done c) (done ++ f ∷ []) cs xs
    (subst (λ (before : List Level). AreTied before cs xs) (sym (levels-push p done f ∙ ap (λ (y : Level). leaf_levels p done ++ y ∷ []) first)) tied.1)
    (subst (λ (m : ℕ). leaf_levels p (leaves_from (next_place bits place done c) (class_ranges bits m cs)) ≡ leader_levels m cs xs) (sym (longer done f)) later) i)
  where
    rest : (r : Range) (rs : List Range) (ls : List Level) (q : Bool) → leaf_levels p (leaves_from place (cond q (r ∷ rs) rs)) ≡ cond q (x ∷ ls) ls →
        leaf_levels p (leaves_from (cond q (place + width r) place) rs) ≡ ls
    rest r rs ls true h = cc
    rest r rs ls false h = h

    head : (r : Range) (rs : List Range) (ls : List Level) (q : Bool) → q ≡ true → leaf_levels p (leaves_from place (cond q (r ∷ rs) rs)) ≡ cond q (x ∷ ls) ls →
        leaf_level (record { place = place; range = r }) p ≡ x
    head r rs ls true g h = cc
    head r rs ls false g h = cc

    at : (c ≡ length (leaf_levels p done)) ⊎ ((c < length (leaf_levels p done)) × (x ≡ level_at (leaf_levels p done) c)) → leaf_level (next_leaf bits place done c) p ≡ x
    at (inl g) =
        let own : c ≡ length done = g ∙ levels-long p done in
        ap (λ (f : Leaf). leaf_level f p) (new-next bits place done c own)
        ∙ head (class_range (flag_at bits c)) (class_ranges bits (length done + 1) cs) (leader_levels (length done + 1) cs xs) (c == length done) (eq-eqb c (length done) own) e
    at (inr h) =
        let early : c < length done = subst (λ (n : ℕ). c < n) (levels-long p done) h.0 in
        ap (λ (f : Leaf). leaf_level f p) (old-next bits place done c early) ∙ sym (level-at-leaf p done c early) ∙ sym h.1

-- the levels of the first registers are those of their leaves
pub leaders-at : (p : Point) (bits : List Bool) (place : ℕ) (done : List Leaf) (cs : List ℕ) →
    leader_levels (length done) cs (leaf_levels p (class_leaves bits place done cs)) ≡ leaf_levels p (leaves_from place (class_ranges bits (length done) cs))
leaders-at p bits place done [] = refl
leaders-at p bits place done (c ∷ cs) =
    let f = next_leaf bits place done c in
    let next = next_place bits place done c in
    let ls = leaf_levels p (class_leaves bits next (done ++ f ∷ []) cs) in
    step (class_ranges bits (length done + 1) cs) (c == length done) refl (leader_levels (length done + 1) cs ls)
    (subst (λ (m : ℕ). leader_levels m cs ls ≡ leaf_levels p (leaves_from next (class_ranges bits m cs))) (longer done f) (leaders-at p bits next (done ++ f ∷ []) cs))
  where
    step : (rs : List Range) (q : Bool) → (c == length done) ≡ q → (ls : List Level) →
        ls ≡ leaf_levels p (leaves_from (cond q (place + width (class_range (flag_at bits c))) place) rs) →
        cond q (leaf_level (next_leaf bits place done c) p ∷ ls) ls ≡ leaf_levels p (leaves_from place (cond q (class_range (flag_at bits c) ∷ rs) rs))
    step rs true e ls h = (λ i. leaf_level (cond (e i) (new_leaf bits place c) (leaf_at done c)) p ∷ h i)
    step rs false e ls h = h

-- levels that fit the classes fit the first registers
pub leaders-fit : (bits : List Bool) (i : ℕ) (cs : List ℕ) (xs : List Level) → length xs ≡ length cs → ((k : ℕ) → k < length cs → Fits (class_range (flag_at bits (i + k))) (level_at xs k)) →
    AllFit (class_ranges bits i cs) (leader_levels i cs xs)
leaders-fit bits i [] [] long fit = tt
leaders-fit bits i [] (x ∷ xs) long fit = absurd (omega arith)
leaders-fit bits i (c ∷ cs) [] long fit = absurd (omega arith)
leaders-fit bits i (c ∷ cs) (x ∷ xs) long fit =
    step (c == i) refl (leaders-fit bits (i + 1) cs xs (omega arith)
    (λ k lt. subst (λ (m : ℕ). Fits (class_range (flag_at bits m)) (level_at xs k)) (let e : i + suc k ≡ i + 1 + k = omega arith in e) (fit (suc k) (omega arith))))
  where
    step : (q : Bool) → (c == i) ≡ q → AllFit (class_ranges bits (i + 1) cs) (leader_levels (i + 1) cs xs) →
        AllFit (cond q (class_range (flag_at bits c) ∷ class_ranges bits (i + 1) cs) (class_ranges bits (i + 1) cs)) (cond q (x ∷ leader_levels (i + 1) cs xs) (leader_levels (i + 1) cs xs))
    step true e rest = (subst (λ (m : ℕ). Fits (class_range (flag_at bits m)) x) (let same : c ≡ i = eqb-true c i e in let f : i + 0 ≡ c = omega arith in f) (fit 0 (omega arith)), rest)
    step false e rest = rest

pub fit-append : (rs ss : List Range) (xs ys : List Level) → AllFit rs xs → AllFit ss ys → AllFit (rs ++ ss) (xs ++ ys)
fit-append [] ss [] ys fit more = more
fit-append [] ss (x ∷ xs) ys fit more = absurd fit
fit-append (r ∷ rs) ss [] ys fit more = absurd fit
fit-append (r ∷ rs) ss (x ∷ xs) ys fit more = (fit.0, fit-append rs ss xs ys fit.1 more)

pub fit-long : (rs : List Range) (xs : List Level) → AllFit rs xs → length (leaves_from 0 rs) ≡ length xs
fit-long rs xs fit = long 0 rs xs fit
  where
    long : (n : ℕ) (qs : List Range) (ys : List Level) → AllFit qs ys → length (leaves_from n qs) ≡ length ys
    long n [] [] h = refl
    long n [] (y ∷ ys) h = absurd h
    long n (q ∷ qs) [] h = absurd h
    long n (q ∷ qs) (y ∷ ys) h = ap suc (long (n + width q) qs ys h.1)

-- the point of levels has as many variables as their ranges
pub point-long : (rs : List Range) (xs : List Level) → AllFit rs xs → length (point_of_levels rs xs) ≡ widths rs
point-long [] [] fit = refl
point-long [] (x ∷ xs) fit = absurd fit
point-long (r ∷ rs) [] fit = absurd fit
point-long (r ∷ rs) (x ∷ xs) fit = length-append (variables_of r x) (point_of_levels rs xs) ∙ (λ i. width-is r x i + point-long rs xs fit.1 i)

-- Only one loop is reported of a board.
use Rattle.std.proofs.Common.{ℕ, ◌≡◌, ◌⊎◌, ◌<◌, ◌≤◌, List, [], ◌∷◌, ◌++◌, length, refl, sym, ap, ◌∙◌, subst, arith, inl, inr}
use Rattle.std.proofs.lemmas.Bool.{cases_eq, cases_lt}
use Rattle.mig_base.specs.declared.circuit.Circuit.{Circuit}
use Rattle.mig_base.specs.declared.circuit.Read.{Read}
use Rattle.mig_base.specs.Accepted.{Walk}
use Rattle.mig_base.specs.Among.{Among}
use Rattle.mig_base.specs.Reads.{node_reads}
use Rattle.mig_base.specs.Structure.{all_variables}
use Rattle.ranks.specs.FirstLoop.{GoesHome, IsFirst, IsFirstLoop, IsLoopFrom, IsOnLoop, IsShortest}

-- a list that is split twice is split at one item, or one of both stands before the other
split-twice : {T : Type 0} (before before' after after' : List T) (x y : T) → before ++ x ∷ after ≡ before' ++ y ∷ after' → (x ≡ y) ⊎ (Among x before' ⊎ Among y before)
split-twice [] [] after after' x y e = inl (cc)
split-twice [] (b' ∷ bs') after after' x y e = inr (inl (inl (cc)))
split-twice (b ∷ bs) [] after after' x y e = inr (inr (inl (cc)))
split-twice {T} (b ∷ bs) (b' ∷ bs') after after' x y e = more (split-twice bs bs' after after' x y (cc))
  where
    more : (x ≡ y) ⊎ (Among x bs' ⊎ Among y bs) → (x ≡ y) ⊎ (Among x (b' ∷ bs') ⊎ Among y (b ∷ bs))
    more (inl same) = inl same
    more (inr (inl a)) = inr (inl (inr a))
    more (inr (inr a)) = inr (inr (inr a))

-- a list has only one first item with a property
pub first-unique : {T : Type 0} (P : T → Type 0) (items : List T) (x y : T) → IsFirst P items x → IsFirst P items y → x ≡ y
first-unique P items x y first other = at (split-twice first.before other.before first.after other.after x y (sym first.split ∙ other.split))
  where
    at : (x ≡ y) ⊎ (Among x other.before ⊎ Among y first.before) → x ≡ y
    at (inl same) = same
    at (inr (inl a)) = absurd (other.none x a first.has)
    at (inr (inr a)) = absurd (first.none y a other.has)

-- shortest walks between two nodes have the same number of steps
shortest-unique : (c : Circuit) (n m : ℕ) (v w : Read) → IsShortest c n v w → IsShortest c m v w → n ≡ m
shortest-unique c n m v w a b = at (cases_eq n m) (cases_lt n m)
  where
    at : (n ≡ m) ⊎ (n ≡ m → ⊥) → (n < m) ⊎ (m ≤ n) → n ≡ m
    at (inl same) order = same
    at (inr ne) (inl less) = absurd (b.1 n less a.0)
    at (inr ne) (inr more) = absurd (a.1 m (omega arith) b.0)

-- the ways home of one length from a node are one way
way-unique : (c : Circuit) (home v : Read) (rest other : List Read) → length rest ≡ length other → GoesHome c home v rest → GoesHome c home v other → rest ≡ other
way-unique c home v [] [] long a b = refl
way-unique c home v [] (w ∷ ws) long a b = absurd (omega (arith, long))
way-unique c home v (w ∷ ws) [] long a b = absurd (omega (arith, long))
way-unique c home v (w ∷ ws) (u ∷ us) long a b =
    let left : length ws ≡ length us = omega (arith, long) in
    let next : IsFirst (λ x. Among x (node_reads c v) × Walk c (length us) x home) (all_variables c) w =
    subst (λ (n : ℕ). IsFirst (λ x. Among x (node_reads c v) × Walk c n x home) (all_variables c) w) left a.0 in
    let same : w ≡ u = first-unique (λ x. Among x (node_reads c v) × Walk c (length us) x home) (all_variables c) w u next b.0 in
    ap (λ (x : Read). x ∷ ws) same ∙ ap (λ (xs : List Read). u ∷ xs) (way-unique c home u ws us left (subst (λ (x : Read). GoesHome c home x ws) same a.1) b.1)

loop-unique : (c : Circuit) (home : Read) (rest other : List Read) → IsLoopFrom c home rest → IsLoopFrom c home other → rest ≡ other
loop-unique c home rest other a b = way-unique c home home rest other (shortest-unique c (length rest) (length other) home home a.shortest b.shortest) a.way b.way

-- a board has only one reported loop
pub first_loop-unique : (c : Circuit) (one other : List Read) → IsFirstLoop c one → IsFirstLoop c other → one ≡ other
first_loop-unique c [] other a b = absurd a
first_loop-unique c (v ∷ vs) [] a b = absurd b
first_loop-unique c (v ∷ vs) (w ∷ ws) a b =
    let same : v ≡ w = first-unique (IsOnLoop c) (all_variables c) v w a.first b.first in
    ap (λ (x : Read). x ∷ vs) same ∙ ap (λ (xs : List Read). w ∷ xs) (loop-unique c w vs ws (subst (λ (x : Read). IsLoopFrom c x vs) same a) b)

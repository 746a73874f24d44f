-- Two trees in normal form are equal where their functions are.
use Rattle.std.proofs.Common.{◌≡◌, ℕ, ◌+◌, ◌<◌, ◌≤◌, Bool, true, false, cond, not, refl, sym, ◌∙◌, ap, subst, arith, nat_eq, ◌⊎◌, inl, inr}
use Rattle.std.proofs.lemmas.Bool.Decides.{nat_tests}
use Rattle.bdd.specs.Tree.{Tree, Leaf, Branch, Point, holds, IsNormal, IsFrom, negated, xor, under_mark}

-- the point p with the variable v at b
abbrev pub with_var : Point → ℕ → Bool → Point
with_var p v b w = cond (nat_eq w v) b (p w)

pub with_var_same : (p : Point) (v : ℕ) (b : Bool) → with_var p v b v ≡ b
with_var_same p v b = grind (arith, nat_tests)

pub with_var_other : (p : Point) (v : ℕ) (b : Bool) (w : ℕ) → v < w → p w ≡ with_var p v b w
with_var_other p v b w h = grind (arith, nat_tests)

-- a tree from k on reads only variables from k on
pub holds_agree : (t : Tree) (n k : ℕ) (p q : Point) → IsNormal n k t → ((w : ℕ) → k ≤ w → p w ≡ q w) → holds t p ≡ holds t q
holds_agree (Leaf b) n k p q h e = refl
holds_agree (Branch v low high) n k p q h e =
    (λ i. cond (e v h.0 i) (holds_agree high n (v + 1) p q h.4 (λ w l. e w (omega arith)) i) (holds_agree low n (v + 1) p q h.3 (λ w l. e w (omega arith)) i))

-- so a tree from v + 1 on does not read v
pub holds_with_var : (t : Tree) (n v : ℕ) (p : Point) (b : Bool) → IsNormal n (v + 1) t → holds t p ≡ holds t (with_var p v b)
holds_with_var t n v p b h = holds_agree t n (v + 1) p (with_var p v b) h (λ w l. with_var_other p v b w (omega arith))

-- the two sides of a choice, by the function of the choice
pub holds_low : (v : ℕ) (low high : Tree) (n : ℕ) (p : Point) → IsNormal n (v + 1) low → holds low p ≡ holds (Branch v low high) (with_var p v false)
holds_low v low high n p h = holds_with_var low n v p false h
    ∙ sym (ap (λ c. cond c (holds high (with_var p v false)) (holds low (with_var p v false))) (with_var_same p v false))

pub holds_high : (v : ℕ) (low high : Tree) (n : ℕ) (p : Point) → IsNormal n (v + 1) high → holds high p ≡ holds (Branch v low high) (with_var p v true)
holds_high v low high n p h = holds_with_var high n v p true h
    ∙ sym (ap (λ c. cond c (holds high (with_var p v true)) (holds low (with_var p v true))) (with_var_same p v true))

-- what is normal from k on is so from any number below
pub normal_weaken : (t : Tree) (n k j : ℕ) → j ≤ k → IsNormal n k t → IsNormal n j t
normal_weaken (Leaf b) n k j l h = tt
normal_weaken (Branch v low high) n k j l h = (omega arith, h.1, h.2, h.3, h.4)

-- a normal tree that asks no variable below k is normal from k on
pub normal_from : (t : Tree) (n j k : ℕ) → IsNormal n j t → IsFrom k t → IsNormal n k t
normal_from (Leaf b) n j k h f = tt
normal_from (Branch v low high) n j k h f = (f, h.1, h.2, h.3, h.4)

abbrev Same : Tree → Tree → Type 0
Same t u = (p : Point) → holds t p ≡ holds u p

data Order (v w : ℕ) : Type 0 where
  below : v < w → Order v w
  equal : v ≡ w → Order v w
  above : w < v → Order v w

order : (v w : ℕ) → Order v w
order v w = elim (cases v w) [ inl l ↦ below l | inr r ↦ elim r [ inl e ↦ equal e | inr l ↦ above l ] ]
  where
    cases : (v w : ℕ) → (v < w) ⊎ ((v ≡ w) ⊎ (w < v))
    cases v w = grind arith

-- u is no function of v, so a choice by v that is u has two equal sides
both_sides : (v : ℕ) (low high u : Tree) (n : ℕ) → IsNormal n (v + 1) low → IsNormal n (v + 1) high → IsNormal n (v + 1) u → Same (Branch v low high) u → Same low u × Same high u
both_sides v low high u n nl nh nu same = (
  (λ p. holds_low v low high n p nl ∙ same (with_var p v false) ∙ sym (holds_with_var u n v p false nu)),
  (λ p. holds_high v low high n p nh ∙ same (with_var p v true) ∙ sym (holds_with_var u n v p true nu)),
)

-- a tree that equals every normal tree with its function
abbrev IsAlone : Tree → Type 0
IsAlone t = (u : Tree) (n j k : ℕ) → IsNormal n j t → IsNormal n k u → Same t u → t ≡ u

alone_leaf : (b : Bool) → IsAlone (Leaf b)
alone_leaf b (Leaf c) n j k ht hu same = ap Leaf (same (λ _. false))
alone_leaf b (Branch w low high) n j k ht hu same =
    let s = both_sides w low high (Leaf b) n hu.3 hu.4 tt (λ p. sym (same p)) in
    absurd (hu.2 (sym (alone_leaf b low n 0 (w + 1) tt hu.3 (λ p. sym (s.0 p))) ∙ alone_leaf b high n 0 (w + 1) tt hu.4 (λ p. sym (s.1 p))))

alone_branch : (v : ℕ) (low high : Tree) → IsAlone low → IsAlone high → IsAlone (Branch v low high)
alone_branch v low high al ah (Leaf c) n j k ht hu same =
    let s = both_sides v low high (Leaf c) n ht.3 ht.4 tt same in
    absurd (ht.2 (al (Leaf c) n (v + 1) 0 ht.3 tt s.0 ∙ sym (ah (Leaf c) n (v + 1) 0 ht.4 tt s.1)))
alone_branch v low high al ah (Branch w l h) n j k ht hu same =
    elim (order v w) [
      | below b ↦
          let u = Branch w l h in
          let hu' : IsNormal n (v + 1) u = (omega arith, hu.1, hu.2, hu.3, hu.4) in
          let s = both_sides v low high u n ht.3 ht.4 hu' same in
          absurd (ht.2 (al u n (v + 1) (v + 1) ht.3 hu' s.0 ∙ sym (ah u n (v + 1) (v + 1) ht.4 hu' s.1)))
      | equal e ↦
          let hl : IsNormal n (v + 1) l = subst (λ x. IsNormal n (x + 1) l) (sym e) hu.3 in
          let hh : IsNormal n (v + 1) h = subst (λ x. IsNormal n (x + 1) h) (sym e) hu.4 in
          let there : Same (Branch v low high) (Branch v l h) = λ p. same p ∙ ap (λ x. holds (Branch x l h) p) (sym e) in
          let el : low ≡ l = al l n (v + 1) (v + 1) ht.3 hl (λ p. holds_low v low high n p ht.3 ∙ there (with_var p v false) ∙ sym (holds_low v l h n p hl)) in
          let eh : high ≡ h = ah h n (v + 1) (v + 1) ht.4 hh (λ p. holds_high v low high n p ht.4 ∙ there (with_var p v true) ∙ sym (holds_high v l h n p hh)) in
          (λ i. Branch (e i) (el i) (eh i))
      | above b ↦
          let t = Branch v low high in
          let ht' : IsNormal n (w + 1) t = (omega arith, ht.1, ht.2, ht.3, ht.4) in
          let s = both_sides w l h t n hu.3 hu.4 ht' (λ p. sym (same p)) in
          absurd (hu.2 (sym (alone_branch v low high al ah l n (w + 1) (w + 1) ht' hu.3 (λ p. sym (s.0 p)))
          ∙ alone_branch v low high al ah h n (w + 1) (w + 1) ht' hu.4 (λ p. sym (s.1 p))))
    ]

-- trees in normal form with one function are equal
pub canonical : (t : Tree) → IsAlone t
canonical (Leaf b) = alone_leaf b
canonical (Branch v low high) = alone_branch v low high (canonical low) (canonical high)

-- negation
pub not_not : (b : Bool) → not (not b) ≡ b
not_not true = refl
not_not false = refl

pub negated_negated : (t : Tree) → negated (negated t) ≡ t
negated_negated (Leaf b) = ap Leaf (not_not b)
negated_negated (Branch v low high) = (λ i. Branch v (negated_negated low i) (negated_negated high i))

pub holds_negated : (t : Tree) (p : Point) → holds (negated t) p ≡ not (holds t p)
holds_negated (Leaf b) p = refl
holds_negated (Branch v low high) p = by (p v) (holds_negated low p) (holds_negated high p)
  where
    by : (b : Bool) → holds (negated low) p ≡ not (holds low p) → holds (negated high) p ≡ not (holds high p)
        → cond b (holds (negated high) p) (holds (negated low) p) ≡ not (cond b (holds high p) (holds low p))
    by true l h = h
    by false l h = l

pub negated_exact : (t u : Tree) → negated t ≡ negated u → t ≡ u
negated_exact t u e = sym (negated_negated t) ∙ ap negated e ∙ negated_negated u

pub normal_negated : (t : Tree) (n k : ℕ) → IsNormal n k t → IsNormal n k (negated t)
normal_negated (Leaf b) n k h = tt
normal_negated (Branch v low high) n k h =
    (h.0, h.1, (λ e. h.2 (negated_exact low high e)), normal_negated low n (v + 1) h.3, normal_negated high n (v + 1) h.4)

pub from_negated : (t : Tree) (k : ℕ) → IsFrom k t → IsFrom k (negated t)
from_negated (Leaf b) k h = tt
from_negated (Branch v low high) k h = h

pub normal_under_mark : (b : Bool) (t : Tree) (n k : ℕ) → IsNormal n k t → IsNormal n k (under_mark b t)
normal_under_mark true t n k h = normal_negated t n k h
normal_under_mark false t n k h = h

pub holds_under_mark : (b : Bool) (t : Tree) (p : Point) → holds (under_mark b t) p ≡ xor b (holds t p)
holds_under_mark true t p = holds_negated t p
holds_under_mark false t p = refl

pub under_mark-exact : (b : Bool) (t u : Tree) → under_mark b t ≡ under_mark b u → t ≡ u
under_mark-exact true t u e = negated_exact t u e
under_mark-exact false t u e = e

pub under_mark-xor : (a b : Bool) (t : Tree) → under_mark (xor a b) t ≡ under_mark a (under_mark b t)
under_mark-xor true true t = sym (negated_negated t)
under_mark-xor true false t = refl
under_mark-xor false b t = refl

pub under_mark-branch : (a : Bool) (v : ℕ) (low high : Tree) → under_mark a (Branch v low high) ≡ Branch v (under_mark a low) (under_mark a high)
under_mark-branch true v low high = refl
under_mark-branch false v low high = refl

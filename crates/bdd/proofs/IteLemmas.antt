-- One step of `ite`.
use Rattle.std.proofs.Common.{◌≡◌, ◌≢◌, ℕ, ◌+◌, ◌<◌, ◌≤◌, Bool, true, false, cond, refl, sym, ◌∙◌, ap, subst, arith, min, nat_eq, true≢false, ◌⊎◌, inl, inr, ◌&&◌, ◌||◌, not}
use Rattle.std.proofs.lemmas.Bool.{eq-eqb}
use Rattle.bdd.specs.Tree.{Tree, Leaf, Branch, Point, holds, IsNormal, IsFrom, first_variable}
use Rattle.bdd.specs.Diagram.{Diagram, IsValid, tree, IsCanonical, Keeps, IsChoice, IsIte, IsConjunction, IsDisjunction, IsNegation, IsConstant}
use Rattle.bdd.specs.Steps.{AreCofactors, IsTrueMemo}
use Rattle.bdd.specs.declared.Ref.{Ref}

-- a ref that is neither constant asks a variable
asks : (n : ℕ) (t : Tree) → t ≢ Leaf true → t ≢ Leaf false → IsNormal n 0 t → first_variable n t < n
asks n (Leaf true) not_one not_zero h = absurd (not_one refl)
asks n (Leaf false) not_one not_zero h = absurd (not_zero refl)
asks n (Branch v low high) not_one not_zero h = h.1

-- a ref that is not the one of a constant has another tree
pub differs_from_constant : (d : Diagram) (b : Bool) (f c : Ref) → IsCanonical d → IsValid d f → IsConstant d b c → nat_eq f.0 c.0 ≡ false → tree d f ≢ Leaf b
differs_from_constant d b f c s vf k n e =
    true≢false (sym (eq-eqb f.0 c.0 (ap (λ (r : Ref). r.0) (s.same f c vf k.valid (λ p. ap (λ t. holds t p) (e ∙ sym k.tree))))) ∙ n)

pub asks_variable : (d : Diagram) (f one zero : Ref) → IsCanonical d → IsValid d f → IsConstant d true one → IsConstant d false zero
    → nat_eq f.0 one.0 ≡ false → nat_eq f.0 zero.0 ≡ false → first_variable d.vars (tree d f) < d.vars
asks_variable d f one zero s vf c1 c0 n1 n0 =
    asks d.vars (tree d f) (differs_from_constant d true f one s vf c1 n1) (differs_from_constant d false f zero s vf c0 n0) (s.normal f vf)

-- the least of three variables is one of them
least : (a b c v : ℕ) → v ≡ min (min a b) c → (v ≡ a) ⊎ ((v ≡ b) ⊎ (v ≡ c))
least a b c v e = grind arith

-- the places fall
pub places_fall : (a b c v n : ℕ) (x y z f g h : ℕ) → v ≡ min (min a b) c → v < n → x ≤ f → y ≤ g → z ≤ h
    → (v ≡ a → x < f) → (v ≡ b → y < g) → (v ≡ c → z < h) → x + y + z < f + g + h
places_fall a b c v n x y z f g h e l lx ly lz fx fy fz =
    elim (least a b c v e) [ inl p ↦ (let q = fx p in omega arith) | inr r ↦ elim r [ inl p ↦ (let q = fy p in omega arith) | inr p ↦ (let q = fz p in omega arith) ] ]

-- a tree from k on that asks a variable asks one from k on
from_top : (n k : ℕ) (t : Tree) → IsFrom k t → first_variable n t < n → k ≤ first_variable n t
from_top n k (Leaf b) h l = absurd (omega arith)
from_top n k (Branch v low high) h l = h

pub top_from : (n v : ℕ) (t : Tree) → v ≤ first_variable n t → IsFrom v t
top_from n v (Leaf b) l = tt
top_from n v (Branch w low high) l = l

from_least : (n k v : ℕ) (t u w : Tree) → v ≡ min (min (first_variable n t) (first_variable n u)) (first_variable n w) → v < n → IsFrom k t → IsFrom k u → IsFrom k w → k ≤ v
from_least n k v t u w e l ft fu fw =
    elim (least (first_variable n t) (first_variable n u) (first_variable n w) v e) [
      | inl p ↦ subst (λ x. k ≤ x) (sym p) (from_top n k t ft (subst (λ x. x < n) p l))
      | inr r ↦ elim r [
        | inl p ↦ subst (λ x. k ≤ x) (sym p) (from_top n k u fu (subst (λ x. x < n) p l))
        | inr p ↦ subst (λ x. k ≤ x) (sym p) (from_top n k w fw (subst (λ x. x < n) p l))
      ]
    ]

-- a choice by one variable between two answers, against the answer to two choices
pick : (b f0 f1 g0 g1 h0 h1 : Bool)
    → cond b (cond f1 g1 h1) (cond f0 g0 h0) ≡ cond (cond b f1 f0) (cond b g1 g0) (cond b h1 h0)
pick true f0 f1 g0 g1 h0 h1 = refl
pick false f0 f1 g0 g1 h0 h1 = refl

-- the graph at the start, after the low side, after the high side, and after the choice
module _ (a b c d : Diagram) (f g h low high r : Ref) (v : ℕ) (fs gs hs : Ref × Ref)
    (sf : AreCofactors a v f fs) (sg : AreCofactors a v g gs) (sh : AreCofactors a v h hs)
    (kab : Keeps a b) (al : IsIte a b fs.0 gs.0 hs.0 low) (kbc : Keeps b c) (ah : IsIte b c fs.1 gs.1 hs.1 high) where
  pub low_valid : IsValid c low
  low_valid = kbc.valid low al.valid

  pub low_from : IsFrom (v + 1) (tree c low)
  low_from = subst (IsFrom (v + 1)) (sym (kbc.tree low al.valid)) (al.from (v + 1) sf.low_from sg.low_from sh.low_from)

  move : (x : Ref) (k : ℕ) → IsValid a x → IsFrom k (tree a x) → IsFrom k (tree b x)
  move x k l t = subst (IsFrom k) (sym (kab.tree x l)) t

  pub high_from : IsFrom (v + 1) (tree c high)
  high_from = ah.from (v + 1) (move fs.1 (v + 1) sf.high_valid sf.high_from) (move gs.1 (v + 1) sg.high_valid sg.high_from) (move hs.1 (v + 1) sh.high_valid sh.high_from)

  pub stepped : (n : ℕ) → v < n → v ≡ min (min (first_variable n (tree a f)) (first_variable n (tree a g))) (first_variable n (tree a h))
      → Keeps c d → IsChoice c d v low high r → IsIte a d f g h r
  stepped n below e kcd ch = record {
    valid = ch.valid;
    means = λ p.
        let at : (x : Ref) → IsValid a x → holds (tree b x) p ≡ holds (tree a x) p = λ x l. ap (λ t. holds t p) (kab.tree x l) in
        let hl : holds (tree c low) p ≡ cond (holds (tree a fs.0) p) (holds (tree a gs.0) p) (holds (tree a hs.0) p) =
        ap (λ t. holds t p) (kbc.tree low al.valid) ∙ al.means p in
        let hh : holds (tree c high) p ≡ cond (holds (tree a fs.1) p) (holds (tree a gs.1) p) (holds (tree a hs.1) p) =
        ah.means p ∙ (λ i. cond (at fs.1 sf.high_valid i) (at gs.1 sg.high_valid i) (at hs.1 sh.high_valid i)) in
        ch.means p ∙ (λ i. cond (p v) (hh i) (hl i))
        ∙ pick (p v) (holds (tree a fs.0) p) (holds (tree a fs.1) p) (holds (tree a gs.0) p) (holds (tree a gs.1) p) (holds (tree a hs.0) p) (holds (tree a hs.1) p)
        ∙ sym (λ i. cond (sf.means p i) (sg.means p i) (sh.means p i));
    from = λ k kf kg kh. ch.from k (from_least n k v (tree a f) (tree a g) (tree a h) e below kf kg kh);
  }

-- what is true of an answer stays true while the graph is kept
pub ite_noted : (a d : Diagram) (f g h r : Ref) → Keeps a d → IsValid a f → IsValid a g → IsValid a h → IsIte a d f g h r → IsTrueMemo d (record { f = f; g = g; h = h }) r
ite_noted a d f g h r k vf vg vh t =
    let at : (x : Ref) → IsValid a x → (p : Point) → holds (tree a x) p ≡ holds (tree d x) p = λ x l p. ap (λ y. holds y p) (sym (k.tree x l)) in
    let back : (x : Ref) (n : ℕ) → IsValid a x → IsFrom n (tree d x) → IsFrom n (tree a x) = λ x n l y. subst (IsFrom n) (k.tree x l) y in
    record {
      valid_f = k.valid f vf;
      valid_g = k.valid g vg;
      valid_h = k.valid h vh;
      ite = record {
        valid = t.valid;
        means = λ p. t.means p ∙ (λ i. cond (at f vf p i) (at g vg p i) (at h vh p i));
        from = λ n x y z. t.from n (back f n vf x) (back g n vg y) (back h n vh z);
      };
    }

-- what `ite` answers where a part is a constant
from_leaf : (k : ℕ) (t : Tree) (b : Bool) → t ≡ Leaf b → IsFrom k t
from_leaf k t b e = subst (IsFrom k) (sym e) tt

and_by : (a b : Bool) → cond a b false ≡ (a && b)
and_by true b = refl
and_by false b = refl

or_by : (a b : Bool) → cond a true b ≡ (a || b)
or_by true b = refl
or_by false b = refl

pub conjunction_by : (d e : Diagram) (f g zero r : Ref) → tree d zero ≡ Leaf false → IsIte d e f g zero r → IsConjunction d e f g r
conjunction_by d e f g zero r z a = record {
  valid = a.valid;
  means = λ p. a.means p ∙ ap (λ t. cond (holds (tree d f) p) (holds (tree d g) p) (holds t p)) z ∙ and_by (holds (tree d f) p) (holds (tree d g) p);
  from = λ k x y. a.from k x y (from_leaf k (tree d zero) false z);
}

pub disjunction_by : (d e : Diagram) (f g one r : Ref) → tree d one ≡ Leaf true → IsIte d e f one g r → IsDisjunction d e f g r
disjunction_by d e f g one r z a = record {
  valid = a.valid;
  means = λ p. a.means p ∙ ap (λ t. cond (holds (tree d f) p) (holds t p) (holds (tree d g) p)) z ∙ or_by (holds (tree d f) p) (holds (tree d g) p);
  from = λ k x y. a.from k x (from_leaf k (tree d one) true z) y;
}

not_by : (a : Bool) → not a ≡ cond a false true
not_by true = refl
not_by false = refl

-- the constant 0 where f holds, and the constant 1 where it does not, is the negation
pub ite_by_negation : (d : Diagram) (f g h r : Ref) → tree d g ≡ Leaf false → tree d h ≡ Leaf true → IsNegation d d f r → IsIte d d f g h r
ite_by_negation d f g h r eg eh n = record {
  valid = n.valid;
  means = λ p. n.means p ∙ not_by (holds (tree d f) p) ∙ sym (λ i. cond (holds (tree d f) p) (holds (eg i) p) (holds (eh i) p));
  from = λ k kf kg kh. n.from k kf;
}

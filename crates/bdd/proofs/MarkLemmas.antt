-- Refs under a mark, and the expansion of a ref.
use Rattle.std.proofs.Common.{◌≡◌, ◌≢◌, ℕ, ◌+◌, ◌<◌, Bool, true, false, cond, not, refl, sym, ◌∙◌, ap, subst, arith, List, length}
use Rattle.bdd.specs.Tree.{Tree, Leaf, Branch, holds, IsNormal, IsFrom, negated, xor, under_mark}
use Rattle.bdd.specs.Diagram.{Diagram, place, is_marked, IsValid, tree, IsCanonical, IsChoice, IsNegation, IsBranch}
use Rattle.bdd.specs.Steps.{IsExpansion}
use Rattle.bdd.specs.NodeTable.{tree_at, tree_of, Stands}
use Rattle.bdd.specs.declared.Ref.{Ref}
use Rattle.bdd.specs.declared.Node.{Node}
use Rattle.bdd.specs.declared.Entry.TheVariants.{Decision}
use Rattle.bdd.specs.declared.Expansion.TheVariants.{Decision as Choice}
use Rattle.bdd.proofs.TreeLemmas.{not_not, holds_negated, from_negated, under_mark-xor, under_mark-branch}
use Rattle.bdd.proofs.TableLemmas.{ref_is}

-- a ref under a mark
pub tree_of-mark : (ts : List Tree) (f r : Ref) (mark : Bool) → place r ≡ place f → is_marked r ≡ xor mark (is_marked f) → tree_of ts r ≡ under_mark mark (tree_of ts f)
tree_of-mark ts f r mark p m = (λ i. under_mark (m i) (tree_at ts (p i))) ∙ under_mark-xor mark (is_marked f) (tree_at ts (place f))

-- a ref under a mark is valid where the ref is
pub valid_place : (d : Diagram) (f r : Ref) → place r ≡ place f → IsValid d f → IsValid d r
valid_place d f r p v = subst (λ i. i < length d.trees) (sym p) v

from_under_mark : (b : Bool) (t : Tree) (k : ℕ) → IsFrom k t → IsFrom k (under_mark b t)
from_under_mark true t k h = from_negated t k h
from_under_mark false t k h = h

pub from_mark : (d : Diagram) (f r : Ref) (mark : Bool) (k : ℕ) → place r ≡ place f → is_marked r ≡ xor mark (is_marked f) → IsFrom k (tree d f) → IsFrom k (tree d r)
from_mark d f r mark k p m h = subst (IsFrom k) (sym (tree_of-mark d.trees f r mark p m)) (from_under_mark mark (tree d f) k h)

xor_same : (a : Bool) → xor a a ≡ false
xor_same true = refl
xor_same false = refl

xor_exact : (m a b : Bool) → xor m a ≡ xor m b → a ≡ b
xor_exact true a b e = sym (not_not a) ∙ ap not e ∙ not_not b
xor_exact false a b e = e

-- refs under one mark differ where the refs do
pub differ_mark : (f g x y : Ref) (mark : Bool) → place x ≡ place f → place y ≡ place g → is_marked x ≡ xor mark (is_marked f) → is_marked y ≡ xor mark (is_marked g)
    → f ≢ g → x ≢ y
differ_mark f g x y mark px py mx my d e =
    d (ref_is f g
    (xor_exact mark (is_marked f) (is_marked g) (sym mx ∙ ap (λ (r : Ref). is_marked r) e ∙ my))
    (sym px ∙ ap (λ (r : Ref). place r) e ∙ py))

-- a ref under its own mark has none
pub mark_gone : (f r : Ref) → is_marked r ≡ xor (is_marked f) (is_marked f) → is_marked r ≡ false
mark_gone f r m = m ∙ xor_same (is_marked f)

normal_is_from : (t : Tree) (n k : ℕ) → IsNormal n k t → IsFrom k t
normal_is_from (Leaf b) n k h = tt
normal_is_from (Branch v low high) n k h = h.0

-- a tree that is a choice between those of two refs splits so
pub branch_by : (d : Diagram) → IsCanonical d → (f low high : Ref) (v : ℕ) → IsValid d f → IsValid d low → IsValid d high
    → tree d f ≡ Branch v (tree d low) (tree d high) → IsBranch d f v low high
branch_by d c f low high v vf vl vh e =
    let h : IsNormal d.vars 0 (Branch v (tree d low) (tree d high)) = subst (IsNormal d.vars 0) e (c.normal f vf) in
    record {
      var = h.1;
      low_valid = vl;
      high_valid = vh;
      low_from = normal_is_from (tree d low) d.vars (v + 1) h.3;
      high_from = normal_is_from (tree d high) d.vars (v + 1) h.4;
      differ = λ s. h.2 (ap (tree d) s);
      tree = e;
    }

-- a ref at the place of a node, by the node's children under its mark
pub expansion_decision : (d : Diagram) → IsCanonical d → (f low high : Ref) (n : Node) → IsValid d f → Stands d.trees (place f) (Decision n)
    → place low ≡ place n.low → is_marked low ≡ xor (is_marked f) (is_marked n.low) → place high ≡ place n.high → is_marked high ≡ xor (is_marked f) (is_marked n.high)
    → IsExpansion d f (Choice (record { var = n.var; low = low; high = high }))
expansion_decision d c f low high n v s pl ml ph mh = (
  omega (arith, s.0),
  omega (arith, s.1),
  branch_by d c f low high n.var v (omega (arith, s.0)) (omega (arith, s.1))
      (ap (under_mark (is_marked f)) s.2 ∙ under_mark-branch (is_marked f) n.var (tree_of d.trees n.low) (tree_of d.trees n.high)
      ∙ sym (λ i. Branch n.var (tree_of-mark d.trees n.low low (is_marked f) pl ml i) (tree_of-mark d.trees n.high high (is_marked f) ph mh i))),
)

-- the choice between two refs under a mark, under that mark, is the choice
pub choice_mark : (b : Bool) (d e : Diagram) (v : ℕ) (low high low' high' r r' : Ref)
    → tree d low' ≡ under_mark b (tree d low) → tree d high' ≡ under_mark b (tree d high) → place r' ≡ place r → tree e r' ≡ under_mark b (tree e r)
    → IsChoice d e v low' high' r → IsChoice d e v low high r'
choice_mark true d e v low high low' high' r r' el eh pr er c = record {
  valid = valid_place e r r' pr c.valid;
  means = λ p.
      ap (λ t. holds t p) er ∙ holds_negated (tree e r) p ∙ ap not (c.means p)
      ∙ (λ i. not (cond (p v) (holds (eh i) p) (holds (el i) p)))
      ∙ (λ i. not (cond (p v) (holds_negated (tree d high) p i) (holds_negated (tree d low) p i)))
      ∙ back (p v) (holds (tree d high) p) (holds (tree d low) p);
  from = λ k le. subst (IsFrom k) (sym er) (from_negated (tree e r) k (c.from k le));
}
  where
    back : (b x y : Bool) → not (cond b (not x) (not y)) ≡ cond b x y
    back true x y = not_not x
    back false x y = not_not y
choice_mark false d e v low high low' high' r r' el eh pr er c = record {
  valid = valid_place e r r' pr c.valid;
  means = λ p. ap (λ t. holds t p) er ∙ c.means p ∙ (λ i. cond (p v) (holds (eh i) p) (holds (el i) p));
  from = λ k le. subst (IsFrom k) (sym er) (c.from k le);
}

-- a ref under one mark more is the negation
pub negation_of : (d : Diagram) (f r : Ref) → IsValid d f → place r ≡ place f → is_marked r ≡ xor true (is_marked f) → IsNegation d d f r
negation_of d f r v p m =
    let e = tree_of-mark d.trees f r true p m in
    record {
      valid = valid_place d f r p v;
      means = λ q. ap (λ t. holds t q) e ∙ holds_negated (tree d f) q;
      from = λ k h. subst (IsFrom k) (sym e) (from_negated (tree d f) k h);
    }

-- a ref at the leaf is the constant that its mark says
pub constant_expansion : (b : Bool) (t : Tree) → t ≡ Leaf true → under_mark b t ≡ Leaf (not b)
constant_expansion true t e = ap negated e
constant_expansion false t e = e

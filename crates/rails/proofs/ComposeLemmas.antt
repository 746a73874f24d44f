-- One step of `compose`, over a graph that grows.
use Rattle.std.proofs.Common.{◌≡◌, ℕ, ◌<◌, Bool, true, false, cond, refl, sym, ◌∙◌, ap, subst, arith, List, slice_get, Option, None, Some, IfSome, []}
use Rattle.std.proofs.lemmas.Bool.{eqb-true}
use Rattle.std.specs.HashMap.{HashMap, get, Updates}
use Rattle.std.specs.Map.{lookup}
use Rattle.bdd.specs.Tree.{Tree, Leaf, Branch, Point, holds}
use Rattle.bdd.specs.Diagram.{Diagram, IsValid, tree, function_of, Keeps, IsIte, IsBranch}
use Rattle.bdd.specs.declared.Ref.{Ref}
use Rattle.bdd.specs.contracts.RefPartialEq.TheImpl as ref_eq
use Rattle.rails.specs.Compose.{height, AllValid, value_of, image, IsComposed, IsTrueEntry, IsTrueTable}

abbrev same_ref : Ref → Ref → Bool
same_ref = (ref_eq.ghosts).eq

same_ref_exact : (x y : Ref) → same_ref x y ≡ true → x ≡ y
same_ref_exact x y h = let e = eqb-true x.0 y.0 h in (λ i. record { 0 = e i })

value_kept : (a b : Diagram) → Keeps a b → (p : Point) (v : ℕ) (o : Option Ref) → IfSome o (IsValid a) → value_of b p v o ≡ value_of a p v o
value_kept a b k p v None h = refl
value_kept a b k p v (Some r) h = ap (λ t. holds t p) (k.tree r h)

image_kept : (a b : Diagram) (rs : List Ref) → Keeps a b → AllValid a rs → (p : Point) (v : ℕ) → image b rs p v ≡ image a rs p v
image_kept a b rs k l p v = value_kept a b k p v (slice_get rs v) (l v)

pub all_valid_kept : (a b : Diagram) (rs : List Ref) → Keeps a b → AllValid a rs → AllValid b rs
all_valid_kept a b rs k l v = by (slice_get rs v) (l v)
  where
    by : (o : Option Ref) → IfSome o (IsValid a) → IfSome o (IsValid b)
    by None h = tt
    by (Some r) h = k.valid r h

-- a composition over a kept graph is one over the graph before
composed_before : (a b c : Diagram) (rs : List Ref) (f r : Ref) → Keeps a b → AllValid a rs → IsValid a f → IsComposed b c rs f r → IsComposed a c rs f r
composed_before a b c rs f r k l v h = record {
  valid = h.valid;
  means = λ p. h.means p ∙ (λ i. holds (k.tree f v i) (λ w. image_kept a b rs k l p w i));
}

composed_after : (a b c : Diagram) (rs : List Ref) (f r : Ref) → Keeps b c → IsComposed a b rs f r → IsComposed a c rs f r
composed_after a b c rs f r k h = record {
  valid = k.valid r h.valid;
  means = λ p. ap (λ t. holds t p) (k.tree r h.valid) ∙ h.means p;
}

entry_kept : (a b : Diagram) (rs : List Ref) (f r : Ref) → Keeps a b → AllValid a rs → IsTrueEntry a rs f r → IsTrueEntry b rs f r
entry_kept a b rs f r k l t = record {
  valid = k.valid f t.valid;
  composed = record {
    valid = k.valid r t.composed.valid;
    means = λ p. ap (λ x. holds x p) (k.tree r t.composed.valid) ∙ t.composed.means p
        ∙ sym (λ i. holds (k.tree f t.valid i) (λ w. image_kept a b rs k l p w i));
  };
}

pub table_kept : {S : Type 0} (a b : Diagram) (rs : List Ref) (m : HashMap Ref Ref S) → Keeps a b → AllValid a rs → IsTrueTable a rs m → IsTrueTable b rs m
table_kept a b rs m k l t = record { each = λ f. by f (get same_ref m f) (t.each f) }
  where
    by : (f : Ref) (o : Option Ref) → IfSome o (IsTrueEntry a rs f) → IfSome o (IsTrueEntry b rs f)
    by f None h = tt
    by f (Some r) h = entry_kept a b rs f r k l h

pub table_grown : {S : Type 0} (d : Diagram) (rs : List Ref) (m n : HashMap Ref Ref S) (f r : Ref) → Updates same_ref m n f (Some r) → IsTrueTable d rs m → IsTrueEntry d rs f r → IsTrueTable d rs n
table_grown d rs m n f r u t e = record { each = λ q. subst (λ o. IfSome o (IsTrueEntry d rs q)) (sym (u.0 q)) (by q (same_ref f q) refl) }
  where
    by : (q : Ref) (b : Bool) → same_ref f q ≡ b → IfSome (cond b (Some r) (get same_ref m q)) (IsTrueEntry d rs q)
    by q true h = subst (λ x. IsTrueEntry d rs x r) (same_ref_exact f q h) e
    by q false h = t.each q

pub table_same : {S : Type 0} (d : Diagram) (rs : List Ref) (m n : HashMap Ref Ref S) → n.entries ≡ m.entries → IsTrueTable d rs m → IsTrueTable d rs n
table_same d rs m n e t = record { each = λ f. subst (λ es. IfSome (lookup (same_ref f) es) (IsTrueEntry d rs f)) (sym e) (t.each f) }

pub table_empty : {S : Type 0} (d : Diagram) (rs : List Ref) (m : HashMap Ref Ref S) → m.entries ≡ [] → IsTrueTable d rs m
table_empty d rs m h = record { each = λ f. subst (λ es. IfSome (lookup (same_ref f) es) (IsTrueEntry d rs f)) (sym h) tt }

-- a choice, whose variable has the image g, from its sides' compositions
pub composed_choice : (a b c d : Diagram) (rs : List Ref) (f low high l h g r : Ref) (v : ℕ) → Keeps a b → Keeps b c → AllValid a rs
    → IsBranch a f v low high → slice_get rs v ≡ Some g → IsValid a g
    → IsComposed a b rs low l → IsComposed b c rs high h → IsIte c d g h l r → IsComposed a d rs f r
composed_choice a b c d rs f low high l h g r v kab kbc av s eg vg cl ch an = record {
  valid = an.valid;
  means = λ p.
      let el : holds (tree c l) p ≡ holds (tree a low) (image a rs p) = (composed_after a b c rs low l kbc cl).means p in
      let eh : holds (tree c h) p ≡ holds (tree a high) (image a rs p) = (composed_before a b c rs high h kab av s.high_valid ch).means p in
      let eg' : holds (tree c g) p ≡ image a rs p v =
      ap (λ t. holds t p) (kbc.tree g (kab.valid g vg) ∙ kab.tree g vg) ∙ ap (value_of a p v) (sym eg) in
      an.means p ∙ (λ i. cond (eg' i) (eh i) (el i)) ∙ sym (ap (λ t. holds t (image a rs p)) s.tree);
}

-- a constant is of any functions what it is
pub composed_constant : (a : Diagram) (rs : List Ref) (f : Ref) → IsValid a f → (b : Bool) × (tree a f ≡ Leaf b) → IsComposed a a rs f f
composed_constant a rs f v s = record {
  valid = v;
  means = λ p. ap (λ t. holds t p) s.1 ∙ sym (ap (λ t. holds t (image a rs p)) s.1);
}

pub height_low : (v : ℕ) (t low high : Tree) → t ≡ Branch v low high → height low < height t
height_low v t low high e = let h = ap height e in omega arith

pub height_high : (v : ℕ) (t low high : Tree) → t ≡ Branch v low high → height high < height t
height_high v t low high e = let h = ap height e in omega arith

pub valid_at : (d : Diagram) (rs : List Ref) (v : ℕ) (r : Ref) → AllValid d rs → slice_get rs v ≡ Some r → IsValid d r
valid_at d rs v r l e = subst (λ o. IfSome o (IsValid d)) e (l v)

-- f of the images, over the graph after
pub entry_after : (a b : Diagram) (rs : List Ref) (f r : Ref) → Keeps a b → AllValid a rs → IsValid a f → IsComposed a b rs f r → IsTrueEntry b rs f r
entry_after a b rs f r k l v h = record {
  valid = k.valid f v;
  composed = record {
    valid = h.valid;
    means = λ p. h.means p ∙ sym (λ i. holds (k.tree f v i) (λ w. image_kept a b rs k l p w i));
  };
}

-- a graph that was kept has the functions that it had
pub function_kept : (a b : Diagram) (r : Ref) → Keeps a b → IsValid a r → (p : Point) → function_of b r p ≡ function_of a r p
function_kept a b r k v p = ap (λ t. holds t p) (k.tree r v)

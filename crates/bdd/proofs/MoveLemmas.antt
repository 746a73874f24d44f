-- A graph built anew.
use Rattle.std.proofs.Common.{◌≡◌, ℕ, ◌+◌, ◌<◌, Bool, true, false, cond, refl, sym, ◌∙◌, ap, subst, arith, List, [], ◌∷◌, ◌++◌, length, Option, None, Some, IfSome, length-append, ◌⊎◌, inl, inr}
use Rattle.std.proofs.Math.ListN.{get_or-append}
use Rattle.std.proofs.lemmas.List.{get_or_push}
use Rattle.std.specs.HashMap.{HashMap, get, Updates}
use Rattle.std.specs.Map.{lookup}
use Rattle.bdd.specs.Tree.{Tree, Leaf, Branch, holds, IsNormal, under_mark, IsUpToSign, IsPart}
use Rattle.bdd.specs.Diagram.{Diagram, IsValid, tree, IsCanonical, place, is_marked, Keeps, AddsOnly, IsChoice, IsCopy, ref_at, AreMoved, HoldsOnly}
use Rattle.bdd.specs.Moves.{IsMoves, AddsParts}
use Rattle.bdd.specs.NodeTable.{tree_at}
use Rattle.bdd.specs.declared.Ref.{Ref}
use Rattle.bdd.specs.contracts.RefPartialEq.TheImpl as ref_eq
use Rattle.bdd.proofs.Equality.{ref_exact}
use Rattle.bdd.proofs.TreeLemmas.{canonical, negated_negated}

abbrev same_ref : Ref → Ref → Bool
same_ref = (ref_eq.ghosts).eq

-- the choice between two copies is the copy of the choice
pub copy_choice : (d a b c : Diagram) (f x y low high r : Ref) (v : ℕ) → IsCanonical d → IsCanonical c → IsValid d f → c.vars ≡ d.vars
    → tree d f ≡ Branch v (tree d x) (tree d y) → IsCopy d a x low → Keeps a b → IsCopy d b y high → IsChoice b c v low high r → IsCopy d c f r
copy_choice d a b c f x y low high r v sd sc vf ev e cx k cy ch =
    let el : tree b low ≡ tree d x = k.tree low cx.valid ∙ cx.tree in
    record {
      valid = ch.valid;
      tree = canonical (tree c r) (tree d f) d.vars 0 0 (subst (λ n. IsNormal n 0 (tree c r)) ev (sc.normal r ch.valid)) (sd.normal f vf)
          (λ p. ch.means p ∙ (λ i. cond (p v) (holds (cy.tree i) p) (holds (el i) p)) ∙ sym (ap (λ t. holds t p) e));
    }

pub copy_kept : (d a b : Diagram) (f r : Ref) → Keeps a b → IsCopy d a f r → IsCopy d b f r
copy_kept d a b f r k c = record { valid = k.valid r c.valid; tree = k.tree r c.valid ∙ c.tree }

pub moves_kept : {S : Type 0} (d a b : Diagram) (m : HashMap Ref Ref S) → Keeps a b → IsMoves d a m → IsMoves d b m
moves_kept d a b m k t = record { each = λ f. by f (get same_ref m f) (t.each f) }
  where
    by : (f : Ref) (o : Option Ref) → IfSome o (IsCopy d a f) → IfSome o (IsCopy d b f)
    by f None h = tt
    by f (Some r) h = copy_kept d a b f r k h

pub moves_grown : {S : Type 0} (d e : Diagram) (m n : HashMap Ref Ref S) (f r : Ref) → Updates same_ref m n f (Some r) → IsMoves d e m → IsCopy d e f r → IsMoves d e n
moves_grown d e m n f r u t c = record { each = λ q. subst (λ o. IfSome o (IsCopy d e q)) (sym (u.0 q)) (by q (same_ref f q) refl) }
  where
    by : (q : Ref) (b : Bool) → same_ref f q ≡ b → IfSome (cond b (Some r) (get same_ref m q)) (IsCopy d e q)
    by q true h = subst (λ x. IsCopy d e x r) (ref_exact f q h) c
    by q false h = t.each q

pub no_moves : {S : Type 0} (d e : Diagram) (m : HashMap Ref Ref S) → m.entries ≡ [] → IsMoves d e m
no_moves d e m h = record { each = λ f. subst (λ es. IfSome (lookup (same_ref f) es) (IsCopy d e f)) (sym h) tt }

-- the places so far hold the copies of the roots so far
pub record AreCopies (d e : Diagram) (rs ss : List Ref) (n : ℕ) : Type 0 where
  pub count : length ss ≡ n
  pub each : (i : ℕ) → i < n → IsCopy d e (ref_at rs i) (ref_at ss i)

pub no_copies : (d e : Diagram) (rs ss : List Ref) → ss ≡ [] → AreCopies d e rs ss 0
no_copies d e rs ss h = record { count = ap length h; each = λ i l. absurd (omega arith) }

pub copies_more : (d a b : Diagram) (rs ss : List Ref) (n : ℕ) (r : Ref) → Keeps a b → AreCopies d a rs ss n → IsCopy d b (ref_at rs n) r → AreCopies d b rs (ss ++ r ∷ []) (n + 1)
copies_more d a b rs ss n r k h c = record {
  count = omega (arith, h.count, length-append ss (r ∷ []));
  each = λ i l. elim (cases i l) [
    | inl m ↦ subst (IsCopy d b (ref_at rs i)) (sym (get_or-append ss (r ∷ []) (record { 0 = 0 }) i (omega (arith, h.count)))) (copy_kept d a b (ref_at rs i) (ref_at ss i) k (h.each i m))
    | inr e ↦ subst (λ j. IsCopy d b (ref_at rs j) (ref_at (ss ++ r ∷ []) j)) (sym e) (subst (IsCopy d b (ref_at rs n)) (sym (get_or_push ss r (record { 0 = 0 }) n h.count)) c)
  ];
}
  where
    cases : (i : ℕ) → i < n + 1 → (i < n) ⊎ (i ≡ n)
    cases i l = grind arith

pub all_moved : (d e : Diagram) (rs ss : List Ref) (n : ℕ) → n ≡ length rs → AreCopies d e rs ss n → AreMoved d e rs ss
all_moved d e rs ss n q h = record { count = h.count ∙ q; each = λ i l. h.each i (omega arith) }

pub moves_same : {S : Type 0} (d e : Diagram) (m n : HashMap Ref Ref S) → n.entries ≡ m.entries → IsMoves d e m → IsMoves d e n
moves_same d e m n h t = record { each = λ f. subst (λ es. IfSome (lookup (same_ref f) es) (IsCopy d e f)) (sym h) (t.each f) }

-- refs of one place are one function up to sign
up_to_sign : (a b : Bool) (t : Tree) → IsUpToSign (under_mark a t) (under_mark b t)
up_to_sign true true t = inl refl
up_to_sign false false t = inl refl
up_to_sign true false t = inr refl
up_to_sign false true t = inr (sym (negated_negated t))

same_place : (d : Diagram) (f r : Ref) → place f ≡ place r → IsUpToSign (tree d f) (tree d r)
same_place d f r p = subst (λ i. IsUpToSign (under_mark (is_marked f) (tree_at d.trees i)) (tree d r)) (sym p) (up_to_sign (is_marked f) (is_marked r) (tree_at d.trees (place r)))

part_self : (t u : Tree) → IsUpToSign t u → IsPart t u
part_self t (Leaf b) h = h
part_self t (Branch v low high) h = inl h

-- the copy of a choice adds parts of the choice
pub adds_choice : (d a b c e : Diagram) (f x y r : Ref) (v : ℕ) → tree d f ≡ Branch v (tree d x) (tree d y) → AddsParts a b (tree d x) → Keeps b c → AddsParts b c (tree d y)
    → Keeps c e → AddsOnly c e r → IsCopy d e f r → AddsParts a e (tree d f)
adds_choice d a b c e f x y r v ef ab kbc bc kce ce copy g vg =
    elim (ce g vg) [
      | inr p ↦ inr (subst (IsPart (tree e g)) copy.tree (part_self (tree e g) (tree e r) (same_place e g r p)))
      | inl vc ↦ elim (bc g vc) [
        | inr part ↦ inr (subst (IsPart (tree e g)) (sym ef) (inr (inr (subst (λ t. IsPart t (tree d y)) (sym (kce.tree g vc)) part))))
        | inl vb ↦ elim (ab g vb) [
          | inl va ↦ inl va
          | inr part ↦ inr (subst (IsPart (tree e g)) (sym ef) (inr (inl (subst (λ t. IsPart t (tree d x)) (sym (kce.tree g vc ∙ kbc.tree g vb)) part))))
        ]
      ]
    ]

-- each function of the new graph is constant, or a part of one of the roots so far
pub record AreNeeded (d e : Diagram) (rs : List Ref) (n : ℕ) : Type 0 where
  pub each : (f : Ref) → IsValid e f → IsUpToSign (tree e f) (Leaf true) ⊎ ((i : ℕ) × (i < n) × IsPart (tree e f) (tree d (ref_at rs i)))

pub none_needed : (d e : Diagram) (rs : List Ref) → e.trees ≡ Leaf true ∷ [] → AreNeeded d e rs 0
none_needed d e rs h = record {
  each = λ f v.
      let first : tree_at e.trees (place f) ≡ Leaf true = one (place f) (subst (λ ts. place f < length ts) h v) ∙ refl in
      inl (subst (λ t. IsUpToSign (under_mark (is_marked f) t) (Leaf true)) (sym first) (up_to_sign (is_marked f) false (Leaf true)));
}
  where
    one : (i : ℕ) → i < 1 → tree_at e.trees i ≡ Leaf true
    one i l = (λ j. tree_at (h j) (zero_only i l j))
      where
        zero_only : (i : ℕ) → i < 1 → i ≡ 0
        zero_only i l = omega arith

pub more_needed : (d a b : Diagram) (rs : List Ref) (n : ℕ) → Keeps a b → AreNeeded d a rs n → AddsParts a b (tree d (ref_at rs n)) → AreNeeded d b rs (n + 1)
more_needed d a b rs n k h ab = record {
  each = λ f v.
      elim (ab f v) [
        | inr part ↦ inr (n, omega arith, part)
        | inl va ↦ elim (h.each f va) [
          | inl one ↦ inl (subst (λ t. IsUpToSign t (Leaf true)) (sym (k.tree f va)) one)
          | inr s ↦ inr (s.0, omega (arith, s.1), subst (λ t. IsPart t (tree d (ref_at rs s.0))) (sym (k.tree f va)) s.2)
        ]
      ];
}

pub all_needed : (d e : Diagram) (rs ss : List Ref) (n : ℕ) → n ≡ length rs → AreMoved d e rs ss → AreNeeded d e rs n → HoldsOnly e ss
all_needed d e rs ss n q m h f v =
    elim (h.each f v) [
      | inl one ↦ inl one
      | inr s ↦
          let l : s.0 < length rs = omega (arith, s.1) in
          inr (s.0, omega (arith, m.count), subst (IsPart (tree e f)) (sym (m.each s.0 l).tree) s.2)
    ]

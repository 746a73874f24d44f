-- The fields of a `Graph`, and what an insertion into its table gives.
use Rattle.std.proofs.Common.{◌≡◌, ◌≢◌, ℕ, ◌+◌, ◌<◌, ◌≤◌, Bool, true, false, cond, refl, sym, ◌∙◌, ap, subst, arith, List, [], ◌∷◌, ◌++◌, length, length-append, slice_get, Option, Some, None, IfSome, true≢false, zero, suc, ◌⊎◌, inl, inr}
use Rattle.std.proofs.lemmas.Option.{slice_get-get_or, get_or_from_slice_get, slice_get_within}
use Rattle.std.proofs.lemmas.Map.Keys.{any_passes_from_place}
use Rattle.std.specs.List.{list_any}
use Rattle.std.specs.Map.{lookup}
use Rattle.indexmap.specs.IndexSet.{insert_key}
use Rattle.std.specs.HashMap.{get}
use Rattle.bdd.specs.Tree.{Tree, Leaf, Branch, holds, IsNormal, IsFrom, under_mark}
use Rattle.bdd.specs.Diagram.{Diagram, place, is_marked, IsValid, tree, Keeps, AddsOnly, IsChoice}
use Rattle.bdd.specs.Steps.{IsTrueMemo}
use Rattle.bdd.specs.Graph.{seen, IsGraph}
use Rattle.bdd.specs.declared.Graph.TheInside.{Inside}
use Rattle.bdd.specs.declared.Operands.{Operands}
use Rattle.bdd.specs.NodeTable.{tree_at, tree_of, trees, entry_at, Stands, diagram, IsNodeTable, all_true}
use Rattle.bdd.specs.declared.Ref.{Ref}
use Rattle.bdd.specs.declared.Node.{Node}
use Rattle.bdd.specs.declared.Entry.{Entry}
use Rattle.bdd.specs.declared.Entry.TheVariants.{One, Decision}
use Rattle.bdd.proofs.Equality.{same_operands, same_entry, same_entry_exact, same_entry_refl}
use Rattle.bdd.proofs.TableLemmas.{table_push, keeps_push, length_trees, table_canonical, entry_old}

-- a graph keeps what it has
pub keeps_refl : (d : Diagram) → Keeps d d
keeps_refl d = record { vars = refl; valid = λ f l. l; tree = λ f l. refl }

pub keeps_trans : (a b c : Diagram) → Keeps a b → Keeps b c → Keeps a c
keeps_trans a b c k l = record {
  vars = l.vars ∙ k.vars;
  valid = λ f v. l.valid f (k.valid f v);
  tree = λ f v. l.tree f (k.valid f v) ∙ k.tree f v;
}

-- in a table with a new entry each place is an old one or that of the entry
last_place : (es : List Entry) (m : Node) → ((i : ℕ) → i < length es → entry_at es i ≢ Decision m) → (i j : ℕ) → i < length (es ++ Decision m ∷ []) → j < length (es ++ Decision m ∷ [])
    → entry_at (es ++ Decision m ∷ []) j ≡ Decision m → (i < length es) ⊎ (i ≡ j)
last_place es m absent i j l k at =
    elim (cases (length es) i (omega (arith, length-append es (Decision m ∷ [])))) [
      | inl old ↦ inl old
      | inr e ↦ elim (cases (length es) j (omega (arith, length-append es (Decision m ∷ [])))) [
        | inl old ↦ absurd (absent j old (sym (entry_old es (Decision m) j old) ∙ at))
        | inr f ↦ inr (e ∙ sym f)
      ]
    ]
  where
    cases : (n i : ℕ) → i < n + 1 → (i < n) ⊎ (i ≡ n)
    cases n i l = grind arith

module _ (n : ℕ) (es : List Entry) (s : IsNodeTable n es) (m : Node)
    (below : m.var < n) (low_in : place m.low < length es) (high_in : place m.high < length es) (differ : m.low ≢ m.high) (unmarked : is_marked m.high ≡ false)
    (low_from : IsFrom (m.var + 1) (tree_of (trees es) m.low)) (high_from : IsFrom (m.var + 1) (tree_of (trees es) m.high)) where
  absent_from : list_any (same_entry (Decision m)) es ≡ false → (i : ℕ) → i < length es → entry_at es i ≢ Decision m
  absent_from none i l e = true≢false
      (sym (any_passes_from_place (same_entry (Decision m)) es i (Decision m) (slice_get-get_or es i One l ∙ ap Some e) (same_entry_refl (Decision m))) ∙ none)

  pub record Grown (keys : List Entry) : Type 0 where
    pub table : IsNodeTable n keys
    pub keeps : Keeps (diagram n es) (diagram n keys)
    pub size : length keys ≤ length es + 1
    pub last : (i j : ℕ) → i < length keys → j < length keys → entry_at keys j ≡ Decision m → (i < length es) ⊎ (i ≡ j)

  pub inserted : Grown (insert_key same_entry es (Decision m))
  inserted = by (list_any (same_entry (Decision m)) es) refl
    where
      by : (b : Bool) → list_any (same_entry (Decision m)) es ≡ b → Grown (cond b es (es ++ Decision m ∷ []))
      by true e = record { table = s; keeps = keeps_refl (diagram n es); size = omega arith; last = λ i j l k at. inl l }
      by false e = record {
        table = table_push n es s m below low_in high_in differ unmarked low_from high_from (absent_from e);
        keeps = keeps_push n es s m below low_in high_in differ unmarked low_from high_from (absent_from e);
        size = omega (arith, length-append es (Decision m ∷ []));
        last = λ i j l k at. last_place es m (absent_from e) i j l k at;
      }

-- a memo goes on telling true results in a graph that keeps the old one
pub true_kept : (d e : Diagram) (q : Operands) (r : Ref) → Keeps d e → IsTrueMemo d q r → IsTrueMemo e q r
true_kept d e q r k t = record {
  valid_f = k.valid q.f t.valid_f;
  valid_g = k.valid q.g t.valid_g;
  valid_h = k.valid q.h t.valid_h;
  ite = record {
    valid = k.valid r t.ite.valid;
    means = λ p.
        let er : holds (tree e r) p ≡ holds (tree d r) p = ap (λ x. holds x p) (k.tree r t.ite.valid) in
        let ef : holds (tree d q.f) p ≡ holds (tree e q.f) p = ap (λ x. holds x p) (sym (k.tree q.f t.valid_f)) in
        let eg : holds (tree d q.g) p ≡ holds (tree e q.g) p = ap (λ x. holds x p) (sym (k.tree q.g t.valid_g)) in
        let eh : holds (tree d q.h) p ≡ holds (tree e q.h) p = ap (λ x. holds x p) (sym (k.tree q.h t.valid_h)) in
        er ∙ t.ite.means p ∙ (λ i. cond (ef i) (eg i) (eh i));
    from = λ n f g h.
        subst (IsFrom n) (sym (k.tree r t.ite.valid)) (t.ite.from n
        (subst (IsFrom n) (k.tree q.f t.valid_f) f) (subst (IsFrom n) (k.tree q.g t.valid_g) g) (subst (IsFrom n) (k.tree q.h t.valid_h) h));
  };
}

pub memo_kept : (d e : Diagram) → Keeps d e → (q : Operands) (o : Option Ref) → IfSome o (IsTrueMemo d q) → IfSome o (IsTrueMemo e q)
memo_kept d e k q None h = tt
memo_kept d e k q (Some r) h = true_kept d e q r k h

-- what the insertion of a node asks for
pub record CanPut (d : Diagram) (m : Node) : Type 0 where
  pub below : m.var < d.vars
  pub low_valid : IsValid d m.low
  pub high_valid : IsValid d m.high
  pub low_from : IsFrom (m.var + 1) (tree d m.low)
  pub high_from : IsFrom (m.var + 1) (tree d m.high)
  pub differ : m.low ≢ m.high
  pub unmarked : is_marked m.high ≡ false

-- what the insertion of a node gives
pub record HasPut (d : Diagram) (n : ℕ) (m : Node) (keys : List Entry) : Type 0 where
  pub table : IsNodeTable n keys
  pub keeps : Keeps d (diagram n keys)
  pub size : length (trees keys) ≤ length d.trees + 1
  pub made : (k : Entry) (r : Ref) → slice_get keys (place r) ≡ Some k → same_entry (Decision m) k ≡ true → is_marked r ≡ false
      → IsChoice d (diagram n keys) m.var m.low m.high r
  pub adds : (k : Entry) (r : Ref) → slice_get keys (place r) ≡ Some k → same_entry (Decision m) k ≡ true → AddsOnly d (diagram n keys) r

choice_stands : (d : Diagram) (n : ℕ) (m : Node) (keys : List Entry) (r : Ref) → Keeps d (diagram n keys) → IsValid d m.low → IsValid d m.high → place r < length keys
    → is_marked r ≡ false → Stands (trees keys) (place r) (Decision m) → IsChoice d (diagram n keys) m.var m.low m.high r
choice_stands d n m keys r k vl vh l u s =
    let e : tree (diagram n keys) r ≡ Branch m.var (tree d m.low) (tree d m.high) =
    ap (λ b. under_mark b (tree_at (trees keys) (place r))) u ∙ s.2 ∙ (λ j. Branch m.var (k.tree m.low vl j) (k.tree m.high vh j)) in
    record {
      valid = omega (arith, length_trees keys);
      means = λ p. ap (λ t. holds t p) e;
      from = λ j le. subst (IsFrom j) (sym e) le;
    }

put_here : (n : ℕ) (es : List Entry) (s : IsNodeTable n es) (m : Node) → CanPut (diagram n es) m
    → HasPut (diagram n es) n m (insert_key same_entry es (Decision m))
put_here n es s m c =
    let g = inserted n es s m c.below (omega (arith, length_trees es, c.low_valid)) (omega (arith, length_trees es, c.high_valid)) c.differ c.unmarked c.low_from c.high_from in
    let keys = insert_key same_entry es (Decision m) in
    record {
      table = g.table;
      keeps = g.keeps;
      size = omega (arith, g.size, length_trees es, length_trees keys);
      made = λ k r at same unmarked.
          let e : k ≡ Decision m = sym (same_entry_exact (Decision m) k same) in
          let l : place r < length keys = slice_get_within keys (place r) k at in
          let here : entry_at keys (place r) ≡ Decision m = get_or_from_slice_get keys (place r) k One at ∙ e in
          choice_stands (diagram n es) n m keys r g.keeps c.low_valid c.high_valid l unmarked
          (subst (Stands (trees keys) (place r)) here (g.table.stands (place r) l));
      adds = λ k r at same f v.
          let e : k ≡ Decision m = sym (same_entry_exact (Decision m) k same) in
          let l : place r < length keys = slice_get_within keys (place r) k at in
          let here : entry_at keys (place r) ≡ Decision m = get_or_from_slice_get keys (place r) k One at ∙ e in
          elim (g.last (place f) (place r) (omega (arith, length_trees keys)) l here) [ inl old ↦ inl (omega (arith, length_trees es)) | inr p ↦ inr p ];
    }

pub has_put : (a : Inside) (d : Diagram) → seen a ≡ d → IsGraph a → (m : Node) → CanPut d m
    → (keys : List Entry) → keys ≡ insert_key same_entry a.nodes.keys (Decision m) → HasPut d a.vars m keys
has_put a d view is m c keys e =
    subst (HasPut d a.vars m) (sym e)
    (subst (λ x. CanPut x m → HasPut x a.vars m (insert_key same_entry a.nodes.keys (Decision m))) view
    (put_here a.vars a.nodes.keys is.table m) c)

-- the fields after a change of the table that keeps the graph
pub graph_grown : (a : Inside) (d : Diagram) → seen a ≡ d → IsGraph a → (b : Inside) → (b.vars ≡ a.vars) → b.memo ≡ a.memo → IsNodeTable b.vars b.nodes.keys → Keeps d (seen b) → IsGraph b
graph_grown a d view is b ev em s k = record {
  table = s;
  canonical = table_canonical b.vars b.nodes.keys s;
  memo = λ q. subst (λ x. IfSome (get same_operands x q) (IsTrueMemo (seen b) q)) (sym em)
      (memo_kept (seen a) (seen b) (subst (λ x. Keeps x (seen b)) (sym view) k) q (get same_operands a.memo q) (is.memo q));
}

both_same : (b : Bool) (x : Bool) → x ≡ cond b x x
both_same true x = refl
both_same false x = refl

from_weaken : (t : Tree) (k j : ℕ) → j ≤ k → IsFrom k t → IsFrom j t
from_weaken (Leaf b) k j l h = tt
from_weaken (Branch v x y) k j l h = omega arith

-- a choice between a ref and itself is that ref
pub choice_of_one : (d : Diagram) (v : ℕ) (low high : Ref) → low ≡ high → IsValid d low → IsFrom (v + 1) (tree d low) → IsChoice d d v low high low
choice_of_one d v low high e l f = record {
  valid = l;
  means = λ p. both_same (p v) (holds (tree d low) p) ∙ ap (λ r. cond (p v) (holds (tree d r) p) (holds (tree d low) p)) e;
  from = λ k le. from_weaken (tree d low) (v + 1) k (omega arith) f;
}

-- the table of a new graph
abbrev pub one_alone : List Entry
one_alone = One ∷ []

pub first_keys : (k0 k1 : List Entry) → k0 ≡ [] → k1 ≡ insert_key same_entry k0 One → k1 ≡ one_alone
first_keys k0 k1 e0 e1 = e1 ∙ ap (λ k. insert_key same_entry k One) e0

pub first_table : (n : ℕ) → IsNodeTable n one_alone
unfolding trees
first_table n = record {
  one_in = omega arith;
  one = refl;
  stands = stands;
  normal = normal;
  true_at_ones = true_there;
  distinct = λ i j l k e. omega arith;
}
  where
    stands : (i : ℕ) → i < 1 → Stands (trees one_alone) i (entry_at one_alone i)
    stands zero l = refl
    stands (suc i) l = absurd (omega arith)

    normal : (i : ℕ) → i < 1 → IsNormal n 0 (tree_at (trees one_alone) i)
    normal zero l = tt
    normal (suc i) l = absurd (omega arith)

    true_there : (i : ℕ) → i < 1 → holds (tree_at (trees one_alone) i) all_true ≡ true
    true_there zero l = refl
    true_there (suc i) l = absurd (omega arith)

pub first_trees : (ks : List Entry) → ks ≡ one_alone → trees ks ≡ Leaf true ∷ []
unfolding trees
first_trees ks e = ap trees e

pub first_graph : (a : Inside) → a.nodes.keys ≡ one_alone → a.memo.entries ≡ [] → IsGraph a
first_graph a e m =
    let t = subst (IsNodeTable a.vars) (sym e) (first_table a.vars) in
    record {
      table = t;
      canonical = table_canonical a.vars a.nodes.keys t;
      memo = λ q. subst (λ es. IfSome (lookup (same_operands q) es) (IsTrueMemo (seen a) q)) (sym m) tt;
    }

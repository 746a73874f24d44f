-- The node table.
use Rattle.std.proofs.Common.{◌≡◌, ◌≢◌, ℕ, ◌+◌, ◌<◌, ◌/◌, ◌%◌, Bool, true, false, nat_eq, refl, sym, ◌∙◌, ap, subst, arith, List, [], ◌∷◌, ◌++◌, length, length-append, ◌⊎◌, inl, inr}
use Rattle.std.proofs.Math.ListN.{get_or-append}
use Rattle.std.proofs.lemmas.List.{get_or_push}
use Rattle.std.proofs.lemmas.Bool.Decides.{nat_tests}
use Rattle.bdd.proofs.TreeLemmas.{normal_from, normal_under_mark, holds_under_mark, under_mark-exact, canonical}
use Rattle.bdd.specs.Tree.{Tree, Leaf, Branch, holds, IsNormal, IsFrom, xor, under_mark}
use Rattle.bdd.specs.Diagram.{IsValid, IsCanonical, Keeps, place, is_marked}
use Rattle.bdd.specs.NodeTable.{tree_at, tree_of, entry_tree, all_true, trees_after, trees, entry_at, Stands, diagram, IsNodeTable}
use Rattle.bdd.specs.declared.Ref.{Ref}
use Rattle.bdd.specs.declared.Node.{Node}
use Rattle.bdd.specs.declared.Entry.{Entry}
use Rattle.bdd.specs.declared.Entry.TheVariants.{One, Decision}

length_after : (ts : List Tree) (es : List Entry) → length (trees_after ts es) ≡ length ts + length es
length_after ts [] = omega arith
length_after ts (e ∷ es) = omega (arith, length_after (ts ++ entry_tree ts e ∷ []) es, length-append ts (entry_tree ts e ∷ []))

after_push : (ts : List Tree) (es : List Entry) (e : Entry) → trees_after ts (es ++ e ∷ []) ≡ trees_after ts es ++ entry_tree (trees_after ts es) e ∷ []
after_push ts [] e = refl
after_push ts (x ∷ es) e = after_push (ts ++ entry_tree ts x ∷ []) es e

-- there is one function for each entry
pub length_trees : (es : List Entry) → length (trees es) ≡ length es
unfolding trees
length_trees es = omega (arith, length_after [] es)

-- a new entry leaves the functions that stand, and adds its own
pub trees_push : (es : List Entry) (e : Entry) → trees (es ++ e ∷ []) ≡ trees es ++ entry_tree (trees es) e ∷ []
unfolding trees
trees_push es e = after_push [] es e

pub tree_at_push_old : (es : List Entry) (e : Entry) (i : ℕ) → i < length es → tree_at (trees (es ++ e ∷ [])) i ≡ tree_at (trees es) i
tree_at_push_old es e i l = rw trees_push (get_or-append (trees es) (entry_tree (trees es) e ∷ []) (Leaf false) i (omega (arith, length_trees es)))

pub tree_at_push_new : (es : List Entry) (e : Entry) → tree_at (trees (es ++ e ∷ [])) (length es) ≡ entry_tree (trees es) e
tree_at_push_new es e = rw trees_push (get_or_push (trees es) (entry_tree (trees es) e) (Leaf false) (length es) (length_trees es))

-- a place of the longer table is an old one or the new one
data Place (es : List Entry) (i : ℕ) : Type 0 where
  old : i < length es → Place es i
  last : i ≡ length es → Place es i

at_place : (es : List Entry) (e : Entry) (i : ℕ) → i < length (es ++ e ∷ []) → Place es i
at_place es e i l = elim (cases (length es) i (omega (arith, length-append es (e ∷ [])))) [ inl h ↦ old h | inr h ↦ last h ]
  where
    cases : (n i : ℕ) → i < n + 1 → (i < n) ⊎ (i ≡ n)
    cases n i l = grind arith

pub entry_old : (es : List Entry) (e : Entry) (i : ℕ) → i < length es → entry_at (es ++ e ∷ []) i ≡ entry_at es i
entry_old es e i l = get_or-append es (e ∷ []) One i l

entry_new : (es : List Entry) (e : Entry) → entry_at (es ++ e ∷ []) (length es) ≡ e
entry_new es e = get_or_push es e One (length es) refl

-- what stands goes on standing
tree_of_old : (es : List Entry) (e : Entry) (f : Ref) → place f < length es → tree_of (trees (es ++ e ∷ [])) f ≡ tree_of (trees es) f
tree_of_old es e f l = ap (under_mark (is_marked f)) (tree_at_push_old es e (place f) l)

stands_old : (es : List Entry) (e x : Entry) (i : ℕ) → i < length es → Stands (trees es) i x → Stands (trees (es ++ e ∷ [])) i x
stands_old es e One i l h = tree_at_push_old es e i l ∙ h
stands_old es e (Decision m) i l h = (
  h.0,
  h.1,
  tree_at_push_old es e i l ∙ h.2
      ∙ sym (λ j. Branch m.var (tree_of_old es e m.low (omega arith) j) (tree_of_old es e m.high (omega arith) j)),
)

-- a ref is its place and its mark
mark_is : (x y : ℕ) → nat_eq (x % 2) 1 ≡ nat_eq (y % 2) 1 → x / 2 ≡ y / 2 → x ≡ y
mark_is x y e q = grind (arith, nat_tests)

pub ref_is : (f g : Ref) → is_marked f ≡ is_marked g → place f ≡ place g → f ≡ g
ref_is f g e q = let h = mark_is f.0 g.0 e q in (λ i. record { 0 = h i })

xor_true : (a b : Bool) → xor a true ≡ xor b true → a ≡ b
xor_true true true h = refl
xor_true true false h = sym h
xor_true false true h = sym h
xor_true false false h = refl

-- no tree of the table is the negation of another, so refs of one tree are one
pub ref_by_tree : (n : ℕ) (es : List Entry) → IsNodeTable n es → (f g : Ref) → place f < length es → place g < length es → tree_of (trees es) f ≡ tree_of (trees es) g → f ≡ g
ref_by_tree n es s f g lf lg e =
    let hf : holds (tree_of (trees es) f) all_true ≡ xor (is_marked f) true = holds_under_mark (is_marked f) (tree_at (trees es) (place f)) all_true ∙ ap (xor (is_marked f)) (s.true_at_ones (place f) lf) in
    let hg : holds (tree_of (trees es) g) all_true ≡ xor (is_marked g) true = holds_under_mark (is_marked g) (tree_at (trees es) (place g)) all_true ∙ ap (xor (is_marked g)) (s.true_at_ones (place g) lg) in
    let marks : is_marked f ≡ is_marked g = xor_true (is_marked f) (is_marked g) (sym hf ∙ ap (λ t. holds t all_true) e ∙ hg) in
    let t : under_mark (is_marked g) (tree_at (trees es) (place f)) ≡ under_mark (is_marked g) (tree_at (trees es) (place g)) =
    ap (λ b. under_mark b (tree_at (trees es) (place f))) (sym marks) ∙ e in
    ref_is f g marks (s.distinct (place f) (place g) lf lg (under_mark-exact (is_marked g) (tree_at (trees es) (place f)) (tree_at (trees es) (place g)) t))

pub normal_ref : (n : ℕ) (es : List Entry) → IsNodeTable n es → (f : Ref) → place f < length es → IsNormal n 0 (tree_of (trees es) f)
normal_ref n es s f l = normal_under_mark (is_marked f) (tree_at (trees es) (place f)) n 0 (s.normal (place f) l)

-- trees in normal form with one function are equal, so refs with one function are one
pub table_canonical : (n : ℕ) (es : List Entry) → IsNodeTable n es → IsCanonical (diagram n es)
table_canonical n es s = record {
  normal = λ f l. normal_ref n es s f (within f l);
  same = λ f g lf lg e. ref_by_tree n es s f g (within f lf) (within g lg)
      (canonical (tree_of (trees es) f) (tree_of (trees es) g) n 0 0 (normal_ref n es s f (within f lf)) (normal_ref n es s g (within g lg)) e);
}
  where
    within : (f : Ref) → IsValid (diagram n es) f → place f < length es
    within f l = omega (arith, length_trees es)

module _ (n : ℕ) (es : List Entry) (s : IsNodeTable n es) (m : Node)
    (below : m.var < n) (low_in : place m.low < length es) (high_in : place m.high < length es) (differ : m.low ≢ m.high) (unmarked : is_marked m.high ≡ false)
    (low_from : IsFrom (m.var + 1) (tree_of (trees es) m.low)) (high_from : IsFrom (m.var + 1) (tree_of (trees es) m.high))
    (absent : (i : ℕ) → i < length es → entry_at es i ≢ Decision m) where
  abbrev more : List Entry
  more = es ++ Decision m ∷ []

  abbrev new_tree : Tree
  new_tree = Branch m.var (tree_of (trees es) m.low) (tree_of (trees es) m.high)

  within : (f : Ref) → IsValid (diagram n es) f → place f < length es
  within f l = omega (arith, length_trees es)

  -- no old place has the new function
  apart_at : (i : ℕ) → i < length es → (e : Entry) → entry_at es i ≡ e → Stands (trees es) i e → tree_at (trees es) i ≢ new_tree
  apart_at i l One is h t = cc
  apart_at i l (Decision k) is h t =
      let e : Branch k.var (tree_of (trees es) k.low) (tree_of (trees es) k.high) ≡ new_tree = sym h.2 ∙ t in
      let ev : k.var ≡ m.var = cc in
      let el : k.low ≡ m.low = ref_by_tree n es s k.low m.low (omega arith) low_in (cc) in
      let eh : k.high ≡ m.high = ref_by_tree n es s k.high m.high (omega arith) high_in (cc) in
      let same : k ≡ m = (λ j. record { var = ev j; low = el j; high = eh j }) in
      absent i l (is ∙ ap Decision same)

  apart : (i : ℕ) → i < length es → tree_at (trees es) i ≢ new_tree
  apart i l = apart_at i l (entry_at es i) refl (s.stands i l)

  normal_new : IsNormal n 0 new_tree
  normal_new = (
    omega arith,
    below,
    (λ e. differ (ref_by_tree n es s m.low m.high low_in high_in e)),
    normal_from (tree_of (trees es) m.low) n 0 (m.var + 1) (normal_ref n es s m.low low_in) low_from,
    normal_from (tree_of (trees es) m.high) n 0 (m.var + 1) (normal_ref n es s m.high high_in) high_from,
  )

  true_at_ones_new : holds new_tree all_true ≡ true
  true_at_ones_new = ap (λ b. holds (under_mark b (tree_at (trees es) (place m.high))) all_true) unmarked ∙ s.true_at_ones (place m.high) high_in

  at_new : tree_at (trees more) (length es) ≡ new_tree
  at_new = tree_at_push_new es (Decision m)

  at_old : (i : ℕ) → i < length es → tree_at (trees more) i ≡ tree_at (trees es) i
  at_old i l = tree_at_push_old es (Decision m) i l

  -- what holds of the old functions and the new one holds of all
  each : (P : Tree → Type 0) → ((i : ℕ) → i < length es → P (tree_at (trees es) i)) → P new_tree → (i : ℕ) → Place es i → P (tree_at (trees more) i)
  each P olds new i (old l) = subst P (sym (at_old i l)) (olds i l)
  each P olds new i (last e) = subst (λ j. P (tree_at (trees more) j)) (sym e) (subst P (sym at_new) new)

  distinct_more : (i j : ℕ) → Place es i → Place es j → tree_at (trees more) i ≡ tree_at (trees more) j → i ≡ j
  distinct_more i j (old l) (old k) e = s.distinct i j l k (sym (at_old i l) ∙ e ∙ at_old j k)
  distinct_more i j (old l) (last k) e = absurd (apart i l (sym (at_old i l) ∙ e ∙ ap (tree_at (trees more)) k ∙ at_new))
  distinct_more i j (last l) (old k) e = absurd (apart j k (sym (at_old j k) ∙ sym e ∙ ap (tree_at (trees more)) l ∙ at_new))
  distinct_more i j (last l) (last k) e = l ∙ sym k

  stands_more : (i : ℕ) → Place es i → Stands (trees more) i (entry_at more i)
  stands_more i (old l) = subst (λ x. Stands (trees more) i x) (sym (entry_old es (Decision m) i l)) (stands_old es (Decision m) (entry_at es i) i l (s.stands i l))
  stands_more i (last e) =
      subst (λ j. Stands (trees more) j (entry_at more j)) (sym e)
      (subst (λ x. Stands (trees more) (length es) x) (sym (entry_new es (Decision m))) (
        low_in,
        high_in,
        at_new ∙ sym (λ j. Branch m.var (tree_of_old es (Decision m) m.low low_in j) (tree_of_old es (Decision m) m.high high_in j)),
      ))

  spot : (i : ℕ) → i < length more → Place es i
  spot i l = at_place es (Decision m) i l

  -- a table takes a new entry
  pub table_push : IsNodeTable n more
  table_push = record {
    one_in = omega (arith, length-append es (Decision m ∷ []), s.one_in);
    one = entry_old es (Decision m) 0 (omega (arith, s.one_in)) ∙ s.one;
    stands = λ i l. stands_more i (spot i l);
    normal = λ i l. each (IsNormal n 0) s.normal normal_new i (spot i l);
    true_at_ones = λ i l. each (λ t. holds t all_true ≡ true) s.true_at_ones true_at_ones_new i (spot i l);
    distinct = λ i j l k e. distinct_more i j (spot i l) (spot j k) e;
  }

  -- and keeps what it had
  pub keeps_push : Keeps (diagram n es) (diagram n more)
  keeps_push = record {
    vars = refl;
    valid = λ f l. omega (arith, length_trees es, length_trees more, length-append es (Decision m ∷ []));
    tree = λ f l. tree_of_old es (Decision m) f (within f l);
  }

-- The walk to the least point where a function holds.
use Rattle.std.proofs.Common.{◌≡◌, ◌≢◌, ℕ, ◌+◌, ◌<◌, ◌≤◌, Bool, true, false, cond, refl, sym, ◌∙◌, ap, subst, arith, List, length, get_or, set, replicate, true≢false, ◌⊎◌, inl, inr}
use Rattle.std.proofs.Math.ListN.{length-set, length-replicate}
use Rattle.std.proofs.lemmas.List.{get_or_past, get_or-replicate, get_or-set_same, get_or-set_other}
use Rattle.bdd.specs.Tree.{Tree, Leaf, Branch, Point, holds, IsNormal, first_variable}
use Rattle.bdd.specs.Diagram.{Diagram, tree, point_of, IsEarlier, IsLeastPoint}
use Rattle.bdd.specs.declared.Ref.{Ref}

-- the walk stands at the tree t of f: at each point that has the values xs before t's first variable f holds as t does,
-- and it holds at no earlier point
pub record IsWalk (n : ℕ) (f t : Tree) (xs : List Bool) : Type 0 where
  pub count : length xs ≡ n
  pub unset : (v : ℕ) → first_variable n t ≤ v → point_of xs v ≡ false
  pub agrees : (p : Point) → ((v : ℕ) → v < first_variable n t → p v ≡ point_of xs v) → holds f p ≡ holds t p
  pub earlier : (p : Point) (e : IsEarlier n p (point_of xs)) → holds f p ≡ false
  pub some : t ≢ Leaf false

-- the variables of a side come after v
later : (n v : ℕ) (t : Tree) → v < n → IsNormal n (v + 1) t → v < first_variable n t
later n v (Leaf b) l h = l
later n v (Branch w low high) l h = omega (arith, h.0)

-- no variable is set yet
none_set : (n v : ℕ) → get_or (replicate n false) v false ≡ false
none_set n v = elim (cases v n) [ inl l ↦ get_or-replicate n v false false l | inr l ↦ get_or_past (replicate n false) v false (omega (arith, length-replicate n false)) ]
  where
    cases : (v n : ℕ) → (v < n) ⊎ (n ≤ v)
    cases v n = grind arith

pub start : (n : ℕ) (f : Tree) (xs : List Bool) → xs ≡ replicate n false → f ≢ Leaf false → IsWalk n f f xs
start n f xs x h = subst (IsWalk n f f) (sym x) (record {
  count = length-replicate n false;
  unset = λ v l. none_set n v;
  agrees = λ p e. refl;
  earlier = λ p e. absurd (true≢false (sym e.there ∙ none_set n e.var));
  some = h;
})

pub step_low : (n k v : ℕ) (f low high : Tree) (xs : List Bool) → IsNormal n k (Branch v low high) → low ≢ Leaf false → IsWalk n f (Branch v low high) xs → IsWalk n f low xs
step_low n k v f low high xs h differ w =
    let l = later n v low h.1 h.3 in
    record {
      count = w.count;
      unset = λ u m. w.unset u (omega arith);
      agrees = λ p e. w.agrees p (λ u m. e u (omega arith)) ∙ ap (λ b. cond b (holds high p) (holds low p)) (e v l ∙ w.unset v (omega arith));
      earlier = w.earlier;
      some = differ;
    }

module _ (n k v : ℕ) (f low high : Tree) (xs : List Bool) (h : IsNormal n k (Branch v low high)) (zero : low ≡ Leaf false) (w : IsWalk n f (Branch v low high) xs) where
  abbrev ys : List Bool
  ys = set xs v true

  other : (u : ℕ) → u ≢ v → point_of ys u ≡ point_of xs u
  other u d = get_or-set_other xs v u true false d

  here : point_of ys v ≡ true
  here = get_or-set_same xs v true false (omega (arith, w.count, h.1))

  -- a point with the same values before v
  before : (p : Point) → ((u : ℕ) → u < v → p u ≡ point_of ys u) → (u : ℕ) → u < v → p u ≡ point_of xs u
  before p e u m = e u m ∙ other u (omega arith)

  side : (p : Point) (b : Bool) → ((u : ℕ) → u < v → p u ≡ point_of ys u) → p v ≡ b → holds f p ≡ cond b (holds high p) (holds low p)
  side p b e is = w.agrees p (before p e) ∙ ap (λ c. cond c (holds high p) (holds low p)) is

  nowhere_earlier : (p : Point) → IsEarlier n p (point_of ys) → holds f p ≡ false
  nowhere_earlier p e = elim (cases e.var v) [
    | inl l ↦ w.earlier p (record { var = e.var; within = e.within; before = λ u m. e.before u m ∙ other u (omega arith); here = e.here; there = sym (other e.var (omega arith)) ∙ e.there })
    | inr r ↦ elim r [
      | inl s ↦ side p false (λ u m. e.before u (omega arith)) (ap p (sym s) ∙ e.here) ∙ ap (λ t. holds t p) zero
      | inr l ↦ absurd (true≢false (sym e.there ∙ other e.var (omega arith) ∙ w.unset e.var (omega arith)))
    ]
  ]
    where
      cases : (u v : ℕ) → (u < v) ⊎ ((u ≡ v) ⊎ (v < u))
      cases u v = grind arith

  pub step_high : IsWalk n f high ys
  step_high =
      let l = later n v high h.1 h.4 in
      record {
        count = length-set xs v true ∙ w.count;
        unset = λ u m. other u (omega arith) ∙ w.unset u (omega arith);
        agrees = λ p e. side p true (λ u m. e u (omega arith)) (e v l ∙ here);
        earlier = nowhere_earlier;
        some = λ e. h.2 (zero ∙ sym e);
      }

-- at the constant 1 the walk has come to the least point
pub arrived : (d : Diagram) (f : Ref) (t : Tree) (b : Bool) (xs : List Bool) → t ≡ Leaf b → IsWalk d.vars (tree d f) t xs → IsLeastPoint d f xs
arrived d f t true xs e w = record { count = w.count; holds = w.agrees (point_of xs) (λ v l. refl) ∙ ap (λ u. holds u (point_of xs)) e; least = w.earlier }
arrived d f t false xs e w = absurd (w.some e)

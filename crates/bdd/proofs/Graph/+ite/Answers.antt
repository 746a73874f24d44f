use Rattle.std.proofs.Common.{arith, rules, ℕ, min, ◌≡◌, ◌<◌, ◌+◌, sym, ◌∙◌, subst}
use Rattle.bdd.specs.Diagram.{Diagram, Keeps, tree, IsIte}
use Rattle.bdd.specs.Tree.{IsFrom, first_variable}
use Rattle.bdd.proofs.GraphLemmas.{keeps_trans}
use Rattle.bdd.proofs.IteLemmas.{low_from, high_from, stepped, ite_noted}
use Rattle.bdd.proofs.Graph.+ite.Goals as goal
use Rattle.bdd.proofs.Graph.+ite.Goals.{After-cofactors-3, In_ok-high, In_ok-r}

-- v is the least of the first variables
first_is : (t : ℕ) (c : After-cofactors-3 t)
    → let d = c.args.self.now in c.min-v.result ≡ min (min (first_variable d.vars (tree d c.args.f)) (first_variable d.vars (tree d c.args.g))) (first_variable d.vars (tree d c.args.h))
first_is t c =
    c.min-v.ensures ∙ (λ i. min ((c.min.ensures ∙ (λ j. min (c.first_variable.ensures.first j) (c.first_variable-2.ensures.first j))) i) (c.first_variable-3.ensures.first i))

below : (t : ℕ) (c : After-cofactors-3 t) → c.min-v.result < c.args.self.now.vars
below t c =
    let h = c.in_default.ensures.rest in
    let e = first_is t c in
    omega arith

module _ (t : ℕ) (c : In_ok-high t) where
  pub low_after_v : IsFrom (c.min-v.result + 1) (tree c.ite-2.new.self c.in_ok-low.low)
  low_after_v =
      low_from c.args.self.now c.ite.new.self c.ite-2.new.self c.ite-2.new.self c.args.f c.args.g c.args.h c.in_ok-low.low c.in_ok-high.high c.in_ok-low.low c.min-v.result
      c.cofactors.result c.cofactors-2.result c.cofactors-3.result c.cofactors.ensures c.cofactors-2.ensures c.cofactors-3.ensures
      c.ite.ensures.keeps c.in_ok-low.ensures.ite c.ite-2.ensures.keeps c.in_ok-high.ensures.ite

  pub high_after_v : IsFrom (c.min-v.result + 1) (tree c.ite-2.new.self c.in_ok-high.high)
  high_after_v =
      high_from c.args.self.now c.ite.new.self c.ite-2.new.self c.ite-2.new.self c.args.f c.args.g c.args.h c.in_ok-low.low c.in_ok-high.high c.in_ok-low.low c.min-v.result
      c.cofactors.result c.cofactors-2.result c.cofactors-3.result c.cofactors.ensures c.cofactors-2.ensures c.cofactors-3.ensures
      c.ite.ensures.keeps c.in_ok-low.ensures.ite c.ite-2.ensures.keeps c.in_ok-high.ensures.ite

pub mk-requires-clause-low_from : goal.mk-requires-clause-low_from
mk-requires-clause-low_from t c = low_after_v t (goal.at.mk-requires-clause-low_from t c).In_ok-high

pub mk-requires-clause-high_from : goal.mk-requires-clause-high_from
mk-requires-clause-high_from t c = high_after_v t (goal.at.mk-requires-clause-high_from t c).In_ok-high

module _ (t : ℕ) (c : In_ok-r t) (s : c.min-v.result < c.args.self.now.vars)
    (e : let d = c.args.self.now in c.min-v.result ≡ min (min (first_variable d.vars (tree d c.args.f)) (first_variable d.vars (tree d c.args.g))) (first_variable d.vars (tree d c.args.h))) where
  pub is_ite : IsIte c.args.self.now c.mk.new.self c.args.f c.args.g c.args.h c.in_ok-r.r
  is_ite =
      stepped c.args.self.now c.ite.new.self c.ite-2.new.self c.mk.new.self c.args.f c.args.g c.args.h c.in_ok-low.low c.in_ok-high.high c.in_ok-r.r c.min-v.result
      c.cofactors.result c.cofactors-2.result c.cofactors-3.result c.cofactors.ensures c.cofactors-2.ensures c.cofactors-3.ensures
      c.ite.ensures.keeps c.in_ok-low.ensures.ite c.ite-2.ensures.keeps c.in_ok-high.ensures.ite
      c.args.self.now.vars s e c.mk.ensures.keeps c.in_ok-r.ensures.choice

  pub keeps_3 : Keeps c.args.self.now c.mk.new.self
  keeps_3 = search (rules, keeps_trans)

pub note-requires : goal.note-requires
note-requires t c =
    let a = goal.at.note-requires t c in
    let s = below t a.After-cofactors-3 in
    let e = first_is t a.After-cofactors-3 in
    ite_noted c.args.self.now c.mk.new.self c.args.f c.args.g c.args.h c.in_ok-r.r
    (keeps_3 t a.In_ok-r s e) c.requires.f_valid c.requires.g_valid c.requires.h_valid (is_ite t a.In_ok-r s e)

pub returns-clause-ite : goal.returns-clause-ite
returns-clause-ite t c =
    let a = goal.at.returns-clause-ite t c in
    subst (λ (d : Diagram). IsIte c.args.self.now d c.args.f c.args.g c.args.h c.in_ok-r.r) (sym c.note.ensures.same)
    (is_ite t a.In_ok-r (below t a.After-cofactors-3) (first_is t a.After-cofactors-3))

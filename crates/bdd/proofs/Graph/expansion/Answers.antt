use Rattle.std.proofs.Common.{List, ◌≡◌, ◌<◌, sym, subst, length, arith, slice_get, Some, ap, ◌∙◌, not, Bool}
use Rattle.std.proofs.lemmas.Option.{slice_get-get_or, get_or_from_slice_get}
use Rattle.bdd.specs.Tree.{Leaf, xor}
use Rattle.bdd.specs.Diagram.{IsValid, Diagram, place, is_marked, tree}
use Rattle.bdd.specs.Steps.{IsExpansion}
use Rattle.bdd.specs.NodeTable.{Stands, tree_at, trees}
use Rattle.bdd.specs.Graph.{seen}
use Rattle.bdd.proofs.TableLemmas.{length_trees}
use Rattle.bdd.proofs.MarkLemmas.{expansion_decision, constant_expansion}
use Rattle.bdd.specs.declared.Entry.{Entry}
use Rattle.bdd.specs.declared.Expansion.TheVariants.{Decision as Choice}
use Rattle.bdd.specs.declared.Entry.TheVariants.{One, Decision}
use Rattle.bdd.proofs.Graph.expansion.Goals as goal
use Rattle.bdd.proofs.Graph.expansion.Goals.{After-get_index}

module _ (c : After-get_index) where
  abbrev keys : List Entry
  keys = c.self.inside.nodes.keys

  valid : IsValid (seen c.self.inside) c.args.f
  valid = subst (λ d. IsValid d c.args.f) (sym c.self.view_is) c.requires

  within : place c.args.f < length keys
  within = omega (arith, valid, length_trees keys)

  -- the entry that was read stands at the place of f
  stands : (e : Entry) → slice_get keys (place c.args.f) ≡ Some e → Stands (trees keys) (place c.args.f) e
  stands e at = subst (Stands (trees keys) (place c.args.f)) (get_or_from_slice_get keys (place c.args.f) e One at) (c.self.invariant.table.stands (place c.args.f) within)

pub unreachable-requires : goal.unreachable-requires
unreachable-requires c =
    let a = goal.at.unreachable-requires c in
    let e = slice_get-get_or (keys a.After-get_index) (place c.args.f) One (within a.After-get_index) in
    let k = c.in-None.ensures.key in
    let i = c.index.ensures in
    cc (e, k, i)

pub returns-in-Some-One-clause-expansion : goal.returns-in-Some-One-clause-expansion
returns-in-Some-One-clause-expansion c =
    let a = (goal.at.returns-in-Some-One-clause-expansion c).After-get_index in
    let at : slice_get (keys a) (place c.args.f) ≡ Some One = cc (c.in-Some-One.ensures.key, c.in-Some-One.field-0-is, c.index.ensures) in
    subst (λ (d : Diagram). tree d c.args.f ≡ Leaf (not c.has_mark-mark.result)) c.self.view_is
    (constant_expansion (is_marked c.args.f) (tree_at (trees (keys a)) (place c.args.f)) (stands a One at) ∙ ap (λ b. Leaf (not b)) (sym c.has_mark-mark.ensures))

pub returns-in-Some-Decision-clause-expansion : goal.returns-in-Some-Decision-clause-expansion
returns-in-Some-Decision-clause-expansion c =
    let a = (goal.at.returns-in-Some-Decision-clause-expansion c).After-get_index in
    let node = c.in-Some-Decision.node in
    let low = c.with_mark.result in
    let high = c.with_mark-in-Some-Decision.result in
    let mark_is : (b : Bool) → xor c.has_mark-mark.result b ≡ xor (is_marked c.args.f) b = λ b. ap (λ m. xor m b) c.has_mark-mark.ensures in
    let at : slice_get (keys a) (place c.args.f) ≡ Some (Decision node) = cc (c.in-Some-Decision.ensures.key, c.in-Some-Decision.field-0-is, c.index.ensures) in
    subst (λ (d : Diagram). IsExpansion d c.args.f (Choice (record { var = node.var; low = low; high = high }))) c.self.view_is
    (expansion_decision (seen c.self.inside) c.self.invariant.canonical c.args.f low high node (valid a) (stands a (Decision node) at)
    c.with_mark.ensures.place (c.with_mark.ensures.mark ∙ mark_is (is_marked node.low))
    c.with_mark-in-Some-Decision.ensures.place (c.with_mark-in-Some-Decision.ensures.mark ∙ mark_is (is_marked node.high)))

use Rattle.std.proofs.Common.{sym, ap, ◌∙◌, subst, false, true≢false, replicate}
use Rattle.bdd.specs.Tree.{Tree, Branch, IsNormal}
use Rattle.bdd.specs.Diagram.{Diagram, tree, point_of, IsLeastPoint}
use Rattle.bdd.proofs.Equality.{ref_exact}
use Rattle.bdd.proofs.IteLemmas.{differs_from_constant}
use Rattle.bdd.proofs.PointLemmas.{IsWalk, start, step_low, step_high, arrived}
use Rattle.bdd.proofs.Graph.some_point.Goals as goal
use Rattle.bdd.proofs.Graph.some_point.Goals.{In-Decision, In_default}

pub loop-node-init : goal.loop-node-init
loop-node-init c =
    let d = c.args.self.now in
    let vars = ap (λ (e : Diagram). e.vars) c.self.view_is in
    record {
      valid = c.requires;
      walk = start d.vars (tree d c.args.f) c.in_ok-point.point.items
          (c.in_ok-point.ensures.items_if_clones_equal (λ y e. e) ∙ ap (λ n. replicate n false) vars)
          (differs_from_constant d false c.args.f c.constant-zero.result c.constant-zero.ensures.canonical c.requires c.constant-zero.ensures.constant (sym c.eq.ensures ∙ c.if-eq.false));
    }

-- the tree at the walk, as the choice that was read
module _ (c : In-Decision) where
  abbrev here : Tree
  here = Branch c.in-Decision.node.var (tree c.args.self.now c.in-Decision.node.low) (tree c.args.self.now c.in-Decision.node.high)

  normal : IsNormal c.args.self.now.vars 0 here
  normal = subst (IsNormal c.args.self.now.vars 0) c.in-Decision.ensures.expansion.2.tree (c.in-Decision.ensures.canonical.normal c.loop-node.at c.loop-node.invariant.valid)

  walk : IsWalk c.args.self.now.vars (tree c.args.self.now c.args.f) here c.loop-node.point.items
  walk = subst (λ t. IsWalk c.args.self.now.vars (tree c.args.self.now c.args.f) t c.loop-node.point.items) c.in-Decision.ensures.expansion.2.tree c.loop-node.invariant.walk

pub loop-node-preserved-then-eq-2 : goal.loop-node-preserved-then-eq-2
loop-node-preserved-then-eq-2 c =
    let a = (goal.at.loop-node-preserved-then-eq-2 c).In-Decision in
    let d = c.args.self.now in
    let node = c.in-Decision.node in
    let zero = ap (tree d) (ref_exact node.low c.constant-zero.result (sym c.if-eq-2.ensures)) ∙ c.constant-zero.ensures.constant.tree in
    record {
      valid = c.in-Decision.ensures.expansion.2.high_valid;
      walk = step_high d.vars 0 node.var (tree d c.args.f) (tree d node.low) (tree d node.high) c.loop-node.point.items (normal a) zero (walk a);
    }

pub loop-node-preserved : goal.loop-node-preserved
loop-node-preserved c =
    let a = (goal.at.loop-node-preserved c).In-Decision in
    let d = c.args.self.now in
    let node = c.in-Decision.node in
    record {
      valid = c.in-Decision.ensures.expansion.2.low_valid;
      walk = step_low d.vars 0 node.var (tree d c.args.f) (tree d node.low) (tree d node.high) c.loop-node.point.items (normal a)
          (differs_from_constant d false node.low c.constant-zero.result c.constant-zero.ensures.canonical c.in-Decision.ensures.expansion.2.low_valid c.constant-zero.ensures.constant (sym c.if-eq-2.ensures))
          (walk a);
    }

least : (c : In_default) → IsLeastPoint c.args.self.now c.args.f c.loop-node.point.items
least c = arrived c.args.self.now c.args.f (tree c.args.self.now c.loop-node.at) c.in_default.field-0 c.loop-node.point.items c.in_default.ensures.expansion c.loop-node.invariant.walk

pub returns-clause-none : goal.returns-clause-none
returns-clause-none c = (
  (λ never. absurd (true≢false never)),
  (λ nowhere. sym (least c).holds ∙ nowhere (point_of c.loop-node.point.items)),
)

pub returns-clause-least : goal.returns-clause-least
returns-clause-least c = least c

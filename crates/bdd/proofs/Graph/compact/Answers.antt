use Rattle.std.proofs.Common.{◌≡◌, ◌+◌, arith, sym, ap, ◌∙◌, subst, List, length}
use Rattle.bdd.specs.Diagram.{Diagram, AreMoved, HoldsOnly}
use Rattle.bdd.specs.declared.Ref.{Ref}
use Rattle.bdd.proofs.MoveLemmas.{AreCopies, no_moves, no_copies, copies_more, all_moved, none_needed, more_needed, all_needed}
use Rattle.bdd.proofs.Graph.compact.Goals as goal
use Rattle.bdd.proofs.Graph.compact.Goals.{After-drop-moves-2}

pub loop-root-init : goal.loop-root-init
loop-root-init c = record {
  vars = c.in_ok-fresh.ensures.vars ∙ ap (λ (d : Diagram). d.vars) c.self.view_is;
  canonical = c.in_ok-fresh.ensures.canonical;
  moves = no_moves c.args.self.now c.in_ok-fresh.fresh c.new-moves.result c.new-moves.ensures.empty;
  copies = no_copies c.args.self.now c.in_ok-fresh.fresh c.args.roots.now c.new-copies.result.items c.new-copies.ensures.items;
  needed = none_needed c.args.self.now c.in_ok-fresh.fresh c.args.roots.now c.in_ok-fresh.ensures.nodes;
}

pub loop-root-preserved : goal.loop-root-preserved
loop-root-preserved c =
    let old = c.args.self.now in
    let before = c.loop-root.fresh in
    let after = c.copy.new.fresh in
    let i = c.loop-root.root-index in
    record {
      vars = c.copy.ensures.keeps.vars ∙ c.loop-root.invariant.vars;
      canonical = c.copy.ensures.canonical;
      moves = c.copy.ensures.moves;
      copies =
          subst (λ (ss : List Ref). AreCopies old after c.args.roots.now ss (i + 1)) (sym c.in_ok-push.ensures.items)
          (copies_more old before after c.args.roots.now c.loop-root.copies.items i c.in_ok-r.r c.copy.ensures.keeps c.loop-root.invariant.copies c.in_ok-r.ensures.copy);
      needed = more_needed old before after c.args.roots.now i c.copy.ensures.keeps c.loop-root.invariant.needed c.in_ok-r.ensures.adds;
    }

moved : (c : After-drop-moves-2) → AreMoved c.args.self.now c.loop-root.fresh c.args.roots.now c.copy_from_slice.new.self
moved c =
    let n : c.loop-root.root-index ≡ length c.args.roots.now = omega (arith, c.loop-root.auto.root-index-end) in
    let p = all_moved c.args.self.now c.loop-root.fresh c.args.roots.now c.loop-root.copies.items c.loop-root.root-index n c.loop-root.invariant.copies in
    subst (λ (ss : List Ref). AreMoved c.args.self.now c.loop-root.fresh c.args.roots.now ss) (sym c.as_slice.ensures.value ∙ sym c.copy_from_slice.ensures.after) p

pub returns-clause-moved : goal.returns-clause-moved
returns-clause-moved c = subst (λ (d : Diagram). AreMoved c.args.self.now d c.args.roots.now c.copy_from_slice.new.self) (sym c.fresh-2.view_is) (moved c)

pub returns-clause-dropped : goal.returns-clause-dropped
returns-clause-dropped c =
    let n : c.loop-root.root-index ≡ length c.args.roots.now = omega (arith, c.loop-root.auto.root-index-end) in
    subst (λ (d : Diagram). HoldsOnly d c.copy_from_slice.new.self) (sym c.fresh-2.view_is)
    (all_needed c.args.self.now c.loop-root.fresh c.args.roots.now c.copy_from_slice.new.self c.loop-root.root-index n (moved c) c.loop-root.invariant.needed)

use Rattle.std.proofs.Common.{◌≡◌, List, length, ap, sym, subst, ◌∙◌, arith}
use Rattle.std.proofs.lemmas.List.{length-set}
use Rattle.mig_base.specs.declared.levels.Level.{Level}
use Rattle.mig_base.specs.Levels.{level_at}
use Rattle.level_laws.specs.Runs.{next_stored}
use Rattle.settle.proofs.StepLaws.{same-below, same-all, next-here, next-length}
use Rattle.settle.proofs.StoreLaws.{edge-level, stored-after, stored-more}
use Rattle.settle.proofs.edges.store_next.Goals as goal

pub loop-place-preserved : goal.loop-place-preserved
loop-place-preserved c =
    let board = c.args.circuit.now in
    let levels = c.args.levels.now in
    let next = next_stored board levels c.args.before.now c.args.now.now board.registers levels.visible in
    let place = c.loop-place.place in
    let here : c.next_level-level.result ≡ level_at next place =
    next-here board levels c.args.before.now c.args.now.now c.items-register-items.result.now c.items-seen.result.now levels.visible place c.register-item.result c.next_level-level.result _
    c.items-register-items.ensures c.items-seen.ensures c.requires.visible c.loop-place-test.true c.register-item.is
    (edge-level board levels c.args.before.now c.args.now.now c.register-item.result _ _ _ _ c.next_level-level.ensures c.edge_of-edge.ensures.rises c.edge_of-edge.ensures.clock) in record {
      long = ap length c.store.ensures.stored ∙ length-set c.loop-place.stored place c.next_level-level.result ∙ c.loop-place.invariant.long;
      next = λ j below. subst (λ (xs : List Level). level_at xs j ≡ level_at next j) (sym c.store.ensures.stored)
          (same-below c.loop-place.stored next place c.next_level-level.result (omega (arith, ap length c.items-register-items.ensures, c.loop-place.invariant.long, c.loop-place-test.true)) c.loop-place.invariant.next here j below);
      edge = c.edge_of-edge.ensures.rises;
      after = stored-after c.args.stored.now c.loop-place.stored c.store.new.stored place c.next_level-level.result c.store.ensures.stored c.loop-place.invariant.after;
      marked = stored-more c.args.stored.now c.loop-place.stored c.store.new.stored place c.next_level-level.result c.loop-place.marks c.store.new.marks
          (omega (arith, ap length c.items-register-items.ensures, c.loop-place.invariant.long, c.loop-place-test.true)) c.store.ensures.stored c.loop-place.invariant.after c.loop-place.invariant.marked c.store.ensures.mark c.store.ensures.keeps;
    }

pub returns-clause-next : goal.returns-clause-next
returns-clause-next c =
    let board = c.args.circuit.now in
    let levels = c.args.levels.now in
    let next = next_stored board levels c.args.before.now c.args.now.now board.registers levels.visible in
    same-all c.loop-place.stored next c.loop-place.place
    (c.loop-place.invariant.long ∙ sym (next-length board levels c.args.before.now c.args.now.now board.registers levels.visible c.requires.visible))
    (omega (arith, ap length c.items-register-items.ensures, c.loop-place.invariant.long, c.loop-place-test.false)) c.loop-place.invariant.next

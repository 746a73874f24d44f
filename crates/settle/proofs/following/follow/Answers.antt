use Rattle.std.proofs.Common.{List, length, ap, sym, subst, ◌∙◌}
use Rattle.mig_base.specs.declared.levels.Level.{Level}
use Rattle.level_laws.specs.Settled.{IsSettled}
use Rattle.settle.proofs.ChangeLaws.{follow-marked}
use Rattle.settle.proofs.StepLaws.{next-length}
use Rattle.settle.proofs.following.follow.Goals as goal

pub settle_marked-requires-clause-stored : goal.settle_marked-requires-clause-stored
settle_marked-requires-clause-stored c =
    let board = c.args.circuit.now in
    let levels = c.args.config.now.levels in
    ap length (c.items-4.ensures ∙ c.store_next.ensures.next) ∙ next-length board levels _ _ board.registers levels.visible c.requires.made.levels.visible

pub settle_marked-requires-clause-marked : goal.settle_marked-requires-clause-marked
settle_marked-requires-clause-marked c =
    let old = c.args.config.now in
    follow-marked c.args.circuit.now old.stored c.store_next.new.stored c.items-4.result.now old.last c.items-3.result.now c.args.inputs.now old.handed c.items-2.result.now
    c.store_next.new.marks c.mark_inputs.new.marks old.levels (c.requires.made.settled c.requires.later) c.requires.made.stored (settle_marked-requires-clause-stored c)
    c.items-4.ensures c.items-3.ensures c.items-2.ensures c.requires.made.handed c.store_next.ensures.marked c.mark_inputs.ensures.marked c.mark_inputs.ensures.keeps

pub returns-clause-made : goal.returns-clause-made
returns-clause-made c =
    let board = c.args.circuit.now in
    let levels = c.args.config.now.levels in record {
      stored = ap length c.store_next.ensures.next ∙ next-length board levels _ _ board.registers levels.visible c.requires.made.levels.visible;
      last = ap length c.copy.ensures ∙ c.requires.inputs;
      levels = c.settle_marked.ensures.lengths;
      handed = c.requires.made.handed;
      readers = c.requires.made.readers;
      settled = λ stepped. subst (λ (given : List Level). IsSettled board c.store_next.new.stored given c.settle_marked.new.out) (sym c.copy.ensures)
          (subst (λ (stored : List Level). IsSettled board stored c.args.inputs.now c.settle_marked.new.out) c.items-4.ensures c.settle_marked.ensures.settled);
    }

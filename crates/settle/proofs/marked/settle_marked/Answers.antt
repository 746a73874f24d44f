use Rattle.std.proofs.Common.{◌+◌, List, sym, subst, drop}
use Rattle.std.proofs.lemmas.List.{drop_more, drop_all}
use Rattle.mig_base.specs.declared.circuit.Read.{Read}
use Rattle.level_laws.specs.Settled.{IsSettled}
use Rattle.settle.proofs.FollowLaws.{Following, following-start}
use Rattle.settle.proofs.FollowSteps.{following-next, following-settled}
use Rattle.settle.proofs.marked.settle_marked.Goals as goal

pub loop-node-init : goal.loop-node-init
loop-node-init c =
    following-start c.args.circuit.now c.args.stored.now c.args.inputs.now c.args.order.now c.args.marks.now c.args.out.now c.requires.order c.requires.out c.requires.marked

pub loop-node-preserved : goal.loop-node-preserved
loop-node-preserved c =
    let board = c.args.circuit.now in
    let stored = c.args.stored.now in
    let inputs = c.args.inputs.now in
    let order = c.args.order.now in
    let i = c.loop-node.node-index in
    following-next board stored inputs _ (drop (i + 1) order) c.args.readers.now c.loop-node.marks c.visit.new.marks c.loop-node.out c.visit.new.out c.requires.readers
    (subst (λ (rest : List Read). Following board stored inputs rest c.loop-node.marks c.loop-node.out) (drop_more order i _ c.loop-node-test.true) c.loop-node.invariant) c.visit.ensures

pub returns-clause-settled : goal.returns-clause-settled
returns-clause-settled c =
    let board = c.args.circuit.now in
    let stored = c.args.stored.now in
    let inputs = c.args.inputs.now in
    subst (IsSettled board stored inputs) (sym c.renew_units.ensures)
    (following-settled board stored inputs c.loop-node.marks c.loop-node.out c.requires.stored
    (subst (λ (rest : List Read). Following board stored inputs rest c.loop-node.marks c.loop-node.out) (drop_all c.loop-node.node-index c.args.order.now c.loop-node-test.false) c.loop-node.invariant))

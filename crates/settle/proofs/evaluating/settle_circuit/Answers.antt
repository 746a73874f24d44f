use Rattle.std.proofs.Common.{◌+◌, List, sym, subst, drop}
use Rattle.std.proofs.lemmas.List.{drop_more, drop_all}
use Rattle.mig_base.specs.declared.circuit.Read.{Read}
use Rattle.level_laws.specs.Settled.{IsSettled}
use Rattle.level_laws.proofs.OrderRanks.{order-settles-once}
use Rattle.settle.proofs.OrderLaws.{Progress, progress-next, progress-settled}
use Rattle.settle.proofs.evaluating.settle_circuit.Goals as goal

pub loop-node-preserved : goal.loop-node-preserved
loop-node-preserved c =
    let board = c.args.circuit.now in
    let stored = c.args.stored.now in
    let inputs = c.args.inputs.now in
    let order = c.args.order.now in
    let i = c.loop-node.node-index in
    subst (Progress board stored inputs (drop (i + 1) order)) (sym c.renew.ensures)
    (progress-next board stored inputs _ (drop (i + 1) order) c.loop-node.out
    (subst (λ (rest : List Read). Progress board stored inputs rest c.loop-node.out) (drop_more order i _ c.loop-node-test.true) c.loop-node.invariant))

pub returns-clause-settled : goal.returns-clause-settled
returns-clause-settled c =
    let board = c.args.circuit.now in
    let stored = c.args.stored.now in
    let inputs = c.args.inputs.now in
    subst (IsSettled board stored inputs) (sym c.renew_drives.ensures)
    (progress-settled board stored inputs c.loop-node.out c.requires.stored
    (subst (λ (rest : List Read). Progress board stored inputs rest c.loop-node.out) (drop_all c.loop-node.node-index c.args.order.now c.loop-node-test.false) c.loop-node.invariant))

pub returns-clause-only : goal.returns-clause-only
returns-clause-only c =
    λ other settled. order-settles-once c.args.circuit.now c.args.order.now c.requires.order c.args.stored.now c.args.inputs.now _ other (returns-clause-settled c) settled

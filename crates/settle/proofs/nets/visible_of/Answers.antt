use Rattle.std.proofs.Common.{inr, arith}
use Rattle.settle.proofs.OrderLaws.{visible-here, visible-past, visible-past_registers}
use Rattle.settle.proofs.nets.visible_of.Goals as goal

pub returns-then-place-registers : goal.returns-then-place-registers
returns-then-place-registers c =
    visible-past_registers c.args.circuit.now c.args.stored.now c.args.levels.now c.items-registers.result.now c.args.register c.items-registers.ensures c.if-place-registers.true

pub returns-then-place-stored : goal.returns-then-place-stored
returns-then-place-stored c =
    visible-past c.args.levels.now c.args.circuit.now.registers c.args.stored.now c.args.register (inr c.if-place-stored.true)

pub returns : goal.returns
returns c =
    visible-here c.args.circuit.now c.args.stored.now c.args.levels.now c.items-registers.result.now c.args.register c.index-registers-place.result c.visible_level.result _
    c.items-registers.ensures (omega (arith, c.if-place-registers.false)) (omega (arith, c.if-place-stored.false)) c.index-registers-place.is c.visible_level.ensures

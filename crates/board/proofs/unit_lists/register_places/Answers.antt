use Rattle.std.proofs.Common.{true, false, arith}
use Rattle.board.specs.UnitLists.{registers_before}
use Rattle.board.proofs.ListSteps.{made-push}
use Rattle.board.proofs.UnitLaws.{before-more}
use Rattle.board.proofs.unit_lists.register_places.Goals as goal
use Rattle.board.proofs.unit_lists.register_places.Goals.{then-unit, else-unit}

pub loop-unit-preserved : goal.loop-unit-preserved
loop-unit-preserved c =
    let units = c.args.units.now in
    let i = c.loop-unit.unit-index in
    let before = c.loop-unit.invariant.registers in
    let small = c.loop-unit.invariant.small in
    let pushed = made-push (registers_before units) i c.loop-unit.places.items c.push.new.self.items c.loop-unit.registers c.in_ok-push.ensures.items c.loop-unit.invariant.places before in
    elim c.if-unit.branch [
      | then-unit w ↦ let more = before-more units i c.unit-item.result true c.loop-unit-test.true c.unit-item.is w.if-unit.true in
          record { places = pushed; registers = omega (arith, more, before, w.registers-is); small = omega (arith, small, w.registers-is) }
      | else-unit w ↦ let more = before-more units i c.unit-item.result false c.loop-unit-test.true c.unit-item.is w.if-unit.false in
          record { places = pushed; registers = omega (arith, more, before, w.registers-is); small = omega (arith, small, w.registers-is) }
    ]

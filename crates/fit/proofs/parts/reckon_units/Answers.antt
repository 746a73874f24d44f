use Rattle.std.proofs.Common.{List, ◌+◌, take, sym, subst}
use Rattle.plans.specs.FirstOf.{AreEach}
use Rattle.plans.specs.declared.placing.Placing.{Placing}
use Rattle.fit.specs.declared.parts.UnitParts.{UnitParts}
use Rattle.fit.specs.Parts.{AreParts}
use Rattle.fit.proofs.EachLaws.{each-push}
use Rattle.fit.proofs.PlacedLaws.{item-among}
use Rattle.fit.proofs.parts.reckon_units.Goals as goal

pub parts_of-requires-clause-unit : goal.parts_of-requires-clause-unit
parts_of-requires-clause-unit c = c.requires.within c.unit-item.result (item-among c.args.units.now c.loop-unit.unit-index c.unit-item.result c.loop-unit-test.true c.unit-item.is)

pub loop-unit-preserved : goal.loop-unit-preserved
loop-unit-preserved c =
    let b = c.args.absorbed.now.board.now in
    let absorbed = c.args.absorbed.now.units.now in
    subst (λ (ps : List UnitParts). AreEach (AreParts b absorbed) (take (c.loop-unit.unit-index + 1) c.args.units.now) ps) (sym {A = List UnitParts} c.in_ok-push.ensures.items)
    (each-push (AreParts b absorbed) c.args.units.now c.loop-unit.all.items c.loop-unit.unit-index c.unit-item.result c.in_ok-parts_of.field-0 c.loop-unit-test.true c.loop-unit.invariant
    (subst (λ (x : Placing). AreParts b absorbed x c.in_ok-parts_of.field-0) c.unit-item.is c.in_ok-parts_of.ensures))

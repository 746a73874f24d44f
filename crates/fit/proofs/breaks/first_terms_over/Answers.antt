use Rattle.std.proofs.Common.{None, Some}
use Rattle.plans.specs.Placings.{absorbed_units}
use Rattle.plans.specs.UnitBreaches.{GivesTermsOver}
use Rattle.plan_lines.proofs.FirstSteps.{from-next, from-here, from-end}
use Rattle.fit.proofs.PlacedLaws.{part-there, terms-at}
use Rattle.fit.proofs.breaks.first_terms_over.Goals as goal

pub parts_at-requires : goal.parts_at-requires
parts_at-requires c =
    part-there c.args.reckoned.now.placed.now.board.now c.args.reckoned.now.placed.now.plan.now c.args.units.now c.args.reckoned.now.placed.now.units.now c.args.reckoned.now.parts.now c.loop-i.i c.requires.units
    c.args.reckoned.now.placed.now.are c.requires.all c.loop-i-test.true

pub returns-in-Some : goal.returns-in-Some
returns-in-Some c =
    let b = c.args.reckoned.now.placed.now.board.now in
    let p = c.args.reckoned.now.placed.now.plan.now in
    from-here (GivesTermsOver b (absorbed_units b p)) c.args.units.now c.loop-i.i c.index-units-i.result c.in-Some.breach c.loop-i-test.true c.index-units-i.is
    (terms-at b p c.args.units.now c.args.reckoned.now.placed.now.units.now c.args.reckoned.now.parts.now c.loop-i.i c.index-units-i.result c.parts_at.result.now (Some c.in-Some.breach) c.requires.units
    c.args.reckoned.now.placed.now.are c.requires.all c.requires.free c.loop-i-test.true c.index-units-i.is c.parts_at.ensures c.in-Some.ensures) c.loop-i.invariant

pub loop-i-preserved : goal.loop-i-preserved
loop-i-preserved c =
    let b = c.args.reckoned.now.placed.now.board.now in
    let p = c.args.reckoned.now.placed.now.plan.now in
    from-next (GivesTermsOver b (absorbed_units b p)) c.args.units.now c.loop-i.i c.index-units-i.result c.loop-i-test.true c.index-units-i.is
    (terms-at b p c.args.units.now c.args.reckoned.now.placed.now.units.now c.args.reckoned.now.parts.now c.loop-i.i c.index-units-i.result c.parts_at.result.now None c.requires.units
    c.args.reckoned.now.placed.now.are c.requires.all c.requires.free c.loop-i-test.true c.index-units-i.is c.parts_at.ensures c.in_default.ensures) c.loop-i.invariant

pub returns : goal.returns
returns c =
    let b = c.args.reckoned.now.placed.now.board.now in
    from-end (GivesTermsOver b (absorbed_units b c.args.reckoned.now.placed.now.plan.now)) c.args.units.now c.loop-i.i c.loop-i-test.false c.loop-i.invariant

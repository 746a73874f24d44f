use Rattle.plan_lines.proofs.FirstSteps.{from-next, from-here, from-end}
use Rattle.fit.specs.RuleLists.{PartGives}
use Rattle.fit.proofs.PlacedLaws.{part-there, parts-at}
use Rattle.fit.proofs.breaks.first_broken.Goals as goal

pub parts_at-requires : goal.parts_at-requires
parts_at-requires c =
    part-there c.args.reckoned.now.placed.now.board.now c.args.reckoned.now.placed.now.plan.now c.args.units.now c.args.reckoned.now.placed.now.units.now c.args.reckoned.now.parts.now c.loop-i.i c.requires.units
    c.args.reckoned.now.placed.now.are c.requires.all c.loop-i-test.true

pub broken-requires-clause-parts : goal.broken-requires-clause-parts
broken-requires-clause-parts c =
    parts-at c.args.reckoned.now.placed.now.board.now c.args.reckoned.now.placed.now.plan.now c.args.units.now c.args.reckoned.now.placed.now.units.now c.args.reckoned.now.parts.now c.loop-i.i c.index-units-i.result
    c.parts_at.result.now c.requires.units c.args.reckoned.now.placed.now.are c.requires.all c.loop-i-test.true c.index-units-i.is c.parts_at.ensures

pub returns-in-Some : goal.returns-in-Some
returns-in-Some c =
    from-here (PartGives c.args.reckoned.now.placed.now.board.now c.args.reckoned.now.placed.now.plan.now c.args.rule) c.args.units.now c.loop-i.i c.index-units-i.result c.in-Some.breach c.loop-i-test.true
    c.index-units-i.is c.in-Some.ensures c.loop-i.invariant

pub loop-i-preserved : goal.loop-i-preserved
loop-i-preserved c =
    from-next (PartGives c.args.reckoned.now.placed.now.board.now c.args.reckoned.now.placed.now.plan.now c.args.rule) c.args.units.now c.loop-i.i c.index-units-i.result c.loop-i-test.true c.index-units-i.is
    c.in_default.ensures c.loop-i.invariant

pub returns : goal.returns
returns c = from-end (PartGives c.args.reckoned.now.placed.now.board.now c.args.reckoned.now.placed.now.plan.now c.args.rule) c.args.units.now c.loop-i.i c.loop-i-test.false c.loop-i.invariant

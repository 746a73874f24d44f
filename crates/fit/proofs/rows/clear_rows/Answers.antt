use Rattle.fit.proofs.RowLaws.{rows-pushed}
use Rattle.fit.proofs.rows.clear_rows.Goals as goal

pub loop-i-preserved : goal.loop-i-preserved
loop-i-preserved c =
    rows-pushed c.args.units.now c.args.parts.now c.loop-i.i c.index-units-i.result c.index-parts-i.result c.in_ok-row_of.field-0 _ _ c.loop-i-test.true c.requires.count c.index-units-i.is c.index-parts-i.is
    c.in_ok-row_of.ensures c.in_ok-push.ensures.items c.loop-i.invariant

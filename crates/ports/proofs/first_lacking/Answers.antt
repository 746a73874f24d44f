use Rattle.std.proofs.Common.{◌∙◌, sym}
use Rattle.ports.proofs.PortLaws.{held-end, held-more, lacks-here}
use Rattle.ports.proofs.first_lacking.Goals as goal

pub returns-then-lacks : goal.returns-then-lacks
returns-then-lacks c =
    lacks-here c.args.of.now c.args.other.now c.items-nets.result.now c.loop-line.line-index _ c.line-item.result c.items-nets.ensures c.loop-line-test.true c.line-item.is
    (sym c.lacks.ensures ∙ c.if-lacks.true) c.loop-line.invariant

pub loop-line-preserved : goal.loop-line-preserved
loop-line-preserved c =
    held-more c.args.other.now c.items-nets.result.now c.loop-line.line-index _ c.line-item.result c.loop-line-test.true c.line-item.is (sym c.lacks.ensures ∙ c.if-lacks.false)
    c.loop-line.invariant

pub returns : goal.returns
returns c = held-end c.args.of.now c.args.other.now c.items-nets.result.now c.loop-line.line-index c.items-nets.ensures c.loop-line-test.false c.loop-line.invariant

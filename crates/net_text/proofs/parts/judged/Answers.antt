use Rattle.std.proofs.Common.{sym}
use Rattle.text_lines.proofs.Judging.{where-ok}
use Rattle.net_text.proofs.Wholes.{judge-step, nets-step, chips-step}
use Rattle.net_text.proofs.parts.judged.Goals as goal

pub loop-i-preserved : goal.loop-i-preserved
loop-i-preserved c = record {
  passed = judge-step c.args.lines.now c.loop-i.i c.index-lines-i.result _ c.loop-i-test.true c.index-lines-i.is c.in_default.ensures c.loop-i.invariant.passed;
  nets = nets-step c.args.lines.now c.loop-i.i c.index-lines-i.result c.loop-i.nets.items _ c.loop-i-test.true c.index-lines-i.is c.loop-i.invariant.nets
      (where-ok c.keep_net.result _ (sym c.if-is_err.ensures.value) c.keep_net.ensures);
  chips = chips-step c.args.lines.now c.loop-i.i c.index-lines-i.result c.loop-i.chips.items _ c.loop-i-test.true c.index-lines-i.is c.loop-i.invariant.chips
      (where-ok c.keep_chip.result _ (sym c.if-is_err-2.ensures.value) c.keep_chip.ensures);
}

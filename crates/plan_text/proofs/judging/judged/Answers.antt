use Rattle.std.proofs.Common.{sym}
use Rattle.text_lines.proofs.Judging.{where-ok}
use Rattle.plan_text.specs.PlanText.{chip_said, unit_said}
use Rattle.plan_text.proofs.JudgedLines.{judged-more, kept-more}
use Rattle.plan_text.proofs.judging.judged.Goals as goal

pub loop-i-preserved : goal.loop-i-preserved
loop-i-preserved c = record {
  passed = judged-more c.args.lines.now c.loop-i.i c.index-lines-i.result _ c.loop-i-test.true c.index-lines-i.is c.in_default.ensures c.loop-i.invariant.passed;
  chips = kept-more (λ l. chip_said l.says) c.args.lines.now c.loop-i.i c.index-lines-i.result c.loop-i.chips.items _ c.loop-i-test.true c.index-lines-i.is c.loop-i.invariant.chips
      (where-ok c.keep_chip.result _ (sym c.if-is_err.ensures.value) c.keep_chip.ensures);
  units = kept-more (λ l. unit_said l.says) c.args.lines.now c.loop-i.i c.index-lines-i.result c.loop-i.units.items _ c.loop-i-test.true c.index-lines-i.is c.loop-i.invariant.units
      (where-ok c.keep_unit.result _ (sym c.if-is_err-2.ensures.value) c.keep_unit.ensures);
}

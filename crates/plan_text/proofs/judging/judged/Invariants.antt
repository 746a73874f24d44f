use Rattle.std.proofs.Common.{◌≡◌, take, drop, []}
use Rattle.mig_base.specs.First.{first_refusal}
use Rattle.plan_text.specs.PlanText.{line_refusal, chips_in, units_in}
use Rattle.plan_text.proofs.judging.judged.Given as goal

abbrev pub invariant-loop-i : goal.invariant-loop-i
invariant-loop-i l = record {
  passed : first_refusal line_refusal (take l.i l.lines) (drop l.i l.lines) ≡ first_refusal line_refusal [] l.lines;
  chips : l.chips.items ≡ chips_in (take l.i l.lines);
  units : l.units.items ≡ units_in (take l.i l.lines);
}

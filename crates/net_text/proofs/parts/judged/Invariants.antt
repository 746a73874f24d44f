use Rattle.std.proofs.Common.{◌≡◌, take, drop, map, []}
use Rattle.mig_base.specs.First.{first_refusal}
use Rattle.mig_base.specs.BoardText.{line_refusal, nets_in, chips_in}
use Rattle.net_text.specs.Statements.{line_of, all_says}
use Rattle.net_text.proofs.parts.judged.Given as goal

abbrev pub invariant-loop-i : goal.invariant-loop-i
invariant-loop-i l = record {
  passed : first_refusal line_refusal (map line_of (take l.i l.lines)) (map line_of (drop l.i l.lines)) ≡ first_refusal line_refusal [] (map line_of l.lines);
  nets : l.nets.items ≡ nets_in (all_says (take l.i l.lines));
  chips : l.chips.items ≡ chips_in (all_says (take l.i l.lines));
}

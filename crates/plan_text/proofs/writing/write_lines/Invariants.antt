use Rattle.std.proofs.Common.{◌≡◌, ◌++◌, take, map, string_bytes}
use Rattle.std.specs.List.{flat_map}
use Rattle.mig_base.specs.WrittenBoard.{written_line}
use Rattle.mig_base.specs.WrittenPlan.{plan_line}
use Rattle.plan_text.proofs.writing.write_lines.Given as goal

abbrev pub invariant-loop-line : goal.invariant-loop-line
invariant-loop-line l = string_bytes l.text ≡ string_bytes l.fn.text ++ flat_map written_line (map plan_line (take l.line-index l.lines))

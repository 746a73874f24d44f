use Rattle.std.proofs.Common.{◌≡◌, ◌++◌, take, map, string_bytes}
use Rattle.std.specs.List.{flat_map}
use Rattle.mig_base.specs.WrittenBoard.{written_line}
use Rattle.mig_base.specs.WrittenPlan.{plan_chip_line}
use Rattle.plan_text.proofs.writing.write_chips.Given as goal

abbrev pub invariant-loop-chip : goal.invariant-loop-chip
invariant-loop-chip l = string_bytes l.text ≡ string_bytes l.fn.text ++ flat_map written_line (map plan_chip_line (take l.chip-index l.chips))

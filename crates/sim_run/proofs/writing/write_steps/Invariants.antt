use Rattle.std.proofs.Common.{◌≡◌, ◌++◌, take, map, string_bytes}
use Rattle.std.specs.List.{flat_map}
use Rattle.mig_base.specs.WrittenBoard.{written_line}
use Rattle.sim_run.specs.WrittenScript.{step_line}
use Rattle.sim_run.proofs.writing.write_steps.Given as goal

abbrev pub invariant-loop-step : goal.invariant-loop-step
invariant-loop-step l = string_bytes l.text ≡ string_bytes l.fn.text ++ flat_map written_line (map (λ s. step_line s.levels) (take l.step-index l.steps))

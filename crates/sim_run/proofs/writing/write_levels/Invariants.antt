use Rattle.std.proofs.Common.{◌≡◌, ◌++◌, take, map, string_bytes}
use Rattle.std.specs.Prelude.{codes}
use Rattle.mig_base.specs.Levels.{level_code}
use Rattle.sim_run.proofs.writing.write_levels.Given as goal

abbrev pub invariant-loop-level : goal.invariant-loop-level
invariant-loop-level l = string_bytes l.text ≡ string_bytes l.fn.text ++ (codes "step " ++ map level_code (take l.level-index l.levels))

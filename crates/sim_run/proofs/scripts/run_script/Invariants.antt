use Rattle.std.proofs.Common.{◌++◌, List, map, drop}
use Rattle.mig_base.specs.declared.levels.Level.{Level}
use Rattle.board.specs.Joined.{equations_of}
use Rattle.level_laws.specs.Runs.{IsRun, IsRunFrom}
use Rattle.settle.specs.Configs.{last_of}
use Rattle.settle.specs.Made.{IsConfigFor}
use Rattle.sim_run.proofs.Running.{levels_of}
use Rattle.sim_run.proofs.scripts.run_script.Given as goal

abbrev pub invariant-loop-inputs : goal.invariant-loop-inputs
invariant-loop-inputs l = record {
  made : IsConfigFor (equations_of l.b) l.config;
  so_far : (rest : List (List Level)) → IsRunFrom (equations_of l.b) l.config.stored (last_of l.config) (drop l.inputs-index (levels_of l.script.steps)) rest →
      IsRun (equations_of l.b) (levels_of l.script.steps) (map (λ shown. shown.levels) l.showns.items ++ rest);
}

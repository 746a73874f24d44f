-- What a register stores next.
use Rattle.std.specs.Prelude.{List, if◌then◌else◌}
use Rattle.mig_base.specs.declared.levels.Level.{Level}
use Rattle.mig_base.specs.declared.circuit.Register.{Register}
use Rattle.mig_base.specs.declared.circuit.Circuit.{Circuit}
use Rattle.mig_base.specs.declared.circuit.Levels.{Levels}
use Rattle.level_laws.specs.Runs.{rises, taken}

-- what it takes where its clock rises, else its visible Q
abbrev pub next_level : Circuit → Levels → List Level → List Level → Register → Level → Level
next_level c l before now r seen = if rises c before now r.clock then taken l r else seen

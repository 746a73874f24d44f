use Rattle.std.proofs.Common.{ℕ, ◌≡◌, ◌<◌, length}
use Rattle.mig_base.specs.Levels.{level_at}
use Rattle.level_laws.specs.Runs.{shown_levels}
use Rattle.settle.proofs.config.show_ports.Given as goal

abbrev pub invariant-loop-place : goal.invariant-loop-place
invariant-loop-place l = record {
  long : length l.out ≡ length l.circuit.ports;
  shown : (j : ℕ) → j < l.place → level_at l.out j ≡ level_at (shown_levels l.circuit l.config.levels) j;
}

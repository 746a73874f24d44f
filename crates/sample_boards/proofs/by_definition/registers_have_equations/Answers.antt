use Rattle.std.proofs.Common.{refl}
use Rattle.sample_boards.specs.TwoRegisters.{wiring, chip, equations}
use Rattle.sample_boards.proofs.by_definition.registers_have_equations.Goals as goal

pub returns : goal.returns
unfolding wiring chip equations
returns c = refl

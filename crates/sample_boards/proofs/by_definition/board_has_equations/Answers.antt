use Rattle.std.proofs.Common.{refl}
use Rattle.sample_boards.specs.OneGate.{wiring, chip, equations}
use Rattle.sample_boards.proofs.by_definition.board_has_equations.Goals as goal

pub returns : goal.returns
unfolding wiring chip equations
returns c = refl

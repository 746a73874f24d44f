use Rattle.std.proofs.Common.{refl}
use Rattle.sample_boards.specs.OneGate.{fuses, chip}
use Rattle.sample_boards.proofs.by_definition.fuses_make_chip.Goals as goal

pub returns : goal.returns
unfolding fuses chip
returns c = refl

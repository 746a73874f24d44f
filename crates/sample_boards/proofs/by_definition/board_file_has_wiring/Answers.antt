use Rattle.std.proofs.Common.{refl}
use Rattle.sample_boards.specs.OneGate.{board_file, wiring}
use Rattle.sample_boards.proofs.by_definition.board_file_has_wiring.Goals as goal

pub returns : goal.returns
unfolding board_file wiring
returns c = refl

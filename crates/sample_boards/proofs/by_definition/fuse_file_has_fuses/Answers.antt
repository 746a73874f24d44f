use Rattle.std.proofs.Common.{refl}
use Rattle.sample_boards.specs.OneGate.{fuse_file, fuses}
use Rattle.sample_boards.proofs.by_definition.fuse_file_has_fuses.Goals as goal

pub returns : goal.returns
unfolding fuse_file fuses
returns c = refl

use Rattle.built_files.proofs.GalFuses.{read-back}
use Rattle.built_files.proofs.fuse_files_read_back.Goals as goal

pub returns : goal.returns
returns c = read-back

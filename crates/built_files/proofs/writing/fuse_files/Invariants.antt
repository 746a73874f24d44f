use Rattle.std.proofs.Common.{◌≡◌, take, map}
use Rattle.new_board.specs.Files.{fuse_file}
use Rattle.built_files.specs.BoardFiles.{as_file}
use Rattle.built_files.proofs.writing.fuse_files.Given as goal

abbrev pub invariant-loop-chip : goal.invariant-loop-chip
invariant-loop-chip l = map as_file l.jeds.items ≡ map fuse_file (take l.chip-index l.chips)

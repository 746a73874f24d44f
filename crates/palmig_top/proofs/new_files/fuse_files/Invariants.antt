use Rattle.std.proofs.Common.{◌≡◌, map}
use Rattle.new_board.specs.Files.{file_under}
use Rattle.built_files.specs.BoardFiles.{as_file}
use Rattle.palmig_top.specs.Saving.{file_of}
use Rattle.palmig_top.proofs.new_files.fuse_files.Given as goal

abbrev pub invariant-loop-jed : goal.invariant-loop-jed
invariant-loop-jed l = map file_of l.saves.items ≡ map (λ f. file_under l.new (as_file f)) l.yielded

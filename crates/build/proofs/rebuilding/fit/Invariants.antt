use Rattle.std.proofs.Common.{◌≡◌, map, take}
use Rattle.new_board.specs.NewFiles.{fitted}
use Rattle.build.proofs.rebuilding.fit.Given as goal

abbrev pub invariant-loop-chip : goal.invariant-loop-chip
invariant-loop-chip l = l.made.items ≡ map (fitted l.old) (take l.chip-index l.chips)

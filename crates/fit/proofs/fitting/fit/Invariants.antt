use Rattle.std.proofs.Common.{◌≡◌, map, take}
use Rattle.new_board.specs.NewFiles.{fitted}
use Rattle.fit.specs.FullRows.{marks_of}
use Rattle.fit.proofs.fitting.fit.Given as goal

abbrev pub invariant-loop-chip : goal.invariant-loop-chip
invariant-loop-chip l =
    (l.built.items ≡ map (fitted l.old) (take l.chip-index l.chips)) × (l.marks.items ≡ map (marks_of l.old) (take l.chip-index l.chips))

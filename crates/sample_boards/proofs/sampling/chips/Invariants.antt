use Rattle.std.proofs.Common.{take}
use Rattle.mig_base.specs.Given.{AreMade}
use Rattle.sample_boards.proofs.sampling.chips.Given as goal

abbrev pub invariant-loop-place : goal.invariant-loop-place
invariant-loop-place l = AreMade (take l.place l.lines) l.made.items

use Rattle.std.proofs.Common.{take, drop}
use Rattle.mig_base.specs.Given.{AreMade}
use Rattle.palmig_top.proofs.Chips.{ChipsSoFar}
use Rattle.palmig_top.proofs.loads.read_chips.Given as goal

abbrev pub invariant-loop-line : goal.invariant-loop-line
invariant-loop-line g l =
    ChipsSoFar (g.F.Files.held l.initial.files) (g.F.Files.held l.files) (g.F.Files.counts l.initial.files) (g.F.Files.counts l.files) l.stem l.lines (drop l.line-index l.lines) l.chips.items
    × AreMade (take l.line-index l.lines) l.chips.items

use Rattle.std.proofs.Common.{take}
use Rattle.mig_base.specs.Among.{Among}
use Rattle.board.proofs.driven.has_number.Given as goal

abbrev pub invariant-loop-other : goal.invariant-loop-other
invariant-loop-other l = Among l.number (take l.other-index l.numbers) → ⊥

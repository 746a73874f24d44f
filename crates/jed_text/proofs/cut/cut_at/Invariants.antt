use Rattle.std.proofs.Common.{take}
use Rattle.mig_base.specs.FuseText.{Lacks}
use Rattle.jed_text.proofs.cut.cut_at.Given as goal

abbrev pub invariant-loop-i : goal.invariant-loop-i
invariant-loop-i l = Lacks l.byte (take l.i l.bytes)

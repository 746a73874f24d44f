use Rattle.std.proofs.Common.{◌≡◌, drop}
use Rattle.mig_base.specs.FuseText as spec
use Rattle.jed_text.proofs.cut.skip_blanks.Given as goal

abbrev pub invariant-loop-i : goal.invariant-loop-i
invariant-loop-i l = spec.skip_blanks (drop l.i l.text) ≡ spec.skip_blanks l.text

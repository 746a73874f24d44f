use Rattle.std.proofs.Common.{◌≡◌}
use Rattle.mig_base.specs.Cells.{terms_of}
use Rattle.devices.proofs.macrocells.terms.Given as goal

abbrev pub invariant-loop-row : goal.invariant-loop-row
invariant-loop-row l = l.terms.items ≡ terms_of l.yielded

use Rattle.std.proofs.Common.{ℕ, List, [], subst, sym}
use Rattle.std.proofs.lemmas.List.{take_all}
use Rattle.joiner.specs.AbsorbedNets.{AreListed}
use Rattle.joiner.proofs.AbsorbedLaws.{listed-first, listed-more}
use Rattle.joiner.proofs.absorbed.listed_units.Goals as goal

pub loop-unit-init : goal.loop-unit-init
loop-unit-init c = subst (AreListed c.args.units []) (sym c.in_ok-flags.ensures) (listed-first c.args.units)

pub loop-unit-preserved : goal.loop-unit-preserved
loop-unit-preserved c = listed-more c.args.units c.args.absorbed.now c.loop-unit.unit-index c.loop-unit.flags c.raise.new.flags c.loop-unit-test.true c.loop-unit.invariant c.raise.ensures

pub returns : goal.returns
returns c = subst (λ (us : List ℕ). AreListed c.args.units us c.loop-unit.flags) (take_all c.loop-unit.unit-index c.args.absorbed.now c.loop-unit-test.false) c.loop-unit.invariant

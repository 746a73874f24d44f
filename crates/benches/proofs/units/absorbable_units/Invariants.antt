use Rattle.benches.proofs.Rising.{Chosen}
use Rattle.benches.proofs.units.absorbable_units.Given as goal

abbrev pub invariant-loop-unit : goal.invariant-loop-unit
invariant-loop-unit l = Chosen l.board l.unit l.absorbed.items

use Rattle.std.proofs.Common.{map, take}
use Rattle.avail.specs.Needed.{AddsSources}
use Rattle.avail.proofs.needed.push_sources.Given as goal

abbrev pub invariant-loop-lit : goal.invariant-loop-lit
invariant-loop-lit l = AddsSources l.fn.reads.items l.reads.items (map (λ x. x.source) (take l.lit-index l.lits))

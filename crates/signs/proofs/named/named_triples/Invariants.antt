use Rattle.std.proofs.Common.{take}
use Rattle.signs.specs.Named.{AreNamedFrom}
use Rattle.signs.proofs.named.named_triples.Given as goal

abbrev pub invariant-loop-other : goal.invariant-loop-other
invariant-loop-other l = AreNamedFrom l.graph l.names l.ports (take l.other-index l.others) l.made.items

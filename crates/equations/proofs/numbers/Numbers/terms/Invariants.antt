use Rattle.std.proofs.Common.{◌≡◌, ◌++◌, map, drop}
use Rattle.mig_base.specs.Boards.{literals_of}
use Rattle.equations.proofs.numbers.Numbers.terms.Given as goal

abbrev pub invariant-loop-term : goal.invariant-loop-term
invariant-loop-term l = l.products.items ++ map (literals_of l.self.nets.now l.self.units.now l.chip) (drop l.term-index l.terms) ≡ map (literals_of l.self.nets.now l.self.units.now l.chip) l.terms

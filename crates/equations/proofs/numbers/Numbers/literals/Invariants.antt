use Rattle.std.proofs.Common.{◌≡◌, ◌++◌, drop}
use Rattle.mig_base.specs.Boards.{literals_of}
use Rattle.equations.proofs.numbers.Numbers.literals.Given as goal

abbrev pub invariant-loop-lit : goal.invariant-loop-lit
invariant-loop-lit l = l.literals.items ++ literals_of l.self.nets.now l.self.units.now l.chip (drop l.lit-index l.lits) ≡ literals_of l.self.nets.now l.self.units.now l.chip l.lits

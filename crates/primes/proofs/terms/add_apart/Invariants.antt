use Rattle.std.proofs.Common.{◌≡◌, ◌++◌, take}
use Rattle.primes.specs.Steps.{apart, prefixed}
use Rattle.primes.proofs.terms.add_apart.Given as goal

abbrev pub invariant-loop-term : goal.invariant-loop-term
invariant-loop-term l = l.terms.items ≡ l.initial.terms.items ++ prefixed l.first (apart l.shared (take l.term-index l.side))

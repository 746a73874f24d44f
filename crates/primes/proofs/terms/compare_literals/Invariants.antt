use Rattle.std.proofs.Common.{◌≡◌, length, drop}
use Rattle.std.specs.Cmp.Lexicographic.{slice_cmp}
use Rattle.primes.specs.Prime.{literal_cmp}
use Rattle.primes.proofs.terms.compare_literals.Given as goal

abbrev pub invariant-loop-x : goal.invariant-loop-x
invariant-loop-x l =
    slice_cmp literal_cmp (drop (length l.yielded) l.a) (drop (length l.yielded) l.b) ≡ slice_cmp literal_cmp l.a l.b

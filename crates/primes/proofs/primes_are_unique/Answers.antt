use Rattle.primes.proofs.UniqueLemmas.{primes_unique}
use Rattle.primes.proofs.primes_are_unique.Goals as goal

pub returns : goal.returns
returns c = primes_unique

-- What an error says of the function.
use Rattle.std.specs.Prelude.{◌≡◌, ℕ}
use Rattle.primes.specs.Prime.{Function, HasMorePrimes}
use Rattle.primes.specs.declared.PrimeError.{PrimeError}
use Rattle.primes.specs.declared.PrimeError.TheVariants.{Over, Memory}

-- the function has more primes than n, which the error gives, or there is no memory
abbrev pub IsRefusal : Function → ℕ → PrimeError → Type 0
IsRefusal f n (Over e) = (e ≡ n) × HasMorePrimes f n
IsRefusal f n Memory = Unit {0}

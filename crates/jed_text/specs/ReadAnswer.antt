-- The answer of a reader of fuses.
use Rattle.std.specs.Prelude.{◌≡◌, ◌≢◌, Bool, List, Result, Ok, Err}
use Rattle.mig_base.specs.declared.cells.Fuses.{Fuses}
use Rattle.mig_base.specs.declared.jedec.JedError.{JedError}
use Rattle.mig_base.specs.declared.jedec.JedError.TheVariants.{Memory}

-- the answer is this one, but for want of memory
abbrev pub IsAnswer : Result Fuses JedError → Result (List Bool) JedError → Type 0
IsAnswer (Ok f) said = said ≡ Ok f.bits
IsAnswer (Err e) said = e ≢ Memory → said ≡ Err e

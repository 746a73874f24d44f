-- The flags of all live units are a live set.
use Rattle.std.proofs.Common.{ℕ, ◌≡◌, ◌<◌, Bool, true, false, List, length, Option, Some, None, refl}
use Rattle.std.specs.Prelude.{slice_get, slice_index_or}
use Rattle.std.proofs.lemmas.Option.{slice_get_within}
use Rattle.mig_base.specs.declared.circuit.Read.{Read}
use Rattle.mig_base.specs.declared.circuit.Read.TheVariants.{OfNet, OfRegister}
use Rattle.mig_base.specs.declared.circuit.Driver.{Driver}
use Rattle.mig_base.specs.declared.circuit.Circuit.{Circuit}
use Rattle.mig_base.specs.Among.{Among}
use Rattle.structure.specs.Live.{unit_reads, HasRegister, StandsBehind, IsShown, IsLiveSet, IsLiveness}
use Rattle.fitting_levels.specs.Wired.{IsWired}

pub liveness-set : (c : Circuit) (flags : List Bool) → IsWired c → IsLiveness c flags → IsLiveSet c (λ u. slice_index_or flags u false)
liveness-set c flags wired l = record { ports = ports; reads = reads }
  where
    there : (u : ℕ) (v : Read) → StandsBehind c u v → u < length c.units
    there u (OfNet n) s = wired.units n u s
    there u (OfRegister k) s = at (slice_get c.units u) refl s.1
      where
        at : (o : Option Driver) → slice_get c.units u ≡ o → HasRegister k o → u < length c.units
        at None e none = absurd none
        at (Some d) e h = slice_get_within c.units u d e

    ports : (n u : ℕ) → IsShown c n → StandsBehind c u (OfNet n) → slice_index_or flags u false ≡ true
    ports n u shown s = l.every u (there u (OfNet n) s) (λ set is. is.ports n u shown s)

    reads : (u : ℕ) (v : Read) (w : ℕ) → slice_index_or flags u false ≡ true → Among v (unit_reads c u) → StandsBehind c w v → slice_index_or flags w false ≡ true
    reads u v w on a s = l.every w (there w v s) (λ set is. is.reads u v w (l.sound u on set is) a s)

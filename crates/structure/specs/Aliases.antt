-- The alias nets of a board.
use Rattle.std.specs.Prelude.{ℕ, ◌≡◌, ◌<◌, Bool, List, length, Option, Some, None, slice_get, slice_index}
use Rattle.mig_base.specs.declared.circuit.Circuit.{Circuit}
use Rattle.mig_base.specs.Structure.{alias_of}

-- the register of each net that is an alias net, and whether the net's level is Q
pub record AreAliases (c : Circuit) (aliases : List (Option (ℕ × Bool))) : Type 0 where
  pub nets : length aliases ≡ length c.nets
  pub each : (n : ℕ) → n < length c.nets → slice_get aliases n ≡ Some (alias_of c n)

-- an alias by the unit of its register, where the units of the registers are these
abbrev pub alias_named : List ℕ → Option (ℕ × Bool) → Option (ℕ × Bool)
alias_named units None = None
alias_named units (Some a) = Some (slice_index units a.0, a.1)

-- A board between two steps.
use Rattle.std.specs.Prelude.{ℕ, ◌≡◌, Bool, true, false, List, length, filter, if◌then◌else◌, Option, Some, None}
use Rattle.mig_base.specs.declared.levels.Level.{Level}
use Rattle.mig_base.specs.declared.circuit.NetKind.{NetKind}
use Rattle.mig_base.specs.declared.circuit.NetKind.TheVariants.{Ground, Power, Handed, Shared, Inner}
use Rattle.mig_base.specs.declared.circuit.Circuit.{Circuit}
use Rattle.level_laws.specs.Settled.{IsSettled}
use Rattle.mig_base.specs.Boards.{places_from}
use Rattle.reader_lists.specs.Tables.{AreReaders}
use Rattle.settle.specs.declared.config.Config.{Config}
use Rattle.settle.specs.Rules.{HasLengths}

-- an Input or a Both port
abbrev pub is_handed : NetKind → Bool
is_handed (Handed place) = true
is_handed (Shared place) = true
is_handed Ground = false
is_handed Power = false
is_handed Inner = false

-- how many levels are handed to a board
abbrev pub handed_count : Circuit → ℕ
handed_count c = length (filter (λ w. is_handed w.kind) c.nets)

-- the nets that are handed a level
abbrev pub handed_nets : Circuit → List ℕ
handed_nets c = places_from (λ w. is_handed w.kind) 0 c.nets

-- the last inputs, once a step was made
abbrev pub last_of : Config → Option (List Level)
last_of k = if k.stepped then Some k.last else None

-- its lists have the board's lengths, and once a step was made it keeps the settled levels; it has the nets that are handed a
-- level, and what reads each node
pub record IsMadeFor (c : Circuit) (k : Config) : Type 0 where
  pub stored : length k.stored ≡ length c.registers
  pub last : length k.last ≡ handed_count c
  pub levels : HasLengths c k.levels
  pub handed : k.handed ≡ handed_nets c
  pub readers : AreReaders c k.readers
  pub settled : k.stepped ≡ true → IsSettled c k.stored k.last k.levels

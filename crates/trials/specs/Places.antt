-- Ports of one board by their names on another.
use Rattle.std.specs.Prelude.{ℕ, List, map, Option, Some, None, slice_get}
use Rattle.mig_base.specs.declared.levels.Level.{Level}
use Rattle.mig_base.specs.declared.nets.Net.{Net}
use Rattle.mig_base.specs.BoardText.{place_named}
use Rattle.level_laws.specs.SameBehaviour.{handed_levels}
use Rattle.matchings.specs.ByPort.{by_port}

-- what the second board is handed where the first one is handed these levels
abbrev pub handed_over : Net → Net → List Level → List Level
handed_over a b inputs = handed_levels b (by_port a inputs)

-- the level at a place, where there is one
abbrev pub level_by_place : List Level → Option ℕ → Option Level
level_by_place levels None = None
level_by_place levels (Some k) = slice_get levels k

-- the places of names among others
abbrev pub places_among : List (List ℕ) → List (List ℕ) → List (Option ℕ)
places_among names others = map (λ name. place_named name others) names

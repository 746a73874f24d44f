-- What a plan says of the units of a board: which pin of which new chip each one takes, and which are absorbed.
use Rattle.std.specs.Prelude.{ℕ, ◌+◌, Bool, false, ◌&&◌, ◌==◌, List, [], ◌∷◌, map, filter, Option, Some, None, if◌then◌else◌}
use Rattle.std.specs.List.{list_any, filter_map, position}
use Rattle.std.specs.Str.{bytes_eq}
use Rattle.mig_base.specs.First.{or_else}
use Rattle.mig_base.specs.declared.nets.PinName.{PinName}
use Rattle.mig_base.specs.declared.plans.Plan.{Plan}
use Rattle.mig_base.specs.declared.plans.PlanChip.{PlanChip}
use Rattle.mig_base.specs.declared.plans.PlanLine.{PlanLine}
use Rattle.mig_base.specs.declared.plans.PlanLine.TheVariants.{Place, Absorb}
use Rattle.mig_base.specs.Boards.{units_from, places_from}
use Rattle.board.specs.Joined.{Joined}
use Rattle.board.specs.NodeNames.{unit_name}
use Rattle.new_board.specs.NewChip.{OldBoard, when}
use Rattle.new_board.specs.OneForOne.{old_board}
use Rattle.plans.specs.declared.placing.Placing.{Placing}

-- a board as one that is rebuilt
abbrev pub old : Joined → OldBoard
old b = old_board b.net b.chips

-- the same pin of a chip of the same name
abbrev pub same_pin : PinName → PinName → Bool
same_pin u v = bytes_eq u.chip v.chip && (u.pin == v.pin)

-- the names of the units, in unit order
abbrev pub unit_names : Joined → List PinName
unit_names b = map (unit_name b.net) (units_from 0 b.chips)

-- names with their numbers, from here on
abbrev pub numbered_from : ℕ → List PinName → List (ℕ × PinName)
numbered_from u [] = []
numbered_from u (name ∷ names) = (u, name) ∷ numbered_from (u + 1) names

-- the units by number and name
abbrev pub numbered_units : Joined → List (ℕ × PinName)
numbered_units b = numbered_from 0 (unit_names b)

-- the number of the unit of this name
abbrev pub unit_named : Joined → PinName → Option ℕ
unit_named b name = position (same_pin name) (unit_names b)

-- the unit that a line names
abbrev pub named_by : PlanLine → PinName
named_by (Place unit chip pin) = unit
named_by (Absorb unit) = unit

-- whether a line names the unit
abbrev pub is_listed : List PlanLine → PinName → Bool
is_listed lines name = list_any (λ l. same_pin (named_by l) name) lines

-- whether a line absorbs the unit
abbrev pub absorbs : PinName → PlanLine → Bool
absorbs name (Place unit chip pin) = false
absorbs name (Absorb unit) = same_pin unit name

-- whether one of the lines does
abbrev pub is_absorbed_in : List PlanLine → PinName → Bool
is_absorbed_in lines name = list_any (absorbs name) lines

-- the absorbed units by number, rising
abbrev pub absorbed_units : Joined → Plan → List ℕ
absorbed_units b p = places_from (is_absorbed_in p.lines) 0 (unit_names b)

-- the pin that a line gives a unit
abbrev pub target_by : PinName → PlanLine → Option PinName
target_by name (Place unit chip pin) = when (same_pin unit name) (Some (record { chip = chip; pin = pin }))
target_by name (Absorb unit) = None

-- the pin that the first such line gives
abbrev pub target_in : List PlanLine → PinName → Option PinName
target_in [] name = None
target_in (l ∷ ls) name = or_else (target_by name l) (target_in ls name)

-- the first chip of this name
abbrev pub chip_named : List PlanChip → List ℕ → Option PlanChip
chip_named [] name = None
chip_named (c ∷ cs) name = if bytes_eq c.name name then Some c else chip_named cs name

-- a unit at a pin of this chip, if it is one
abbrev pub placing_on : ℕ → PinName → ℕ → Option PlanChip → Option Placing
placing_on u name pin None = None
placing_on u name pin (Some c) = Some (record { unit = u; name = name; chip = c; pin = pin })

-- a unit at this target, if it has one on a chip of the plan
abbrev pub placing_at : List PlanChip → ℕ → PinName → Option PinName → Option Placing
placing_at chips u name None = None
placing_at chips u name (Some t) = placing_on u name t.pin (chip_named chips t.chip)

-- where the plan places a unit
abbrev pub placing_of : Plan → ℕ × PinName → Option Placing
placing_of p u = placing_at p.chips u.0 u.1 (target_in p.lines u.1)

-- the placed units, in unit order
abbrev pub placings : Joined → Plan → List Placing
placings b p = filter_map (placing_of p) (numbered_units b)

-- whether a unit is placed on the chip of this name
abbrev pub is_on : List ℕ → Placing → Bool
is_on name x = bytes_eq x.chip.name name

-- the units that are placed on it
abbrev pub placings_on : Joined → Plan → List ℕ → List Placing
placings_on b p name = filter (is_on name) (placings b p)

-- The breaches of chip lines, of place and absorb lines, and of units that no line names.
use Rattle.std.specs.Prelude.{ℕ, ◌≡◌, Bool, false, not, ◌&&◌, ◌==◌, List, Option, Some, None, is_none}
use Rattle.std.specs.List.{list_any}
use Rattle.std.specs.Str.{bytes_eq}
use Rattle.mig_base.specs.declared.nets.PinName.{PinName}
use Rattle.mig_base.specs.declared.plans.Plan.{Plan}
use Rattle.mig_base.specs.declared.plans.PlanChip.{PlanChip}
use Rattle.mig_base.specs.declared.plans.PlanLine.{PlanLine}
use Rattle.mig_base.specs.declared.plans.PlanLine.TheVariants.{Place, Absorb}
use Rattle.mig_base.specs.declared.plans.Breach.{Breach}
use Rattle.mig_base.specs.declared.plans.Breach.TheVariants as breach
use Rattle.mig_base.specs.DeviceTables.{cell_pins}
use Rattle.structure.specs.Live.{IsLive}
use Rattle.structure.specs.Absorbable.{IsAbsorbable}
use Rattle.board.specs.Joined.{Joined, equations_of}
use Rattle.new_board.specs.NewChip.{when}
use Rattle.plans.specs.Placings.{unit_named, named_by, is_listed, chip_named}

-- an earlier chip line has the name
abbrev pub chip_twice : List PlanChip × PlanChip → Option Breach
chip_twice (before, c) = when (list_any (λ d. bytes_eq d.name c.name) before) (Some (breach.ChipTwice c.name))

-- a place or absorb line names no unit
abbrev pub unit_unknown : Joined → PlanLine → Option Breach
unit_unknown b l = when (is_none (unit_named b (named_by l))) (Some (breach.UnitUnknown (named_by l)))

-- an earlier place or absorb line names the unit
abbrev pub unit_twice : List PlanLine × PlanLine → Option Breach
unit_twice (before, l) = when (is_listed before (named_by l)) (Some (breach.UnitTwice (named_by l)))

-- the chip of a place line isn't in the plan
abbrev pub chip_unknown : Plan → PlanLine → Option Breach
chip_unknown p (Place unit chip pin) = when (is_none (chip_named p.chips chip)) (Some (breach.ChipUnknown unit chip))
chip_unknown p (Absorb unit) = None

-- a macrocell pin of a chip
abbrev pub is_cell_of : PlanChip → ℕ → Bool
is_cell_of c pin = list_any (λ q. q == pin) (cell_pins c.kind)

-- a pin of this chip that is none, if there is a chip
abbrev pub has_no_cell : Option PlanChip → ℕ → Bool
has_no_cell None pin = false
has_no_cell (Some c) pin = not (is_cell_of c pin)

-- the pin of a place line is no macrocell pin of the chip
abbrev pub no_cell : Plan → PlanLine → Option Breach
no_cell p (Place unit chip pin) = when (has_no_cell (chip_named p.chips chip) pin) (Some (breach.NoCell unit pin))
no_cell p (Absorb unit) = None

-- whether a line places a unit at this pin of the chip
abbrev pub takes_pin : List ℕ → ℕ → PlanLine → Bool
takes_pin name q (Place unit chip pin) = bytes_eq chip name && (pin == q)
takes_pin name q (Absorb unit) = false

-- an earlier place line has that pin of that chip
abbrev pub pin_taken : List PlanLine × PlanLine → Option Breach
pin_taken (before, Place unit chip pin) = when (list_any (takes_pin chip pin) before) (Some (breach.PinTaken unit pin))
pin_taken (before, Absorb unit) = None

-- the unit of this name isn't absorbable
pub record IsNotAbsorbable (b : Joined) (unit : PinName) (x : Breach) : Type 0 where
  pub number : ℕ
  pub named : unit_named b unit ≡ Some number
  pub bars : IsAbsorbable (equations_of b) number → ⊥
  pub names : x ≡ breach.NotAbsorbable unit

-- an absorbed unit isn't absorbable
abbrev pub GivesNotAbsorbable : Joined → PlanLine → Breach → Type 0
GivesNotAbsorbable b (Place unit chip pin) x = ⊥
GivesNotAbsorbable b (Absorb unit) x = IsNotAbsorbable b unit x

-- a live unit is neither placed nor absorbed
pub record GivesUnplaced (b : Joined) (p : Plan) (u : ℕ × PinName) (x : Breach) : Type 0 where
  pub live : IsLive (equations_of b) u.0
  pub unlisted : is_listed p.lines u.1 ≡ false
  pub names : x ≡ breach.Unplaced u.1

-- What a plan without breach gives of its new chips.
use Rattle.std.specs.Prelude.{◌≡◌, ◌⊎◌, ◌<◌, ◌≤◌, ℕ, Bool, true, false, List, Some, slice_get}
use Rattle.mig_base.specs.declared.circuit.Driver.{Driver}
use Rattle.mig_base.specs.declared.circuit.Gate.TheVariants.{Never}
use Rattle.mig_base.specs.declared.plans.Part.TheVariants.{Logic, Enable, Reset, Preset}
use Rattle.mig_base.specs.Among.{Among}
use Rattle.mig_base.specs.DeviceTables.{is_22, is_v8}
use Rattle.mig_base.specs.Values.{sum_reads}
use Rattle.board.specs.Joined.{Joined, equations_of}
use Rattle.joiner.specs.AbsorbedNets.{AreAbsorbable}
use Rattle.new_board.specs.declared.types.PlacedUnit.{PlacedUnit}
use Rattle.new_board.specs.NewChip.{NewChip, enable_net, first_registered, gate_products, is_registered_unit, placed_clock}
use Rattle.new_board.specs.NewFiles.{pin_low_of}
use Rattle.plans.specs.Placings.{old}
use Rattle.plans.specs.UnitBreaches.{share_row}
use Rattle.carried_boards.specs.Carries.{Numbers}
use Rattle.placed_boards.specs.Rows.{AreRows}
use Rattle.joined_rows.specs.PartRows.{raw_part, part_level}

-- the rows of a placed unit are rows of its old unit's parts
pub record HasPartRows (b : Joined) (absorbed : List ℕ) (x : PlacedUnit) : Type 0 where
  pub driver : Driver
  pub found : slice_get (equations_of b).units x.unit ≡ Some driver
  pub logic : AreRows (equations_of b) absorbed (part_level (equations_of b) driver Logic) (sum_reads (raw_part (equations_of b) driver Logic)) x.terms x.low
  pub enable : AreRows (equations_of b) absorbed (part_level (equations_of b) driver Enable) (sum_reads (raw_part (equations_of b) driver Enable)) (gate_products x.enable) false
  pub reset : AreRows (equations_of b) absorbed (part_level (equations_of b) driver Reset) (sum_reads (raw_part (equations_of b) driver Reset)) (gate_products x.reset) false
  pub preset : AreRows (equations_of b) absorbed (part_level (equations_of b) driver Preset) (sum_reads (raw_part (equations_of b) driver Preset)) (gate_products x.preset) false

-- a registered unit and the first one of its chip have one clock net, and on a 22V10 one reset and one preset row
pub record SharesChip (b : Joined) (chip : NewChip) (first x : PlacedUnit) : Type 0 where
  pub clock : placed_clock (equations_of b) x ≡ placed_clock (equations_of b) first
  pub reset : is_22 chip.kind ≡ true → share_row (gate_products x.reset) (gate_products first.reset) ≡ true
  pub preset : is_22 chip.kind ≡ true → share_row (gate_products x.preset) (gate_products first.preset) ≡ true

-- on a V8 it has no reset and no preset, its pin shows NOT Q, and its enable is that of the first one, which the enable pin can have
pub record SuitsV8 (b : Joined) (first x : PlacedUnit) : Type 0 where
  pub reset : x.reset ≡ Never
  pub preset : x.preset ≡ Never
  pub phase : pin_low_of (slice_get (equations_of b).units x.unit) ≡ true
  pub enable : share_row (gate_products x.enable) (gate_products first.enable) ≡ true
  pub net : ℕ
  pub pin : enable_net (old b) first.enable ≡ Some net

-- a new net stands for an old one, GND for GND and VCC for VCC
pub record IsEnablePin (numbers : Numbers) (m net : ℕ) : Type 0 where
  pub number : numbers.net m ≡ net
  pub low : net < 2 → m ≡ net
  pub high : 2 ≤ net → 2 ≤ m

-- a new chip: the rows of its units, and what its registered units share
pub record IsPlannedChip (b : Joined) (absorbed : List ℕ) (chip : NewChip) : Type 0 where
  pub units : (x : PlacedUnit) → Among x chip.units → HasPartRows b absorbed x
  pub shares : (x first : PlacedUnit) → Among x chip.units → is_registered_unit (equations_of b) x ≡ true → first_registered (equations_of b) chip ≡ Some first → SharesChip b chip first x
  pub suits : (x first : PlacedUnit) → Among x chip.units → is_v8 chip.kind ≡ true → is_registered_unit (equations_of b) x ≡ true →
      first_registered (equations_of b) chip ≡ Some first → SuitsV8 b first x

-- a unit is placed on one of the chips
pub record IsPlaced (chips : List NewChip) (u : ℕ) : Type 0 where
  pub place : ℕ
  pub chip : NewChip
  pub found : slice_get chips place ≡ Some chip
  pub unit : PlacedUnit
  pub placed : Among unit chip.units
  pub number : unit.unit ≡ u

-- new chips as a plan without breach gives them: all live units are absorbed or placed
pub record ArePlanned (b : Joined) (absorbed : List ℕ) (live : ℕ → Bool) (chips : List NewChip) : Type 0 where
  pub absorbable : AreAbsorbable b absorbed
  pub chip : (c : NewChip) → Among c chips → IsPlannedChip b absorbed c
  pub every : (u : ℕ) (d : Driver) → slice_get (equations_of b).units u ≡ Some d → live u ≡ true → Among u absorbed ⊎ IsPlaced chips u

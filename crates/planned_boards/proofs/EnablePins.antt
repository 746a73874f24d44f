-- On a V8 the enable pin stands on the net of the enable of the first registered unit.
use Rattle.std.proofs.Common.{ℕ, ◌≡◌, Bool, true, false, ◌&&◌, List, Option, Some, None, refl, sym, ap, ◌∙◌, eqb, eq-eqb}
use Rattle.std.specs.Prelude.{option_and_then}
use Rattle.std.specs.List.{slice_get}
use Rattle.mig_base.specs.First.{or_else}
use Rattle.mig_base.specs.declared.kinds.Kind.{Kind}
use Rattle.mig_base.specs.declared.kinds.Kind.TheVariants.{Gal16V8, Gal20V8}
use Rattle.mig_base.specs.Boards.{net_of}
use Rattle.mig_base.specs.Cells.{is_among}
use Rattle.mig_base.specs.DeviceTables.{cell_pins, clock_pin, enable_pin, is_22, is_v8, ordinary_pins}
use Rattle.mig_base.proofs.Amongs.{among-any}
use Rattle.board.specs.Joined.{Joined}
use Rattle.read_nodes.proofs.Columns.{pin-among}
use Rattle.new_board.specs.declared.types.PlacedUnit.{PlacedUnit}
use Rattle.new_board.specs.NewChip.{NewChip, OldBoard, clock_net, enable_net, first_registered, unit_net, unit_on, when}
use Rattle.new_board.specs.InputPins.{input_at, input_pins, pin_net, wire_for}
use Rattle.new_board.proofs.WellMade.{IsFitChip, on-unit}
use Rattle.plans.specs.Placings.{old}
use Rattle.new_circuits.specs.NewNumbers.{new_wiring, numbers_of}
use Rattle.new_circuits.proofs.PinNets.{constants-kept}
use Rattle.new_circuits.proofs.SeenRows.{net-seen}
use Rattle.planned_boards.specs.Planned.{IsEnablePin}

pub v8-no-22 : (k : Kind) → is_v8 k ≡ true → is_22 k ≡ false
v8-no-22 Gal16V8 e = refl
v8-no-22 Gal20V8 e = refl
v8-no-22 _ e = cc

pub ordinary-there : (k : Kind) → is_v8 k ≡ true → is_among (ordinary_pins k) (enable_pin k) ≡ true
ordinary-there Gal16V8 e = refl
ordinary-there Gal20V8 e = refl
ordinary-there _ e = cc

no-cell : (k : Kind) → is_v8 k ≡ true → is_among (cell_pins k) (enable_pin k) ≡ false
no-cell Gal16V8 e = refl
no-cell Gal20V8 e = refl
no-cell _ e = cc

no-clock : (k : Kind) → is_v8 k ≡ true → eqb (enable_pin k) (clock_pin k) ≡ false
no-clock Gal16V8 e = refl
no-clock Gal20V8 e = refl
no-clock _ e = cc

-- no unit stands there
no-unit : (b : OldBoard) (chip : NewChip) → IsFitChip b chip → is_v8 chip.kind ≡ true → unit_on chip.units (enable_pin chip.kind) ≡ None
no-unit b chip fit v8 = at (unit_on chip.units (enable_pin chip.kind)) refl
  where
    at : (o : Option PlacedUnit) → unit_on chip.units (enable_pin chip.kind) ≡ o → o ≡ None
    at None is = refl
    at (Some x) is =
        let found = on-unit chip.units (enable_pin chip.kind) x is in
        let among : is_among (cell_pins chip.kind) (enable_pin chip.kind) ≡ true =
        among-any (λ p. eqb p (enable_pin chip.kind)) x.pin (cell_pins chip.kind) (fit.units x found.0).cell (eq-eqb x.pin (enable_pin chip.kind) found.1) in
        let wrong : true ≡ false = sym among ∙ no-cell chip.kind v8 in
        cc

-- its net
pub pin-net : (b : OldBoard) (chip : NewChip) → IsFitChip b chip → is_v8 chip.kind ≡ true → (first : PlacedUnit) → first_registered b.circuit chip ≡ Some first →
    (net : ℕ) → enable_net b first.enable ≡ Some net → pin_net b chip (enable_pin chip.kind) ≡ Some net
pin-net b chip fit v8 first is net e =
    ap (λ (o : Option PlacedUnit). or_else (or_else (option_and_then (λ (x : PlacedUnit). unit_net b x.unit) o) (or_else (clock (eqb pin (clock_pin chip.kind))) (enable (is_v8 chip.kind && eqb pin pin) (first_registered b.circuit chip)))) input)
    (no-unit b chip fit v8)
    ∙ ap (λ (q : Bool). or_else (or_else (clock q) (enable (is_v8 chip.kind && eqb pin pin) (first_registered b.circuit chip))) input) (no-clock chip.kind v8)
    ∙ ap (λ (q : Bool). or_else (enable (q && eqb pin pin) (first_registered b.circuit chip)) input) v8
    ∙ ap (λ (q : Bool). or_else (enable q (first_registered b.circuit chip)) input) (eq-eqb pin pin refl)
    ∙ ap (λ (o : Option PlacedUnit). or_else (enable true o) input) is
    ∙ ap (λ (o : Option ℕ). or_else o input) e
  where
    pin : ℕ
    pin = enable_pin chip.kind

    input : Option ℕ
    input = option_and_then (wire_for b) (input_at (input_pins b chip) (enable_pin chip.kind))

    clock : Bool → Option ℕ
    clock q = when q (clock_net b.circuit chip)

    enable : Bool → Option PlacedUnit → Option ℕ
    enable q o = when q (option_and_then (λ (x : PlacedUnit). enable_net b x.enable) o)

-- on the new board it stands on a net that stands for it
pub enable-pin : (b : Joined) (chips : List NewChip) (j : ℕ) (chip : NewChip) → slice_get chips j ≡ Some chip → IsFitChip (old b) chip → is_v8 chip.kind ≡ true →
    (first : PlacedUnit) → first_registered (old b).circuit chip ≡ Some first → (net : ℕ) → enable_net (old b) first.enable ≡ Some net →
    IsEnablePin (numbers_of b chips) (net_of (new_wiring b chips) (j, enable_pin chip.kind)) net
enable-pin b chips j chip found fit v8 first is net e =
    let ordinary = pin-among (ordinary_pins chip.kind) (enable_pin chip.kind) (ordinary-there chip.kind v8) in
    let stands = pin-net (old b) chip fit v8 first is net e in
    let kept = constants-kept b chips j chip (enable_pin chip.kind) found ordinary net stands in
    record {
      number = net-seen b chips j chip found (enable_pin chip.kind) net ordinary stands;
      low = kept.0;
      high = kept.1;
    }

-- Boards of PAL16 chips: what the pins of the new chips read, and that the new board stands for the old one.
use Rattle.std.proofs.Common.{ℕ, ◌≡◌, ◌≤◌, Bool, true, false, cond, ◌&&◌, List, Option, Some, None, is_some, refl, sym, ap, ◌∙◌, subst, eqb, eqb-true}
use Rattle.std.specs.Prelude.{option_and_then}
use Rattle.std.specs.List.{slice_get}
use Rattle.std.proofs.lemmas.Option.{same_Some}
use Rattle.mig_base.specs.First.{or_else}
use Rattle.mig_base.specs.Structure.{has_no_driver}
use Rattle.mig_base.specs.declared.kinds.Kind.{Kind}
use Rattle.mig_base.specs.declared.kinds.Kind.TheVariants.{Gal16V8}
use Rattle.mig_base.specs.declared.kinds.Mode.TheVariants.{Fixed}
use Rattle.mig_base.specs.declared.cells.Source.TheVariants.{Pin, Reg}
use Rattle.mig_base.specs.declared.cells.ChipCells.{ChipCells}
use Rattle.mig_base.specs.declared.nets.Net.{Net}
use Rattle.mig_base.specs.declared.circuit.Read.TheVariants.{OfNet, OfRegister}
use Rattle.mig_base.specs.declared.circuit.Driver.{Driver}
use Rattle.mig_base.specs.declared.circuit.Wire.{Wire}
use Rattle.mig_base.specs.Accepted.{is_fixed}
use Rattle.mig_base.specs.Among.{Among}
use Rattle.mig_base.specs.DeviceTables.{pair_pins, ordinary_pins, enable_pin, is_v8}
use Rattle.mig_base.specs.Boards.{At, ChipUnit, at_of, net_of, is_registered, register_of, units_from, circuit_on}
use Rattle.mig_base.proofs.Amongs.{among-get}
use Rattle.new_board.specs.NewChip.{OldBoard, NewChip, unit_on, unit_net, placed_register, register_on, first_registered, placed_clock, clock_net, enable_net, fixed_net, when, private_from}
use Rattle.new_board.specs.InputPins.{pin_net}
use Rattle.new_board.specs.declared.types.PlacedUnit.{PlacedUnit}
use Rattle.new_board.specs.OneForOne.{old_reg, same_chip, same_chips}
use Rattle.new_board.proofs.Columns.{source_at}
use Rattle.rebuilt_boards.proofs.RebuiltCircuit.{board_of, UnitsFit, IsPin, old-private_wire}
use Rattle.new_board.proofs.NewWiring.{rebuilt_net, kept_of}
use Rattle.rebuilt_boards.proofs.Combinational.{new_place}
use Rattle.rebuilt_boards.proofs.PalCells.{pal16-table}
use Rattle.rebuilt_boards.proofs.PalUnits.{IsSameChip, new-same, UnitsDrive, units-fit}
use Rattle.rebuilt_boards.proofs.NeededVariables.{input-undriven}
use Rattle.rebuilt_boards.proofs.Undriven.{IsUndriven, undriven-no_driver, same-pairs, column-ordinary}
use Rattle.new_board.proofs.KeptNumbers.{old_kept}
use Rattle.rebuilt_boards.proofs.RegisterUnits.{reg-unit, register_number, number_if, unit-register, listed-at, first-is, first-rows}
use Rattle.rebuilt_boards.proofs.EnablePins.{HasRegister, enabled_driver, first-reg, clock-pin, enable-pin}
use Rattle.rebuilt_boards.proofs.Registered.{number-same}
use Rattle.rebuilt_boards.proofs.PalReads.{IsChip, holds-units}
use Rattle.rebuilt_boards.proofs.PalBoards.{IsPalBoard, board-chip, enable-undriven, board-registered, board-enabled}

-- a private net on which a pin without unit stands has no driver

same-board_chip : (net : Net) (chips : List ChipCells) (j : ℕ) (chip : NewChip) → IsPalBoard net chips → (s : IsSameChip net chips j chip) → IsChip net chips j s.line s.cells
same-board_chip net chips j chip board s = board-chip net chips j s.line s.cells board s.line_is s.cells_is s.pal

first-chip : (net : Net) (chips : List ChipCells) (j : ℕ) (chip : NewChip) (x : PlacedUnit) (board : IsPalBoard net chips) (s : IsSameChip net chips j chip) →
    first_registered (circuit_on net (units_from 0 chips)) (same_chip (board_of net (units_from 0 chips)) j s.line s.cells) ≡ Some x → HasRegister net chips j s.line s.cells
first-chip net chips j chip x board s e = record {
  pals = board.pals;
  line_is = s.line_is;
  cells_is = s.cells_is;
  pal = s.pal;
  first = x;
  unit = first-is net (units_from 0 chips) j (same_chip (board_of net (units_from 0 chips)) j s.line s.cells) x (holds-units net chips j s.line s.cells (same-board_chip net chips j chip board s)) e;
  first_is = e;
  rows = first-rows net (units_from 0 chips) j (same_chip (board_of net (units_from 0 chips)) j s.line s.cells) x (holds-units net chips j s.line s.cells (same-board_chip net chips j chip board s)) e;
}

fixed-apart : (b : OldBoard) (chip : NewChip) (pin : ℕ) → unit_on chip.units pin ≡ None → eqb pin 1 ≡ false → (is_v8 chip.kind && eqb pin (enable_pin chip.kind)) ≡ false → fixed_net b chip pin ≡ None
fixed-apart b chip pin none clock enable =
    let enabled = option_and_then (λ (x : PlacedUnit). enable_net b x.enable) (first_registered b.circuit chip) in
    ap (λ (o : Option PlacedUnit). or_else (option_and_then (λ (x : PlacedUnit). unit_net b x.unit) o) (or_else (when (eqb pin 1) (clock_net b.circuit chip)) (when (is_v8 chip.kind && eqb pin (enable_pin chip.kind)) enabled))) none
    ∙ ap (λ (q : Bool). or_else (when q (clock_net b.circuit chip)) (when (is_v8 chip.kind && eqb pin (enable_pin chip.kind)) enabled)) clock
    ∙ ap (λ (q : Bool). when q enabled) enable

fixed-unregistered : (b : OldBoard) (chip : NewChip) (pin : ℕ) → unit_on chip.units pin ≡ None → first_registered b.circuit chip ≡ None → fixed_net b chip pin ≡ None
fixed-unregistered b chip pin none first =
    let enabled = option_and_then (λ (x : PlacedUnit). enable_net b x.enable) in
    let clocked = option_and_then (placed_clock b.circuit) in
    ap (λ (o : Option PlacedUnit). or_else (option_and_then (λ (x : PlacedUnit). unit_net b x.unit) o) (or_else (when (eqb pin 1) (clocked (first_registered b.circuit chip))) (when (is_v8 chip.kind && eqb pin (enable_pin chip.kind)) (enabled (first_registered b.circuit chip))))) none
    ∙ ap (λ (o : Option PlacedUnit). or_else (when (eqb pin 1) (clocked o)) (when (is_v8 chip.kind && eqb pin (enable_pin chip.kind)) (enabled o))) first
    ∙ at (eqb pin 1) (is_v8 chip.kind && eqb pin (enable_pin chip.kind))
  where
    at : (p q : Bool) → or_else {E = ℕ} (when p None) (when q None) ≡ None
    at true true = refl
    at true false = refl
    at false true = refl
    at false false = refl

pin-one : (b : OldBoard) (news : List NewChip) (q : At) (n m : ℕ) (chip : NewChip) → slice_get news q.0 ≡ Some chip → pin_net b chip q.1 ≡ Some n → IsPin b news q m → n ≡ m
pin-one b news q n m chip found net_is p =
    let same : p.chip ≡ chip = same_Some p.chip chip (sym p.chip_is ∙ found) in
    same_Some n m (sym net_is ∙ ap (λ (c : NewChip). pin_net b c q.1) (sym same) ∙ p.net)

board-undriven : (net : Net) (chips : List ChipCells) (j : ℕ) (chip : NewChip) (pin n : ℕ) → IsPalBoard net chips → slice_get (same_chips net chips) j ≡ Some chip → unit_on chip.units pin ≡ None →
    pin_net (board_of net (units_from 0 chips)) chip pin ≡ Some n → private_from net ≤ n → has_no_driver (slice_get (circuit_on net (units_from 0 chips)).nets n) ≡ true
board-undriven net chips j chip pin n board found none net_is high = at (first_registered (circuit_on net (units_from 0 chips)) (same_chip (board_of net (units_from 0 chips)) j s.line s.cells)) refl
  where
    s : IsSameChip net chips j chip
    s = new-same net chips j chip board.pals found

    clocked : HasRegister net chips j s.line s.cells → pin ≡ 1 → has_no_driver (slice_get (circuit_on net (units_from 0 chips)).nets n) ≡ true
    clocked h e =
        let same : n ≡ net_of net (j, 1) = pin-one (board_of net (units_from 0 chips)) (same_chips net chips) (j, 1) n (net_of net (j, 1)) chip found (ap (pin_net (board_of net (units_from 0 chips)) chip) (sym e) ∙ net_is) (clock-pin net chips j s.line s.cells h) in
        let c = board.clocks h.unit.unit (among-get (units_from 0 chips) h.first.unit h.unit.unit h.unit.found) h.unit.registered in
        let there : slice_get (circuit_on net (units_from 0 chips)).nets n ≡ Some c.0 = ap (slice_get (circuit_on net (units_from 0 chips)).nets) (same ∙ ap (λ (k : ℕ). net_of net (k, 1)) (sym h.unit.chip)) ∙ c.1 in
        let is = old-private_wire net (units_from 0 chips) n c.0 high there in
        let wrong : false ≡ true = sym (ap (λ (w : Wire). is_fixed w.kind) is) ∙ c.2 in
        cc

    enabled : HasRegister net chips j s.line s.cells → pin ≡ 11 → has_no_driver (slice_get (circuit_on net (units_from 0 chips)).nets n) ≡ true
    enabled h e =
        let a = among-get (units_from 0 chips) h.first.unit h.unit.unit h.unit.found in
        let r = reg-unit net chips h.unit.unit board.pals a h.unit.registered in
        let undriven : IsUndriven (circuit_on net (units_from 0 chips)) (net_of net (j, 11)) =
        subst (λ (k : ℕ). IsUndriven (circuit_on net (units_from 0 chips)) (net_of net (k, 11))) h.unit.chip (enable-undriven net chips h.unit.unit board a r) in
        let same : n ≡ net_of net (j, 11) = pin-one (board_of net (units_from 0 chips)) (same_chips net chips) (j, 11) n (net_of net (j, 11)) chip found (ap (pin_net (board_of net (units_from 0 chips)) chip) (sym e) ∙ net_is)
        (enable-pin net chips j s.line s.cells h (λ k. undriven)) in
        ap (λ (k : ℕ). has_no_driver (slice_get (circuit_on net (units_from 0 chips)).nets k)) same ∙ undriven-no_driver (circuit_on net (units_from 0 chips)) (net_of net (j, 11)) undriven

    apart : (p q : Bool) → eqb pin 1 ≡ p → eqb pin 11 ≡ q → HasRegister net chips j s.line s.cells → has_no_driver (slice_get (circuit_on net (units_from 0 chips)).nets n) ≡ true
    apart true q e f h = clocked h (eqb-true pin 1 e)
    apart false true e f h = enabled h (eqb-true pin 11 f)
    apart false false e f h =
        let kind : chip.kind ≡ Gal16V8 = ap (λ (c : NewChip). c.kind) s.chip_is ∙ (pal16-table s.line.kind s.pal.pal).gal in
        input-undriven (board_of net (units_from 0 chips)) chip pin n
        (fixed-apart (board_of net (units_from 0 chips)) chip pin none e (ap (λ (k : Kind). is_v8 k && eqb pin (enable_pin k)) kind ∙ f)) net_is high

    at : (o : Option PlacedUnit) → first_registered (circuit_on net (units_from 0 chips)) (same_chip (board_of net (units_from 0 chips)) j s.line s.cells) ≡ o → has_no_driver (slice_get (circuit_on net (units_from 0 chips)).nets n) ≡ true
    at None e = input-undriven (board_of net (units_from 0 chips)) chip pin n
        (fixed-unregistered (board_of net (units_from 0 chips)) chip pin none (ap (first_registered (circuit_on net (units_from 0 chips))) s.chip_is ∙ e)) net_is high
    at (Some x) e = apart (eqb pin 1) (eqb pin 11) refl refl (first-chip net chips j chip x board s e)

pub board-drive : (net : Net) (chips : List ChipCells) → IsPalBoard net chips → UnitsDrive net chips
board-drive net chips board = record {
  pals = board.pals;
  lines = board.lines;
  enabled = λ u a. board-enabled net chips u board a;
  undriven = λ j chip pin n found none net_is high. board-undriven net chips j chip pin n board found none net_is high;
}

pub board-units : (net : Net) (chips : List ChipCells) → IsPalBoard net chips → UnitsFit (board_of net (units_from 0 chips)) (same_chips net chips)
board-units net chips board = units-fit net chips (board-drive net chips board)

-- what the columns of a new chip read

pub board-pin : (net : Net) (chips : List ChipCells) (j pin n : ℕ) (chip : NewChip) → IsPalBoard net chips → slice_get (same_chips net chips) j ≡ Some chip → Among pin (pair_pins chip.kind chip.mode) →
    pin_net (board_of net (units_from 0 chips)) chip pin ≡ Some n → IsPin (board_of net (units_from 0 chips)) (same_chips net chips) (j, pin) n
board-pin net chips j pin n chip board found column net_is =
    let s = new-same net chips j chip board.pals found in
    let table = pal16-table s.line.kind s.pal.pal in
    let pairs : pair_pins chip.kind chip.mode ≡ pair_pins s.line.kind Fixed =
    ap (λ (c : NewChip). pair_pins c.kind c.mode) s.chip_is ∙ same-pairs (board_of net (units_from 0 chips)) j s.line s.cells s.pal.pal in
    let kind : chip.kind ≡ Gal16V8 = ap (λ (c : NewChip). c.kind) s.chip_is ∙ table.gal in
    record {
      chip = chip;
      chip_is = found;
      ordinary = subst (λ (k : Kind). Among pin (ordinary_pins k)) (sym kind) (column-ordinary s.line.kind pin s.pal.pal (subst (Among pin) pairs column));
      net = net_is;
    }

-- the register on a pin
pub register-on : (net : Net) (chips : List ChipCells) (j pin k : ℕ) (chip : NewChip) → IsPalBoard net chips → slice_get (same_chips net chips) j ≡ Some chip →
    register_on (circuit_on net (units_from 0 chips)) chip pin ≡ Some k → register_number (units_from 0 chips) (j, pin) ≡ k
register-on net chips j pin k chip board found e = at (unit_on chip.units pin) refl e
  where
    number : (q : Bool) (m : ℕ) → number_if q m ≡ Some k → m ≡ k
    number true m e = same_Some m k e
    number false m e = cc

    at : (o : Option PlacedUnit) → unit_on chip.units pin ≡ o → option_and_then (placed_register (circuit_on net (units_from 0 chips))) o ≡ Some k → register_number (units_from 0 chips) (j, pin) ≡ k
    at None is e = cc
    at (Some x) is e =
        let s = new-same net chips j chip board.pals found in
        let holds = holds-units net chips j s.line s.cells (same-board_chip net chips j chip board s) in
        let r = listed-at (circuit_on net (units_from 0 chips)) (units_from 0 chips) j (same_chip (board_of net (units_from 0 chips)) j s.line s.cells) pin x holds
        (ap (λ (c : NewChip). unit_on c.units pin) (sym s.chip_is) ∙ is) in
        ap (register_number (units_from 0 chips)) (sym r.place)
        ∙ number (is_registered r.unit) (register_number (units_from 0 chips) (at_of r.unit)) (sym (unit-register net (units_from 0 chips) x.unit r.unit r.found) ∙ e)

-- the first registered unit of a new chip, with the rows of its register
pub record IsFirst (net : Net) (chips : List ChipCells) (x : PlacedUnit) : Type 0 where
  pub unit : ChipUnit
  pub among : Among unit (units_from 0 chips)
  pub driver : Driver
  pub rows : x ≡ old_reg (circuit_on net (units_from 0 chips)) x.pin x.unit driver (Some (register_of net (units_from 0 chips) unit))

pub first-old : (net : Net) (chips : List ChipCells) (j : ℕ) (chip : NewChip) (x : PlacedUnit) → IsPalBoard net chips → slice_get (same_chips net chips) j ≡ Some chip →
    first_registered (circuit_on net (units_from 0 chips)) chip ≡ Some x → IsFirst net chips x
unfolding first-chip
first-old net chips j chip x board found e =
    let s = new-same net chips j chip board.pals found in
    let h = first-chip net chips j chip x board s (ap (first_registered (circuit_on net (units_from 0 chips))) (sym s.chip_is) ∙ e) in
    record {
      unit = h.unit.unit;
      among = among-get (units_from 0 chips) x.unit h.unit.unit h.unit.found;
      driver = enabled_driver net chips j h.unit.unit;
      rows = first-reg net chips j s.line s.cells h;
    }

abbrev pub board_old : Net → List ChipCells → ℕ → ℕ
board_old net chips = old_kept (kept_of (board_of net (units_from 0 chips)) (same_chips net chips))

-- the place of a registered pin on the new board
pub register-place : (net : Net) (chips : List ChipCells) (j pin k : ℕ) (chip : NewChip) → IsPalBoard net chips → slice_get (same_chips net chips) j ≡ Some chip →
    register_on (circuit_on net (units_from 0 chips)) chip pin ≡ Some k →
    new_place (board_of net (units_from 0 chips)) (same_chips net chips) j (source_at (board_of net (units_from 0 chips)) chip pin) ≡ OfRegister k
register-place net chips j pin k chip board found e =
    let b = board_of net (units_from 0 chips) in
    let news = same_chips net chips in
    ap (λ (o : Option ℕ). new_place b news j (cond (is_some o) (Reg pin) (Pin pin))) e
    ∙ ap (λ (i : ℕ). OfRegister i) (number-same b news (j, pin) (λ u a. board-registered net chips u board a) ∙ register-on net chips j pin k chip board found e)

pub net-place : (net : Net) (chips : List ChipCells) (j pin : ℕ) (chip : NewChip) → register_on (circuit_on net (units_from 0 chips)) chip pin ≡ None →
    new_place (board_of net (units_from 0 chips)) (same_chips net chips) j (source_at (board_of net (units_from 0 chips)) chip pin)
    ≡ OfNet (net_of (rebuilt_net (board_of net (units_from 0 chips)) (same_chips net chips)) (j, pin))
net-place net chips j pin chip e = ap (λ (o : Option ℕ). new_place (board_of net (units_from 0 chips)) (same_chips net chips) j (cond (is_some o) (Reg pin) (Pin pin))) e

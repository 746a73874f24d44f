-- The clock pin and the enable pin of registered chips stand on their old nets.
use Rattle.std.proofs.Common.{ℕ, zero, suc, ◌≡◌, ◌+◌, ◌<◌, ◌≤◌, Bool, true, false, cond, ◌&&◌, ◌||◌, List, [], ◌∷◌, length, Option, Some, None, refl, sym, ap, ◌∙◌, subst, inl, inr, ◌⊎◌, eqb, eq-eqb, ne_eqb, ltb, lt-ltb, arith}
use Rattle.std.specs.Prelude.{option_and_then}
use Rattle.std.specs.List.{slice_get}
use Rattle.std.specs.Option.{option_map}
use Rattle.std.proofs.lemmas.Bool.{cases_lt}
use Rattle.std.proofs.lemmas.Option.{same_Some, slice_get-map, slice_get_within}
use Rattle.std.proofs.Math.Bool.{or-true}
use Rattle.mig_base.specs.First.{or_else}
use Rattle.mig_base.specs.declared.kinds.Kind.{Kind}
use Rattle.mig_base.specs.declared.cells.ChipCells.{ChipCells}
use Rattle.mig_base.specs.declared.nets.Net.{Net}
use Rattle.mig_base.specs.declared.nets.ChipLine.{ChipLine}
use Rattle.mig_base.specs.declared.circuit.Literal.{Literal}
use Rattle.mig_base.specs.declared.circuit.Gate.{Gate}
use Rattle.mig_base.specs.declared.circuit.Gate.TheVariants.{Never, Product}
use Rattle.mig_base.specs.declared.circuit.Gives.TheVariants.{Visible}
use Rattle.mig_base.specs.declared.circuit.Driver.{Driver}
use Rattle.mig_base.specs.declared.circuit.Register.{Register}
use Rattle.mig_base.specs.declared.circuit.Circuit.{Circuit}
use Rattle.mig_base.specs.Among.{Among}
use Rattle.mig_base.specs.DeviceTables.{ordinary_pins, cell_pins, enable_pin, is_v8}
use Rattle.mig_base.specs.Cells.{is_among}
use Rattle.mig_base.specs.Boards.{At, ChipUnit, at_of, net_of, low_pin, driver_of, register_of, units_from, circuit_on}
use Rattle.mig_base.specs.Structure.{alias_of, or_alias, variable_literal, variable_product, variable_gate}
use Rattle.mig_base.proofs.Amongs.{among-get, among-any}
use Rattle.structure.specs.Sorted.{has_node}
use Rattle.structure.proofs.Sorting.{product-none}
use Rattle.new_board.proofs.EnablePins.{complement, product-single}
use Rattle.new_board.specs.NewChip.{OldBoard, NewChip, unit_on, unit_net, unit_register, first_registered, placed_clock, clock_net, enable_net, when, private_from}
use Rattle.new_board.specs.declared.types.PlacedUnit.{PlacedUnit}
use Rattle.new_board.specs.InputPins.{wire_for, input_at, input_pins}
use Rattle.new_board.specs.NewFiles.{number_in}
use Rattle.new_board.specs.OneForOne.{old_reg, old_rows, same_chip, same_chips}
use Rattle.rebuilt_boards.proofs.RebuiltCircuit.{board_of, old-named, IsPin, pin-old, named-net}
use Rattle.new_board.proofs.NewWiring.{rebuilt_net, kept_of, NumbersFit}
use Rattle.rebuilt_boards.proofs.OldRows.{old-reg}
use Rattle.rebuilt_boards.proofs.PalCells.{pal16-table}
use Rattle.rebuilt_boards.proofs.PalUnits.{ArePals, IsPalChip, pal-unit, unit-from, same-found}
use Rattle.rebuilt_boards.proofs.Undriven.{IsUndriven, undriven-no_driver, undriven-alias}
use Rattle.rebuilt_boards.proofs.RegisterUnits.{reg-unit, reg-driver, register_number, number_if, unit-register, register-get, IsRegisterOf}

-- the complement of a net that is no alias net
complement-product : (c : Circuit) (n : ℕ) → n < length c.nets → alias_of c n ≡ None → variable_product c (complement n ∷ []) ≡ complement n ∷ []
complement-product c n h none =
    let itself : variable_literal c (complement n) ≡ complement n = ap (λ (o : Option (ℕ × Bool)). or_alias o (complement n)) none in
    product-single c (complement n) (ap (λ (x : Literal). has_node c x.source) itself ∙ lt-ltb n (length c.nets) h) ∙ ap (λ (x : Literal). x ∷ []) itself

-- the enable net of what a low-active enable pin makes
low-enable : (b : OldBoard) (n : ℕ) → (2 ≤ n → IsUndriven b.circuit n) → enable_net b (variable_gate b.circuit (low_pin n)) ≡ Some n
low-enable b zero h = ap (λ (xs : List Literal). enable_net b (Product xs)) (product-none b.circuit)
low-enable b (suc zero) h = refl
low-enable b (suc (suc n)) h =
    let u = h (omega arith) in
    let zero_no : eqb (suc (suc n)) 0 ≡ false = ne_eqb (suc (suc n)) 0 (λ e. omega arith) in
    let one_no : eqb (suc (suc n)) 1 ≡ false = ne_eqb (suc (suc n)) 1 (λ e. omega arith) in
    ap (λ (g : Gate). enable_net b (variable_gate b.circuit g))
    (ap (λ (q : Bool). cond q (Product []) (cond (eqb (suc (suc n)) 1) Never (Product (complement (suc (suc n)) ∷ [])))) zero_no ∙ ap (λ (q : Bool). cond q Never (Product (complement (suc (suc n)) ∷ []))) one_no)
    ∙ ap (λ (xs : List Literal). enable_net b (Product xs)) (complement-product b.circuit (suc (suc n)) (slice_get_within b.circuit.nets (suc (suc n)) u.wire u.found) (undriven-alias b.circuit (suc (suc n)) u))
    ∙ ap (λ (q : Bool). when q (Some (suc (suc n))))
    (ap (λ (q : Bool). ltb (suc (suc n)) (private_from b.net) || q) (undriven-no_driver b.circuit (suc (suc n)) u) ∙ or-true (ltb (suc (suc n)) (private_from b.net)))

-- a new chip that has a register
pub record HasRegister (net : Net) (chips : List ChipCells) (j : ℕ) (line : ChipLine) (cells : ChipCells) : Type 0 where
  pub pals : ArePals net.chips chips
  pub line_is : slice_get net.chips j ≡ Some line
  pub cells_is : slice_get chips j ≡ Some cells
  pub pal : IsPalChip line cells
  pub first : PlacedUnit
  pub unit : IsRegisterOf (units_from 0 chips) j first.unit
  pub first_is : first_registered (circuit_on net (units_from 0 chips)) (same_chip (board_of net (units_from 0 chips)) j line cells) ≡ Some first
  pub rows : first ≡ old_rows (circuit_on net (units_from 0 chips)) first.pin first.unit

-- a pin that is no cell's holds no unit
no-cell : (net : Net) (chips : List ChipCells) (j pin : ℕ) (line : ChipLine) (cells : ChipCells) → HasRegister net chips j line cells → is_among (cell_pins line.kind) pin ≡ false →
    unit_on (same_chip (board_of net (units_from 0 chips)) j line cells).units pin ≡ None
no-cell net chips j pin line cells h no_ = at (unit_on (same_chip (board_of net (units_from 0 chips)) j line cells).units pin) refl
  where
    at : (o : Option PlacedUnit) → unit_on (same_chip (board_of net (units_from 0 chips)) j line cells).units pin ≡ o → o ≡ None
    at None e = refl
    at (Some x) e =
        let r = unit-from net chips j (same_chip (board_of net (units_from 0 chips)) j line cells) pin x h.pals (same-found net chips j line cells h.line_is h.cells_is) e in
        let p = pal-unit net chips r.unit h.pals (among-get (units_from 0 chips) x.unit r.unit r.found) in
        let chip : r.unit.chip ≡ j = ap (λ (q : At). q.0) r.place in
        let its_pin : r.unit.cell.pin ≡ pin = ap (λ (q : At). q.1) r.place in
        let lines : p.line ≡ line = same_Some p.line line (sym p.line_is ∙ ap (slice_get net.chips) chip ∙ h.line_is) in
        let a : Among pin (cell_pins line.kind) = subst (λ (k : Kind). Among pin (cell_pins k)) (ap (λ (l : ChipLine). l.kind) lines) (subst (λ (q : ℕ). Among q (cell_pins p.line.kind)) its_pin p.pin) in
        let wrong : true ≡ false = sym (among-any (λ q. eqb q pin) pin (cell_pins line.kind) a (eq-eqb pin pin refl)) ∙ no_ in
        cc

-- its first registered unit as an equation
abbrev pub enabled_driver : Net → List ChipCells → ℕ → ChipUnit → Driver
enabled_driver net chips j u = record { enable = low_pin (net_of net (j, 11)); gives = Visible (register_number (units_from 0 chips) (at_of u)); low = u.cell.pin_low }

first-driver : (net : Net) (chips : List ChipCells) (j : ℕ) (line : ChipLine) (cells : ChipCells) (h : HasRegister net chips j line cells) →
    slice_get (circuit_on net (units_from 0 chips)).units h.first.unit ≡ Some (enabled_driver net chips j h.unit.unit)
first-driver net chips j line cells h =
    let units = units_from 0 chips in
    let u = h.unit.unit in
    let r = reg-unit net chips u h.pals (among-get units h.first.unit u h.unit.found) h.unit.registered in
    slice_get-map (driver_of net units) units h.first.unit ∙ ap (option_map (driver_of net units)) h.unit.found ∙ ap (λ (d : Driver). Some d) (reg-driver net chips u r)
    ∙ ap (λ (k : ℕ). Some (enabled_driver net chips k u)) h.unit.chip

-- its first register
first-register : (net : Net) (chips : List ChipCells) (j : ℕ) (line : ChipLine) (cells : ChipCells) (h : HasRegister net chips j line cells) →
    option_and_then (slice_get (circuit_on net (units_from 0 chips)).registers) (unit_register (circuit_on net (units_from 0 chips)) h.first.unit) ≡ Some (register_of net (units_from 0 chips) h.unit.unit)
first-register net chips j line cells h =
    let units = units_from 0 chips in
    let u = h.unit.unit in
    ap (option_and_then (slice_get (circuit_on net units).registers)) (unit-register net units h.first.unit u h.unit.found ∙ ap (λ (q : Bool). number_if q (register_number units (at_of u))) h.unit.registered)
    ∙ register-get net chips u h.pals (among-get units h.first.unit u h.unit.found) h.unit.registered

-- the rows of its first registered unit
pub first-reg : (net : Net) (chips : List ChipCells) (j : ℕ) (line : ChipLine) (cells : ChipCells) (h : HasRegister net chips j line cells) →
    h.first ≡ old_reg (circuit_on net (units_from 0 chips)) h.first.pin h.first.unit (enabled_driver net chips j h.unit.unit) (Some (register_of net (units_from 0 chips) h.unit.unit))
first-reg net chips j line cells h =
    let units = units_from 0 chips in
    let u = h.unit.unit in
    h.rows
    ∙ old-reg (circuit_on net units) h.first.pin h.first.unit (register_number units (at_of u)) (enabled_driver net chips j u) (register_of net units u) (first-driver net chips j line cells h) refl
    (register-get net chips u h.pals (among-get units h.first.unit u h.unit.found) h.unit.registered)

pub clock-net : (net : Net) (chips : List ChipCells) (j : ℕ) (line : ChipLine) (cells : ChipCells) → HasRegister net chips j line cells →
    clock_net (circuit_on net (units_from 0 chips)) (same_chip (board_of net (units_from 0 chips)) j line cells) ≡ Some (net_of net (j, 1))
clock-net net chips j line cells h =
    ap (option_and_then (placed_clock (circuit_on net (units_from 0 chips)))) h.first_is
    ∙ ap (option_map (λ (r : Register). r.clock)) (first-register net chips j line cells h) ∙ ap (λ (k : ℕ). Some (net_of net (k, 1))) h.unit.chip

-- the clock pin stands on its old net
pub clock-pin : (net : Net) (chips : List ChipCells) (j : ℕ) (line : ChipLine) (cells : ChipCells) → HasRegister net chips j line cells →
    IsPin (board_of net (units_from 0 chips)) (same_chips net chips) (j, 1) (net_of net (j, 1))
clock-pin net chips j line cells h =
    let b = board_of net (units_from 0 chips) in
    let chip = same_chip (board_of net (units_from 0 chips)) j line cells in
    let table = pal16-table line.kind h.pal.pal in
    let input = option_and_then (wire_for b) (input_at (input_pins b chip) 1) in
    let enable = option_and_then (λ (x : PlacedUnit). enable_net b x.enable) (first_registered b.circuit chip) in
    record {
      chip = chip;
      chip_is = same-found net chips j line cells h.line_is h.cells_is;
      ordinary = subst (λ (k : Kind). Among 1 (ordinary_pins k)) (sym table.gal) (inl refl);
      net =
          ap (λ (o : Option PlacedUnit). or_else (or_else (option_and_then (λ (x : PlacedUnit). unit_net b x.unit) o) (or_else (clock_net b.circuit chip) (when (is_v8 chip.kind && eqb 1 (enable_pin chip.kind)) enable))) input)
          (no-cell net chips j 1 line cells h table.clock_no_cell)
          ∙ ap (λ (o : Option ℕ). or_else (or_else o (when (is_v8 chip.kind && eqb 1 (enable_pin chip.kind)) enable)) input) (clock-net net chips j line cells h);
    }

-- the enable pin stands on its old net
pub enable-pin : (net : Net) (chips : List ChipCells) (j : ℕ) (line : ChipLine) (cells : ChipCells) → HasRegister net chips j line cells →
    (2 ≤ net_of net (j, 11) → IsUndriven (circuit_on net (units_from 0 chips)) (net_of net (j, 11))) →
    IsPin (board_of net (units_from 0 chips)) (same_chips net chips) (j, 11) (net_of net (j, 11))
enable-pin net chips j line cells h undriven =
    let b = board_of net (units_from 0 chips) in
    let chip = same_chip (board_of net (units_from 0 chips)) j line cells in
    let table = pal16-table line.kind h.pal.pal in
    let input = option_and_then (wire_for b) (input_at (input_pins b chip) 11) in
    let enable = option_and_then (λ (x : PlacedUnit). enable_net b x.enable) in
    record {
      chip = chip;
      chip_is = same-found net chips j line cells h.line_is h.cells_is;
      ordinary = subst (λ (k : Kind). Among 11 (ordinary_pins k)) (sym table.gal) (inr (inr (inr (inr (inr (inr (inr (inr (inr (inl refl))))))))));
      net =
          ap (λ (o : Option PlacedUnit). or_else (or_else (option_and_then (λ (x : PlacedUnit). unit_net b x.unit) o) (when (is_v8 chip.kind && eqb 11 (enable_pin chip.kind)) (enable (first_registered b.circuit chip)))) input)
          (no-cell net chips j 11 line cells h table.enable_no_cell)
          ∙ ap (λ (k : Kind). or_else (when (is_v8 k && eqb 11 (enable_pin k)) (enable (first_registered b.circuit chip))) input) table.gal
          ∙ ap (λ (o : Option PlacedUnit). or_else (enable o) input) h.first_is
          ∙ ap (λ (x : PlacedUnit). or_else (enable_net b x.enable) input) (first-reg net chips j line cells h)
          ∙ ap (λ (o : Option ℕ). or_else o input) (low-enable b (net_of net (j, 11)) undriven);
    }

-- both nets are GND, both are VCC, or neither is a constant
pub data SameConstants (n m : ℕ) : Type 0 where
  Grounds : n ≡ 0 → m ≡ 0 → SameConstants n m
  Powers : n ≡ 1 → m ≡ 1 → SameConstants n m
  Neither : 2 ≤ n → 2 ≤ m → SameConstants n m

pub same-constants : (b : OldBoard) (news : List NewChip) (old : ℕ → ℕ) (q : At) (n : ℕ) → NumbersFit b news old → IsPin b news q n → SameConstants n (net_of (rebuilt_net b news) q)
same-constants b news old q n fit p = at (cases_lt n 2)
  where
    constant : n < 2 → net_of (rebuilt_net b news) q ≡ n
    constant low =
        named-net b news q n p (omega arith) ∙ ap (λ (t : Bool). cond t n (2 + number_in (kept_of b news) n)) (lt-ltb n 2 low)

    high : 2 ≤ n → (net_of (rebuilt_net b news) q < 2) ⊎ (2 ≤ net_of (rebuilt_net b news) q) → SameConstants n (net_of (rebuilt_net b news) q)
    high h (inl low) =
        let start : net_of (rebuilt_net b news) q < private_from (rebuilt_net b news) = omega arith in
        let same : net_of (rebuilt_net b news) q ≡ n =
        sym (fit.constants (net_of (rebuilt_net b news) q) low) ∙ sym (old-named b news old (net_of (rebuilt_net b news) q) start) ∙ pin-old b news old q n fit p in
        absurd (omega arith)
    high h (inr k) = Neither h k

    low : (k : ℕ) → k ≡ n → net_of (rebuilt_net b news) q ≡ n → k < 2 → SameConstants n (net_of (rebuilt_net b news) q)
    low zero e same h = Grounds (sym e) (same ∙ sym e)
    low (suc zero) e same h = Powers (sym e) (same ∙ sym e)
    low (suc (suc k)) e same h = absurd (omega arith)

    at : (n < 2) ⊎ (2 ≤ n) → SameConstants n (net_of (rebuilt_net b news) q)
    at (inl h) = low n refl (constant h) h
    at (inr h) = high h (cases_lt (net_of (rebuilt_net b news) q) 2)

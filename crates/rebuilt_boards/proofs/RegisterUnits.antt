-- Registered and combinational units of boards of PAL16 chips, and the registers of the chips that are built for them.
use Rattle.std.proofs.Common.{ℕ, suc, ◌≡◌, ◌+◌, Bool, true, false, cond, List, [], ◌∷◌, map, Option, Some, None, is_some, refl, sym, ap, ◌∙◌, subst, inl, inr, ◌⊎◌, eqb, eqb-true, eq-eqb, arith}
use Rattle.std.specs.Prelude.{option_and_then}
use Rattle.std.specs.List.{filter, slice_get}
use Rattle.std.specs.Option.{option_map}
use Rattle.std.proofs.lemmas.Option.{slice_get-map}
use Rattle.mig_base.specs.declared.cells.Cell.{Cell}
use Rattle.mig_base.specs.declared.cells.ChipCells.{ChipCells}
use Rattle.mig_base.specs.declared.nets.Net.{Net}
use Rattle.mig_base.specs.declared.circuit.Gate.{Gate}
use Rattle.mig_base.specs.declared.circuit.Gives.TheVariants.{Sum, Visible}
use Rattle.mig_base.specs.Among.{Among}
use Rattle.mig_base.specs.DeviceTables.{pal_registers}
use Rattle.mig_base.specs.Cells.{is_among}
use Rattle.mig_base.specs.WellFormed.{is_reg}
use Rattle.mig_base.specs.Boards.{At, ChipUnit, at_of, place_of, net_of, is_registered, registers_of, literals_of, enable_on, low_pin, makes_unit, driver_of, register_of, units_from, circuit_on}
use Rattle.mig_base.specs.declared.circuit.Circuit.{Circuit}
use Rattle.mig_base.proofs.Amongs.{map-among, among-map, among-split, among-any, any-among}
use Rattle.mig_base.proofs.ListLaws.{both-ways}
use Rattle.new_board.specs.declared.types.PlacedUnit.{PlacedUnit}
use Rattle.new_board.specs.NewChip.{NewChip, unit_on, register_given, register_driven, unit_register, placed_register, register_on, is_registered_unit, first_registered}
use Rattle.new_board.specs.NewFiles.{registered_pins}
use Rattle.new_board.specs.OneForOne.{old_rows, placed_from}
use Rattle.new_board.proofs.Items.{among-filter, among-unfilter}
use Rattle.new_board.proofs.Columns.{RegistersFit, first-among, among-first}
use Rattle.rebuilt_boards.proofs.RebuiltCircuit.{board_of}
use Rattle.rebuilt_boards.proofs.Combinational.{IsComb}
use Rattle.rebuilt_boards.proofs.Placing.{AreApart, IsUnitAt, placed-on}
use Rattle.rebuilt_boards.proofs.PalCells.{IsCombCell, IsRegCell, pal-comb, pal-reg, enable-product, pal16-table}
use Rattle.rebuilt_boards.proofs.PalUnits.{ArePals, IsPalUnit, pal-unit, pal-apart}
use Rattle.rebuilt_boards.proofs.Ranges.{registers-apart, unit-place}
use Rattle.new_board.proofs.WellMade.{on-unit}
use Rattle.rebuilt_boards.proofs.OldRows.{old-pin, old-unit}

-- a combinational unit
pub record IsCombUnit (net : Net) (chips : List ChipCells) (u : ChipUnit) : Type 0 where
  pub pal : IsPalUnit net chips u
  pub no_register : is_among (pal_registers pal.line.kind) u.cell.pin ≡ false
  pub cell : IsCombCell pal.line.kind u.cell

-- a registered unit
pub record IsRegUnit (net : Net) (chips : List ChipCells) (u : ChipUnit) : Type 0 where
  pub pal : IsPalUnit net chips u
  pub register : is_among (pal_registers pal.line.kind) u.cell.pin ≡ true
  pub cell : IsRegCell pal.line.kind u.cell

pub unit-cases : (net : Net) (chips : List ChipCells) (u : ChipUnit) → ArePals net.chips chips → Among u (units_from 0 chips) → IsCombUnit net chips u ⊎ IsRegUnit net chips u
unit-cases net chips u pals a = at (is_among (pal_registers p.line.kind) u.cell.pin) refl
  where
    p : IsPalUnit net chips u
    p = pal-unit net chips u pals a

    at : (q : Bool) → is_among (pal_registers p.line.kind) u.cell.pin ≡ q → IsCombUnit net chips u ⊎ IsRegUnit net chips u
    at true e = inr (record { pal = p; register = e; cell = subst (IsRegCell p.line.kind) (sym p.cell_is) (pal-reg p.line.kind p.chip.bits u.cell.pin e) })
    at false e = inl (record {
      pal = p;
      no_register = e;
      cell = subst (IsCombCell p.line.kind) (sym p.cell_is)
          (pal-comb p.line.kind p.chip.bits u.cell.pin e (ap (λ (c : Cell). makes_unit false c.form) (sym p.cell_is) ∙ p.passes));
    })

pub comb-unregistered : (net : Net) (chips : List ChipCells) (u : ChipUnit) → IsCombUnit net chips u → is_registered u ≡ false
comb-unregistered net chips u c = ap is_reg c.cell.form_is

pub reg-registered : (net : Net) (chips : List ChipCells) (u : ChipUnit) → IsRegUnit net chips u → is_registered u ≡ true
reg-registered net chips u r = ap is_reg r.cell.form_is

-- the unit of a pin that is no registered pin of its chip is combinational
pub comb-unit : (net : Net) (chips : List ChipCells) (u : ChipUnit) → ArePals net.chips chips → Among u (units_from 0 chips) → is_registered u ≡ false → IsCombUnit net chips u
comb-unit net chips u pals a e = at (unit-cases net chips u pals a)
  where
    at : IsCombUnit net chips u ⊎ IsRegUnit net chips u → IsCombUnit net chips u
    at (inl c) = c
    at (inr r) = let wrong : true ≡ false = sym (reg-registered net chips u r) ∙ e in cc

pub reg-unit : (net : Net) (chips : List ChipCells) (u : ChipUnit) → ArePals net.chips chips → Among u (units_from 0 chips) → is_registered u ≡ true → IsRegUnit net chips u
reg-unit net chips u pals a e = at (unit-cases net chips u pals a)
  where
    at : IsCombUnit net chips u ⊎ IsRegUnit net chips u → IsRegUnit net chips u
    at (inl c) = let wrong : true ≡ false = sym e ∙ comb-unregistered net chips u c in cc
    at (inr r) = r

-- a combinational unit as an equation
abbrev pub comb-of : (net : Net) (chips : List ChipCells) (u : ChipUnit) → IsCombUnit net chips u → IsComb (board_of net (units_from 0 chips)) u
comb-of net chips u c = record {
  lits = literals_of net (units_from 0 chips) u.chip c.cell.lits;
  enable = ap (enable_on net (units_from 0 chips) u.chip) c.cell.enable ∙ enable-product net (units_from 0 chips) u.chip c.cell.lits;
  combinational = comb-unregistered net chips u c;
}

-- the number of the register of a unit
abbrev pub register_number : List ChipUnit → At → ℕ
register_number units q = place_of q (map at_of (registers_of units))

-- a registered unit as an equation
pub reg-driver : (net : Net) (chips : List ChipCells) (u : ChipUnit) → IsRegUnit net chips u →
    driver_of net (units_from 0 chips) u ≡ record { enable = low_pin (net_of net (u.chip, 11)); gives = Visible (register_number (units_from 0 chips) (at_of u)); low = u.cell.pin_low }
reg-driver net chips u r =
    let units = units_from 0 chips in
    let table = pal16-table r.pal.line.kind r.pal.chip.pal in
    ap (λ (q : Bool). record {
      enable = enable_on net units u.chip u.cell.enable;
      gives = cond q (Visible (register_number units (at_of u))) (Sum (map (literals_of net units u.chip) u.cell.terms));
      low = cond q u.cell.pin_low u.cell.low;
    }) (reg-registered net chips u r)
    ∙ ap (λ (g : Gate). record { enable = g; gives = Visible (register_number units (at_of u)); low = u.cell.pin_low })
    (ap (enable_on net units u.chip) r.cell.enable ∙ ap (λ (p : ℕ). low_pin (net_of net (u.chip, p))) table.enable)

abbrev pub number_if : Bool → ℕ → Option ℕ
number_if true n = Some n
number_if false n = None

-- the number of the register of each unit
pub unit-register : (net : Net) (units : List ChipUnit) (i : ℕ) (u : ChipUnit) → slice_get units i ≡ Some u →
    unit_register (circuit_on net units) i ≡ number_if (is_registered u) (register_number units (at_of u))
unit-register net units i u e =
    ap register_driven (slice_get-map (driver_of net units) units i ∙ ap (option_map (driver_of net units)) e) ∙ at (is_registered u)
  where
    at : (q : Bool) → register_given (cond q (Visible (register_number units (at_of u))) (Sum (map (literals_of net units u.chip) u.cell.terms))) ≡ number_if q (register_number units (at_of u))
    at true = refl
    at false = refl

-- the register of its number
pub register-get : (net : Net) (chips : List ChipCells) (u : ChipUnit) → ArePals net.chips chips → Among u (units_from 0 chips) → is_registered u ≡ true →
    slice_get (circuit_on net (units_from 0 chips)).registers (register_number (units_from 0 chips) (at_of u)) ≡ Some (register_of net (units_from 0 chips) u)
register-get net chips u pals a e =
    let units = units_from 0 chips in
    slice_get-map (register_of net units) (registers_of units) (register_number units (at_of u))
    ∙ ap (option_map (register_of net units)) (unit-place (registers_of units) u (registers-apart units (pal-apart net.chips chips pals)) (among-filter is_registered u units a e))

-- the units of a chip
placed-among : (c : Circuit) (j s : ℕ) (y : PlacedUnit) (us : List ChipUnit) → Among y (placed_from c j s us) →
    (k : ℕ) × (y.unit ≡ s + k) × IsUnitAt us (j, y.pin) k × (y ≡ old_rows c y.pin y.unit)
placed-among c j s y [] a = absurd a
placed-among c j s y (x ∷ xs) a =
    at (among-split y (cond (eqb x.chip j) (old_rows c x.cell.pin s ∷ []) []) (placed_from c j (s + 1) xs) a) (placed-among c j (s + 1) y xs)
  where
    first : (q : Bool) → eqb x.chip j ≡ q → Among y (cond q (old_rows c x.cell.pin s ∷ []) []) → (k : ℕ) × (y.unit ≡ s + k) × IsUnitAt (x ∷ xs) (j, y.pin) k × (y ≡ old_rows c y.pin y.unit)
    first true is (inl e) =
        let chips : x.chip ≡ j = eqb-true x.chip j is in
        let pins : y.pin ≡ x.cell.pin = ap (λ (z : PlacedUnit). z.pin) e ∙ old-pin c x.cell.pin s in
        let number : y.unit ≡ s = ap (λ (z : PlacedUnit). z.unit) e ∙ old-unit c x.cell.pin s in (
          0,
          omega arith,
          record { unit = x; found = refl; place = λ t. (chips t, sym pins t) },
          e ∙ ap (λ (p : ℕ). old_rows c p s) (sym pins) ∙ ap (old_rows c y.pin) (sym number),
        )
    first true is (inr a) = absurd a
    first false is a = absurd a

    at : Among y (cond (eqb x.chip j) (old_rows c x.cell.pin s ∷ []) []) ⊎ Among y (placed_from c j (s + 1) xs) →
        (Among y (placed_from c j (s + 1) xs) → (k : ℕ) × (y.unit ≡ s + 1 + k) × IsUnitAt xs (j, y.pin) k × (y ≡ old_rows c y.pin y.unit)) →
        (k : ℕ) × (y.unit ≡ s + k) × IsUnitAt (x ∷ xs) (j, y.pin) k × (y ≡ old_rows c y.pin y.unit)
    at (inl h) rest = first (eqb x.chip j) refl h
    at (inr h) rest =
        let r = rest h in
        let number : y.unit ≡ s + 1 + r.0 = r.1 in
        (suc r.0, omega arith, record { unit = r.2.unit; found = r.2.found; place = r.2.place }, r.3)

-- a new chip that holds the units of chip j on their pins, with their old rows
pub record HoldsUnits (c : Circuit) (units : List ChipUnit) (j : ℕ) (chip : NewChip) : Type 0 where
  pub placed : chip.units ≡ placed_from c j 0 units
  pub apart : AreApart units

-- a unit that is listed there
pub listed-unit : (c : Circuit) (units : List ChipUnit) (j : ℕ) (chip : NewChip) (x : PlacedUnit) → HoldsUnits c units j chip → Among x chip.units → IsUnitAt units (j, x.pin) x.unit
listed-unit c units j chip x h a =
    let r = placed-among c j 0 x units (subst (Among x) h.placed a) in
    let number : x.unit ≡ 0 + r.0 = r.1 in
    let same : r.0 ≡ x.unit = omega arith in
    subst (IsUnitAt units (j, x.pin)) same r.2

-- it has its old rows
pub listed-rows : (c : Circuit) (units : List ChipUnit) (j : ℕ) (chip : NewChip) (x : PlacedUnit) → HoldsUnits c units j chip → Among x chip.units → x ≡ old_rows c x.pin x.unit
listed-rows c units j chip x h a = (placed-among c j 0 x units (subst (Among x) h.placed a)).3

-- it stands on its pin
pub listed-on : (c : Circuit) (units : List ChipUnit) (j : ℕ) (chip : NewChip) (pin i : ℕ) → HoldsUnits c units j chip → IsUnitAt units (j, pin) i → unit_on chip.units pin ≡ Some (old_rows c pin i)
listed-on c units j chip pin i h u =
    ap (λ (xs : List PlacedUnit). unit_on xs pin) h.placed
    ∙ ap (λ (q : At). unit_on (placed_from c q.0 0 units) q.1) (sym u.place)
    ∙ placed-on c 0 i units u.unit h.apart u.found ∙ ap (λ (q : At). Some (old_rows c q.1 (0 + i))) u.place ∙ ap (λ (k : ℕ). Some (old_rows c pin k)) (omega arith)

-- the unit that is found on a pin
pub listed-at : (c : Circuit) (units : List ChipUnit) (j : ℕ) (chip : NewChip) (pin : ℕ) (x : PlacedUnit) → HoldsUnits c units j chip → unit_on chip.units pin ≡ Some x → IsUnitAt units (j, pin) x.unit
listed-at c units j chip pin x h on =
    let found = on-unit chip.units pin x on in
    subst (λ (p : ℕ). IsUnitAt units (j, p) x.unit) found.1 (listed-unit c units j chip x h found.0)

-- a registered unit of the chip
pub record IsRegisterOf (units : List ChipUnit) (j : ℕ) (i : ℕ) : Type 0 where
  pub unit : ChipUnit
  pub found : slice_get units i ≡ Some unit
  pub chip : unit.chip ≡ j
  pub registered : is_registered unit ≡ true

pub registered-unit : (net : Net) (units : List ChipUnit) (i : ℕ) (u : ChipUnit) → slice_get units i ≡ Some u → is_some (unit_register (circuit_on net units) i) ≡ is_registered u
registered-unit net units i u e = ap (λ (o : Option ℕ). is_some o) (unit-register net units i u e) ∙ at (is_registered u)
  where
    at : (q : Bool) → is_some (number_if q (register_number units (at_of u))) ≡ q
    at true = refl
    at false = refl

-- the register on the pin of a unit
pub on-register : (net : Net) (units : List ChipUnit) (j : ℕ) (chip : NewChip) (pin i : ℕ) → HoldsUnits (circuit_on net units) units j chip → IsUnitAt units (j, pin) i →
    register_on (circuit_on net units) chip pin ≡ unit_register (circuit_on net units) i
on-register net units j chip pin i h u =
    let c = circuit_on net units in
    ap (option_and_then (placed_register c)) (listed-on c units j chip pin i h u) ∙ ap (unit_register c) (old-unit c pin i)

-- the first registered unit of a chip is one of its registers
pub first-is : (net : Net) (units : List ChipUnit) (j : ℕ) (chip : NewChip) (x : PlacedUnit) → HoldsUnits (circuit_on net units) units j chip → first_registered (circuit_on net units) chip ≡ Some x →
    IsRegisterOf units j x.unit
first-is net units j chip x h e =
    let c = circuit_on net units in
    let kept = among-unfilter (is_registered_unit c) x chip.units (first-among _ x e) in
    let r = listed-unit c units j chip x h kept.0 in
    record {
      unit = r.unit;
      found = r.found;
      chip = ap (λ (q : At). q.0) r.place;
      registered = sym (registered-unit net units x.unit r.unit r.found) ∙ kept.1;
    }

-- with its old rows
pub first-rows : (net : Net) (units : List ChipUnit) (j : ℕ) (chip : NewChip) (x : PlacedUnit) → HoldsUnits (circuit_on net units) units j chip → first_registered (circuit_on net units) chip ≡ Some x →
    x ≡ old_rows (circuit_on net units) x.pin x.unit
first-rows net units j chip x h e =
    let c = circuit_on net units in
    listed-rows c units j chip x h (among-unfilter (is_registered_unit c) x chip.units (first-among _ x e)).0

-- a chip that has a register has a first one
pub first-found : (net : Net) (units : List ChipUnit) (j : ℕ) (chip : NewChip) (pin i : ℕ) → HoldsUnits (circuit_on net units) units j chip → (u : IsUnitAt units (j, pin) i) → is_registered u.unit ≡ true →
    (x : PlacedUnit) × (first_registered (circuit_on net units) chip ≡ Some x)
first-found net units j chip pin i h u e =
    let c = circuit_on net units in
    let x = old_rows c pin i in
    let listed : Among x (filter (is_registered_unit c) chip.units) =
    among-filter (is_registered_unit c) x chip.units (on-unit chip.units pin x (listed-on c units j chip pin i h u)).0
    (ap (λ (k : ℕ). is_some (unit_register c k)) (old-unit c pin i) ∙ registered-unit net units i u.unit u.found ∙ e) in
    among-first x (filter (is_registered_unit c) chip.units) listed

-- the registered pins are those that have a register
pub registers-fit : (net : Net) (units : List ChipUnit) (j : ℕ) (chip : NewChip) → HoldsUnits (circuit_on net units) units j chip → RegistersFit (board_of net units) chip
registers-fit net units j chip h = record { each = λ pin. both-ways (is_among (registered_pins (board_of net units) chip) pin) (is_some (register_on (circuit_on net units) chip pin)) (there pin) (back pin) }
  where
    there : (pin : ℕ) → is_among (registered_pins (board_of net units) chip) pin ≡ true → is_some (register_on (circuit_on net units) chip pin) ≡ true
    there pin e =
        let c = circuit_on net units in
        let p = any-among (λ p. eqb p pin) (registered_pins (board_of net units) chip) e in
        let x = among-map (λ (x : PlacedUnit). x.pin) p.0 (filter (is_registered_unit c) chip.units) p.1 in
        let kept = among-unfilter (is_registered_unit c) x.0 chip.units x.1 in
        let r = listed-unit c units j chip x.0 h kept.0 in
        let same : x.0.pin ≡ pin = sym x.2 ∙ eqb-true p.0 pin p.2 in
        ap (λ (k : ℕ). is_some (register_on c chip k)) (sym same) ∙ ap (λ (o : Option ℕ). is_some o) (on-register net units j chip x.0.pin x.0.unit h r) ∙ kept.1

    back : (pin : ℕ) → is_some (register_on (circuit_on net units) chip pin) ≡ true → is_among (registered_pins (board_of net units) chip) pin ≡ true
    back pin e = at (unit_on chip.units pin) refl e
      where
        at : (o : Option PlacedUnit) → unit_on chip.units pin ≡ o → is_some (option_and_then (placed_register (circuit_on net units)) o) ≡ true → is_among (registered_pins (board_of net units) chip) pin ≡ true
        at None is e = cc
        at (Some x) is e =
            let found = on-unit chip.units pin x is in
            among-any (λ p. eqb p pin) x.pin (registered_pins (board_of net units) chip)
            (map-among (λ (x : PlacedUnit). x.pin) x (filter (is_registered_unit (circuit_on net units)) chip.units)
            (among-filter (is_registered_unit (circuit_on net units)) x chip.units found.0 e)) (eq-eqb x.pin pin found.1)

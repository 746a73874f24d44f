-- The enable pin of a V8 stands on VCC where its registered units are never enabled.
use Rattle.std.proofs.lemmas.Bool.{not-true}
use Rattle.std.proofs.Common.{ℕ, ◌≡◌, Bool, true, false, not, ◌&&◌, ◌||◌, List, [], ◌∷◌, Option, Some, None, refl, sym, ap, ◌∙◌, eqb, eq-eqb, arith}
use Rattle.std.specs.Prelude.{option_and_then}
use Rattle.std.specs.List.{filter, slice_get}
use Rattle.mig_base.specs.First.{or_else}
use Rattle.mig_base.specs.declared.kinds.Kind.{Kind}
use Rattle.mig_base.specs.declared.circuit.Gate.{Gate}
use Rattle.mig_base.specs.declared.circuit.Gate.TheVariants.{Never, Product}
use Rattle.mig_base.specs.Among.{Among}
use Rattle.mig_base.specs.Boards.{net_of}
use Rattle.mig_base.specs.Cells.{is_among}
use Rattle.mig_base.specs.DeviceTables.{cell_pins, clock_pin, enable_pin, is_22, is_gal, is_v8, ordinary_pins}
use Rattle.mig_base.proofs.Amongs.{among-any}
use Rattle.mig_base.proofs.KindFacts.{every-kind}
use Rattle.board.specs.Joined.{Joined, equations_of}
use Rattle.read_nodes.proofs.Columns.{enable-ordinary, pin-among}
use Rattle.new_board.specs.declared.types.PlacedUnit.{PlacedUnit}
use Rattle.new_board.specs.NewChip.{OldBoard, NewChip, clock_net, enable_net, first_of, first_registered, gate_products, is_registered_unit, unit_net, unit_on, when}
use Rattle.new_board.specs.InputPins.{input_at, input_pins, pin_net, wire_for}
use Rattle.new_board.proofs.Items.{among-filter}
use Rattle.new_board.proofs.WellMade.{IsFitChip, on-unit}
use Rattle.plans.specs.Placings.{old}
use Rattle.plans.specs.UnitBreaches.{share_row}
use Rattle.new_circuits.specs.NewNumbers.{new_wiring}
use Rattle.new_circuits.proofs.PinNets.{constants-kept}
use Rattle.planned_boards.specs.Planned.{IsPlannedChip}

-- a GAL is a 22V10 or a V8
pub gal-v8 : (k : Kind) → is_gal k ≡ true → is_22 k ≡ false → is_v8 k ≡ true
gal-v8 k gal on = both (is_22 k) (is_v8 k) (is_gal k) gal on (every-kind (λ j. not (is_gal j) || (is_22 j || is_v8 j)) refl k)
  where
    both : (p q g : Bool) → g ≡ true → p ≡ false → (not g || (p || q)) ≡ true → q ≡ true
    both p q true h e all = ap (λ (r : Bool). r || q) (sym e) ∙ all
    both p q false h e all = cc

-- its enable pin is no macrocell pin and not the clock pin
bare : (k : Kind) → is_v8 k ≡ true → (is_among (cell_pins k) (enable_pin k) || eqb (enable_pin k) (clock_pin k)) ≡ false
bare k v8 = both (is_v8 k) _ v8 (every-kind (λ j. not (is_v8 j) || not (is_among (cell_pins j) (enable_pin j) || eqb (enable_pin j) (clock_pin j))) refl k)
  where
    both : (p q : Bool) → p ≡ true → (not p || not q) ≡ true → q ≡ false
    both true q h all = not-true q all
    both false q h all = cc

no-cell : (k : Kind) → is_v8 k ≡ true → (is_among (cell_pins k) (enable_pin k) ≡ false) × (eqb (enable_pin k) (clock_pin k) ≡ false)
no-cell k v8 = neither (is_among (cell_pins k) (enable_pin k)) (eqb (enable_pin k) (clock_pin k)) (bare k v8)
  where
    neither : (p q : Bool) → (p || q) ≡ false → (p ≡ false) × (q ≡ false)
    neither true q e = cc
    neither false q e = (refl, e)

module _ (b : OldBoard) (chip : NewChip) (fit : IsFitChip b chip) (v8 : is_v8 chip.kind ≡ true) where
  no-unit : (o : Option PlacedUnit) → unit_on chip.units (enable_pin chip.kind) ≡ o → o ≡ None
  no-unit None is = refl
  no-unit (Some x) is =
      let found = on-unit chip.units (enable_pin chip.kind) x is in
      let among : is_among (cell_pins chip.kind) (enable_pin chip.kind) ≡ true = among-any (λ p. eqb p (enable_pin chip.kind)) x.pin (cell_pins chip.kind) (fit.units x found.0).cell (eq-eqb x.pin (enable_pin chip.kind) found.1) in
      let wrong : true ≡ false = sym among ∙ (no-cell chip.kind v8).0 in
      cc

  -- the net of the pin is that of the enable of the first registered unit
  pub enable-stands : (first : PlacedUnit) (net : ℕ) → first_registered b.circuit chip ≡ Some first → enable_net b first.enable ≡ Some net → pin_net b chip (enable_pin chip.kind) ≡ Some net
  enable-stands first net is e =
      let pin = enable_pin chip.kind in
      let input = option_and_then (wire_for b) (input_at (input_pins b chip) pin) in
      let enabled = λ (o : Option PlacedUnit). option_and_then (λ (x : PlacedUnit). enable_net b x.enable) o in
      let fixed = λ (o : Option PlacedUnit) (q r : Bool) (f : Option PlacedUnit).
      or_else (or_else (option_and_then (λ (x : PlacedUnit). unit_net b x.unit) o) (or_else (when q (clock_net b.circuit chip)) (when (r && eqb pin pin) (enabled f)))) input in
      let own : eqb pin pin ≡ true = eq-eqb pin pin refl in
      (λ i. fixed (no-unit (unit_on chip.units pin) refl i) ((no-cell chip.kind v8).1 i) (v8 i) (is i))
      ∙ ap (λ (q : Bool). or_else (when q (enable_net b first.enable)) input) own ∙ ap (λ (o : Option ℕ). or_else o input) e

-- no row is shared with a first unit that has none
pub shares-never : (g : Gate) → share_row [] (gate_products g) ≡ true → g ≡ Never
shares-never Never e = refl
shares-never (Product lits) e = cc

first-there : {T : Type 0} (xs : List T) (x : T) → Among x xs → (y : T) × (first_of xs ≡ Some y)
first-there [] x a = absurd a
first-there (y ∷ ys) x a = (y, refl)

-- the enable pin stands on VCC
pub never-pin : (b : Joined) (absorbed : List ℕ) (chips : List NewChip) (j : ℕ) (chip : NewChip) (x : PlacedUnit) → slice_get chips j ≡ Some chip → IsFitChip (old b) chip → IsPlannedChip b absorbed chip →
    is_v8 chip.kind ≡ true → Among x chip.units → is_registered_unit (equations_of b) x ≡ true → x.enable ≡ Never → net_of (new_wiring b chips) (j, enable_pin chip.kind) ≡ 1
never-pin b absorbed chips j chip x found fit planned v8 a registered never =
    let first = first-there (filter (is_registered_unit (equations_of b)) chip.units) x (among-filter (is_registered_unit (equations_of b)) x chip.units a registered) in
    let suits = planned.suits x first.0 a v8 registered first.1 in
    let none : first.0.enable ≡ Never = shares-never first.0.enable (ap (λ (g : Gate). share_row (gate_products g) (gate_products first.0.enable)) (sym never) ∙ suits.enable) in
    let stands : pin_net (old b) chip (enable_pin chip.kind) ≡ Some 1 = enable-stands (old b) chip fit v8 first.0 1 first.1 (ap (enable_net (old b)) none) in
    (constants-kept b chips j chip (enable_pin chip.kind) found (pin-among (ordinary_pins chip.kind) (enable_pin chip.kind) (enable-ordinary chip.kind)) 1 stands).0 (omega arith)

-- Each board of a wiring and units on different pins is wired as boards are.
use Rattle.std.proofs.Common.{ℕ, ◌≡◌, ◌<◌, Bool, true, false, cond, List, map, length, Option, Some, None, refl, sym, ap, ◌∙◌, subst, arith}
use Rattle.std.specs.List.{slice_get}
use Rattle.std.specs.Option.{option_map}
use Rattle.std.proofs.lemmas.List.{length-map}
use Rattle.std.proofs.lemmas.Option.{same_Some, slice_get-map, slice_get_within}
use Rattle.mig_base.specs.declared.nets.Net.{Net}
use Rattle.mig_base.specs.declared.circuit.Gives.{Gives}
use Rattle.mig_base.specs.declared.circuit.Gives.TheVariants.{Sum, Visible}
use Rattle.mig_base.specs.Among.{Among}
use Rattle.mig_base.specs.Boards.{At, ChipUnit, at_of, circuit_on, driver_of, is_registered, place_of, register_of, registers_of}
use Rattle.mig_base.proofs.Amongs.{among-get, filter-among, map-among}
use Rattle.structure.specs.Live.{GivesQ, HasRegister}
use Rattle.board.proofs.DrivenLaws.{driver-on}
use Rattle.level_laws.specs.PureLevels.{DriversAreUnits}
use Rattle.joined_levels.proofs.Wirings.{one-net, shared-port}
use Rattle.new_board.proofs.Wiring.{place-get}
use Rattle.fitting_levels.specs.Wired.{IsWired}

-- no two units are on one pin
abbrev pub UnitsApart : List ChipUnit → Type 0
UnitsApart units = (u w : ℕ) (x y : ChipUnit) → slice_get units u ≡ Some x → slice_get units w ≡ Some y → at_of x ≡ at_of y → u ≡ w

module _ (net : Net) (units : List ChipUnit) where
  units-there : DriversAreUnits (circuit_on net units)
  units-there n u d =
      let x = driver-on net units n u d in
      let low : u < length units = slice_get_within units u x.unit x.is in
      let long : length (circuit_on net units).units ≡ length units = length-map units (driver_of net units) in
      omega arith

  -- registers

  abbrev pins : List At
  pins = map at_of (registers_of units)

  -- the unit of a register
  pub record Owns (k u : ℕ) : Type 0 where
    pub unit : ChipUnit
    pub is : slice_get units u ≡ Some unit
    pub pin : slice_get pins k ≡ Some (at_of unit)

  owns : (k u : ℕ) → HasRegister k (slice_get (circuit_on net units).units u) → Owns k u
  owns k u h = at (slice_get units u) refl (subst (HasRegister k) (slice_get-map (driver_of net units) units u) h)
    where
      by : (x : ChipUnit) → slice_get units u ≡ Some x → (q : Bool) → is_registered x ≡ q → (ts : Gives) → (GivesQ k ts → ⊥) → GivesQ k (cond q (Visible (place_of (at_of x) pins)) ts) → Owns k u
      by x is true r ts no_sum same =
          let a : Among (at_of x) pins = map-among at_of x (registers_of units) (filter-among is_registered x units r (among-get units u x is)) in
          record { unit = x; is = is; pin = ap (slice_get pins) (sym same) ∙ place-get (at_of x) pins a }
      by x is false r ts no_sum same = absurd (no_sum same)

      at : (o : Option ChipUnit) → slice_get units u ≡ o → HasRegister k (option_map (driver_of net units) o) → Owns k u
      at None is none = absurd none
      at (Some x) is h = by x is (is_registered x) refl (Sum _) (λ none. none) h

  registers-there : (k u : ℕ) → HasRegister k (slice_get (circuit_on net units).units u) → k < length (circuit_on net units).registers
  registers-there k u h =
      let o = owns k u h in
      let low : k < length pins = slice_get_within pins k (at_of o.unit) o.pin in
      let long : length pins ≡ length (registers_of units) = length-map (registers_of units) at_of in
      let other : length (circuit_on net units).registers ≡ length (registers_of units) = length-map (registers_of units) (register_of net units) in
      omega arith

  pub units-wired : UnitsApart units → IsWired (circuit_on net units)
  units-wired apart = record {
    units = units-there;
    one_net = one-net net units;
    shared = shared-port net units;
    registers = registers-there;
    one_unit = λ k u w hu hw.
        let x = owns k u hu in
        let y = owns k w hw in
        apart u w x.unit y.unit x.is y.is (same_Some (at_of x.unit) (at_of y.unit) (sym x.pin ∙ y.pin));
  }

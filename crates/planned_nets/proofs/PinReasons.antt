-- Why a pin of a new chip stands on an old net: it has a unit of that net, it is the clock pin, or such a pin can stand there.
use Rattle.std.proofs.Common.{ℕ, suc, zero, ◌≡◌, ◌⊎◌, ◌+◌, ◌<◌, Bool, true, false, not, ◌&&◌, ◌||◌, List, [], ◌∷◌, length, Option, Some, None, refl, sym, ap, subst, inl, inr, eqb, lt-ltb, arith}
use Rattle.std.specs.Prelude.{option_and_then}
use Rattle.std.specs.List.{filter, slice_get}
use Rattle.std.specs.Option.{option_map}
use Rattle.std.proofs.lemmas.Bool.{and_parts}
use Rattle.std.proofs.lemmas.Option.{same_Some}
use Rattle.mig_base.specs.declared.circuit.Gate.{Gate}
use Rattle.mig_base.specs.declared.circuit.Gate.TheVariants.{Never, Product}
use Rattle.mig_base.specs.declared.circuit.Literal.{Literal}
use Rattle.mig_base.specs.declared.circuit.Read.{Read}
use Rattle.mig_base.specs.declared.circuit.Read.TheVariants.{OfNet, OfRegister}
use Rattle.mig_base.specs.declared.circuit.Register.{Register}
use Rattle.mig_base.specs.Among.{Among}
use Rattle.mig_base.specs.DeviceTables.{clock_pin, enable_pin, is_v8}
use Rattle.mig_base.specs.First.{made_from, or_else}
use Rattle.mig_base.specs.Structure.{alias_of, has_no_driver}
use Rattle.new_board.specs.declared.types.PlacedUnit.{PlacedUnit}
use Rattle.new_board.specs.NewChip.{OldBoard, NewChip, alias_net, can_stand, clock_net, enable_net, first_of, first_registered, fixed_net, is_complement_of, is_register_of, net_literal, net_of_complement, placed_clock, placed_register, private_from, unit_net, unit_on, when}
use Rattle.new_board.specs.InputPins.{input_at, input_pins, pin_net, wire_for}
use Rattle.new_board.proofs.Items.{among-unfilter}

-- a unit of the net is on the pin
pub record HasUnit (b : OldBoard) (chip : NewChip) (pin n : ℕ) : Type 0 where
  pub unit : PlacedUnit
  pub on : unit_on chip.units pin ≡ Some unit
  pub net : unit_net b unit.unit ≡ Some n

-- it is the clock net of a register
pub record IsClock (b : OldBoard) (n : ℕ) : Type 0 where
  pub number : ℕ
  pub register : Register
  pub found : slice_get b.circuit.registers number ≡ Some register
  pub clock : register.clock ≡ n

abbrev pub StandsBy : OldBoard → NewChip → ℕ → ℕ → Type 0
StandsBy b chip pin n = HasUnit b chip pin n ⊎ (IsClock b n ⊎ (can_stand b n ≡ true))

or-some : (o p : Option ℕ) (n : ℕ) → or_else o p ≡ Some n → (o ≡ Some n) ⊎ (p ≡ Some n)
or-some None p n e = inr e
or-some (Some m) p n e = inl e

pub then-some : {T S : Type 0} (f : T → Option S) (o : Option T) (y : S) → option_and_then f o ≡ Some y → (x : T) × (o ≡ Some x) × (f x ≡ Some y)
then-some f None y e = cc
then-some f (Some x) y e = (x, refl, e)

when-some : (q : Bool) (o : Option ℕ) (n : ℕ) → when q o ≡ Some n → (q ≡ true) × (o ≡ Some n)
when-some true o n e = (refl, e)
when-some false o n e = cc

first-among : (xs : List ℕ) (n : ℕ) → first_of xs ≡ Some n → Among n xs
first-among [] n e = cc
first-among (x ∷ xs) n e = inl (sym (same_Some x n e))

made-below : (n first count : ℕ) → Among n (made_from (λ k. k) first count) → n < first + count
made-below n first zero a = absurd a
made-below n first (suc count) (inl e) = omega (arith, e)
made-below n first (suc count) (inr a) = let h = made-below n (first + 1) count a in omega (arith, h)

module _ (b : OldBoard) where
  named : (n : ℕ) → n < private_from b.net → can_stand b n ≡ true
  named n low = ap (λ (q : Bool). q || has_no_driver (slice_get b.circuit.nets n)) (lt-ltb n (private_from b.net) low)

  -- an alias net that is named
  alias-stands : (k n : ℕ) → alias_net b k ≡ Some n → can_stand b n ≡ true
  alias-stands k n e =
      let numbers = made_from (λ (m : ℕ). m) 2 (length b.net.nets) in
      named n (made-below n 2 (length b.net.nets) (among-unfilter (λ m. is_register_of k (alias_of b.circuit m)) n numbers (first-among (filter (λ m. is_register_of k (alias_of b.circuit m)) numbers) n e)).0)

  wire-stands : (v : Read) (n : ℕ) → wire_for b v ≡ Some n → can_stand b n ≡ true
  wire-stands (OfNet m) n e = let w = when-some (can_stand b m) (Some m) n e in subst (λ (k : ℕ). can_stand b k ≡ true) (same_Some m n w.1) w.0
  wire-stands (OfRegister k) n e = alias-stands k n e

  complement-stands : (v : Read) (x : Literal) (n : ℕ) → net_of_complement b v x ≡ Some n → can_stand b n ≡ true
  complement-stands (OfNet m) x n e =
      let w = when-some (not x.high && can_stand b m) (Some m) n e in
      subst (λ (k : ℕ). can_stand b k ≡ true) (same_Some m n w.1) (and_parts (not x.high) (can_stand b m) w.0).1
  complement-stands (OfRegister k) x n e =
      let a = then-some (λ (m : ℕ). when (is_complement_of x (net_literal b.circuit m)) (Some m)) (alias_net b k) n e in
      let w = when-some (is_complement_of x (net_literal b.circuit a.0)) (Some a.0) n a.2 in
      subst (λ (m : ℕ). can_stand b m ≡ true) (same_Some a.0 n w.1) (alias-stands k a.0 a.1)

  enable-stands : (g : Gate) (n : ℕ) → enable_net b g ≡ Some n → can_stand b n ≡ true
  enable-stands Never n e = let one : 1 ≡ n = same_Some 1 n e in named n (omega (arith, one))
  enable-stands (Product []) n e = let zero_net : 0 ≡ n = same_Some 0 n e in named n (omega (arith, zero_net))
  enable-stands (Product (x ∷ [])) n e = complement-stands x.source x n e
  enable-stands (Product (x ∷ y ∷ more)) n e = cc

  clock-is : (chip : NewChip) (n : ℕ) → clock_net b.circuit chip ≡ Some n → IsClock b n
  clock-is chip n e =
      let x = then-some (placed_clock b.circuit) (first_registered b.circuit chip) n e in
      at x.0 (option_and_then (slice_get b.circuit.registers) (placed_register b.circuit x.0)) refl x.2
    where
      at : (x : PlacedUnit) (o : Option Register) → option_and_then (slice_get b.circuit.registers) (placed_register b.circuit x) ≡ o → option_map (λ (r : Register). r.clock) o ≡ Some n → IsClock b n
      at x None is h = cc
      at x (Some r) is h =
          let k = then-some (slice_get b.circuit.registers) (placed_register b.circuit x) r is in
          record { number = k.0; register = r; found = k.2; clock = same_Some r.clock n h }

  pub stands-by : (chip : NewChip) (pin n : ℕ) → pin_net b chip pin ≡ Some n → StandsBy b chip pin n
  stands-by chip pin n e = at (or-some (fixed_net b chip pin) (option_and_then (wire_for b) (input_at (input_pins b chip) pin)) n e)
    where
      enabled : Option ℕ
      enabled = option_and_then (λ (x : PlacedUnit). enable_net b x.enable) (first_registered b.circuit chip)

      by-enable : when (is_v8 chip.kind && eqb pin (enable_pin chip.kind)) enabled ≡ Some n → StandsBy b chip pin n
      by-enable h =
          let x = then-some (λ (x : PlacedUnit). enable_net b x.enable) (first_registered b.circuit chip) n (when-some (is_v8 chip.kind && eqb pin (enable_pin chip.kind)) enabled n h).1 in
          inr (inr (enable-stands x.0.enable n x.2))

      by-clock : (when (eqb pin (clock_pin chip.kind)) (clock_net b.circuit chip) ≡ Some n) ⊎ (when (is_v8 chip.kind && eqb pin (enable_pin chip.kind)) enabled ≡ Some n) → StandsBy b chip pin n
      by-clock (inl h) = inr (inl (clock-is chip n (when-some (eqb pin (clock_pin chip.kind)) (clock_net b.circuit chip) n h).1))
      by-clock (inr h) = by-enable h

      by-unit : (option_and_then (λ (x : PlacedUnit). unit_net b x.unit) (unit_on chip.units pin) ≡ Some n)
          ⊎ (or_else (when (eqb pin (clock_pin chip.kind)) (clock_net b.circuit chip)) (when (is_v8 chip.kind && eqb pin (enable_pin chip.kind)) enabled) ≡ Some n) → StandsBy b chip pin n
      by-unit (inl h) = let x = then-some (λ (x : PlacedUnit). unit_net b x.unit) (unit_on chip.units pin) n h in inl (record { unit = x.0; on = x.1; net = x.2 })
      by-unit (inr h) = by-clock (or-some (when (eqb pin (clock_pin chip.kind)) (clock_net b.circuit chip)) (when (is_v8 chip.kind && eqb pin (enable_pin chip.kind)) enabled) n h)

      at : (or_else (option_and_then (λ (x : PlacedUnit). unit_net b x.unit) (unit_on chip.units pin))
          (or_else (when (eqb pin (clock_pin chip.kind)) (clock_net b.circuit chip)) (when (is_v8 chip.kind && eqb pin (enable_pin chip.kind)) enabled)) ≡ Some n)
          ⊎ (option_and_then (wire_for b) (input_at (input_pins b chip) pin) ≡ Some n) → StandsBy b chip pin n
      at (inl h) = by-unit (or-some (option_and_then (λ (x : PlacedUnit). unit_net b x.unit) (unit_on chip.units pin))
          (or_else (when (eqb pin (clock_pin chip.kind)) (clock_net b.circuit chip)) (when (is_v8 chip.kind && eqb pin (enable_pin chip.kind)) enabled)) n h)
      at (inr h) = let v = then-some (wire_for b) (input_at (input_pins b chip) pin) n h in inr (inr (wire-stands v.0 n v.2))

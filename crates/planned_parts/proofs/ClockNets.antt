-- The clock net of a new chip stands for the clock net of its registers, and each register of the new board is placed.
use Rattle.std.proofs.Common.{ℕ, ◌≡◌, Bool, true, false, not, ◌&&◌, List, Option, Some, None, is_some, refl, sym, ap, ◌∙◌, subst, eqb, eq-eqb}
use Rattle.std.specs.Prelude.{option_and_then}
use Rattle.std.specs.List.{slice_get}
use Rattle.std.specs.Option.{option_map}
use Rattle.std.proofs.lemmas.Option.{same_Some, slice_get-map}
use Rattle.mig_base.specs.First.{or_else}
use Rattle.mig_base.specs.declared.kinds.Kind.{Kind}
use Rattle.mig_base.specs.declared.circuit.Register.{Register}
use Rattle.mig_base.specs.declared.circuit.NetKind.{NetKind}
use Rattle.mig_base.specs.declared.circuit.Circuit.{Circuit}
use Rattle.mig_base.specs.Accepted.{IsAccepted}
use Rattle.mig_base.specs.Among.{Among}
use Rattle.mig_base.specs.Boards.{ChipUnit, net_of, register_of, registers_of}
use Rattle.mig_base.specs.Cells.{is_among}
use Rattle.mig_base.specs.DeviceTables.{cell_pins, enable_pin, is_v8, ordinary_pins}
use Rattle.mig_base.proofs.Amongs.{among-any}
use Rattle.mig_base.proofs.KindFacts.{every-kind}
use Rattle.board.specs.Joined.{Joined, equations_of}
use Rattle.read_nodes.proofs.Columns.{pin-among}
use Rattle.new_board.specs.declared.types.PlacedUnit.{PlacedUnit}
use Rattle.new_board.specs.NewChip.{NewChip, OldBoard, clock_net, enable_net, first_registered, placed_clock, unit_net, unit_on, when}
use Rattle.new_board.specs.InputPins.{input_at, input_pins, pin_net, wire_for}
use Rattle.new_board.proofs.WellMade.{IsFitChip, on-unit}
use Rattle.plans.specs.Placings.{old}
use Rattle.plans.specs.Fitting.{new_board}
use Rattle.fitting_levels.specs.Fitting.{net_kind, wire_kind}
use Rattle.placed_boards.specs.Places.{IsPlacedNet, IsPlacedRegister}
use Rattle.new_circuits.specs.NewNumbers.{is_seen, new_units, new_wiring, numbers_of}
use Rattle.new_circuits.proofs.SeenRows.{net-seen}
use Rattle.planned_boards.specs.Planned.{SharesChip}
use Rattle.planned_parts.specs.KeptChips.{AreKeptChips}
use Rattle.planned_parts.proofs.NewRegisters.{IsNewRegister, of-chip-unit}
use Rattle.planned_parts.proofs.RegisterParts.{logic-part, preset-part, reset-part}
use Rattle.planned_parts.proofs.RegisterRows.{made, register-is}
use Rattle.planned_parts.proofs.Unabsorbed.{clock-stays, pin-seen}

ordinary-clock : (k : Kind) → is_among (ordinary_pins k) 1 ≡ true
ordinary-clock k = every-kind (λ (j : Kind). is_among (ordinary_pins j) 1) refl k

no-cell : (k : Kind) → not (is_among (cell_pins k) 1) ≡ true
no-cell k = every-kind (λ (j : Kind). not (is_among (cell_pins j) 1)) refl k

-- no unit stands at the clock pin
no-unit : (b : OldBoard) (chip : NewChip) → IsFitChip b chip → unit_on chip.units 1 ≡ None
no-unit b chip fit = at (unit_on chip.units 1) refl
  where
    at : (o : Option PlacedUnit) → unit_on chip.units 1 ≡ o → o ≡ None
    at None is = refl
    at (Some x) is =
        let found = on-unit chip.units 1 x is in
        let among : is_among (cell_pins chip.kind) 1 ≡ true = among-any (λ p. eqb p 1) x.pin (cell_pins chip.kind) (fit.units x found.0).cell (eq-eqb x.pin 1 found.1) in
        let wrong : false ≡ true = sym (ap not among) ∙ no-cell chip.kind in
        cc

-- the clock pin stands on the clock net
clock-pin : (b : OldBoard) (chip : NewChip) → IsFitChip b chip → (net : ℕ) → clock_net b.circuit chip ≡ Some net → pin_net b chip 1 ≡ Some net
clock-pin b chip fit net e =
    ap (λ (o : Option PlacedUnit). or_else (or_else (option_and_then (λ (x : PlacedUnit). unit_net b x.unit) o) (or_else (clock_net b.circuit chip) enable)) input) (no-unit b chip fit)
    ∙ ap (λ (o : Option ℕ). or_else (or_else o enable) input) e
  where
    input : Option ℕ
    input = option_and_then (wire_for b) (input_at (input_pins b chip) 1)

    enable : Option ℕ
    enable = when (is_v8 chip.kind && eqb 1 (enable_pin chip.kind)) (option_and_then (λ (x : PlacedUnit). enable_net b x.enable) (first_registered b.circuit chip))

module _ (b : Joined) (absorbed : List ℕ) (live : ℕ → Bool) (chips : List NewChip) (kept : AreKeptChips b absorbed chips) (accepted : IsAccepted (equations_of b))
    (nets : (m : ℕ) → is_seen b absorbed chips m ≡ true → IsPlacedNet (equations_of b) (equations_of (new_board b chips)) absorbed live (numbers_of b chips) m) (k : ℕ) where
  abbrev a : Circuit
  a = equations_of b

  abbrev new : Circuit
  new = equations_of (new_board b chips)

  module _ (r : IsNewRegister b absorbed chips k) where
    shares : SharesChip b r.new.chip r.first r.new.unit
    shares = r.kept.planned.shares r.new.unit r.first r.on (ap (λ (o : Option ℕ). is_some o) r.is) r.is_first

    its-clock : clock_net a r.new.chip ≡ Some r.register.clock
    its-clock =
        ap (option_and_then (placed_clock a)) r.is_first ∙ sym shares.clock
        ∙ ap (λ (o : Option ℕ). option_map (λ (q : Register). q.clock) (option_and_then (slice_get a.registers) o)) r.is
        ∙ ap (option_map (λ (q : Register). q.clock)) r.found

    pin-is : pin_net (old b) r.new.chip 1 ≡ Some r.register.clock
    pin-is = clock-pin (old b) r.new.chip r.kept.fit r.register.clock its-clock

    abbrev ordinary : Among 1 (ordinary_pins r.new.chip.kind)
    ordinary = pin-among (ordinary_pins r.new.chip.kind) 1 (ordinary-clock r.new.chip.kind)

    abbrev m : ℕ
    m = net_of (new_wiring b chips) (r.unit.chip, 1)

    net : IsPlacedNet a new absorbed live (numbers_of b chips) m
    net = nets m (pin-seen b absorbed chips r.unit.chip r.new.chip 1 r.register.clock r.new.found ordinary pin-is (clock-stays a absorbed accepted r.old r.register r.found))

    number : (numbers_of b chips).net m ≡ r.register.clock
    number = net-seen b chips r.unit.chip r.new.chip r.new.found 1 r.register.clock ordinary pin-is

    kinds : net_kind a r.register.clock ≡ net_kind new m
    kinds =
        ap (net_kind a) (sym number) ∙ ap wire_kind net.found ∙ ap (λ (q : NetKind). Some q) net.kind ∙ sym (ap wire_kind net.new_found)

    register : IsPlacedRegister a new absorbed (numbers_of b chips) k (made b absorbed chips kept k r)
    register = record {
      register = r.register;
      found = ap (slice_get a.registers) r.stands_for ∙ r.found;
      logic = logic-part b absorbed chips kept k r;
      preset = preset-part b absorbed chips kept k r;
      reset = reset-part b absorbed chips kept k r;
      clock = kinds;
    }

  pub register-placed : (now : Register) → slice_get new.registers k ≡ Some now → IsPlacedRegister a new absorbed (numbers_of b chips) k now
  register-placed now e = at (slice_get (registers_of (new_units b chips)) k) refl (sym (slice_get-map (register_of (new_wiring b chips) (new_units b chips)) (registers_of (new_units b chips)) k) ∙ e)
    where
      at : (o : Option ChipUnit) → slice_get (registers_of (new_units b chips)) k ≡ o → option_map (register_of (new_wiring b chips) (new_units b chips)) o ≡ Some now →
          IsPlacedRegister a new absorbed (numbers_of b chips) k now
      at None is h = cc
      at (Some u) is h =
          let r = of-chip-unit b absorbed chips kept k u is in
          let unit : r.unit ≡ u = same_Some r.unit u (sym r.place ∙ is) in
          subst (IsPlacedRegister a new absorbed (numbers_of b chips) k)
          (sym (register-is b absorbed chips kept k r) ∙ ap (register_of (new_wiring b chips) (new_units b chips)) unit ∙ same_Some (register_of (new_wiring b chips) (new_units b chips) u) now h)
          (register r)

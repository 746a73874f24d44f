-- A register of the new board with its unit, its chip and the old register.
use Rattle.std.proofs.Common.{ℕ, ◌≡◌, ◌<◌, true, false, List, [], ◌∷◌, ◌++◌, length, Option, Some, None, is_some, refl, sym, ap, ◌∙◌, subst}
use Rattle.std.specs.Prelude.{option_and_then}
use Rattle.std.specs.List.{AllByRecursion, slice_get}
use Rattle.std.specs.Option.{option_map}
use Rattle.std.proofs.lemmas.Option.{same_Some, slice_get-map}
use Rattle.mig_base.specs.declared.cells.Cell.{Cell}
use Rattle.mig_base.specs.declared.circuit.Read.TheVariants.{OfRegister}
use Rattle.mig_base.specs.declared.circuit.Gate.{Gate}
use Rattle.mig_base.specs.declared.circuit.Gate.TheVariants.{Never, Product}
use Rattle.mig_base.specs.declared.circuit.Gives.{Gives}
use Rattle.mig_base.specs.declared.circuit.Gives.TheVariants.{Sum, Visible}
use Rattle.mig_base.specs.declared.circuit.Driver.{Driver}
use Rattle.mig_base.specs.declared.circuit.Register.{Register}
use Rattle.mig_base.specs.declared.circuit.Circuit.{Circuit}
use Rattle.mig_base.specs.Among.{Among}
use Rattle.mig_base.specs.Boards.{ChipUnit, is_registered, registers_of}
use Rattle.mig_base.specs.Reads.{IsNode, driver_reads, gives_reads}
use Rattle.mig_base.specs.Values.{row_reads}
use Rattle.mig_base.specs.WellFormed.{is_reg}
use Rattle.mig_base.proofs.Amongs.{among-filter, among-get}
use Rattle.mig_base.proofs.ListLaws.{item-at}
use Rattle.level_laws.proofs.Unique.{all_right}
use Rattle.board.specs.Joined.{Joined, equations_of}
use Rattle.read_nodes.proofs.GivenNodes.{given-nodes}
use Rattle.new_board.specs.declared.types.PlacedUnit.{PlacedUnit}
use Rattle.new_board.specs.NewChip.{NewChip, first_registered, placed_register, register_driven, register_given, unit_on, unit_register}
use Rattle.new_board.specs.NewFiles.{cell_by, cell_of, new_comb}
use Rattle.new_board.proofs.WellMade.{on-unit}
use Rattle.plans.specs.Placings.{old}
use Rattle.new_circuits.specs.NewNumbers.{IsNewUnit, new_units, numbers_of, old_register, or_zero, unit_of}
use Rattle.new_circuits.proofs.NewUnits.{new-unit}
use Rattle.planned_boards.specs.Planned.{HasPartRows}
use Rattle.planned_boards.proofs.PinUnits.{first-registered}
use Rattle.planned_parts.specs.KeptChips.{AreKeptChips, IsKeptChip}
use Rattle.planned_parts.proofs.Owners.{place-item}

-- the unit of a new register, on its chip with the first registered unit, and the old register
pub record IsNewRegister (b : Joined) (absorbed : List ℕ) (chips : List NewChip) (k : ℕ) : Type 0 where
  pub unit : ChipUnit
  pub place : slice_get (registers_of (new_units b chips)) k ≡ Some unit
  pub number : ℕ
  pub stands : slice_get (new_units b chips) number ≡ Some unit
  pub new : IsNewUnit b chips unit
  pub kept : IsKeptChip b absorbed new.chip
  pub on : Among new.unit new.chip.units
  pub old : ℕ
  pub is : placed_register (equations_of b) new.unit ≡ Some old
  pub first : PlacedUnit
  pub is_first : first_registered (equations_of b) new.chip ≡ Some first
  pub register : Register
  pub found : slice_get (equations_of b).registers old ≡ Some register
  pub stands_for : (numbers_of b chips).register k ≡ old
  pub gives : (kept.planned.units new.unit on).driver.gives ≡ Visible old

-- a cell without a register isn't registered
comb-form : (b : Joined) (chip : NewChip) (pin : ℕ) (x : PlacedUnit) (g : Gate) → is_reg (new_comb (old b) chip pin x g).form ≡ false
comb-form b chip pin x Never = refl
comb-form b chip pin x (Product lits) = refl

gives-visible : (g : Gives) (k : ℕ) → register_given g ≡ Some k → g ≡ Visible k
gives-visible (Sum ts) k e = cc
gives-visible (Visible j) k e = ap Visible (same_Some j k e)

module _ (b : Joined) (absorbed : List ℕ) (chips : List NewChip) (kept : AreKeptChips b absorbed chips) (k : ℕ) (u : ChipUnit) (found : slice_get (registers_of (new_units b chips)) k ≡ Some u) where
  abbrev a : Circuit
  a = equations_of b

  registered : is_registered u ≡ true
  registered = (among-filter is_registered u (new_units b chips) (among-get (registers_of (new_units b chips)) k u found)).0

  module _ (v : ℕ) (at : slice_get (new_units b chips) v ≡ Some u) (n : IsNewUnit b chips u) where
    chip-kept : IsKeptChip b absorbed n.chip
    chip-kept = kept.chip n.chip (among-get chips u.chip n.chip n.found)

    on : Among n.unit n.chip.units
    on = (on-unit n.chip.units u.cell.pin n.unit n.placed).0

    abbrev rows : HasPartRows b absorbed n.unit
    rows = chip-kept.planned.units n.unit on

    -- the unit has a register
    of-register : (o : Option ℕ) → placed_register a n.unit ≡ o → (i : ℕ) × (placed_register a n.unit ≡ Some i)
    of-register None is =
        let cell : u.cell ≡ new_comb (old b) n.chip u.cell.pin n.unit n.unit.enable = n.cell ∙ ap (cell_of (old b) n.chip u.cell.pin) n.placed ∙ ap (cell_by (old b) n.chip u.cell.pin n.unit) is in
        let wrong : true ≡ false = sym registered ∙ ap (λ (c : Cell). is_reg c.form) cell ∙ comb-form b n.chip u.cell.pin n.unit n.unit.enable in
        cc
    of-register (Some i) is = (i, is)

    module _ (i : ℕ) (is : placed_register a n.unit ≡ Some i) where
      visible : rows.driver.gives ≡ Visible i
      visible = gives-visible rows.driver.gives i (sym (ap register_driven rows.found) ∙ is)

      nodes : AllByRecursion (IsNode a) (row_reads rows.driver.enable ++ OfRegister i ∷ [])
      nodes = subst (λ (g : Gives). AllByRecursion (IsNode a) (row_reads rows.driver.enable ++ gives_reads g)) visible
          (subst (λ (o : Option Driver). AllByRecursion (IsNode a) (driver_reads o)) rows.found ((given-nodes b.net b.chips kept.old_given).units n.unit.unit))

      there : i < length a.registers
      there = (all_right (IsNode a) (row_reads rows.driver.enable) (OfRegister i ∷ []) nodes).0

      number-is : (numbers_of b chips).register k ≡ i
      number-is =
          ap or_zero (slice_get-map (old_register b chips) (registers_of (new_units b chips)) k ∙ ap (option_map (old_register b chips)) found)
          ∙ ap (λ (o : Option NewChip). or_zero (unit_register a (unit_of (option_and_then (λ (c : NewChip). unit_on c.units u.cell.pin) o)))) n.found
          ∙ ap (λ (o : Option PlacedUnit). or_zero (unit_register a (unit_of o))) n.placed
          ∙ ap or_zero is

      new-register : IsNewRegister b absorbed chips k
      new-register =
          let first = first-registered a n.chip n.unit on (ap (λ (o : Option ℕ). is_some o) is) in
          let register = item-at a.registers i there in
          record {
            unit = u;
            place = found;
            number = v;
            stands = at;
            new = n;
            kept = chip-kept;
            on = on;
            old = i;
            is = is;
            first = first.0;
            is_first = first.1;
            register = register.0;
            found = register.1;
            stands_for = number-is;
            gives = visible;
          }

    by-unit : IsNewRegister b absorbed chips k
    by-unit = let r = of-register (placed_register a n.unit) refl in new-register r.0 r.1

  pub of-chip-unit : IsNewRegister b absorbed chips k
  of-chip-unit = let p = place-item is_registered 0 (new_units b chips) k u found in by-unit p.0 p.2 (new-unit b chips p.0 u p.2)

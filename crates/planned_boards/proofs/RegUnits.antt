-- A registered unit on a 22V10 has the enable of its old unit, and shows the register that stands for the old one.
use Rattle.std.proofs.Common.{ℕ, ◌≡◌, Bool, true, cond, List, [], ◌∷◌, ◌++◌, map, Option, Some, refl, sym, ap, ◌∙◌, subst}
use Rattle.std.specs.Prelude.{option_and_then}
use Rattle.std.specs.List.{AllByRecursion, slice_get}
use Rattle.std.proofs.lemmas.Option.{same_Some}
use Rattle.mig_base.specs.declared.cells.Cell.{Cell}
use Rattle.mig_base.specs.declared.cells.Enable.TheVariants as enable
use Rattle.mig_base.specs.declared.circuit.Read.{Read}
use Rattle.mig_base.specs.declared.circuit.Read.TheVariants.{OfRegister}
use Rattle.mig_base.specs.declared.circuit.Literal.{Literal}
use Rattle.mig_base.specs.declared.circuit.Gives.{Gives}
use Rattle.mig_base.specs.declared.circuit.Gives.TheVariants.{Sum, Visible}
use Rattle.mig_base.specs.declared.circuit.Driver.{Driver}
use Rattle.mig_base.specs.declared.circuit.Circuit.{Circuit}
use Rattle.mig_base.specs.Among.{Among}
use Rattle.mig_base.specs.Boards.{ChipUnit, at_of, driver_of, enable_on, place_of, registers_of}
use Rattle.mig_base.specs.DeviceTables.{enable_pin, is_22}
use Rattle.mig_base.specs.Given.{IsGiven}
use Rattle.mig_base.specs.Reads.{IsNode, driver_reads}
use Rattle.mig_base.specs.Values.{row_reads}
use Rattle.mig_base.proofs.Amongs.{among-right}
use Rattle.level_laws.proofs.Unique.{all_left, all_right}
use Rattle.board.specs.Joined.{Joined, equations_of}
use Rattle.new_board.specs.NewChip.{NewChip, gate_products, placed_register, products_by, register_driven, register_given, unit_products}
use Rattle.new_board.specs.NewFiles.{cell_by, cell_of, new_enable, new_reg, pin_low_of}
use Rattle.new_board.proofs.Columns.{IsReadable, RegistersFit}
use Rattle.new_board.proofs.WellMade.{IsFitChip, on-unit, registers-fit}
use Rattle.plans.specs.Placings.{old}
use Rattle.plans.specs.Fitting.{new_board}
use Rattle.fitting_levels.specs.NodeValues.{gate_by}
use Rattle.placed_boards.specs.Places.{GivesAlike, IsPart, IsPlacedUnit}
use Rattle.placed_boards.proofs.RowParts.{gate-part}
use Rattle.new_circuits.specs.NewNumbers.{IsNewUnit, new_units, new_wiring, numbers_of}
use Rattle.new_circuits.proofs.SeenRows.{register-seen}
use Rattle.planned_boards.specs.Planned.{HasPartRows}
use Rattle.planned_boards.proofs.CombUnits.{unit-nodes, unit-number}
use Rattle.planned_boards.proofs.NewRows.{enable-seen, gate-rows}

module _ (b : Joined) (absorbed : List ℕ) (chips : List NewChip) (given : IsGiven (new_board b chips).net (new_board b chips).chips) (v : ℕ) (u : ChipUnit) (at : slice_get (new_units b chips) v ≡ Some u)
    (n : IsNewUnit b chips u) (fit : IsFitChip (old b) n.chip) (rows : HasPartRows b absorbed n.unit) (k : ℕ) (is : placed_register (equations_of b) n.unit ≡ Some k) where
  abbrev a : Circuit
  a = equations_of b

  abbrev new : Circuit
  new = equations_of (new_board b chips)

  abbrev driver : Driver
  driver = driver_of (new_wiring b chips) (new_units b chips) u

  abbrev d : Driver
  d = rows.driver

  abbrev pub place : ℕ
  place = place_of (u.chip, u.cell.pin) (map at_of (registers_of (new_units b chips)))

  pub reg-cell : u.cell ≡ new_reg (old b) n.chip u.cell.pin n.unit
  reg-cell = n.cell ∙ ap (cell_of (old b) n.chip u.cell.pin) n.placed ∙ ap (cell_by (old b) n.chip u.cell.pin n.unit) is

  pub registers : RegistersFit (old b) n.chip
  registers = registers-fit (old b) n.chip fit

  -- the register is that of the old unit
  pub register-is : (row : List Read) → AllByRecursion (IsNode new) (row ++ OfRegister place ∷ []) → (numbers_of b chips).register place ≡ k
  register-is row nodes =
      let one : AllByRecursion (IsNode new) (OfRegister place ∷ []) = all_right (IsNode new) row (OfRegister place ∷ []) nodes in
      register-seen b chips u.chip n.chip n.found u.cell.pin k (ap (option_and_then (placed_register a)) n.placed ∙ is) one.0

  pub gives-part : (made : Driver) → made.gives ≡ Visible place → made.low ≡ pin_low_of (slice_get a.units n.unit.unit) → (numbers_of b chips).register place ≡ k → (g : Gives) → register_given g ≡ Some k →
      GivesAlike a absorbed (numbers_of b chips) d made g (Visible place)
  gives-part made gives low number (Sum ts) r = cc
  gives-part made gives low number (Visible i) r = (same_Some i k r ∙ sym number, sym (ap pin_low_of rows.found) ∙ sym low)

  module _ (is_on_22 : is_22 n.chip.kind ≡ true) where
    abbrev pub made : Driver
    made = record {
      enable = enable_on (new_wiring b chips) (new_units b chips) u.chip (new_enable (old b) n.chip n.unit.enable);
      gives = Visible place;
      low = pin_low_of (slice_get a.units n.unit.unit);
    }

    pub driver-is : driver ≡ made
    driver-is =
        ap (λ (c : Cell). driver_of (new_wiring b chips) (new_units b chips) (record { chip = u.chip; cells = u.cells; cell = c })) reg-cell
        ∙ ap (λ (q : Bool). record { enable = enable_on (new_wiring b chips) (new_units b chips) u.chip (cond q (new_enable (old b) n.chip n.unit.enable) (enable.LowPin (enable_pin n.chip.kind))); gives = made.gives; low = made.low }) is_on_22

    nodes : AllByRecursion (IsNode new) (row_reads made.enable ++ OfRegister place ∷ [])
    nodes = subst (λ (x : Driver). AllByRecursion (IsNode new) (driver_reads (Some x))) driver-is (unit-nodes b absorbed chips given v u at n)

    pub readable : (t : List Literal) → Among t (gate_products n.unit.enable) → IsReadable (old b) n.chip t
    readable t m =
        let products : unit_products a n.chip n.unit ≡ n.unit.terms ++ gate_products n.unit.enable =
        ap (λ (o : Option ℕ). products_by (is_22 n.chip.kind) o n.unit) is ∙ ap (λ (q : Bool). products_by q (Some k) n.unit) is_on_22 in
        (fit.units n.unit (on-unit n.chip.units u.cell.pin n.unit n.placed).0).readable t (subst (Among t) (sym products) (among-right t n.unit.terms (gate_products n.unit.enable) m))

    enable-part : IsPart a absorbed (numbers_of b chips) (λ f. gate_by f d.enable) (row_reads d.enable) (λ f. gate_by f made.enable) (row_reads made.enable)
    enable-part = gate-part a absorbed (numbers_of b chips) (λ f. gate_by f d.enable) (row_reads d.enable) (gate_products n.unit.enable) made.enable
        (gate-rows a absorbed d.enable (gate_products n.unit.enable) (record { same = λ f h. rows.enable.same f h; named = λ w m. rows.enable.named w m }))
        (enable-seen b chips u.chip n.chip n.found registers n.unit.enable readable (all_left (IsNode new) (row_reads made.enable) (OfRegister place ∷ []) nodes))

    pub placed-on-22 : IsPlacedUnit a absorbed (numbers_of b chips) v driver
    placed-on-22 = subst (IsPlacedUnit a absorbed (numbers_of b chips) v) (sym driver-is) (record {
      driver = d;
      found = ap (slice_get a.units) (unit-number b absorbed chips given v u at n) ∙ rows.found;
      enable = enable-part;
      gives = gives-part made refl refl (register-is (row_reads made.enable) nodes) d.gives (sym (ap register_driven rows.found) ∙ is);
    })

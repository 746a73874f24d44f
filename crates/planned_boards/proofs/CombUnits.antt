-- A combinational unit on the new board has the enable and the logic of its old unit.
use Rattle.std.proofs.Common.{ℕ, ◌≡◌, true, false, List, [], ◌∷◌, ◌++◌, map, Option, Some, None, refl, sym, ap, ◌∙◌, subst, inl, inr}
use Rattle.std.specs.Prelude.{option_and_then}
use Rattle.std.specs.List.{AllByRecursion, slice_get}
use Rattle.std.specs.Option.{option_map}
use Rattle.std.proofs.lemmas.Option.{slice_get-map}
use Rattle.mig_base.specs.declared.cells.Cell.{Cell}
use Rattle.mig_base.specs.declared.circuit.Literal.{Literal}
use Rattle.mig_base.specs.declared.circuit.Gate.{Gate}
use Rattle.mig_base.specs.declared.circuit.Gate.TheVariants.{Never, Product}
use Rattle.mig_base.specs.declared.circuit.Gives.{Gives}
use Rattle.mig_base.specs.declared.circuit.Gives.TheVariants.{Sum, Visible}
use Rattle.mig_base.specs.declared.circuit.Driver.{Driver}
use Rattle.mig_base.specs.declared.circuit.Circuit.{Circuit}
use Rattle.mig_base.specs.Among.{Among}
use Rattle.mig_base.specs.Boards.{ChipUnit, driver_of, enable_on, is_unit, literals_of}
use Rattle.mig_base.specs.DeviceTables.{is_22}
use Rattle.mig_base.specs.Given.{IsGiven}
use Rattle.mig_base.specs.Reads.{IsNode, driver_reads}
use Rattle.mig_base.specs.Values.{inverted, row_reads, sum_reads}
use Rattle.level_laws.proofs.Unique.{all_left, all_right}
use Rattle.board.specs.Joined.{Joined, equations_of}
use Rattle.joiner.specs.Joined.{logic_low}
use Rattle.read_nodes.proofs.GivenNodes.{given-nodes}
use Rattle.new_board.specs.NewChip.{NewChip, gate_products, placed_register, comb_products, products_by, register_driven, register_given, unit_on, unit_products}
use Rattle.new_board.specs.NewFiles.{cell_by, cell_of, new_comb, new_enable, new_product}
use Rattle.new_board.proofs.Columns.{IsReadable, RegistersFit}
use Rattle.new_board.proofs.WellMade.{IsFitChip, on-unit, registers-fit}
use Rattle.plans.specs.Placings.{old}
use Rattle.plans.specs.Fitting.{new_board}
use Rattle.fitting_levels.specs.NodeValues.{gate_by, gives_by, terms_by}
use Rattle.placed_boards.specs.Places.{GivesAlike, IsPart, IsPlacedUnit}
use Rattle.placed_boards.specs.Rows.{AreRows, gate_terms}
use Rattle.placed_boards.proofs.RowParts.{gate-part, terms-part}
use Rattle.joined_rows.specs.PartRows.{logic_terms}
use Rattle.new_circuits.specs.NewNumbers.{IsNewUnit, new_literals, new_units, new_wiring, numbers_of, old_unit, or_zero, unit_of}
use Rattle.planned_boards.specs.Planned.{HasPartRows}
use Rattle.planned_boards.proofs.NewRows.{enable-seen, gate-rows, terms-seen}

module _ (b : Joined) (absorbed : List ℕ) (chips : List NewChip) (given : IsGiven (new_board b chips).net (new_board b chips).chips) (v : ℕ) (u : ChipUnit) (at : slice_get (new_units b chips) v ≡ Some u)
    (n : IsNewUnit b chips u) where
  abbrev a : Circuit
  a = equations_of b

  abbrev new : Circuit
  new = equations_of (new_board b chips)

  abbrev driver : Driver
  driver = driver_of (new_wiring b chips) (new_units b chips) u

  -- the number of its old unit
  pub unit-number : (numbers_of b chips).unit v ≡ n.unit.unit
  unit-number =
      ap or_zero (slice_get-map (old_unit chips) (new_units b chips) v ∙ ap (option_map (old_unit chips)) at)
      ∙ ap (λ (o : Option NewChip). unit_of (option_and_then (λ (c : NewChip). unit_on c.units u.cell.pin) o)) n.found ∙ ap unit_of n.placed

  -- what it reads
  pub unit-nodes : AllByRecursion (IsNode new) (driver_reads (Some driver))
  unit-nodes = subst (λ (o : Option Driver). AllByRecursion (IsNode new) (driver_reads o))
      (slice_get-map (driver_of (new_wiring b chips) (new_units b chips)) (new_units b chips) v ∙ ap (option_map (driver_of (new_wiring b chips) (new_units b chips))) at)
      ((given-nodes (new_board b chips).net (new_board b chips).chips given).units v)

  module _ (fit : IsFitChip (old b) n.chip) (rows : HasPartRows b absorbed n.unit) (none : placed_register a n.unit ≡ None) where
    pub comb-cell : u.cell ≡ new_comb (old b) n.chip u.cell.pin n.unit n.unit.enable
    comb-cell = n.cell ∙ ap (cell_of (old b) n.chip u.cell.pin) n.placed ∙ ap (cell_by (old b) n.chip u.cell.pin n.unit) none

    -- its driver, by its row
    abbrev pub made : List Literal → Driver
    made lits = record {
      enable = enable_on (new_wiring b chips) (new_units b chips) u.chip (new_enable (old b) n.chip (Product lits));
      gives = Sum (map (new_literals b chips u.chip n.chip) n.unit.terms);
      low = n.unit.low;
    }

    -- a list that is mapped twice
    twice : {T S R : Type 0} (f : S → R) (g : T → S) (xs : List T) → map f (map g xs) ≡ map (λ x. f (g x)) xs
    twice f g [] = refl
    twice f g (x ∷ xs) = (λ i. f (g x) ∷ twice f g xs i)

    abbrev d : Driver
    d = rows.driver

    registers : RegistersFit (old b) n.chip
    registers = registers-fit (old b) n.chip fit

    module _ (lits : List Literal) (e : n.unit.enable ≡ Product lits) where
      pub products-are : unit_products a n.chip n.unit ≡ lits ∷ n.unit.terms
      products-are = ap (λ (o : Option ℕ). products_by (is_22 n.chip.kind) o n.unit) none ∙ ap (λ (g : Gate). comb_products g n.unit.terms) e

      pub readable : (t : List Literal) → Among t (lits ∷ n.unit.terms) → IsReadable (old b) n.chip t
      readable t m = (fit.units n.unit (on-unit n.chip.units u.cell.pin n.unit n.placed).0).readable t (subst (Among t) (sym products-are) m)

      pub driver-is : driver ≡ made lits
      driver-is =
          ap (λ (c : Cell). driver_of (new_wiring b chips) (new_units b chips) (record { chip = u.chip; cells = u.cells; cell = c })) (comb-cell ∙ ap (new_comb (old b) n.chip u.cell.pin n.unit) e)
          ∙ ap (λ (ts : List (List Literal)). record { enable = (made lits).enable; gives = Sum ts; low = n.unit.low })
          (twice (literals_of (new_wiring b chips) (new_units b chips) u.chip) (new_product (old b) n.chip) n.unit.terms)

      nodes : AllByRecursion (IsNode new) (row_reads (made lits).enable ++ sum_reads (map (new_literals b chips u.chip n.chip) n.unit.terms))
      nodes = subst (λ (x : Driver). AllByRecursion (IsNode new) (driver_reads (Some x))) driver-is unit-nodes

      enable-part : IsPart a absorbed (numbers_of b chips) (λ f. gate_by f d.enable) (row_reads d.enable) (λ f. gate_by f (made lits).enable) (row_reads (made lits).enable)
      enable-part = gate-part a absorbed (numbers_of b chips) (λ f. gate_by f d.enable) (row_reads d.enable) (lits ∷ []) (made lits).enable
          (gate-rows a absorbed d.enable (lits ∷ [])
          (subst (λ (ps : List (List Literal)). AreRows a absorbed (λ f. terms_by f (gate_terms d.enable)) (sum_reads (gate_terms d.enable)) ps false) (ap gate_products e)
          (record { same = λ f h. rows.enable.same f h; named = λ w m. rows.enable.named w m })))
          (enable-seen b chips u.chip n.chip n.found registers (Product lits) (λ t m. readable t (first t m))
          (all_left (IsNode new) (row_reads (made lits).enable) (sum_reads (map (new_literals b chips u.chip n.chip) n.unit.terms)) nodes))
        where
          first : (t : List Literal) → Among t (lits ∷ []) → Among t (lits ∷ n.unit.terms)
          first t (inl same) = inl same
          first t (inr m) = absurd m

      logic-by : (g : Gives) → d.gives ≡ g → AreRows a absorbed (λ f. inverted (logic_low a g d.low) (terms_by f (logic_terms a g))) (sum_reads (logic_terms a g)) n.unit.terms n.unit.low
      logic-by g is = subst (λ (h : Gives). AreRows a absorbed (λ f. inverted (logic_low a h d.low) (terms_by f (logic_terms a h))) (sum_reads (logic_terms a h)) n.unit.terms n.unit.low) is
          (record { same = λ f h. rows.logic.same f h; named = λ w m. rows.logic.named w m })

      gives-part : (g : Gives) → d.gives ≡ g → register_given g ≡ None → GivesAlike a absorbed (numbers_of b chips) d (made lits) g (Sum (map (new_literals b chips u.chip n.chip) n.unit.terms))
      gives-part (Visible k) is r = cc
      gives-part (Sum ts) is r =
          let news = map (new_literals b chips u.chip n.chip) n.unit.terms in
          let p = terms-part a absorbed (numbers_of b chips) (λ f. inverted d.low (terms_by f ts)) (sum_reads ts) n.unit.terms n.unit.low news (logic-by (Sum ts) is)
          (terms-seen b chips u.chip n.chip n.found registers n.unit.terms (λ t m. readable t (inr m)) (all_right (IsNode new) (row_reads (made lits).enable) (sum_reads news) nodes)) in
          record { same = λ f h. ap (λ (x : Gives). inverted d.low (gives_by f x)) is ∙ p.same f h; named = λ w m. p.named w m }

      whole : IsPlacedUnit a absorbed (numbers_of b chips) v driver
      whole = subst (IsPlacedUnit a absorbed (numbers_of b chips) v) (sym driver-is) (record {
        driver = d;
        found = ap (slice_get a.units) unit-number ∙ rows.found;
        enable = enable-part;
        gives = gives-part d.gives refl (sym (ap register_driven rows.found) ∙ none);
      })

    pub placed : IsPlacedUnit a absorbed (numbers_of b chips) v driver
    placed = by n.unit.enable refl
      where
        by : (g : Gate) → n.unit.enable ≡ g → IsPlacedUnit a absorbed (numbers_of b chips) v driver
        by Never e =
            let idle_cell = comb-cell ∙ ap (new_comb (old b) n.chip u.cell.pin n.unit) e in
            let wrong : true ≡ false = sym n.stands ∙ ap (is_unit u.cells) idle_cell in
            cc
        by (Product lits) e = whole lits e

pub comb-placed : (b : Joined) (absorbed : List ℕ) (chips : List NewChip) → IsGiven (new_board b chips).net (new_board b chips).chips → (v : ℕ) (u : ChipUnit) → slice_get (new_units b chips) v ≡ Some u →
    (n : IsNewUnit b chips u) → IsFitChip (old b) n.chip → HasPartRows b absorbed n.unit → placed_register (equations_of b) n.unit ≡ None →
    IsPlacedUnit (equations_of b) absorbed (numbers_of b chips) v (driver_of (new_wiring b chips) (new_units b chips) u)
comb-placed b absorbed chips given v u at n fit rows none = placed b absorbed chips given v u at n fit rows none

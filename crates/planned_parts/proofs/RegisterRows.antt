-- A register of the new board with its rows over old variables.
use Rattle.std.proofs.Common.{ℕ, ◌≡◌, List, [], ◌∷◌, ◌++◌, map, Option, Some, refl, ap, ◌∙◌, inl}
use Rattle.std.specs.List.{AllByRecursion, slice_get}
use Rattle.std.specs.Option.{option_map}
use Rattle.std.proofs.lemmas.Option.{slice_get-map}
use Rattle.mig_base.specs.declared.cells.Cell.{Cell}
use Rattle.mig_base.specs.declared.cells.ChipCells.{ChipCells}
use Rattle.mig_base.specs.declared.circuit.Literal.{Literal}
use Rattle.mig_base.specs.declared.circuit.Gate.{Gate}
use Rattle.mig_base.specs.declared.circuit.Gate.TheVariants.{Never, Product}
use Rattle.mig_base.specs.declared.circuit.Register.{Register}
use Rattle.mig_base.specs.declared.circuit.Circuit.{Circuit}
use Rattle.mig_base.specs.Among.{Among}
use Rattle.mig_base.specs.Boards.{literals_of, net_of, register_of, registers_of, row_on}
use Rattle.mig_base.specs.Reads.{IsNode, edge_reads}
use Rattle.mig_base.specs.Values.{row_reads, sum_reads}
use Rattle.level_laws.proofs.Unique.{all_left, all_right}
use Rattle.board.specs.Joined.{Joined, equations_of}
use Rattle.read_nodes.proofs.GivenNodes.{given-nodes}
use Rattle.new_board.specs.declared.types.PlacedUnit.{PlacedUnit}
use Rattle.new_board.specs.NewChip.{gate_products}
use Rattle.new_board.specs.NewFiles.{new_product, new_reg, new_row, preset_gate, reset_gate}
use Rattle.new_board.proofs.Columns.{IsReadable, RegistersFit}
use Rattle.new_board.proofs.WellMade.{registers-fit}
use Rattle.new_board.specs.NewChip.{NewChip}
use Rattle.plans.specs.Placings.{old}
use Rattle.plans.specs.Fitting.{new_board}
use Rattle.placed_boards.specs.Rows.{IsGateSeenAs}
use Rattle.new_circuits.specs.NewNumbers.{new_literals, new_units, new_wiring, numbers_of}
use Rattle.new_circuits.proofs.SeenRows.{product-seen}
use Rattle.planned_boards.proofs.RegUnits.{reg-cell}
use Rattle.planned_parts.specs.KeptChips.{AreKeptChips}
use Rattle.planned_parts.proofs.NewRegisters.{IsNewRegister}

-- a list that is mapped twice
twice : {T S R : Type 0} (f : S → R) (g : T → S) (xs : List T) → map f (map g xs) ≡ map (λ x. f (g x)) xs
twice f g [] = refl
twice f g (x ∷ xs) = (λ i. f (g x) ∷ twice f g xs i)

module _ (b : Joined) (absorbed : List ℕ) (chips : List NewChip) (kept : AreKeptChips b absorbed chips) (k : ℕ) (r : IsNewRegister b absorbed chips k) where
  abbrev new : Circuit
  new = equations_of (new_board b chips)

  abbrev pub j : ℕ
  j = r.unit.chip

  -- a reset or preset row on the new board
  abbrev pub row : Gate → Gate
  row g = row_on (new_wiring b chips) (new_units b chips) j (new_row (old b) r.new.chip g)

  abbrev pub made : Register
  made = record {
    clock = net_of (new_wiring b chips) (j, 1);
    terms = map (new_literals b chips j r.new.chip) r.new.unit.terms;
    low = r.new.unit.low;
    reset = row r.first.reset;
    preset = row r.first.preset;
  }

  abbrev of_cell : ChipCells → Cell → Register
  of_cell cells cell = register_of (new_wiring b chips) (new_units b chips) (record { chip = j; cells = cells; cell = cell })

  pub register-is : register_of (new_wiring b chips) (new_units b chips) r.unit ≡ made
  register-is =
      ap (of_cell r.unit.cells) (reg-cell b absorbed chips kept.given r.number r.unit r.stands r.new r.kept.fit (r.kept.planned.units r.new.unit r.on) r.old r.is)
      ∙ ap (λ (cells : ChipCells). of_cell cells (new_reg (old b) r.new.chip r.unit.cell.pin r.new.unit)) r.new.cells
      ∙ ap (λ (o : Option PlacedUnit). record { clock = made.clock; terms = map (literals_of (new_wiring b chips) (new_units b chips) j) (map (new_product (old b) r.new.chip) r.new.unit.terms); low = made.low; reset = row (reset_gate o); preset = row (preset_gate o) }) r.is_first
      ∙ ap (λ (ts : List (List Literal)). record { clock = made.clock; terms = ts; low = made.low; reset = made.reset; preset = made.preset })
      (twice (literals_of (new_wiring b chips) (new_units b chips) j) (new_product (old b) r.new.chip) r.new.unit.terms)

  pub stands-there : slice_get new.registers k ≡ Some made
  stands-there =
      slice_get-map (register_of (new_wiring b chips) (new_units b chips)) (registers_of (new_units b chips)) k
      ∙ ap (option_map (register_of (new_wiring b chips) (new_units b chips))) r.place
      ∙ ap (λ (x : Register). Some x) register-is

  -- all that it reads at an edge are nodes
  pub edge-nodes : AllByRecursion (IsNode new) (edge_reads made)
  edge-nodes = (given-nodes (new_board b chips).net (new_board b chips).chips kept.given).registers k made stands-there

  pub term-nodes : AllByRecursion (IsNode new) (sum_reads made.terms)
  term-nodes = all_left (IsNode new) (sum_reads made.terms) (row_reads made.preset) (all_left (IsNode new) (sum_reads made.terms ++ row_reads made.preset) (row_reads made.reset) edge-nodes)

  pub preset-nodes : AllByRecursion (IsNode new) (row_reads made.preset)
  preset-nodes = all_right (IsNode new) (sum_reads made.terms) (row_reads made.preset) (all_left (IsNode new) (sum_reads made.terms ++ row_reads made.preset) (row_reads made.reset) edge-nodes)

  pub reset-nodes : AllByRecursion (IsNode new) (row_reads made.reset)
  reset-nodes = all_right (IsNode new) (sum_reads made.terms ++ row_reads made.preset) (row_reads made.reset) edge-nodes

  pub registers : RegistersFit (old b) r.new.chip
  registers = registers-fit (old b) r.new.chip r.kept.fit

  -- a reset or preset row
  pub row-seen : (g : Gate) → ((t : List Literal) → Among t (gate_products g) → IsReadable (old b) r.new.chip t) → AllByRecursion (IsNode new) (row_reads (row g)) →
      IsGateSeenAs (equations_of b) (numbers_of b chips) (row g) (gate_products g)
  row-seen Never readable nodes = tt
  row-seen (Product lits) readable nodes = product-seen b chips j r.new.chip r.new.found lits registers (readable lits (inl refl)) nodes

-- The files of boards that are built for PAL16 chips.
use Rattle.std.proofs.Common.{ℕ, ◌≡◌, ◌+◌, ◌*◌, ◌≤◌, true, List, [], ◌∷◌, map, length, refl, sym, ap, ◌∙◌, subst, leb, leb-true, lt-ltb, arith}
use Rattle.std.specs.List.{filter, list_all}
use Rattle.std.specs.Option.{option_map}
use Rattle.std.proofs.lemmas.Bool.{and_from}
use Rattle.std.proofs.lemmas.List.{length-map, length-append}
use Rattle.std.proofs.lemmas.Option.{get_or_from_slice_get, slice_get-map}
use Rattle.mig_base.specs.declared.kinds.Kind.TheVariants.{Gal16V8}
use Rattle.mig_base.specs.declared.cells.Cell.{Cell}
use Rattle.mig_base.specs.declared.cells.ChipCells.{ChipCells}
use Rattle.mig_base.specs.declared.nets.Net.{Net}
use Rattle.mig_base.specs.declared.nets.ChipLine.{ChipLine}
use Rattle.mig_base.specs.declared.plans.PlanChip.{PlanChip}
use Rattle.mig_base.specs.Among.{Among}
use Rattle.mig_base.specs.Names.{is_name}
use Rattle.mig_base.specs.DeviceTables.{cell_pins}
use Rattle.mig_base.specs.Cells.{pal_cell}
use Rattle.mig_base.specs.Boards.{ChipUnit, is_unit, units_from}
use Rattle.mig_base.specs.WrittenBoard.{IsWritable, chip_name}
use Rattle.mig_base.proofs.Amongs.{among-get, among-map, pass-all}
use Rattle.new_board.specs.OneForOne.{same_chips, place_line, plan_chip, one_for_one}
use Rattle.rebuilt_boards.proofs.RebuiltCircuit.{board_of}
use Rattle.rebuilt_boards.specs.RebuiltBoards.{built_chips, is_small_pin, is_small_line, IsSmallPlan, BoardsAreBuiltWell}
use Rattle.new_board.specs.declared.types.FittedChip.{FittedChip}
use Rattle.new_board.proofs.Items.{all-pass}
use Rattle.rebuilt_boards.proofs.PalCells.{pal16-table}
use Rattle.rebuilt_boards.proofs.PalUnits.{IsPalChip, ArePals, pal-unit}
use Rattle.rebuilt_boards.proofs.PalBoards.{IsPalBoard}
use Rattle.rebuilt_boards.proofs.TakenBoards.{taken-board}
use Rattle.new_board.proofs.BuiltRows.{filter-short}
use Rattle.rebuilt_boards.proofs.BuiltCells.{board-well, board-kinds}
use Rattle.rebuilt_boards.proofs.BuiltNet.{new-names, map-after, all-after, built-names, built-count, board-writable}

-- the plan

plan-names : (net : Net) (chips : List ChipCells) → IsPalBoard net chips → map (λ (c : PlanChip). c.name) (one_for_one net chips).chips ≡ map (λ (c : ChipLine). c.name) net.chips
plan-names net chips board = map-after (λ (c : PlanChip). c.name) plan_chip (same_chips net chips) ∙ new-names (board_of net (units_from 0 chips)) 0 net.chips chips board.pals

small-pins : (pin : ℕ) → Among pin (cell_pins Gal16V8) → pin ≤ 19
small-pins pin a = leb-true pin 19 (all-pass (λ (p : ℕ). leb p 19) pin (cell_pins Gal16V8) refl a)

small-line : (net : Net) (chips : List ChipCells) (u : ChipUnit) → IsPalBoard net chips → IsWritable net → Among u (units_from 0 chips) → is_small_line (place_line net u) ≡ true
small-line net chips u board w a =
    let p = pal-unit net chips u board.pals a in
    let name : chip_name net u.chip ≡ p.line.name =
    get_or_from_slice_get (map (λ (c : ChipLine). c.name) net.chips) u.chip p.line.name []
    (slice_get-map (λ (c : ChipLine). c.name) net.chips u.chip ∙ ap (option_map (λ (c : ChipLine). c.name)) p.line_is) in
    let named : is_name (chip_name net u.chip) ≡ true = ap is_name name ∙ all-pass (λ (c : ChipLine). is_name c.name) p.line net.chips w.named_chips (among-get net.chips u.chip p.line p.line_is) in
    let low = small-pins u.cell.pin (subst (Among u.cell.pin) (sym (pal16-table p.line.kind p.chip.pal).cells) p.pin) in
    let small : is_small_pin (chip_name net u.chip) u.cell.pin ≡ true = and_from _ _ named (lt-ltb u.cell.pin 256 (omega arith)) in
    and_from (is_small_pin (chip_name net u.chip) u.cell.pin) (is_small_pin (chip_name net u.chip) u.cell.pin) small small

-- at most eight units a chip

eight-cells : (line : ChipLine) (c : ChipCells) → IsPalChip line c → length c.cells ≡ 8
eight-cells line c p =
    ap (λ (d : ChipCells). length d.cells) p.cells_are ∙ length-map (cell_pins line.kind) (pal_cell line.kind p.bits) ∙ ap (λ (pins : List ℕ). length pins) (sym (pal16-table line.kind p.pal).cells)

few-units : (start : ℕ) (lines : List ChipLine) (chips : List ChipCells) → ArePals lines chips → length (units_from start chips) ≤ 8 * length lines
few-units start [] [] h = omega arith
few-units start [] (c ∷ cs) h = absurd h
few-units start (l ∷ ls) [] h = absurd h
few-units start (l ∷ ls) (c ∷ cs) h =
    let make = λ (cell : Cell). let u : ChipUnit = record { chip = start; cells = c; cell = cell } in u in
    let parts : length (units_from start (c ∷ cs)) ≡ length (map make (filter (is_unit c) c.cells)) + length (units_from (start + 1) cs) =
    length-append (map make (filter (is_unit c) c.cells)) (units_from (start + 1) cs) in
    let made : length (map make (filter (is_unit c) c.cells)) ≡ length (filter (is_unit c) c.cells) = length-map (filter (is_unit c) c.cells) make in
    let few = filter-short (is_unit c) c.cells in
    let eight = eight-cells l c h.0 in
    let rest = few-units (start + 1) ls cs h.1 in
    omega arith

few-lines : (net : Net) (chips : List ChipCells) → IsPalBoard net chips → IsWritable net → length (one_for_one net chips).lines ≤ 512
few-lines net chips board w =
    let lines : length (one_for_one net chips).lines ≡ length (units_from 0 chips) = length-map (units_from 0 chips) (place_line net) in
    let units = few-units 0 net.chips chips board.pals in
    let few = w.few_chips in
    omega arith

small-plan : (net : Net) (chips : List ChipCells) → IsWritable net → IsPalBoard net chips → IsSmallPlan (one_for_one net chips)
small-plan net chips w board = record {
  few_lines = few-lines net chips board w;
  named =
      all-after is_name (λ (c : PlanChip). c.name) (one_for_one net chips).chips ∙ ap (list_all is_name) (plan-names net chips board)
      ∙ sym (all-after is_name (λ (c : ChipLine). c.name) net.chips) ∙ w.named_chips;
  lines = pass-all is_small_line (one_for_one net chips).lines (λ l a.
      let u = among-map (place_line net) l (units_from 0 chips) a in
      ap is_small_line u.2 ∙ small-line net chips u.0 board w u.1);
}

-- boards that are taken, whose wiring has a text, are built well
pub built-well : BoardsAreBuiltWell
built-well net chips w taken =
    let board = taken-board net chips taken in
    record {
      cells = board-well net chips board;
      wiring = board-writable net chips board w;
      kinds = board-kinds net chips board;
      names = built-names net chips board;
      named =
          all-after is_name (λ (f : FittedChip). f.name) (built_chips net chips) ∙ ap (list_all is_name) (built-names net chips board)
          ∙ sym (all-after is_name (λ (c : ChipLine). c.name) net.chips) ∙ w.named_chips;
      as_many = built-count net chips board;
      planned = plan-names net chips board;
      plan = small-plan net chips w board;
    }

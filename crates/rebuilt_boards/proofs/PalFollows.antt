-- The board that is built for a board of PAL16 chips stands for it.
use Rattle.std.proofs.Common.{ℕ, ◌≡◌, ◌-◌, ◌<◌, ◌≤◌, true, cond, List, [], ◌++◌, length, Option, Some, None, refl, sym, ap, ◌∙◌, subst, inl, inr, ◌⊎◌, arith}
use Rattle.std.specs.List.{slice_get, flat_map}
use Rattle.std.proofs.lemmas.Option.{same_Some, slice_get_within}
use Rattle.mig_base.specs.declared.cells.Lit.{Lit}
use Rattle.mig_base.specs.declared.cells.ChipCells.{ChipCells}
use Rattle.mig_base.specs.declared.nets.Net.{Net}
use Rattle.mig_base.specs.declared.nets.ChipLine.{ChipLine}
use Rattle.mig_base.specs.declared.circuit.Read.TheVariants.{OfRegister}
use Rattle.mig_base.specs.declared.circuit.Literal.{Literal}
use Rattle.mig_base.specs.declared.circuit.Driver.{Driver}
use Rattle.mig_base.specs.declared.circuit.Levels.{Levels}
use Rattle.mig_base.specs.Among.{Among}
use Rattle.mig_base.specs.Values.{source_level, literal_value}
use Rattle.mig_base.specs.DeviceTables.{pair_pins, is_22}
use Rattle.mig_base.specs.Boards.{ChipUnit, at_of, is_port, net_of, is_registered, registers_of, read_of, literals_of, low_pin, driver_of, register_of, units_from, circuit_on}
use Rattle.mig_base.specs.Structure.{variable_product, variable_gate}
use Rattle.mig_base.proofs.Amongs.{among-get, map-among, among-map, among-left, among-flat_map}
use Rattle.level_laws.specs.Follows.{SameAt}
use Rattle.new_board.specs.NewChip.{NewChip, register_on, register_driven, read_by, products_by, unit_products, control_products, gate_products, chip_products}
use Rattle.new_board.specs.InputPins.{pin_net, pin_reads}
use Rattle.new_board.specs.OneForOne.{terms_over, old_rows, same_chip, same_chips}
use Rattle.new_board.proofs.WellMade.{on-unit}
use Rattle.new_board.proofs.Items.{get-among, among-unfilter}
use Rattle.new_board.proofs.Variables.{AliasesFit}
use Rattle.new_board.proofs.Columns.{source_at, RegistersFit}
use Rattle.rebuilt_boards.proofs.RebuiltCircuit.{board_of, chip_at, rebuilt_unit, rebuilt_units}
use Rattle.new_board.proofs.NewWiring.{rebuilt_net}
use Rattle.rebuilt_boards.proofs.RebuiltFollows.{old_read, IsKept, DriverFits, RegisterFits, BoardFits}
use Rattle.rebuilt_boards.proofs.Combinational.{new_place, PinsFit, ProductFits, CombFits, old_terms, comb-drives, reads-net, net-kept, net-value}
use Rattle.rebuilt_boards.proofs.PalCells.{AreColumnLits}
use Rattle.rebuilt_boards.proofs.PalUnits.{IsPalUnit, unit-chip_at, unit-on, new-same}
use Rattle.rebuilt_boards.proofs.NeededVariables.{LiteralFits, product-fits, comb-products}
use Rattle.rebuilt_boards.proofs.OldRows.{old-reg}
use Rattle.new_board.proofs.KeptNets.{places-get}
use Rattle.new_board.proofs.KeptNumbers.{kept-numbers, kept-ports}
use Rattle.rebuilt_boards.proofs.AliasNets.{aliases-fit}
use Rattle.rebuilt_boards.proofs.RegisterUnits.{IsCombUnit, IsRegUnit, unit-cases, reg-registered, reg-unit, comb-of, register_number, register-get, registers-fit}
use Rattle.rebuilt_boards.proofs.EnablePins.{clock-pin}
use Rattle.rebuilt_boards.proofs.Registered.{reg_rows, registered-driver, reg-drives, reg-takes}
use Rattle.rebuilt_boards.proofs.PalReads.{IsChip, holds-units, chip-enable, column-literal}
use Rattle.rebuilt_boards.proofs.PalBoards.{IsPalBoard, board-chip, unit-board_chip, register-chip, board-registered, reg-stands}
use Rattle.rebuilt_boards.proofs.PalPins.{board-units, board-pin, board_old, register-place, net-place}

pub board-pins : (net : Net) (chips : List ChipCells) (j : ℕ) (chip : NewChip) → IsPalBoard net chips → slice_get (same_chips net chips) j ≡ Some chip →
    PinsFit (board_of net (units_from 0 chips)) (same_chips net chips) (board_old net chips) j chip
board-pins net chips j chip board found = record {
  registers =
      let s = new-same net chips j chip board.pals found in
      let c = board-chip net chips j s.line s.cells board s.line_is s.cells_is s.pal in
      subst (RegistersFit (board_of net (units_from 0 chips))) (sym s.chip_is) (registers-fit net (units_from 0 chips) j (same_chip (board_of net (units_from 0 chips)) j s.line s.cells) (holds-units net chips j s.line s.cells c));
  kept = λ pin y a e. kept pin y a e (register_on (circuit_on net (units_from 0 chips)) chip pin) refl;
  value = λ l m pin y a e aliases same. value l m pin y a e aliases same (register_on (circuit_on net (units_from 0 chips)) chip pin) refl;
}
  where
    kept : (pin : ℕ) (y : Literal) → Among pin (pair_pins chip.kind chip.mode) → pin_reads (board_of net (units_from 0 chips)) chip pin ≡ Some y → (o : Option ℕ) → register_on (circuit_on net (units_from 0 chips)) chip pin ≡ o →
        IsKept (board_of net (units_from 0 chips)) (same_chips net chips) (board_old net chips) (new_place (board_of net (units_from 0 chips)) (same_chips net chips) j (source_at (board_of net (units_from 0 chips)) chip pin))
    kept pin y a e None is =
        let b = board_of net (units_from 0 chips) in
        let r = reads-net b chip pin y is e in
        subst (IsKept b (same_chips net chips) (board_old net chips)) (sym (net-place net chips j pin chip is))
        (net-kept b (same_chips net chips) (board_old net chips) j pin r.net (kept-numbers b (same_chips net chips)) (board-units net chips board) (board-pin net chips j pin r.net chip board found a r.pin_is))
    kept pin y a e (Some k) is = subst (IsKept (board_of net (units_from 0 chips)) (same_chips net chips) (board_old net chips)) (sym (register-place net chips j pin k chip board found is)) tt

    value : (l m : Levels) (pin : ℕ) (y : Literal) → Among pin (pair_pins chip.kind chip.mode) → pin_reads (board_of net (units_from 0 chips)) chip pin ≡ Some y → AliasesFit (circuit_on net (units_from 0 chips)) l →
        SameAt (old_read (board_of net (units_from 0 chips)) (same_chips net chips) (board_old net chips)) l m (new_place (board_of net (units_from 0 chips)) (same_chips net chips) j (source_at (board_of net (units_from 0 chips)) chip pin)) →
        (o : Option ℕ) → register_on (circuit_on net (units_from 0 chips)) chip pin ≡ o →
        source_level m (new_place (board_of net (units_from 0 chips)) (same_chips net chips) j (source_at (board_of net (units_from 0 chips)) chip pin)) ≡ literal_value l y
    value l m pin y a e aliases same None is =
        let b = board_of net (units_from 0 chips) in
        let news = same_chips net chips in
        let r = reads-net b chip pin y is e in
        let place = net-place net chips j pin chip is in
        ap (source_level m) place
        ∙ net-value b news (board_old net chips) j pin r.net l m (kept-numbers b news) (board-pin net chips j pin r.net chip board found a r.pin_is) aliases
        (subst (SameAt (old_read b news (board_old net chips)) l m) place same)
        ∙ ap (literal_value l) (sym r.literal_is)
    value l m pin y a e aliases same (Some k) is =
        let b = board_of net (units_from 0 chips) in
        let news = same_chips net chips in
        let place = register-place net chips j pin k chip board found is in
        let there : SameAt (old_read b news (board_old net chips)) l m (OfRegister k) = subst (SameAt (old_read b news (board_old net chips)) l m) place same in
        ap (source_level m) place ∙ sym there
        ∙ ap (literal_value l) (same_Some (record { source = OfRegister k; high = true }) y (ap (λ (o : Option ℕ). read_by b.circuit o (pin_net b chip pin)) (sym is) ∙ e))

-- products that the new chip of a unit can read

columns-fit : (net : Net) (chips : List ChipCells) (j : ℕ) (line : ChipLine) (cells : ChipCells) (plits : List Lit) → IsChip net chips j line cells → AreColumnLits line.kind plits →
    (x : Literal) → Among x (literals_of net (units_from 0 chips) j plits) → LiteralFits (board_of net (units_from 0 chips)) (same_chip (board_of net (units_from 0 chips)) j line cells) x
columns-fit net chips j line cells plits c columns x a =
    let y = among-map (λ (lit : Lit). record { source = read_of net (units_from 0 chips) j lit.source; high = lit.high }) x plits a in
    subst (LiteralFits (board_of net (units_from 0 chips)) (same_chip (board_of net (units_from 0 chips)) j line cells)) (sym y.2) (column-literal net chips j line cells y.0 c (columns.each y.0 y.1))

pub unit-product : (net : Net) (chips : List ChipCells) (u : ChipUnit) (plits : List Lit) (board : IsPalBoard net chips) (p : IsPalUnit net chips u) → AreColumnLits p.line.kind plits →
    Among (variable_product (circuit_on net (units_from 0 chips)) (literals_of net (units_from 0 chips) u.chip plits)) (chip_products (circuit_on net (units_from 0 chips)) (chip_at (same_chips net chips) u.chip)) →
    ProductFits (board_of net (units_from 0 chips)) (chip_at (same_chips net chips) u.chip) (literals_of net (units_from 0 chips) u.chip plits)
unit-product net chips u plits board p columns a =
    let b = board_of net (units_from 0 chips) in
    let c = unit-board_chip net chips u board p in
    let chip = unit-chip_at net chips u p in
    subst (λ (x : NewChip). ProductFits b x (literals_of net (units_from 0 chips) u.chip plits)) (sym chip)
    (product-fits b (same_chip (board_of net (units_from 0 chips)) u.chip p.line u.cells) (literals_of net (units_from 0 chips) u.chip plits) (chip-enable net chips u.chip p.line u.cells c)
    (columns-fit net chips u.chip p.line u.cells plits c columns)
    (subst (λ (x : NewChip). Among (variable_product b.circuit (literals_of net (units_from 0 chips) u.chip plits)) (chip_products b.circuit x)) chip a))

pub comb-term : (net : Net) (chips : List ChipCells) (i : ℕ) (u : ChipUnit) (t : List Literal) → IsPalBoard net chips → slice_get (units_from 0 chips) i ≡ Some u → (c : IsCombUnit net chips u) →
    Among t (old_terms (board_of net (units_from 0 chips)) u) → ProductFits (board_of net (units_from 0 chips)) (chip_at (same_chips net chips) u.chip) t
comb-term net chips i u t board e c a =
    let y = among-map (literals_of net (units_from 0 chips) u.chip) t u.cell.terms a in
    let there : Among (literals_of net (units_from 0 chips) u.chip y.0) (old_terms (board_of net (units_from 0 chips)) u) = map-among (literals_of net (units_from 0 chips) u.chip) y.0 u.cell.terms y.1 in
    subst (ProductFits (board_of net (units_from 0 chips)) (chip_at (same_chips net chips) u.chip)) (sym y.2)
    (unit-product net chips u y.0 board c.pal (c.cell.terms_lits y.0 y.1)
    (comb-products net (units_from 0 chips) (chip_at (same_chips net chips) u.chip) i u (literals_of net (units_from 0 chips) u.chip y.0) (unit-on net chips i u board.pals e) e (comb-of net chips u c) (inr there)))

abbrev pub board-comb : (net : Net) (chips : List ChipCells) (i : ℕ) (u : ChipUnit) → IsPalBoard net chips → slice_get (units_from 0 chips) i ≡ Some u → IsCombUnit net chips u →
    CombFits (board_of net (units_from 0 chips)) (chip_at (same_chips net chips) u.chip) u
board-comb net chips i u board e c = record {
  comb = comb-of net chips u c;
  enable_fits = unit-product net chips u c.cell.lits board c.pal c.cell.enable_lits
      (comb-products net (units_from 0 chips) (chip_at (same_chips net chips) u.chip) i u (literals_of net (units_from 0 chips) u.chip c.cell.lits) (unit-on net chips i u board.pals e) e (comb-of net chips u c) (inl refl));
  terms_fit = λ t a. comb-term net chips i u t board e c a;
}

reg-products : (net : Net) (chips : List ChipCells) (i : ℕ) (u : ChipUnit) (t : List Literal) → IsPalBoard net chips → slice_get (units_from 0 chips) i ≡ Some u → IsRegUnit net chips u →
    Among t (old_terms (board_of net (units_from 0 chips)) u) →
    Among (variable_product (circuit_on net (units_from 0 chips)) t) (chip_products (circuit_on net (units_from 0 chips)) (chip_at (same_chips net chips) u.chip))
reg-products net chips i u t board e r a =
    let units = units_from 0 chips in
    let b = board_of net units in
    let c = circuit_on net units in
    let chip = chip_at (same_chips net chips) u.chip in
    let pin = u.cell.pin in
    let k = register_number units (at_of u) in
    let x = old_rows c pin i in
    let driver = registered-driver net chips i u e r in
    let register = register-get net chips u board.pals (among-get units i u e) (reg-registered net chips u r) in
    let by_row = cond (is_22 chip.kind) (gate_products (variable_gate c (low_pin (net_of net (u.chip, 11))))) [] in
    let rows : unit_products c chip x ≡ terms_over c (old_terms b u) ++ by_row =
    ap (unit_products c chip) (old-reg c pin i k _ _ driver refl register) ∙ ap (λ (o : Option Driver). products_by (is_22 chip.kind) (register_driven o) (reg_rows b pin i u)) driver in
    among-left (variable_product c t) (flat_map (unit_products c chip) chip.units) (control_products c chip)
    (among-flat_map (unit_products c chip) x (variable_product c t) chip.units (on-unit chip.units pin x (unit-on net chips i u board.pals e)).0
    (subst (λ (ps : List (List Literal)). Among (variable_product c t) ps) (sym rows)
    (among-left (variable_product c t) (terms_over c (old_terms b u)) by_row (map-among (variable_product c) t (old_terms b u) a))))

pub reg-term : (net : Net) (chips : List ChipCells) (i : ℕ) (u : ChipUnit) (t : List Literal) → IsPalBoard net chips → slice_get (units_from 0 chips) i ≡ Some u → IsRegUnit net chips u →
    Among t (old_terms (board_of net (units_from 0 chips)) u) → ProductFits (board_of net (units_from 0 chips)) (chip_at (same_chips net chips) u.chip) t
reg-term net chips i u t board e r a =
    let y = among-map (literals_of net (units_from 0 chips) u.chip) t u.cell.terms a in
    let there : Among (literals_of net (units_from 0 chips) u.chip y.0) (old_terms (board_of net (units_from 0 chips)) u) = map-among (literals_of net (units_from 0 chips) u.chip) y.0 u.cell.terms y.1 in
    subst (ProductFits (board_of net (units_from 0 chips)) (chip_at (same_chips net chips) u.chip)) (sym y.2)
    (unit-product net chips u y.0 board r.pal (r.cell.terms_lits y.0 y.1) (reg-products net chips i u (literals_of net (units_from 0 chips) u.chip y.0) board e r there))

-- the board that is built stands for the old one

board-driver : (net : Net) (chips : List ChipCells) (u : ChipUnit) → IsPalBoard net chips → Among u (units_from 0 chips) →
    DriverFits (board_of net (units_from 0 chips)) (same_chips net chips) (board_old net chips) (driver_of net (units_from 0 chips) u)
    (driver_of (rebuilt_net (board_of net (units_from 0 chips)) (same_chips net chips)) (rebuilt_units (board_of net (units_from 0 chips)) (same_chips net chips))
    (rebuilt_unit (board_of net (units_from 0 chips)) (same_chips net chips) u))
board-driver net chips u board a = at (unit-cases net chips u board.pals a)
  where
    at : IsCombUnit net chips u ⊎ IsRegUnit net chips u →
        DriverFits (board_of net (units_from 0 chips)) (same_chips net chips) (board_old net chips) (driver_of net (units_from 0 chips) u)
        (driver_of (rebuilt_net (board_of net (units_from 0 chips)) (same_chips net chips)) (rebuilt_units (board_of net (units_from 0 chips)) (same_chips net chips))
        (rebuilt_unit (board_of net (units_from 0 chips)) (same_chips net chips) u))
    at (inl c) =
        let i = get-among u (units_from 0 chips) a in
        let fit = board-units net chips board in
        comb-drives net (units_from 0 chips) (same_chips net chips) (board_old net chips) i.0 u fit i.1
        (board-pins net chips u.chip (chip_at (same_chips net chips) u.chip) board (fit.chip u a)) (board-comb net chips i.0 u board i.1 c)
    at (inr r) =
        let i = get-among u (units_from 0 chips) a in
        reg-drives net chips (board_old net chips) i.0 u (kept-numbers (board_of net (units_from 0 chips)) (same_chips net chips)) (board-units net chips board) (reg-stands net chips i.0 u board i.1 r)

pub board-register : (net : Net) (chips : List ChipCells) (u : ChipUnit) → IsPalBoard net chips → Among u (registers_of (units_from 0 chips)) →
    RegisterFits (board_of net (units_from 0 chips)) (same_chips net chips) (board_old net chips) (register_of net (units_from 0 chips) u)
    (register_of (rebuilt_net (board_of net (units_from 0 chips)) (same_chips net chips)) (rebuilt_units (board_of net (units_from 0 chips)) (same_chips net chips))
    (rebuilt_unit (board_of net (units_from 0 chips)) (same_chips net chips) u))
board-register net chips u board a =
    let units = units_from 0 chips in
    let kept = among-unfilter is_registered u units a in
    let i = get-among u units kept.0 in
    let r = reg-unit net chips u board.pals kept.0 kept.1 in
    let fit = board-units net chips board in
    let h = register-chip net chips i.0 u board r.pal i.1 kept.1 in
    reg-takes net chips (board_old net chips) i.0 u r.pal.line (kept-numbers (board_of net units) (same_chips net chips)) fit (reg-stands net chips i.0 u board i.1 r) h (unit-chip_at net chips u r.pal)
    (board-pins net chips u.chip (chip_at (same_chips net chips) u.chip) board (fit.chip u kept.0)) (λ t k. reg-term net chips i.0 u t board i.1 r k)
    (clock-pin net chips u.chip r.pal.line u.cells h)

pub board-fits : (net : Net) (chips : List ChipCells) → IsPalBoard net chips → BoardFits net (units_from 0 chips) (same_chips net chips) (board_old net chips)
board-fits net chips board = record {
  numbers = kept-numbers (board_of net (units_from 0 chips)) (same_chips net chips);
  units_fit = board-units net chips board;
  drivers = λ u a. board-driver net chips u board a;
  registered = λ u a. board-registered net chips u board a;
  registers = λ u a. board-register net chips u board a;
  aliases = λ stored inputs l sl. aliases-fit (circuit_on net (units_from 0 chips)) stored inputs l board.fixed sl;
  ports = kept-ports (board_of net (units_from 0 chips)) (same_chips net chips);
  ports_named = λ n a.
      let r = places-get is_port 2 (rebuilt_net (board_of net (units_from 0 chips)) (same_chips net chips)).nets n a in
      let low : n - 2 < length (rebuilt_net (board_of net (units_from 0 chips)) (same_chips net chips)).nets = slice_get_within _ (n - 2) r.0 r.1 in
      let named : 2 ≤ n = r.3 in
      omega arith;
}

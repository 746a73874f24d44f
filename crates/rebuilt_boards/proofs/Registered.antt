-- A registered unit of a new chip drives the level of its old unit, and its register takes what the old one takes.
use Rattle.std.proofs.Common.{ℕ, ◌≡◌, ◌≤◌, Bool, false, cond, List, [], ◌∷◌, ◌++◌, map, Option, Some, refl, sym, ap, ◌∙◌, subst, eqb, ne_eqb, arith}
use Rattle.std.specs.List.{slice_get, AllByRecursion}
use Rattle.std.specs.Option.{option_map}
use Rattle.std.proofs.lemmas.Option.{slice_get-map}
use Rattle.mig_base.specs.declared.levels.Level.{Level}
use Rattle.mig_base.specs.declared.levels.Level.TheVariants.{Zero, One}
use Rattle.mig_base.specs.declared.kinds.Kind.{Kind}
use Rattle.mig_base.specs.declared.kinds.Kind.TheVariants.{Gal16V8}
use Rattle.mig_base.specs.declared.cells.Enable.TheVariants as enable
use Rattle.mig_base.specs.declared.cells.Form.TheVariants as form
use Rattle.mig_base.specs.declared.cells.Cell.{Cell}
use Rattle.mig_base.specs.declared.cells.ChipCells.{ChipCells}
use Rattle.mig_base.specs.declared.nets.Net.{Net}
use Rattle.mig_base.specs.declared.nets.ChipLine.{ChipLine}
use Rattle.mig_base.specs.declared.circuit.Read.{Read}
use Rattle.mig_base.specs.declared.circuit.Read.TheVariants.{OfNet, OfRegister}
use Rattle.mig_base.specs.declared.circuit.Literal.{Literal}
use Rattle.mig_base.specs.declared.circuit.Gate.{Gate}
use Rattle.mig_base.specs.declared.circuit.Gate.TheVariants.{Never, Product}
use Rattle.mig_base.specs.declared.circuit.Gives.TheVariants.{Visible}
use Rattle.mig_base.specs.declared.circuit.Driver.{Driver}
use Rattle.mig_base.specs.declared.circuit.Register.{Register}
use Rattle.mig_base.specs.declared.circuit.Levels.{Levels}
use Rattle.mig_base.specs.Among.{Among}
use Rattle.mig_base.specs.Values.{row_value, row_reads, sum_reads, inverted}
use Rattle.mig_base.specs.Levels.{read_level, not3, and3, or3, level_at}
use Rattle.mig_base.specs.DeviceTables.{enable_pin, is_22}
use Rattle.mig_base.specs.Boards.{At, ChipUnit, at_of, place_of, net_of, is_registered, registers_of, low_pin, row_on, can_drive, driver_of, register_of, units_from, circuit_on}
use Rattle.mig_base.specs.Structure.{variable_product, variable_gate}
use Rattle.mig_base.proofs.ListLaws.{all-append}
use Rattle.mig_base.proofs.Amongs.{among-get}
use Rattle.level_laws.specs.Settled.{gated}
use Rattle.level_laws.specs.Follows.{SameAt}
use Rattle.level_laws.proofs.Unique.{all_left, all_right}
use Rattle.new_board.specs.NewChip.{OldBoard, NewChip, unit_on, register_driven, placed_register, first_registered}
use Rattle.new_board.specs.declared.types.PlacedUnit.{PlacedUnit}
use Rattle.new_board.specs.NewFiles.{new_enable, new_terms, new_row, pin_low_of, cell_by, cell_of, new_cell, new_cells, reset_gate, preset_gate}
use Rattle.new_board.specs.OneForOne.{terms_over, old_rows, same_chip, same_chips}
use Rattle.new_board.proofs.Items.{filter-map}
use Rattle.rebuilt_boards.proofs.RebuiltCircuit.{board_of, chip_at, rebuilt_unit, rebuilt_units, rebuilt-at, UnitsFit, IsPin, pin-old, pin-wire}
use Rattle.new_board.proofs.NewWiring.{rebuilt_net, NumbersFit}
use Rattle.rebuilt_boards.proofs.RebuiltFollows.{old_read, IsKept, DriverFits, RegisterFits}
use Rattle.rebuilt_boards.proofs.Combinational.{PinsFit, ProductFits, old_terms, rebuilt_terms, terms-value, terms-all, pins-kept, net-kept}
use Rattle.rebuilt_boards.proofs.PalUnits.{ArePals, IsPalUnit, pal-unit}
use Rattle.rebuilt_boards.proofs.RegisterUnits.{IsRegUnit, reg-registered, reg-driver, register_number, register-get}
use Rattle.rebuilt_boards.proofs.OldRows.{old-reg}
use Rattle.new_board.proofs.EnablePins.{complement}
use Rattle.rebuilt_boards.proofs.EnablePins.{HasRegister, first-reg, SameConstants, Grounds, Powers, Neither}

-- low-active enable pins

pub low-high : (n : ℕ) → 2 ≤ n → low_pin n ≡ Product (complement n ∷ [])
low-high n h =
    let zero_no : eqb n 0 ≡ false = ne_eqb n 0 (λ e. omega arith) in
    let one_no : eqb n 1 ≡ false = ne_eqb n 1 (λ e. omega arith) in
    ap (λ (q : Bool). cond q (Product []) (cond (eqb n 1) Never (Product (complement n ∷ [])))) zero_no ∙ ap (λ (q : Bool). cond q Never (Product (complement n ∷ []))) one_no

pub low-drive : (n m : ℕ) → SameConstants n m → can_drive (low_pin m) ≡ can_drive (low_pin n)
low-drive n m (Grounds e f) = ap (λ (k : ℕ). can_drive (low_pin k)) (f ∙ sym e)
low-drive n m (Powers e f) = ap (λ (k : ℕ). can_drive (low_pin k)) (f ∙ sym e)
low-drive n m (Neither e f) = ap can_drive (low-high m f) ∙ sym (ap can_drive (low-high n e))

pub low-all : (P : Read → Type 0) (n m : ℕ) → SameConstants n m → P (OfNet m) → AllByRecursion P (row_reads (low_pin m))
low-all P n m (Grounds e f) h = subst (λ (k : ℕ). AllByRecursion P (row_reads (low_pin k))) (sym f) tt
low-all P n m (Powers e f) h = subst (λ (k : ℕ). AllByRecursion P (row_reads (low_pin k))) (sym f) tt
low-all P n m (Neither e f) h = subst (λ (g : Gate). AllByRecursion P (row_reads g)) (sym (low-high m f)) (h, tt)

low-value : (l k : Levels) (n m : ℕ) → SameConstants n m → (P : Read → Type 0) → (P (OfNet m) → level_at l.nets n ≡ level_at k.nets m) → AllByRecursion P (row_reads (low_pin m)) →
    row_value l (low_pin n) ≡ row_value k (low_pin m)
low-value l k n m (Grounds e f) P same reads = ap (λ (i : ℕ). row_value l (low_pin i)) e ∙ sym (ap (λ (i : ℕ). row_value k (low_pin i)) f)
low-value l k n m (Powers e f) P same reads = ap (λ (i : ℕ). row_value l (low_pin i)) e ∙ sym (ap (λ (i : ℕ). row_value k (low_pin i)) f)
low-value l k n m (Neither e f) P same reads =
    let there : AllByRecursion P (row_reads (Product (complement m ∷ []))) = subst (λ (g : Gate). AllByRecursion P (row_reads g)) (low-high m f) reads in
    ap (row_value l) (low-high n e) ∙ ap (λ (a : Level). and3 (not3 (read_level a)) One) (same there.0) ∙ sym (ap (row_value k) (low-high m f))

-- the cell that becomes of a registered unit
abbrev pub reg_made : OldBoard → NewChip → ChipUnit → Cell
reg_made b chip u = record { pin = u.cell.pin; form = form.Reg; low = u.cell.low; pin_low = u.cell.pin_low; enable = enable.LowPin 11; terms = new_terms b chip (terms_over b.circuit (old_terms b u)) }

-- its rows over variables
abbrev pub reg_rows : OldBoard → ℕ → ℕ → ChipUnit → PlacedUnit
reg_rows b pin i u = record {
  pin = pin;
  unit = i;
  low = u.cell.low;
  terms = terms_over b.circuit (old_terms b u);
  enable = variable_gate b.circuit (low_pin (net_of b.net (u.chip, 11)));
  reset = variable_gate b.circuit (register_of b.net b.units u).reset;
  preset = variable_gate b.circuit (register_of b.net b.units u).preset;
}

pub registered-driver : (net : Net) (chips : List ChipCells) (i : ℕ) (u : ChipUnit) → slice_get (units_from 0 chips) i ≡ Some u → IsRegUnit net chips u →
    slice_get (circuit_on net (units_from 0 chips)).units i
    ≡ Some (record { enable = low_pin (net_of net (u.chip, 11)); gives = Visible (register_number (units_from 0 chips) (at_of u)); low = u.cell.pin_low })
registered-driver net chips i u e r =
    let units = units_from 0 chips in
    slice_get-map (driver_of net units) units i ∙ ap (option_map (driver_of net units)) e ∙ ap (λ (d : Driver). Some d) (reg-driver net chips u r)

pub reg-cell : (net : Net) (chips : List ChipCells) (chip : NewChip) (i : ℕ) (u : ChipUnit) → ArePals net.chips chips → IsRegUnit net chips u →
    unit_on chip.units u.cell.pin ≡ Some (old_rows (circuit_on net (units_from 0 chips)) u.cell.pin i) →
    slice_get (units_from 0 chips) i ≡ Some u → chip.kind ≡ Gal16V8 → new_cell (board_of net (units_from 0 chips)) chip u.cell.pin ≡ reg_made (board_of net (units_from 0 chips)) chip u
reg-cell net chips chip i u pals r on e kind =
    let units = units_from 0 chips in
    let b = board_of net units in
    let pin = u.cell.pin in
    let k = register_number units (at_of u) in
    let gate = variable_gate b.circuit (low_pin (net_of net (u.chip, 11))) in
    let driver = registered-driver net chips i u e r in
    let register = register-get net chips u pals (among-get units i u e) (reg-registered net chips u r) in
    ap (cell_of b chip pin) on
    ∙ ap (λ (x : PlacedUnit). cell_by b chip pin x (placed_register b.circuit x)) (old-reg b.circuit pin i k _ _ driver refl register)
    ∙ ap (λ (o : Option Driver). cell_by b chip pin (reg_rows b pin i u) (register_driven o)) driver
    ∙ ap (λ (o : Option Driver). let c : Cell = record {
      pin = pin;
      form = form.Reg;
      low = u.cell.low;
      pin_low = pin_low_of o;
      enable = cond (is_22 chip.kind) (new_enable b chip gate) (enable.LowPin (enable_pin chip.kind));
      terms = new_terms b chip (terms_over b.circuit (old_terms b u));
    } in c) driver
    ∙ ap (λ (k : Kind). let c : Cell = record {
      pin = pin;
      form = form.Reg;
      low = u.cell.low;
      pin_low = u.cell.pin_low;
      enable = cond (is_22 k) (new_enable b chip gate) (enable.LowPin (enable_pin k));
      terms = new_terms b chip (terms_over b.circuit (old_terms b u));
    } in c) kind

-- the registers keep their numbers

ats-same : (b : OldBoard) (news : List NewChip) (us : List ChipUnit) → map at_of (map (rebuilt_unit b news) us) ≡ map at_of us
ats-same b news [] = refl
ats-same b news (u ∷ us) =
    ap (λ (q : At). q ∷ map at_of (map (rebuilt_unit b news) us)) (rebuilt-at b news u) ∙ ap (λ (qs : List At). at_of u ∷ qs) (ats-same b news us)

pub number-same : (b : OldBoard) (news : List NewChip) (q : At) → ((u : ChipUnit) → Among u b.units → is_registered (rebuilt_unit b news u) ≡ is_registered u) →
    register_number (rebuilt_units b news) q ≡ register_number b.units q
number-same b news q h =
    ap (λ (us : List ChipUnit). place_of q (map at_of us)) (filter-map is_registered is_registered (rebuilt_unit b news) b.units h)
    ∙ ap (place_of q) (ats-same b news (registers_of b.units))

-- a registered unit with its new chip, on a board whose units keep their forms
pub record RegStands (net : Net) (chips : List ChipCells) (old : ℕ → ℕ) (i : ℕ) (u : ChipUnit) : Type 0 where
  pub pals : ArePals net.chips chips
  pub found : slice_get (units_from 0 chips) i ≡ Some u
  pub unit : IsRegUnit net chips u
  pub cell : new_cell (board_of net (units_from 0 chips)) (chip_at (same_chips net chips) u.chip) u.cell.pin
      ≡ reg_made (board_of net (units_from 0 chips)) (chip_at (same_chips net chips) u.chip) u
  pub registered : (w : ChipUnit) → Among w (units_from 0 chips) → is_registered (rebuilt_unit (board_of net (units_from 0 chips)) (same_chips net chips) w) ≡ is_registered w
  pub enable : IsPin (board_of net (units_from 0 chips)) (same_chips net chips) (u.chip, 11) (net_of net (u.chip, 11))
  pub constants : SameConstants (net_of net (u.chip, 11)) (net_of (rebuilt_net (board_of net (units_from 0 chips)) (same_chips net chips)) (u.chip, 11))

pub new-reg_driver : (net : Net) (chips : List ChipCells) (old : ℕ → ℕ) (i : ℕ) (u : ChipUnit) → RegStands net chips old i u →
    driver_of (rebuilt_net (board_of net (units_from 0 chips)) (same_chips net chips)) (rebuilt_units (board_of net (units_from 0 chips)) (same_chips net chips))
    (rebuilt_unit (board_of net (units_from 0 chips)) (same_chips net chips) u)
    ≡ record {
      enable = low_pin (net_of (rebuilt_net (board_of net (units_from 0 chips)) (same_chips net chips)) (u.chip, 11));
      gives = Visible (register_number (units_from 0 chips) (at_of u));
      low = u.cell.pin_low;
    }
new-reg_driver net chips old i u s =
    let b = board_of net (units_from 0 chips) in
    let news = same_chips net chips in
    ap (λ (c : Cell). driver_of (rebuilt_net b news) (rebuilt_units b news) (record { chip = u.chip; cells = new_cells b (chip_at news u.chip); cell = c })) s.cell
    ∙ ap (λ (k : ℕ). record { enable = low_pin (net_of (rebuilt_net b news) (u.chip, 11)); gives = Visible k; low = u.cell.pin_low }) (number-same b news (at_of u) s.registered)

pub reg-drives : (net : Net) (chips : List ChipCells) (old : ℕ → ℕ) (i : ℕ) (u : ChipUnit) → NumbersFit (board_of net (units_from 0 chips)) (same_chips net chips) old →
    UnitsFit (board_of net (units_from 0 chips)) (same_chips net chips) → RegStands net chips old i u →
    DriverFits (board_of net (units_from 0 chips)) (same_chips net chips) old (driver_of net (units_from 0 chips) u)
    (driver_of (rebuilt_net (board_of net (units_from 0 chips)) (same_chips net chips)) (rebuilt_units (board_of net (units_from 0 chips)) (same_chips net chips))
    (rebuilt_unit (board_of net (units_from 0 chips)) (same_chips net chips) u))
reg-drives net chips old i u numbers fit s =
    let units = units_from 0 chips in
    let b = board_of net units in
    let news = same_chips net chips in
    let n = net_of net (u.chip, 11) in
    let m = net_of (rebuilt_net b news) (u.chip, 11) in
    let k = register_number units (at_of u) in
    subst (λ (d : Driver). DriverFits b news old d (driver_of (rebuilt_net b news) (rebuilt_units b news) (rebuilt_unit b news u))) (sym (reg-driver net chips u s.unit))
    (subst (DriverFits b news old (record { enable = low_pin n; gives = Visible k; low = u.cell.pin_low })) (sym (new-reg_driver net chips old i u s))
    (record {
      reads = all-append (IsKept b news old) (row_reads (low_pin m)) (OfRegister k ∷ []) (low-all (IsKept b news old) n m s.constants (net-kept b news old u.chip 11 n numbers fit s.enable)) (tt, tt);
      level = λ l j aliases same.
          let enable_reads = all_left (SameAt (old_read b news old) l j) (row_reads (low_pin m)) (OfRegister k ∷ []) same in
          let gives_reads = all_right (SameAt (old_read b news old) l j) (row_reads (low_pin m)) (OfRegister k ∷ []) same in
          ap (λ (a : Level). gated a (inverted u.cell.pin_low (level_at l.visible k)))
          (low-value l j n m s.constants (SameAt (old_read b news old) l j) (λ h. ap (level_at l.nets) (sym (pin-old b news old (u.chip, 11) n numbers s.enable)) ∙ h) enable_reads)
          ∙ ap (λ (a : Level). gated (row_value j (low_pin m)) (inverted u.cell.pin_low a)) gives_reads.0;
    }))

-- the rows of a PAL's resets are constant 0

pub pal-reset : (net : Net) (chips : List ChipCells) (units : List ChipUnit) (u : ChipUnit) → IsPalUnit net chips u → row_on net units u.chip u.cells.reset ≡ Never
pal-reset net chips units u p = ap (λ (c : ChipCells). row_on net units u.chip c.reset) p.chip.cells_are

pub pal-preset : (net : Net) (chips : List ChipCells) (units : List ChipUnit) (u : ChipUnit) → IsPalUnit net chips u → row_on net units u.chip u.cells.preset ≡ Never
pal-preset net chips units u p = ap (λ (c : ChipCells). row_on net units u.chip c.preset) p.chip.cells_are

-- the register of a registered unit
old-register : (net : Net) (chips : List ChipCells) (u : ChipUnit) → IsPalUnit net chips u →
    register_of net (units_from 0 chips) u ≡ record { clock = net_of net (u.chip, 1); terms = old_terms (board_of net (units_from 0 chips)) u; low = u.cell.low; reset = Never; preset = Never }
old-register net chips u p =
    let units = units_from 0 chips in
    let terms = old_terms (board_of net units) u in
    ap (λ (g : Gate). record { clock = net_of net (u.chip, 1); terms = terms; low = u.cell.low; reset = g; preset = row_on net units u.chip u.cells.preset }) (pal-reset net chips units u p)
    ∙ ap (λ (g : Gate). record { clock = net_of net (u.chip, 1); terms = terms; low = u.cell.low; reset = Never; preset = g }) (pal-preset net chips units u p)

-- the new register, where no register of the chip is reset or preset
pub new-register : (net : Net) (chips : List ChipCells) (old : ℕ → ℕ) (i : ℕ) (u : ChipUnit) (line : ChipLine) → RegStands net chips old i u → HasRegister net chips u.chip line u.cells →
    chip_at (same_chips net chips) u.chip ≡ same_chip (board_of net (units_from 0 chips)) u.chip line u.cells →
    register_of (rebuilt_net (board_of net (units_from 0 chips)) (same_chips net chips)) (rebuilt_units (board_of net (units_from 0 chips)) (same_chips net chips))
    (rebuilt_unit (board_of net (units_from 0 chips)) (same_chips net chips) u)
    ≡ record {
      clock = net_of (rebuilt_net (board_of net (units_from 0 chips)) (same_chips net chips)) (u.chip, 1);
      terms = rebuilt_terms (board_of net (units_from 0 chips)) (same_chips net chips) u.chip (chip_at (same_chips net chips) u.chip) (old_terms (board_of net (units_from 0 chips)) u);
      low = u.cell.low;
      reset = Never;
      preset = Never;
    }
new-register net chips old i u line s h is =
    let units = units_from 0 chips in
    let b = board_of net units in
    let news = same_chips net chips in
    let chip = chip_at news u.chip in
    let new = rebuilt_net b news in
    let made = rebuilt_units b news in
    let first : first_registered b.circuit chip ≡ Some h.first = ap (first_registered b.circuit) is ∙ h.first_is in
    let rows = first-reg net chips u.chip line u.cells h in
    let p = pal-unit net chips h.unit.unit s.pals (among-get units h.first.unit h.unit.unit h.unit.found) in
    let reset : reset_gate (first_registered b.circuit chip) ≡ Never =
    ap reset_gate first ∙ ap (λ (x : PlacedUnit). x.reset) rows ∙ ap (variable_gate b.circuit) (pal-reset net chips units h.unit.unit p) in
    let preset : preset_gate (first_registered b.circuit chip) ≡ Never =
    ap preset_gate first ∙ ap (λ (x : PlacedUnit). x.preset) rows ∙ ap (variable_gate b.circuit) (pal-preset net chips units h.unit.unit p) in
    ap (λ (c : Cell). register_of new made (record { chip = u.chip; cells = new_cells b chip; cell = c })) s.cell
    ∙ ap (λ (g : Gate). record {
      clock = net_of new (u.chip, 1);
      terms = rebuilt_terms b news u.chip chip (old_terms b u);
      low = u.cell.low;
      reset = row_on new made u.chip (new_row b chip g);
      preset = row_on new made u.chip (new_row b chip (preset_gate (first_registered b.circuit chip)));
    }) reset
    ∙ ap (λ (g : Gate). record {
      clock = net_of new (u.chip, 1);
      terms = rebuilt_terms b news u.chip chip (old_terms b u);
      low = u.cell.low;
      reset = Never;
      preset = row_on new made u.chip (new_row b chip g);
    }) preset

-- it takes what the old register takes
pub reg-takes : (net : Net) (chips : List ChipCells) (old : ℕ → ℕ) (i : ℕ) (u : ChipUnit) (line : ChipLine) → NumbersFit (board_of net (units_from 0 chips)) (same_chips net chips) old →
    UnitsFit (board_of net (units_from 0 chips)) (same_chips net chips) → RegStands net chips old i u → HasRegister net chips u.chip line u.cells →
    chip_at (same_chips net chips) u.chip ≡ same_chip (board_of net (units_from 0 chips)) u.chip line u.cells →
    PinsFit (board_of net (units_from 0 chips)) (same_chips net chips) old u.chip (chip_at (same_chips net chips) u.chip) →
    ((t : List Literal) → Among t (old_terms (board_of net (units_from 0 chips)) u) → ProductFits (board_of net (units_from 0 chips)) (chip_at (same_chips net chips) u.chip) t) →
    IsPin (board_of net (units_from 0 chips)) (same_chips net chips) (u.chip, 1) (net_of net (u.chip, 1)) →
    RegisterFits (board_of net (units_from 0 chips)) (same_chips net chips) old (register_of net (units_from 0 chips) u)
    (register_of (rebuilt_net (board_of net (units_from 0 chips)) (same_chips net chips)) (rebuilt_units (board_of net (units_from 0 chips)) (same_chips net chips))
    (rebuilt_unit (board_of net (units_from 0 chips)) (same_chips net chips) u))
reg-takes net chips old i u line numbers fit s h is pins fits clock =
    let units = units_from 0 chips in
    let b = board_of net units in
    let news = same_chips net chips in
    let chip = chip_at news u.chip in
    let terms = rebuilt_terms b news u.chip chip (old_terms b u) in
    subst (λ (r : Register). RegisterFits b news old r (register_of (rebuilt_net b news) (rebuilt_units b news) (rebuilt_unit b news u))) (sym (old-register net chips u s.unit.pal))
    (subst (RegisterFits b news old (record { clock = net_of net (u.chip, 1); terms = old_terms b u; low = u.cell.low; reset = Never; preset = Never })) (sym (new-register net chips old i u line s h is))
    (record {
      resets = tt;
      reads = all-append (IsKept b news old) (sum_reads terms ++ []) [] (all-append (IsKept b news old) (sum_reads terms) []
          (terms-all b news u.chip chip (IsKept b news old) (old_terms b u) fits (λ t a. pins-kept b news old u.chip chip (variable_product b.circuit t) pins)) tt) tt;
      reset = λ l j aliases same. refl;
      next = λ l j aliases same.
          ap (λ (a : Level). and3 (or3 (inverted u.cell.low a) Zero) (not3 Zero))
          (terms-value b news old u.chip chip l j pins aliases (old_terms b u) fits (all_left (SameAt (old_read b news old) l j) (sum_reads terms) [] (all_left (SameAt (old_read b news old) l j) (sum_reads terms ++ []) [] same)));
      clock = pin-wire b news old (u.chip, 1) (net_of net (u.chip, 1)) numbers fit clock;
    }))

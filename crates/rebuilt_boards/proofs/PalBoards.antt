-- Boards of PAL16 chips: the units and the pins of the chips that are built for them.
use Rattle.std.proofs.Common.{ℕ, zero, suc, ◌≡◌, ◌<◌, ◌≤◌, true, false, List, Some, None, refl, sym, ap, ◌∙◌, subst, inl, inr, ◌⊎◌, arith}
use Rattle.std.specs.List.{slice_get}
use Rattle.mig_base.specs.declared.kinds.Kind.TheVariants.{Gal16V8}
use Rattle.mig_base.specs.declared.cells.Cell.{Cell}
use Rattle.mig_base.specs.declared.cells.ChipCells.{ChipCells}
use Rattle.mig_base.specs.declared.nets.Net.{Net}
use Rattle.mig_base.specs.declared.nets.ChipLine.{ChipLine}
use Rattle.mig_base.specs.declared.circuit.Read.{Read}
use Rattle.mig_base.specs.declared.circuit.Read.TheVariants.{OfNet}
use Rattle.mig_base.specs.declared.circuit.Gate.{Gate}
use Rattle.mig_base.specs.declared.circuit.Driver.{Driver}
use Rattle.mig_base.specs.declared.circuit.Wire.{Wire}
use Rattle.mig_base.specs.Accepted.{is_fixed}
use Rattle.mig_base.specs.Among.{Among}
use Rattle.mig_base.specs.Values.{row_reads}
use Rattle.mig_base.specs.WellFormed.{is_reg}
use Rattle.mig_base.specs.Boards.{ChipUnit, net_of, is_registered, low_pin, can_drive, driver_of, makes_unit, units_from, circuit_on}
use Rattle.mig_base.specs.Structure.{alias_of, alias_only}
use Rattle.mig_base.proofs.Amongs.{among-get}
use Rattle.new_board.specs.NewChip.{NewChip}
use Rattle.new_board.specs.NewFiles.{new_cell}
use Rattle.new_board.specs.OneForOne.{same_chip, same_chips}
use Rattle.taken_boards.specs.TakenBoards.{is_undriven}
use Rattle.new_board.proofs.Items.{get-among}
use Rattle.new_board.proofs.Wiring.{LinesFit}
use Rattle.rebuilt_boards.proofs.RebuiltCircuit.{board_of, chip_at, rebuilt_unit, rebuilt_units}
use Rattle.new_board.proofs.NewWiring.{rebuilt_net, kept_of}
use Rattle.rebuilt_boards.proofs.Combinational.{comb_made, comb-cell, comb-enabled}
use Rattle.rebuilt_boards.proofs.PalCells.{pal16-table}
use Rattle.rebuilt_boards.proofs.PalUnits.{ArePals, IsPalChip, IsPalUnit, unit-chip_at, unit-on, UnitsStay}
use Rattle.rebuilt_boards.proofs.Undriven.{IsUndriven, NamesFit}
use Rattle.rebuilt_boards.proofs.Undriven.{wire-undriven}
use Rattle.new_board.proofs.KeptNumbers.{old_kept, kept-numbers}
use Rattle.rebuilt_boards.proofs.AliasNets.{FixedFit}
use Rattle.rebuilt_boards.proofs.RegisterUnits.{IsCombUnit, IsRegUnit, unit-cases, comb-unregistered, reg-registered, comb-of, reg-driver, first-is, first-rows, first-found}
use Rattle.rebuilt_boards.proofs.EnablePins.{HasRegister, enable-pin, same-constants}
use Rattle.rebuilt_boards.proofs.Registered.{low-high, reg_made, reg-cell, RegStands, new-reg_driver, low-drive}
use Rattle.rebuilt_boards.proofs.PalReads.{IsChip, holds-units}

-- a board of PAL16 chips: no Input port and no constant net has a driver, each clock net is such a net, and no enable reads a net that has a driver
pub record IsPalBoard (net : Net) (chips : List ChipCells) : Type 0 where
  pub pals : ArePals net.chips chips
  pub lines : LinesFit net
  pub names : NamesFit net
  pub fixed : FixedFit (circuit_on net (units_from 0 chips))
  pub clocks : (u : ChipUnit) → Among u (units_from 0 chips) → is_registered u ≡ true →
      (w : Wire) × (slice_get (circuit_on net (units_from 0 chips)).nets (net_of net (u.chip, 1)) ≡ Some w) × (is_fixed w.kind ≡ true)
  pub enables : (u : ChipUnit) → Among u (units_from 0 chips) → (v : Read) → Among v (row_reads (driver_of net (units_from 0 chips) u).enable) →
      is_undriven (circuit_on net (units_from 0 chips)) v ≡ true

constants-plain : (net : Net) (units : List ChipUnit) (n : ℕ) → FixedFit (circuit_on net units) → n < 2 → alias_of (circuit_on net units) n ≡ None
constants-plain net units zero fixed h = ap (alias_only (circuit_on net units)) (fixed 0 _ refl refl)
constants-plain net units (suc zero) fixed h = ap (alias_only (circuit_on net units)) (fixed 1 _ refl refl)
constants-plain net units (suc (suc n)) fixed h = absurd (omega arith)

constants-undriven : (net : Net) (units : List ChipUnit) (n : ℕ) → FixedFit (circuit_on net units) → n < 2 → IsUndriven (circuit_on net units) n
constants-undriven net units zero fixed h = record { wire = _; found = refl; none = fixed 0 _ refl refl }
constants-undriven net units (suc zero) fixed h = record { wire = _; found = refl; none = fixed 1 _ refl refl }
constants-undriven net units (suc (suc n)) fixed h = absurd (omega arith)

pub board-chip : (net : Net) (chips : List ChipCells) (j : ℕ) (line : ChipLine) (cells : ChipCells) → IsPalBoard net chips → slice_get net.chips j ≡ Some line → slice_get chips j ≡ Some cells → IsPalChip line cells →
    IsChip net chips j line cells
board-chip net chips j line cells board line_is cells_is pal = record {
  pals = board.pals;
  lines = board.lines;
  names = board.names;
  line_is = line_is;
  cells_is = cells_is;
  pal = pal;
  constants = λ n h. constants-plain net (units_from 0 chips) n board.fixed h;
}

pub unit-board_chip : (net : Net) (chips : List ChipCells) (u : ChipUnit) → IsPalBoard net chips → (p : IsPalUnit net chips u) → IsChip net chips u.chip p.line u.cells
unit-board_chip net chips u board p = board-chip net chips u.chip p.line u.cells board p.line_is p.cells_is p.chip

-- the net of the enable pin of a registered unit
pub enable-undriven : (net : Net) (chips : List ChipCells) (u : ChipUnit) → IsPalBoard net chips → Among u (units_from 0 chips) → IsRegUnit net chips u → IsUndriven (circuit_on net (units_from 0 chips)) (net_of net (u.chip, 11))
enable-undriven net chips u board a r = at (net_of net (u.chip, 11)) refl
  where
    reads : (n : ℕ) → 2 ≤ n → Among (OfNet n) (row_reads (low_pin n))
    reads zero h = absurd (omega arith)
    reads (suc zero) h = absurd (omega arith)
    reads (suc (suc n)) h = subst (λ (g : Gate). Among (OfNet (suc (suc n))) (row_reads g)) (sym (low-high (suc (suc n)) h)) (inl refl)

    at : (n : ℕ) → net_of net (u.chip, 11) ≡ n → IsUndriven (circuit_on net (units_from 0 chips)) n
    at zero e = constants-undriven net (units_from 0 chips) 0 board.fixed (omega arith)
    at (suc zero) e = constants-undriven net (units_from 0 chips) 1 board.fixed (omega arith)
    at (suc (suc n)) e =
        let enable : low_pin (suc (suc n)) ≡ (driver_of net (units_from 0 chips) u).enable = sym (ap (λ (d : Driver). d.enable) (reg-driver net chips u r) ∙ ap low_pin e) in
        wire-undriven (circuit_on net (units_from 0 chips)) (suc (suc n)) (board.enables u a (OfNet (suc (suc n))) (subst (λ (g : Gate). Among (OfNet (suc (suc n))) (row_reads g)) enable (reads (suc (suc n)) (omega arith))))

-- a chip that has a registered unit
pub register-chip : (net : Net) (chips : List ChipCells) (i : ℕ) (u : ChipUnit) (board : IsPalBoard net chips) (p : IsPalUnit net chips u) → slice_get (units_from 0 chips) i ≡ Some u → is_registered u ≡ true →
    HasRegister net chips u.chip p.line u.cells
register-chip net chips i u board p e r =
    let units = units_from 0 chips in
    let chip = same_chip (board_of net units) u.chip p.line u.cells in
    let holds = holds-units net chips u.chip p.line u.cells (unit-board_chip net chips u board p) in
    let first = first-found net units u.chip chip u.cell.pin i holds (record { unit = u; found = e; place = refl }) r in
    record {
      pals = board.pals;
      line_is = p.line_is;
      cells_is = p.cells_is;
      pal = p.chip;
      first = first.0;
      unit = first-is net units u.chip chip first.0 holds first.1;
      first_is = first.1;
      rows = first-rows net units u.chip chip first.0 holds first.1;
    }

-- the kind of each new chip
pub new-kind : (net : Net) (chips : List ChipCells) (u : ChipUnit) (p : IsPalUnit net chips u) → (chip_at (same_chips net chips) u.chip).kind ≡ Gal16V8
new-kind net chips u p = ap (λ (c : NewChip). c.kind) (unit-chip_at net chips u p) ∙ (pal16-table p.line.kind p.chip.pal).gal

pub comb-new_cell : (net : Net) (chips : List ChipCells) (u : ChipUnit) → IsPalBoard net chips → (a : Among u (units_from 0 chips)) (c : IsCombUnit net chips u) →
    new_cell (board_of net (units_from 0 chips)) (chip_at (same_chips net chips) u.chip) u.cell.pin
    ≡ comb_made (board_of net (units_from 0 chips)) (chip_at (same_chips net chips) u.chip) u (comb-of net chips u c).lits
comb-new_cell net chips u board a c =
    let i = get-among u (units_from 0 chips) a in
    comb-cell net (units_from 0 chips) (chip_at (same_chips net chips) u.chip) i.0 u (unit-on net chips i.0 u board.pals i.1) i.1 (comb-of net chips u c)

pub reg-new_cell : (net : Net) (chips : List ChipCells) (u : ChipUnit) → IsPalBoard net chips → Among u (units_from 0 chips) → IsRegUnit net chips u →
    new_cell (board_of net (units_from 0 chips)) (chip_at (same_chips net chips) u.chip) u.cell.pin ≡ reg_made (board_of net (units_from 0 chips)) (chip_at (same_chips net chips) u.chip) u
reg-new_cell net chips u board a r =
    let i = get-among u (units_from 0 chips) a in
    reg-cell net chips (chip_at (same_chips net chips) u.chip) i.0 u board.pals r (unit-on net chips i.0 u board.pals i.1) i.1 (new-kind net chips u r.pal)

pub board-registered : (net : Net) (chips : List ChipCells) (u : ChipUnit) → IsPalBoard net chips → Among u (units_from 0 chips) →
    is_registered (rebuilt_unit (board_of net (units_from 0 chips)) (same_chips net chips) u) ≡ is_registered u
board-registered net chips u board a = at (unit-cases net chips u board.pals a)
  where
    at : IsCombUnit net chips u ⊎ IsRegUnit net chips u → is_registered (rebuilt_unit (board_of net (units_from 0 chips)) (same_chips net chips) u) ≡ is_registered u
    at (inl c) = ap (λ (x : Cell). is_reg x.form) (comb-new_cell net chips u board a c) ∙ sym (comb-unregistered net chips u c)
    at (inr r) = ap (λ (x : Cell). is_reg x.form) (reg-new_cell net chips u board a r) ∙ sym (reg-registered net chips u r)

pub board-stay : (net : Net) (chips : List ChipCells) → IsPalBoard net chips → UnitsStay net chips
board-stay net chips board = record { each = λ u a. at u a (unit-cases net chips u board.pals a) }
  where
    at : (u : ChipUnit) → Among u (units_from 0 chips) → IsCombUnit net chips u ⊎ IsRegUnit net chips u →
        makes_unit false (new_cell (board_of net (units_from 0 chips)) (chip_at (same_chips net chips) u.chip) u.cell.pin).form ≡ true
    at u a (inl c) = ap (λ (x : Cell). makes_unit false x.form) (comb-new_cell net chips u board a c)
    at u a (inr r) = ap (λ (x : Cell). makes_unit false x.form) (reg-new_cell net chips u board a r)

-- a registered unit as it stands on the new board
pub reg-stands : (net : Net) (chips : List ChipCells) (i : ℕ) (u : ChipUnit) (board : IsPalBoard net chips) → slice_get (units_from 0 chips) i ≡ Some u → IsRegUnit net chips u →
    RegStands net chips (old_kept (kept_of (board_of net (units_from 0 chips)) (same_chips net chips))) i u
reg-stands net chips i u board e r =
    let b = board_of net (units_from 0 chips) in
    let news = same_chips net chips in
    let a = among-get (units_from 0 chips) i u e in
    let enable = enable-pin net chips u.chip r.pal.line u.cells (register-chip net chips i u board r.pal e (reg-registered net chips u r)) (λ h. enable-undriven net chips u board a r) in
    record {
      pals = board.pals;
      found = e;
      unit = r;
      cell = reg-new_cell net chips u board a r;
      registered = λ w c. board-registered net chips w board c;
      enable = enable;
      constants = same-constants b news (old_kept (kept_of b news)) (u.chip, 11) (net_of net (u.chip, 11)) (kept-numbers b news) enable;
    }

pub board-enabled : (net : Net) (chips : List ChipCells) (u : ChipUnit) → IsPalBoard net chips → Among u (units_from 0 chips) →
    can_drive (driver_of (rebuilt_net (board_of net (units_from 0 chips)) (same_chips net chips)) (rebuilt_units (board_of net (units_from 0 chips)) (same_chips net chips))
    (rebuilt_unit (board_of net (units_from 0 chips)) (same_chips net chips) u)).enable
    ≡ can_drive (driver_of net (units_from 0 chips) u).enable
board-enabled net chips u board a = at (unit-cases net chips u board.pals a)
  where
    at : IsCombUnit net chips u ⊎ IsRegUnit net chips u →
        can_drive (driver_of (rebuilt_net (board_of net (units_from 0 chips)) (same_chips net chips)) (rebuilt_units (board_of net (units_from 0 chips)) (same_chips net chips))
        (rebuilt_unit (board_of net (units_from 0 chips)) (same_chips net chips) u)).enable
        ≡ can_drive (driver_of net (units_from 0 chips) u).enable
    at (inl c) =
        let i = get-among u (units_from 0 chips) a in
        comb-enabled net (units_from 0 chips) (same_chips net chips) i.0 u (unit-on net chips i.0 u board.pals i.1) i.1 (comb-of net chips u c)
    at (inr r) =
        let i = get-among u (units_from 0 chips) a in
        let b = board_of net (units_from 0 chips) in
        let s = reg-stands net chips i.0 u board i.1 r in
        ap (λ (d : Driver). can_drive d.enable) (new-reg_driver net chips (old_kept (kept_of b (same_chips net chips))) i.0 u s)
        ∙ low-drive (net_of net (u.chip, 11)) (net_of (rebuilt_net b (same_chips net chips)) (u.chip, 11)) s.constants
        ∙ sym (ap (λ (d : Driver). can_drive d.enable) (reg-driver net chips u r))

-- The new chip of a PAL16 can read every literal of the old one.
use Rattle.std.proofs.Common.{ℕ, ◌≡◌, ◌+◌, ◌-◌, ◌<◌, ◌≤◌, Bool, true, false, cond, ◌&&◌, ◌||◌, List, [], ◌∷◌, map, length, Option, Some, None, is_some, refl, sym, ap, ◌∙◌, subst, inl, inr, ◌⊎◌, eqb, eqb-true, eq-eqb, lt-ltb, arith}
use Rattle.std.specs.Prelude.{option_and_then}
use Rattle.std.specs.List.{slice_get, filter}
use Rattle.std.specs.Option.{option_map}
use Rattle.std.proofs.lemmas.Bool.{cases_lt, and_parts}
use Rattle.std.proofs.lemmas.Option.{same_Some, none-some, slice_get_within, slice_get-map}
use Rattle.mig_base.specs.declared.kinds.Kind.{Kind}
use Rattle.mig_base.specs.declared.kinds.Kind.TheVariants.{Gal16V8}
use Rattle.mig_base.specs.declared.kinds.Mode.TheVariants.{Fixed}
use Rattle.mig_base.specs.declared.cells.Source.TheVariants.{Pin, Reg}
use Rattle.mig_base.specs.declared.cells.Lit.{Lit}
use Rattle.mig_base.specs.declared.cells.Form.{Form}
use Rattle.mig_base.specs.declared.nets.Pull.{Pull}
use Rattle.mig_base.specs.declared.circuit.NetKind.{NetKind}
use Rattle.mig_base.specs.declared.cells.ChipCells.{ChipCells}
use Rattle.mig_base.specs.declared.nets.Net.{Net}
use Rattle.mig_base.specs.declared.nets.ChipLine.{ChipLine}
use Rattle.mig_base.specs.declared.circuit.Read.{Read}
use Rattle.mig_base.specs.declared.circuit.Read.TheVariants.{OfNet, OfRegister}
use Rattle.mig_base.specs.declared.circuit.Literal.{Literal}
use Rattle.mig_base.specs.declared.circuit.Gives.{Gives}
use Rattle.mig_base.specs.declared.circuit.Gives.TheVariants.{Sum, Visible}
use Rattle.mig_base.specs.declared.circuit.Driver.{Driver}
use Rattle.mig_base.specs.declared.circuit.Wire.{Wire}
use Rattle.mig_base.specs.declared.circuit.Circuit.{Circuit}
use Rattle.mig_base.specs.First.{made_from, or_else}
use Rattle.mig_base.specs.Among.{Among}
use Rattle.mig_base.specs.DeviceTables.{pair_pins, ordinary_pins, is_ordinary, cell_pins, pal_registers, enable_pin, is_v8, is_22}
use Rattle.mig_base.specs.Cells.{is_among, pal_cell}
use Rattle.mig_base.specs.WellFormed.{is_reg}
use Rattle.mig_base.specs.Boards.{At, ChipUnit, at_of, pins_from, net_of, is_registered, register_of, read_of, literals_of, driver_of, drives, can_drive, places_from, kinds_of, is_unit, makes_unit, units_from, circuit_on}
use Rattle.mig_base.specs.Structure.{same_read, alias_of, or_alias, all_variables, variable_by, variable_literal, variable_of, has_no_driver}
use Rattle.mig_base.proofs.Amongs.{among-get, map-among, any-among, among-any}
use Rattle.mig_base.proofs.ReadLaws.{same-read}
use Rattle.mig_base.proofs.Aliases.{alias-is, IsAlias}
use Rattle.new_board.specs.NewChip.{OldBoard, NewChip, unit_on, unit_net, unit_net_of, placed_register, register_on, first_registered, placed_clock, clock_net, private_from, is_register_of, read_by, is_literal_of, is_read_at, is_read, fixed_net}
use Rattle.new_board.specs.InputPins.{stood_on}
use Rattle.new_board.specs.declared.types.PlacedUnit.{PlacedUnit}
use Rattle.new_board.specs.OneForOne.{old_rows, same_chip}
use Rattle.new_board.proofs.Items.{get-among, among-filter, among-unfilter}
use Rattle.new_board.proofs.Variables.{net-variable, register-variable, among-made_from}
use Rattle.new_board.proofs.Columns.{among-first}
use Rattle.new_board.proofs.Wiring.{LinesFit, among-pins, private-own, wire_of}
use Rattle.new_board.proofs.Reading.{EnableApart, IsFree, Stood, IsWired}
use Rattle.rebuilt_boards.proofs.RebuiltCircuit.{board_of, old-wire}
use Rattle.rebuilt_boards.proofs.Placing.{IsUnitAt}
use Rattle.rebuilt_boards.proofs.PalCells.{IsColumnLit, pal-reg, pal-pin, pal16-table}
use Rattle.rebuilt_boards.proofs.PalUnits.{ArePals, IsPalChip, pal-unit, pal-apart, unit-among, unit-passes, among-of}
use Rattle.rebuilt_boards.proofs.Undriven.{IsUndriven, NamesFit, undriven-variable, undriven-wired, same-pairs, column-ordinary}
use Rattle.rebuilt_boards.proofs.NeededVariables.{LiteralFits, alias-net}
use Rattle.new_board.proofs.KeptNets.{places-get}
use Rattle.rebuilt_boards.proofs.Ranges.{net-within}
use Rattle.rebuilt_boards.proofs.RegisterUnits.{reg-unit, register_number, number_if, unit-register, register-get, HoldsUnits, listed-on, listed-at, on-register, first-is}

-- a chip of such a board
pub record IsChip (net : Net) (chips : List ChipCells) (j : ℕ) (line : ChipLine) (cells : ChipCells) : Type 0 where
  pub pals : ArePals net.chips chips
  pub lines : LinesFit net
  pub names : NamesFit net
  pub line_is : slice_get net.chips j ≡ Some line
  pub cells_is : slice_get chips j ≡ Some cells
  pub pal : IsPalChip line cells
  pub constants : (n : ℕ) → n < 2 → alias_of (circuit_on net (units_from 0 chips)) n ≡ None

pub holds-units : (net : Net) (chips : List ChipCells) (j : ℕ) (line : ChipLine) (cells : ChipCells) → IsChip net chips j line cells → HoldsUnits (circuit_on net (units_from 0 chips)) (units_from 0 chips) j (same_chip (board_of net (units_from 0 chips)) j line cells)
holds-units net chips j line cells c = record { placed = refl; apart = pal-apart net.chips chips c.pals }

-- a chip without registered pins has no registered unit
chip-unregistered : (net : Net) (chips : List ChipCells) (j : ℕ) (line : ChipLine) (cells : ChipCells) → IsChip net chips j line cells → pal_registers line.kind ≡ [] →
    first_registered (circuit_on net (units_from 0 chips)) (same_chip (board_of net (units_from 0 chips)) j line cells) ≡ None
chip-unregistered net chips j line cells c none = at (first_registered (circuit_on net (units_from 0 chips)) (same_chip (board_of net (units_from 0 chips)) j line cells)) refl
  where
    at : (o : Option PlacedUnit) → first_registered (circuit_on net (units_from 0 chips)) (same_chip (board_of net (units_from 0 chips)) j line cells) ≡ o → o ≡ None
    at None e = refl
    at (Some x) e =
        let r = first-is net (units_from 0 chips) j (same_chip (board_of net (units_from 0 chips)) j line cells) x (holds-units net chips j line cells c) e in
        let u = reg-unit net chips r.unit c.pals (among-get (units_from 0 chips) x.unit r.unit r.found) r.registered in
        let lines : u.pal.line ≡ line = same_Some u.pal.line line (sym u.pal.line_is ∙ ap (slice_get net.chips) r.chip ∙ c.line_is) in
        let wrong : true ≡ false = sym u.register ∙ ap (λ (l : ChipLine). is_among (pal_registers l.kind) r.unit.cell.pin) lines ∙ ap (λ (ps : List ℕ). is_among ps r.unit.cell.pin) none in
        cc

pub chip-enable : (net : Net) (chips : List ChipCells) (j : ℕ) (line : ChipLine) (cells : ChipCells) → IsChip net chips j line cells →
    EnableApart (board_of net (units_from 0 chips)) (same_chip (board_of net (units_from 0 chips)) j line cells)
chip-enable net chips j line cells c = record {
  none = λ pin a e.
      let table = pal16-table line.kind c.pal.pal in
      let chip = same_chip (board_of net (units_from 0 chips)) j line cells in
      let test : (is_v8 Gal16V8 && eqb pin (enable_pin Gal16V8)) ≡ true = ap (λ (k : Kind). is_v8 k && eqb pin (enable_pin k)) (sym table.gal) ∙ e in
      let pin_is : pin ≡ 11 = eqb-true pin 11 test in
      let column : Among pin (pair_pins line.kind Fixed) = subst (Among pin) (same-pairs (board_of net (units_from 0 chips)) j line cells c.pal.pal) a in
      chip-unregistered net chips j line cells c (table.enable_apart (among-any (λ p. eqb p 11) pin (pair_pins line.kind Fixed) column (eq-eqb pin 11 pin_is)));
}

-- a pin of a column that is no registered pin, and holds no unit, is free
free-column : (net : Net) (chips : List ChipCells) (j pin : ℕ) (line : ChipLine) (cells : ChipCells) → IsChip net chips j line cells → Among pin (pair_pins line.kind Fixed) →
    unit_on (same_chip (board_of net (units_from 0 chips)) j line cells).units pin ≡ None → IsFree (board_of net (units_from 0 chips)) (same_chip (board_of net (units_from 0 chips)) j line cells) pin
free-column net chips j pin line cells c column none =
    let b = board_of net (units_from 0 chips) in
    let chip = same_chip (board_of net (units_from 0 chips)) j line cells in
    let table = pal16-table line.kind c.pal.pal in
    record {
      column = subst (Among pin) (sym (same-pairs (board_of net (units_from 0 chips)) j line cells c.pal.pal)) column;
      ordinary = subst (λ (k : Kind). Among pin (ordinary_pins k)) (sym table.gal) (column-ordinary line.kind pin c.pal.pal column);
      no_unit = none;
      no_clock = at (eqb pin 1) refl;
    }
  where
    right-false : (q : Bool) → (q && false) ≡ false
    right-false true = refl
    right-false false = refl

    at : (q : Bool) → eqb pin 1 ≡ q → (q && is_some (clock_net (circuit_on net (units_from 0 chips)) (same_chip (board_of net (units_from 0 chips)) j line cells))) ≡ false
    at true e =
        let table = pal16-table line.kind c.pal.pal in
        let clock : clock_net (circuit_on net (units_from 0 chips)) (same_chip (board_of net (units_from 0 chips)) j line cells) ≡ None =
        ap (option_and_then (placed_clock (circuit_on net (units_from 0 chips))))
        (chip-unregistered net chips j line cells c (table.clock_apart (among-any (λ p. eqb p 1) pin (pair_pins line.kind Fixed) column e))) in
        ap (λ (o : Option ℕ). is_some o) clock
    at false e = refl

-- a literal of a net is one of the variable of the net
source-variable : (c : Circuit) (x : Literal) (n : ℕ) → x.source ≡ OfNet n → (variable_literal c x).source ≡ variable_of c n
source-variable c x n e = ap (λ (v : Read). (variable_by c v x).source) e ∙ at (alias_of c n)
  where
    at : (o : Option (ℕ × Bool)) → (or_alias o x).source ≡ (or_alias o (record { source = OfNet n; high = true })).source
    at None = e
    at (Some a) = refl

-- the register of an alias net
alias-register : (net : Net) (chips : List ChipCells) (n : ℕ) (a : ℕ × Bool) → ArePals net.chips chips → alias_of (circuit_on net (units_from 0 chips)) n ≡ Some a →
    Among (OfRegister a.0) (all_variables (circuit_on net (units_from 0 chips)))
alias-register net chips n a pals e =
    let units = units_from 0 chips in
    let c = circuit_on net units in
    let i = alias-is c n a e in
    unit (slice_get units i.unit) refl i (sym (slice_get-map (driver_of net units) units i.unit) ∙ i.unit_is)
  where
    number : (u : ChipUnit) (q : Bool) → is_registered u ≡ q → Among u (units_from 0 chips) → cond q (Visible (register_number (units_from 0 chips) (at_of u))) (Sum (map (literals_of net (units_from 0 chips) u.chip) u.cell.terms)) ≡ Visible a.0 →
        Among (OfRegister a.0) (all_variables (circuit_on net (units_from 0 chips)))
    number u true r h e =
        let same : register_number (units_from 0 chips) (at_of u) ≡ a.0 = visible_same (register_number (units_from 0 chips) (at_of u)) a.0 e in
        subst (λ (k : ℕ). Among (OfRegister k) (all_variables (circuit_on net (units_from 0 chips)))) same
        (register-variable (circuit_on net (units_from 0 chips)) (register_number (units_from 0 chips) (at_of u)) (slice_get_within _ (register_number (units_from 0 chips) (at_of u)) _ (register-get net chips u pals h r)))
      where
        visible_same : (m k : ℕ) → Visible m ≡ Visible k → m ≡ k
        visible_same m k e = ap visible e
          where
            visible : Gives → ℕ
            visible (Sum terms) = 0
            visible (Visible k) = k
    number u false r h e = cc

    unit : (o : Option ChipUnit) → slice_get (units_from 0 chips) (alias-is (circuit_on net (units_from 0 chips)) n a e).unit ≡ o → (i : IsAlias (circuit_on net (units_from 0 chips)) n a) →
        option_map (driver_of net (units_from 0 chips)) o ≡ Some i.driver → Among (OfRegister a.0) (all_variables (circuit_on net (units_from 0 chips)))
    unit None is i f = cc
    unit (Some u) is i f =
        number u (is_registered u) refl (among-get (units_from 0 chips) _ u is)
        (ap (λ (d : Driver). d.gives) (same_Some (driver_of net (units_from 0 chips) u) i.driver f) ∙ i.alias.gives)

-- the variable of a net that is there is a variable
variable-there : (net : Net) (chips : List ChipCells) (n : ℕ) (w : Wire) → ArePals net.chips chips → slice_get (circuit_on net (units_from 0 chips)).nets n ≡ Some w →
    Among (variable_of (circuit_on net (units_from 0 chips)) n) (all_variables (circuit_on net (units_from 0 chips)))
variable-there net chips n w pals e = at (alias_of (circuit_on net (units_from 0 chips)) n) refl
  where
    at : (o : Option (ℕ × Bool)) → alias_of (circuit_on net (units_from 0 chips)) n ≡ o → Among (or_alias o (record { source = OfNet n; high = true })).source (all_variables (circuit_on net (units_from 0 chips)))
    at None is = net-variable (circuit_on net (units_from 0 chips)) n (slice_get_within (circuit_on net (units_from 0 chips)).nets n w e)
    at (Some a) is = alias-register net chips n a pals is

-- the variable of a named net is wired
named-wired : (net : Net) (units : List ChipUnit) (n : ℕ) → n < private_from net → (n < 2 → alias_of (circuit_on net units) n ≡ None) →
    (m : ℕ) × IsWired (board_of net units) (variable_of (circuit_on net units) n) m
named-wired net units n low constant = at (alias_of (circuit_on net units) n) refl
  where
    register : (k m : ℕ) (o : Option (ℕ × Bool)) → is_register_of k o ≡ true → (or_alias o (record { source = OfNet m; high = true })).source ≡ OfRegister k
    register k m None e = cc
    register k m (Some a) e = ap (λ (i : ℕ). OfRegister i) (eqb-true a.0 k e)

    at : (o : Option (ℕ × Bool)) → alias_of (circuit_on net units) n ≡ o → (m : ℕ) × IsWired (board_of net units) (or_alias o (record { source = OfNet n; high = true })).source m
    at None is = (
      n,
      record {
        wire = ap (λ (q : Bool). cond (q || has_no_driver (slice_get (circuit_on net units).nets n)) (Some n) None) (lt-ltb n (private_from net) low);
        variable = ap (λ (o : Option (ℕ × Bool)). (or_alias o (record { source = OfNet n; high = true })).source) is;
      },
    )
    at (Some a) is = by (cases_lt n 2)
      where
        by : (n < 2) ⊎ (2 ≤ n) → (m : ℕ) × IsWired (board_of net units) (OfRegister a.0) m
        by (inl h) = absurd (none-some a (sym (constant h) ∙ is))
        by (inr h) =
            let number : 2 + (n - 2) ≡ n = omega arith in
            let place : Among n (made_from (λ n. n) 2 (length net.nets)) = subst (λ (k : ℕ). Among k (made_from (λ n. n) 2 (length net.nets))) number (among-made_from (λ n. n) 2 (length net.nets) (n - 2) (omega arith)) in
            let first = among-first n (filter (λ m. is_register_of a.0 (alias_of (circuit_on net units) m)) (made_from (λ n. n) 2 (length net.nets)))
            (among-filter (λ m. is_register_of a.0 (alias_of (circuit_on net units) m)) n (made_from (λ n. n) 2 (length net.nets)) place (ap (is_register_of a.0) is ∙ eq-eqb a.0 a.0 refl)) in
            (first.0, record { wire = first.1; variable = register a.0 first.0 (alias_of (circuit_on net units) first.0) (alias-net (board_of net units) a.0 first.0 first.1).1 })

-- the pins of columns are pins of the board
pub column-pin : (net : Net) (chips : List ChipCells) (j pin : ℕ) (line : ChipLine) (cells : ChipCells) → IsChip net chips j line cells → Among pin (pair_pins line.kind Fixed) → Among (j, pin) (pins_from 0 net.chips)
column-pin net chips j pin line cells c column =
    among-pins 0 j j net.chips line pin c.line_is (omega arith) (subst (Among pin) (sym (pal16-table line.kind c.pal.pal).ordinary) (column-ordinary line.kind pin c.pal.pal column))

-- a private net on which a pin without unit stands has no driver
private-undriven : (net : Net) (chips : List ChipCells) (j pin : ℕ) (line : ChipLine) (cells : ChipCells) → IsChip net chips j line cells → Among (j, pin) (pins_from 0 net.chips) →
    unit_on (same_chip (board_of net (units_from 0 chips)) j line cells).units pin ≡ None → private_from net ≤ net_of net (j, pin) → IsUndriven (circuit_on net (units_from 0 chips)) (net_of net (j, pin))
private-undriven net chips j pin line cells c a none high =
    let units = units_from 0 chips in
    let n = net_of net (j, pin) in
    let w = net-within net units (j, pin) c.lines a in
    record { wire = w.0; found = w.1; none = empty w.0 (drivers w.0 (slice_get (kinds_of net) n) (sym (old-wire net units n) ∙ w.1)) }
  where
    drivers : (w : Wire) (o : Option (NetKind × Pull)) → option_map (wire_of net (units_from 0 chips) (net_of net (j, pin))) o ≡ Some w → w.drivers ≡ places_from (drives net (units_from 0 chips) (net_of net (j, pin))) 0 (units_from 0 chips)
    drivers w None e = cc
    drivers w (Some k) e = sym (ap (λ (v : Wire). v.drivers) (same_Some (wire_of net (units_from 0 chips) (net_of net (j, pin)) k) w e))

    apart : (i : ℕ) → Among i (places_from (drives net (units_from 0 chips) (net_of net (j, pin))) 0 (units_from 0 chips)) → ⊥
    apart i a_i =
        let r = places-get (drives net (units_from 0 chips) (net_of net (j, pin))) 0 (units_from 0 chips) i a_i in
        let number : i - 0 ≡ i = omega arith in
        let found : slice_get (units_from 0 chips) i ≡ Some r.0 = ap (slice_get (units_from 0 chips)) (sym number) ∙ r.1 in
        let same : net_of net (at_of r.0) ≡ net_of net (j, pin) = eqb-true (net_of net (at_of r.0)) (net_of net (j, pin)) (and_parts (eqb (net_of net (at_of r.0)) (net_of net (j, pin))) (can_drive (driver_of net (units_from 0 chips) r.0).enable) r.2).0 in
        let p = pal-unit net chips r.0 c.pals (among-get (units_from 0 chips) i r.0 found) in
        let table = pal16-table p.line.kind p.chip.pal in
        let its_pin : Among (at_of r.0) (pins_from 0 net.chips) =
        among-pins 0 r.0.chip r.0.chip net.chips p.line r.0.cell.pin p.line_is (omega arith)
        (subst (Among r.0.cell.pin) (sym table.ordinary) (among-of (ordinary_pins Gal16V8) r.0.cell.pin (cell_pins p.line.kind) table.cells_ordinary p.pin)) in
        let place : at_of r.0 ≡ (j, pin) = private-own net (j, pin) (at_of r.0) c.lines a its_pin high same in
        let on = listed-on (circuit_on net (units_from 0 chips)) (units_from 0 chips) j (same_chip (board_of net (units_from 0 chips)) j line cells) pin i (holds-units net chips j line cells c) (record { unit = r.0; found = found; place = place }) in
        none-some (old_rows (circuit_on net (units_from 0 chips)) pin i) (sym none ∙ on)

    empty : (w : Wire) → w.drivers ≡ places_from (drives net (units_from 0 chips) (net_of net (j, pin))) 0 (units_from 0 chips) → w.drivers ≡ []
    empty w e = e ∙ by (places_from (drives net (units_from 0 chips) (net_of net (j, pin))) 0 (units_from 0 chips)) apart
      where
        by : (is : List ℕ) → ((i : ℕ) → Among i is → ⊥) → is ≡ []
        by [] h = refl
        by (i ∷ is) h = absurd (h i (inl refl))

-- the variable of the net of such a pin is wired
free-wired : (net : Net) (chips : List ChipCells) (j pin : ℕ) (line : ChipLine) (cells : ChipCells) → IsChip net chips j line cells → Among (j, pin) (pins_from 0 net.chips) →
    unit_on (same_chip (board_of net (units_from 0 chips)) j line cells).units pin ≡ None →
    (m : ℕ) × IsWired (board_of net (units_from 0 chips)) (variable_of (circuit_on net (units_from 0 chips)) (net_of net (j, pin))) m
free-wired net chips j pin line cells c a none = at (cases_lt (net_of net (j, pin)) (private_from net))
  where
    at : (net_of net (j, pin) < private_from net) ⊎ (private_from net ≤ net_of net (j, pin)) →
        (m : ℕ) × IsWired (board_of net (units_from 0 chips)) (variable_of (circuit_on net (units_from 0 chips)) (net_of net (j, pin))) m
    at (inl low) = named-wired net (units_from 0 chips) (net_of net (j, pin)) low (λ h. c.constants (net_of net (j, pin)) h)
    at (inr high) =
        let b = board_of net (units_from 0 chips) in
        let n = net_of net (j, pin) in
        let u = private-undriven net chips j pin line cells c a none high in
        (n, subst (λ (v : Read). IsWired b v n) (sym (undriven-variable b.circuit n (record { source = OfNet n; high = true }) u refl)) (undriven-wired b n u))

-- the register on a pin that is no registered pin
pub no-register : (net : Net) (chips : List ChipCells) (j pin : ℕ) (line : ChipLine) (cells : ChipCells) → IsChip net chips j line cells → is_among (pal_registers line.kind) pin ≡ false →
    register_on (circuit_on net (units_from 0 chips)) (same_chip (board_of net (units_from 0 chips)) j line cells) pin ≡ None
no-register net chips j pin line cells c plain = at (unit_on (same_chip (board_of net (units_from 0 chips)) j line cells).units pin) refl
  where
    unit : (u : ChipUnit) (q : Bool) → is_registered u ≡ q → Among u (units_from 0 chips) → at_of u ≡ (j, pin) → number_if q (register_number (units_from 0 chips) (at_of u)) ≡ None
    unit u true r a place =
        let p = reg-unit net chips u c.pals a r in
        let lines : p.pal.line ≡ line = same_Some p.pal.line line (sym p.pal.line_is ∙ ap (λ (q : At). slice_get net.chips q.0) place ∙ c.line_is) in
        let wrong : true ≡ false = sym p.register ∙ ap (λ (l : ChipLine). is_among (pal_registers l.kind) u.cell.pin) lines ∙ ap (λ (q : At). is_among (pal_registers line.kind) q.1) place ∙ plain in
        cc
    unit u false r a place = refl

    at : (o : Option PlacedUnit) → unit_on (same_chip (board_of net (units_from 0 chips)) j line cells).units pin ≡ o → option_and_then (placed_register (circuit_on net (units_from 0 chips))) o ≡ None
    at None e = refl
    at (Some x) e =
        let r = listed-at (circuit_on net (units_from 0 chips)) (units_from 0 chips) j (same_chip (board_of net (units_from 0 chips)) j line cells) pin x (holds-units net chips j line cells c) e in
        unit-register net (units_from 0 chips) x.unit r.unit r.found ∙ unit r.unit (is_registered r.unit) refl (among-get (units_from 0 chips) x.unit r.unit r.found) r.place

fixed-unit : (b : OldBoard) (chip : NewChip) (pin : ℕ) (x : PlacedUnit) (n : ℕ) → unit_on chip.units pin ≡ Some x → unit_net b x.unit ≡ Some n → fixed_net b chip pin ≡ Some n
fixed-unit b chip pin x n on its_net = first _ _ n (ap (option_and_then (λ (y : PlacedUnit). unit_net b y.unit)) on ∙ its_net)
  where
    first : (o other : Option ℕ) (n : ℕ) → o ≡ Some n → or_else o other ≡ Some n
    first o other n e = ap (λ (q : Option ℕ). or_else q other) e

-- a literal of the net of a pin
pin-literal : (net : Net) (chips : List ChipCells) (j pin : ℕ) (line : ChipLine) (cells : ChipCells) (x : Literal) → IsChip net chips j line cells → Among pin (pair_pins line.kind Fixed) →
    is_among (pal_registers line.kind) pin ≡ false → x.source ≡ OfNet (net_of net (j, pin)) → LiteralFits (board_of net (units_from 0 chips)) (same_chip (board_of net (units_from 0 chips)) j line cells) x
pin-literal net chips j pin line cells x c column plain e =
    let b = board_of net (units_from 0 chips) in
    let chip = same_chip (board_of net (units_from 0 chips)) j line cells in
    let n = net_of net (j, pin) in
    let a = column-pin net chips j pin line cells c column in
    let w = net-within net (units_from 0 chips) (j, pin) c.lines a in
    let source : variable_of b.circuit n ≡ (variable_literal b.circuit x).source = sym (source-variable b.circuit x n e) in
    record {
      variable = subst (λ (v : Read). Among v (all_variables b.circuit)) source (variable-there net chips n w.0 c.pals w.1);
      readable = subst (λ (v : Read). (is_read b chip v ≡ true) ⊎ ((n : ℕ) × Stood b chip v × IsWired b v n)) source (at a (unit_on chip.units pin) refl);
    }
  where
    at : Among (j, pin) (pins_from 0 net.chips) → (o : Option PlacedUnit) → unit_on (same_chip (board_of net (units_from 0 chips)) j line cells).units pin ≡ o →
        (is_read (board_of net (units_from 0 chips)) (same_chip (board_of net (units_from 0 chips)) j line cells) (variable_of (circuit_on net (units_from 0 chips)) (net_of net (j, pin))) ≡ true)
        ⊎ ((m : ℕ) × Stood (board_of net (units_from 0 chips)) (same_chip (board_of net (units_from 0 chips)) j line cells) (variable_of (circuit_on net (units_from 0 chips)) (net_of net (j, pin)))
        × IsWired (board_of net (units_from 0 chips)) (variable_of (circuit_on net (units_from 0 chips)) (net_of net (j, pin))) m)
    at a (Some p) on =
        let b = board_of net (units_from 0 chips) in
        let chip = same_chip (board_of net (units_from 0 chips)) j line cells in
        let n = net_of net (j, pin) in
        let v = variable_of b.circuit n in
        let r = listed-at (circuit_on net (units_from 0 chips)) (units_from 0 chips) j chip pin p (holds-units net chips j line cells c) on in
        let its_net : unit_net b p.unit ≡ Some n = ap (unit_net_of b) r.found ∙ ap (λ (q : At). Some (net_of net q)) r.place in
        inl (among-any (is_read_at b chip v) pin (pair_pins chip.kind chip.mode) (subst (Among pin) (sym (same-pairs (board_of net (units_from 0 chips)) j line cells c.pal.pal)) column)
        (ap (λ (o : Option ℕ). is_literal_of v (read_by b.circuit o (fixed_net b chip pin))) (no-register net chips j pin line cells c plain)
        ∙ ap (λ (o : Option ℕ). is_literal_of v (read_by b.circuit None o)) (fixed-unit b chip pin p n on its_net)
        ∙ same-read v))
    at a None on =
        let b = board_of net (units_from 0 chips) in
        let chip = same_chip (board_of net (units_from 0 chips)) j line cells in
        let n = net_of net (j, pin) in
        let v = variable_of b.circuit n in
        let table = pal16-table line.kind c.pal.pal in
        let ordinary : is_ordinary line.kind pin ≡ true =
        (among-unfilter (is_ordinary line.kind) pin _ (subst (Among pin) (sym table.ordinary) (column-ordinary line.kind pin c.pal.pal column))).1 in
        let m = free-wired net chips j pin line cells c a on in
        inr (
          m.0,
          record {
            pin = pin;
            free = free-column net chips j pin line cells c column on;
            stood = ap (stood_on b v pin) (c.names.each j line c.line_is) ∙ ap (λ (q : Bool). q && same_read v v) ordinary ∙ same-read v;
          },
          m.1,
        )

-- the unit of a registered pin
pub register-unit : (net : Net) (chips : List ChipCells) (j pin : ℕ) (line : ChipLine) (cells : ChipCells) → IsChip net chips j line cells → is_among (pal_registers line.kind) pin ≡ true →
    (i : ℕ) × (u : IsUnitAt (units_from 0 chips) (j, pin) i) × (is_registered u.unit ≡ true)
register-unit net chips j pin line cells c e =
    let table = pal16-table line.kind c.pal.pal in
    let p = any-among (λ p. eqb p pin) (pal_registers line.kind) e in
    let same : p.0 ≡ pin = eqb-true p.0 pin p.2 in
    let cell_pin : Among pin (cell_pins line.kind) = subst (λ (q : ℕ). Among q (cell_pins line.kind)) same (among-of (cell_pins line.kind) p.0 (pal_registers line.kind) table.registers_cells p.1) in
    let cell = pal_cell line.kind c.pal.bits pin in
    let reg = pal-reg line.kind c.pal.bits pin e in
    let among : Among cell cells.cells = subst (λ (d : ChipCells). Among cell d.cells) (sym c.pal.cells_are) (map-among (pal_cell line.kind c.pal.bits) pin (cell_pins line.kind) cell_pin) in
    let not_22 : is_22 cells.kind ≡ false = ap (λ (d : ChipCells). is_22 d.kind) c.pal.cells_are ∙ table.not_22 in
    let passes : is_unit cells cell ≡ true = unit-passes cells cell not_22 ∙ ap (λ (f : Form). makes_unit false f) reg.form_is in
    let unit = unit-among 0 j j chips cells cell c.cells_is (omega arith) among passes in
    let i = get-among (record { chip = j; cells = cells; cell = cell }) (units_from 0 chips) unit in
    (i.0, record { unit = record { chip = j; cells = cells; cell = cell }; found = i.1; place = ap (λ (q : ℕ). (j, q)) (pal-pin line.kind c.pal.bits pin) }, ap is_reg reg.form_is)

-- a literal of a register of the chip
register-literal : (net : Net) (chips : List ChipCells) (j pin : ℕ) (line : ChipLine) (cells : ChipCells) (x : Literal) → IsChip net chips j line cells → Among pin (pair_pins line.kind Fixed) →
    is_among (pal_registers line.kind) pin ≡ true → x.source ≡ OfRegister (register_number (units_from 0 chips) (j, pin)) →
    LiteralFits (board_of net (units_from 0 chips)) (same_chip (board_of net (units_from 0 chips)) j line cells) x
register-literal net chips j pin line cells x c column register e =
    let units = units_from 0 chips in
    let b = board_of net units in
    let chip = same_chip (board_of net units) j line cells in
    let k = register_number units (j, pin) in
    let u = register-unit net chips j pin line cells c register in
    let place = u.1.place in
    let number : register_number units (at_of u.1.unit) ≡ k = ap (register_number units) place in
    let there = register-get net chips u.1.unit c.pals (among-get units u.0 u.1.unit u.1.found) u.2 in
    let source : OfRegister k ≡ (variable_literal b.circuit x).source = sym (ap (λ (v : Read). (variable_by b.circuit v x).source) e ∙ e) in
    let on : register_on b.circuit chip pin ≡ Some k =
    on-register net units j chip pin u.0 (holds-units net chips j line cells c) u.1
    ∙ unit-register net units u.0 u.1.unit u.1.found ∙ ap (λ (q : Bool). number_if q (register_number units (at_of u.1.unit))) u.2 ∙ ap (λ (i : ℕ). Some i) number in
    record {
      variable = subst (λ (v : Read). Among v (all_variables b.circuit)) source
          (register-variable b.circuit k (slice_get_within b.circuit.registers k (register_of net units u.1.unit) (ap (slice_get b.circuit.registers) (sym number) ∙ there)));
      readable = inl (subst (λ (v : Read). is_read b chip v ≡ true) source
          (among-any (is_read_at b chip (OfRegister k)) pin (pair_pins chip.kind chip.mode) (subst (Among pin) (sym (same-pairs (board_of net units) j line cells c.pal.pal)) column)
          (ap (λ (o : Option ℕ). is_literal_of (OfRegister k) (read_by b.circuit o (fixed_net b chip pin))) on ∙ same-read (OfRegister k))));
    }

-- the literal of a column can be read by the new chip
pub column-literal : (net : Net) (chips : List ChipCells) (j : ℕ) (line : ChipLine) (cells : ChipCells) (y : Lit) → IsChip net chips j line cells → IsColumnLit line.kind y →
    LiteralFits (board_of net (units_from 0 chips)) (same_chip (board_of net (units_from 0 chips)) j line cells) (record { source = read_of net (units_from 0 chips) j y.source; high = y.high })
column-literal net chips j line cells y c column = at (is_among (pal_registers line.kind) column.pin) refl
  where
    at : (q : Bool) → is_among (pal_registers line.kind) column.pin ≡ q →
        LiteralFits (board_of net (units_from 0 chips)) (same_chip (board_of net (units_from 0 chips)) j line cells) (record { source = read_of net (units_from 0 chips) j y.source; high = y.high })
    at true e = register-literal net chips j column.pin line cells _ c column.column e
        (ap (read_of net (units_from 0 chips) j) (column.source ∙ ap (λ (q : Bool). cond q (Reg column.pin) (Pin column.pin)) e))
    at false e = pin-literal net chips j column.pin line cells _ c column.column e
        (ap (read_of net (units_from 0 chips) j) (column.source ∙ ap (λ (q : Bool). cond q (Reg column.pin) (Pin column.pin)) e))

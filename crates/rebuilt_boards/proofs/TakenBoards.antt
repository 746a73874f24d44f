-- Boards that are taken are rebuilt.
use Rattle.std.proofs.Common.{ℕ, zero, suc, ◌≡◌, ◌+◌, Bool, true, false, not, cond, ◌&&◌, List, [], ◌∷◌, map, Option, Some, None, refl, sym, ap, ◌∙◌, inl, inr, eqb, eqb-true, arith}
use Rattle.std.specs.List.{list_any, list_all, slice_get}
use Rattle.std.specs.Str.{bytes_eq}
use Rattle.std.proofs.lemmas.Bool.{and_parts}
use Rattle.std.proofs.lemmas.Option.{same_Some}
use Rattle.std.proofs.lemmas.Slice.Eq.{bytes_eq-Decides}
use Rattle.mig_base.specs.declared.cells.ChipCells.{ChipCells}
use Rattle.mig_base.specs.declared.nets.Net.{Net}
use Rattle.mig_base.specs.declared.nets.ChipLine.{ChipLine}
use Rattle.mig_base.specs.declared.circuit.Driver.{Driver}
use Rattle.mig_base.specs.declared.circuit.Register.{Register}
use Rattle.mig_base.specs.declared.circuit.NetKind.{NetKind}
use Rattle.mig_base.specs.declared.circuit.NetKind.TheVariants.{Ground, Power, Handed, Shared, Inner}
use Rattle.mig_base.specs.declared.circuit.Wire.{Wire}
use Rattle.mig_base.specs.declared.circuit.Circuit.{Circuit}
use Rattle.mig_base.specs.Accepted.{is_fixed}
use Rattle.mig_base.specs.Among.{Among}
use Rattle.mig_base.specs.DeviceTables.{is_pal16}
use Rattle.mig_base.specs.Values.{row_reads, sum_reads}
use Rattle.mig_base.specs.WrittenBoard.{are_distinct}
use Rattle.mig_base.specs.Boards.{is_registered, registers_of, driver_of, register_of, units_from, circuit}
use Rattle.new_board.specs.InputPins.{chip_from}
use Rattle.taken_boards.specs.TakenBoards.{is_free, has_few_drivers, is_undriven, are_taken_ports, is_taken_circuit, is_input_kind, is_input_wire, have_one_clock, enable_undriven, terms_registered, is_combinational_net, TakenBoard}
use Rattle.mig_base.specs.Given.{AreMade}
use Rattle.mig_base.proofs.Amongs.{among-get, map-among, among-any}
use Rattle.rebuilt_boards.specs.RebuiltBoards.{BoardsAreRebuilt}
use Rattle.new_board.proofs.Items.{among-filter, all-pass}
use Rattle.rebuilt_boards.proofs.RebuiltCircuit.{board_of}
use Rattle.rebuilt_boards.proofs.Combinational.{old_terms}
use Rattle.rebuilt_boards.proofs.PalCells.{pal-cells}
use Rattle.rebuilt_boards.proofs.PalUnits.{ArePals}
use Rattle.rebuilt_boards.proofs.Undriven.{NamesFit}
use Rattle.rebuilt_boards.proofs.RegisterUnits.{comb-unit, comb-of}
use Rattle.rebuilt_boards.proofs.Combinational.{old-driver}
use Rattle.rebuilt_boards.proofs.PalBoards.{IsPalBoard}
use Rattle.rebuilt_boards.proofs.PalRanks.{ReadsRegistered}
use Rattle.rebuilt_boards.proofs.PalRebuilt.{pal-rebuilt}
use Rattle.rebuilt_boards.proofs.BoardForms.{wiring-lines, few-fixed}

-- chips that have the cells of their fuses
pub made-pals : (lines : List ChipLine) (chips : List ChipCells) → list_all (λ c. is_pal16 c.kind) lines ≡ true → AreMade lines chips → ArePals lines chips
made-pals [] [] e h = tt
made-pals [] (c ∷ cs) e h = absurd h
made-pals (l ∷ ls) [] e h = absurd h
made-pals (l ∷ ls) (c ∷ cs) e h =
    let parts = and_parts (is_pal16 l.kind) (list_all (λ c. is_pal16 c.kind) ls) e in
    (record { bits = h.0.0; pal = parts.0; cells_are = pal-cells l.kind h.0.0 c parts.0 h.0.1 }, made-pals ls cs parts.1 h.1)

-- chips of different names are found by their names
names-from : (start i j : ℕ) (lines : List ChipLine) (line : ChipLine) → are_distinct bytes_eq (map (λ c. c.name) lines) ≡ true → slice_get lines i ≡ Some line → j ≡ start + i →
    chip_from start lines line.name ≡ Some (j, line.kind)
names-from start i j [] line d e at = cc
names-from start zero j (l ∷ ls) line d e at =
    let same : l ≡ line = same_Some l line e in
    let number : start ≡ j = omega arith in
    ap (λ (q : Bool). cond q (Some (start, l.kind)) (chip_from (start + 1) ls line.name)) (ap (λ (c : ChipLine). bytes_eq line.name c.name) same ∙ (bytes_eq-Decides line.name line.name).1 refl)
    ∙ ap (λ (c : ChipLine). Some (start, c.kind)) same ∙ ap (λ (k : ℕ). Some (k, line.kind)) number
names-from start (suc i) j (l ∷ ls) line d e at =
    let parts = and_parts (not (list_any (bytes_eq l.name) (map (λ c. c.name) ls))) (are_distinct bytes_eq (map (λ c. c.name) ls)) d in
    ap (λ (q : Bool). cond q (Some (start, l.kind)) (chip_from (start + 1) ls line.name)) (apart (bytes_eq line.name l.name) refl parts.0)
    ∙ names-from (start + 1) i j ls line parts.1 e (omega arith)
  where
    apart : (q : Bool) → bytes_eq line.name l.name ≡ q → not (list_any (bytes_eq l.name) (map (λ c. c.name) ls)) ≡ true → q ≡ false
    apart true is none =
        let same : line.name ≡ l.name = (bytes_eq-Decides line.name l.name).0 is in
        let there : list_any (bytes_eq l.name) (map (λ c. c.name) ls) ≡ true =
        among-any (bytes_eq l.name) line.name (map (λ (c : ChipLine). c.name) ls) (map-among (λ (c : ChipLine). c.name) line ls (among-get ls i line e)) ((bytes_eq-Decides l.name line.name).1 (sym same)) in
        let wrong : false ≡ true = sym (ap (λ (q : Bool). not q) there) ∙ none in
        cc
    apart false is none = refl

pub names-fit : (net : Net) → are_distinct bytes_eq (map (λ c. c.name) net.chips) ≡ true → NamesFit net
names-fit net d = record { each = λ j line e. names-from 0 j j net.chips line d e (omega arith) }

-- the clock net of each register
one-clock : (c : Circuit) (rs : List Register) (r : Register) → have_one_clock c rs ≡ true → Among r rs → (w : Wire) × (slice_get c.nets r.clock ≡ Some w) × (is_fixed w.kind ≡ true)
one-clock c [] r e a = absurd a
one-clock c (s ∷ ss) r e a =
    let parts = and_parts (is_input_wire (slice_get c.nets s.clock)) (list_all (λ s'. eqb s'.clock s.clock) ss) e in
    let same : r.clock ≡ s.clock = at a parts.1 in
    let w = input (slice_get c.nets s.clock) refl parts.0 in
    (w.0, ap (slice_get c.nets) same ∙ w.1, w.2)
  where
    at : Among r (s ∷ ss) → list_all (λ t. eqb t.clock s.clock) ss ≡ true → r.clock ≡ s.clock
    at (inl same) e = ap (λ (t : Register). t.clock) same
    at (inr h) e = eqb-true r.clock s.clock (all-pass (λ t. eqb t.clock s.clock) r ss e h)

    fixed : (k : NetKind) → is_input_kind k ≡ true → is_fixed k ≡ true
    fixed Ground e = refl
    fixed Power e = refl
    fixed (Handed j) e = refl
    fixed (Shared j) e = cc
    fixed Inner e = cc

    input : (o : Option Wire) → slice_get c.nets s.clock ≡ o → is_input_wire o ≡ true → (w : Wire) × (slice_get c.nets s.clock ≡ Some w) × (is_fixed w.kind ≡ true)
    input None is e = cc
    input (Some w) is e = (w, is, fixed w.kind e)

-- what the form says of the circuit
record TakenCircuit (c : Circuit) : Type 0 where
  few : list_all has_few_drivers c.nets ≡ true
  clock : have_one_clock c c.registers ≡ true
  enables : list_all (enable_undriven c) c.units ≡ true
  terms : list_all (λ d. terms_registered c d.gives) c.units ≡ true

taken-circuit : (net : Net) (chips : List ChipCells) → TakenBoard net chips → TakenCircuit (circuit net chips)
taken-circuit net chips taken =
    let c = circuit net chips in
    let form = and_parts (are_taken_ports net) (is_taken_circuit c) taken.form in
    let outer = and_parts (list_all has_few_drivers c.nets && have_one_clock c c.registers && list_all (enable_undriven c) c.units) (list_all (λ d. terms_registered c d.gives) c.units) form.1 in
    let middle = and_parts (list_all has_few_drivers c.nets && have_one_clock c c.registers) (list_all (enable_undriven c) c.units) outer.0 in
    let inner = and_parts (list_all has_few_drivers c.nets) (have_one_clock c c.registers) middle.0 in
    record { few = inner.0; clock = inner.1; enables = middle.1; terms = outer.1 }

taken-pals : (net : Net) (chips : List ChipCells) → TakenBoard net chips → ArePals net.chips chips
taken-pals net chips taken =
    made-pals net.chips chips (and_parts (list_all (λ c. is_pal16 c.kind) net.chips) (list_all (λ l. is_free l.pull) net.nets) taken.wiring).0 taken.cells

pub taken-board : (net : Net) (chips : List ChipCells) → TakenBoard net chips → IsPalBoard net chips
taken-board net chips taken =
    let c = circuit net chips in
    let units = units_from 0 chips in
    let form = taken-circuit net chips taken in
    record {
      pals = taken-pals net chips taken;
      lines = wiring-lines net taken.lines;
      names = names-fit net taken.names;
      fixed = λ n w e fixed. few-fixed w (all-pass has_few_drivers w c.nets form.few (among-get c.nets n w e)) fixed;
      clocks = λ u a r. one-clock c c.registers (register_of net units u) form.clock (map-among (register_of net units) u (registers_of units) (among-filter is_registered u units a r));
      enables = λ u a v k. all-pass (is_undriven c) v (row_reads (driver_of net units u).enable) (all-pass (enable_undriven c) (driver_of net units u) c.units form.enables (map-among (driver_of net units) u units a)) k;
    }

taken-reads : (net : Net) (chips : List ChipCells) → TakenBoard net chips → ReadsRegistered net chips
taken-reads net chips taken = record {
  each = λ u a r v k.
      let c = circuit net chips in
      let units = units_from 0 chips in
      let form = taken-circuit net chips taken in
      let comb = comb-of net chips u (comb-unit net chips u (taken-pals net chips taken) a r) in
      let all : list_all (λ w. not (is_combinational_net c w)) (sum_reads (old_terms (board_of net units) u)) ≡ true =
      ap (λ (d : Driver). terms_registered c d.gives) (sym (old-driver (board_of net units) u comb))
      ∙ all-pass (λ d. terms_registered c d.gives) (driver_of net units u) c.units form.terms (map-among (driver_of net units) u units a) in
      not-true (is_combinational_net c v) (all-pass (λ w. not (is_combinational_net c w)) v (sum_reads (old_terms (board_of net units) u)) all k);
}
  where
    not-true : (q : Bool) → not q ≡ true → q ≡ false
    not-true true e = sym e
    not-true false e = refl

-- boards that are taken are rebuilt
pub taken-rebuilt : BoardsAreRebuilt
taken-rebuilt net chips taken = pal-rebuilt net chips (taken-board net chips taken) (taken-reads net chips taken)

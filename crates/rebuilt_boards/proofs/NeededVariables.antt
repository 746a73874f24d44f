-- A product of a unit can be read by its new chip, where each of its literals can.
use Rattle.std.proofs.Common.{ℕ, zero, suc, ◌≡◌, ◌+◌, ◌<◌, ◌≤◌, Bool, true, false, cond, ◌||◌, List, ◌∷◌, length, Option, Some, None, refl, sym, ap, ◌∙◌, subst, inl, inr, ◌⊎◌, ltb, le-ltb, arith}
use Rattle.std.specs.Prelude.{option_and_then}
use Rattle.std.specs.List.{list_any, flat_map, slice_get}
use Rattle.std.proofs.lemmas.Option.{same_Some}
use Rattle.mig_base.specs.declared.circuit.Read.{Read}
use Rattle.mig_base.specs.declared.circuit.Read.TheVariants.{OfNet, OfRegister}
use Rattle.mig_base.specs.declared.circuit.Literal.{Literal}
use Rattle.mig_base.specs.First.{made_from, or_else}
use Rattle.mig_base.specs.Among.{Among}
use Rattle.mig_base.specs.declared.nets.Net.{Net}
use Rattle.mig_base.specs.DeviceTables.{is_22}
use Rattle.mig_base.specs.Boards.{ChipUnit, circuit_on}
use Rattle.mig_base.specs.Structure.{same_read, alias_of, all_variables, variable_literal, variable_product, has_no_driver}
use Rattle.mig_base.proofs.Amongs.{among-any, among-left, among-flat_map, map-among, product-among}
use Rattle.mig_base.proofs.ReadLaws.{same-read}
use Rattle.new_board.specs.NewChip.{OldBoard, NewChip, unit_on, register_driven, private_from, fixed_net, alias_net, is_register_of, is_read, products_by, unit_products, control_products, chip_products, needed_variables}
use Rattle.new_board.specs.OneForOne.{old_rows, terms_over}
use Rattle.new_board.specs.InputPins.{wire_for, input_at, input_pins, pin_net, reading_pin}
use Rattle.new_board.proofs.Items.{among-filter, among-unfilter}
use Rattle.new_board.proofs.Variables.{AreVariables}
use Rattle.new_board.proofs.Columns.{first-among}
use Rattle.new_board.proofs.Reading.{EnableApart, Stood, IsWired, needed-readable}
use Rattle.rebuilt_boards.proofs.RebuiltCircuit.{board_of}
use Rattle.new_board.proofs.WellMade.{on-unit}
use Rattle.rebuilt_boards.proofs.Combinational.{ProductFits, IsComb, old_terms, comb_rows, unit-driver, comb-rows}

-- a literal of the old board whose variable the new chip can read
pub record LiteralFits (b : OldBoard) (chip : NewChip) (x : Literal) : Type 0 where
  pub variable : Among (variable_literal b.circuit x).source (all_variables b.circuit)
  pub readable : (is_read b chip (variable_literal b.circuit x).source ≡ true) ⊎ ((n : ℕ) × Stood b chip (variable_literal b.circuit x).source × IsWired b (variable_literal b.circuit x).source n)

-- a product among the rows of the chip
pub product-fits : (b : OldBoard) (chip : NewChip) (lits : List Literal) → EnableApart b chip → ((x : Literal) → Among x lits → LiteralFits b chip x) →
    Among (variable_product b.circuit lits) (chip_products b.circuit chip) → ProductFits b chip lits
product-fits b chip lits apart fits a = record { variables = variables; readable = record { each = readable } }
  where
    variables : AreVariables b.circuit lits
    variables = record { each = λ x h. (fits x h).variable }

    readable : (y : Literal) → Among y (variable_product b.circuit lits) → (pin : ℕ) × (reading_pin b chip y.source ≡ Some pin)
    readable y h =
        let x = product-among b.circuit y lits h in
        let f = fits x.0 x.1 in
        let v = (variable_literal b.circuit x.0).source in
        let source : y.source ≡ v = ap (λ (z : Literal). z.source) x.2 in
        let needed : Among v (needed_variables b.circuit chip) =
        among-filter (λ u. list_any (λ lits. list_any (λ z. same_read z.source u) lits) (chip_products b.circuit chip)) v (all_variables b.circuit) f.variable
        (among-any (λ lits. list_any (λ z. same_read z.source v) lits) (variable_product b.circuit lits) (chip_products b.circuit chip) a
        (among-any (λ z. same_read z.source v) y (variable_product b.circuit lits) h (ap (λ (u : Read). same_read u v) source ∙ same-read v))) in
        subst (λ (u : Read). (pin : ℕ) × (reading_pin b chip u ≡ Some pin)) (sym source) (needed-readable b chip v apart needed f.readable)

made-below : (start count n : ℕ) → Among n (made_from (λ n. n) start count) → n < start + count
made-below start zero n a = absurd a
made-below start (suc count) n (inl e) = omega arith
made-below start (suc count) n (inr a) = let r : n < start + 1 + count = made-below (start + 1) count n a in omega arith

-- an alias net that is found is a named net of the register
pub alias-net : (b : OldBoard) (k n : ℕ) → alias_net b k ≡ Some n → (n < private_from b.net) × (is_register_of k (alias_of b.circuit n) ≡ true)
alias-net b k n e =
    let kept = among-unfilter (λ n. is_register_of k (alias_of b.circuit n)) n (made_from (λ n. n) 2 (length b.net.nets)) (first-among _ n e) in
    (made-below 2 (length b.net.nets) n kept.0, kept.1)

-- a private net by which a variable is wired has no driver
pub wired-undriven : (b : OldBoard) (v : Read) (n : ℕ) → wire_for b v ≡ Some n → private_from b.net ≤ n → has_no_driver (slice_get b.circuit.nets n) ≡ true
wired-undriven b (OfNet m) n e high = at (ltb m (private_from b.net)) (has_no_driver (slice_get b.circuit.nets m)) refl refl e
  where
    at : (p q : Bool) → ltb m (private_from b.net) ≡ p → has_no_driver (slice_get b.circuit.nets m) ≡ q → cond (p || q) (Some m) None ≡ Some n → has_no_driver (slice_get b.circuit.nets n) ≡ true
    at true q low is e =
        let same : m ≡ n = same_Some m n e in
        let wrong : true ≡ false = sym low ∙ le-ltb m (private_from b.net) (omega arith) in
        cc
    at false true low is e = ap (λ (k : ℕ). has_no_driver (slice_get b.circuit.nets k)) (sym (same_Some m n e)) ∙ is
    at false false low is e = cc
wired-undriven b (OfRegister k) n e high = let below : n < private_from b.net = (alias-net b k n e).0 in absurd (omega arith)

-- a pin that stands on a net only as an input pin
pub input-undriven : (b : OldBoard) (chip : NewChip) (pin n : ℕ) → fixed_net b chip pin ≡ None → pin_net b chip pin ≡ Some n → private_from b.net ≤ n →
    has_no_driver (slice_get b.circuit.nets n) ≡ true
input-undriven b chip pin n none e high =
    at (input_at (input_pins b chip) pin) (ap (λ (o : Option ℕ). or_else o (option_and_then (wire_for b) (input_at (input_pins b chip) pin))) (sym none) ∙ e)
  where
    at : (o : Option Read) → option_and_then (wire_for b) o ≡ Some n → has_no_driver (slice_get b.circuit.nets n) ≡ true
    at None e = cc
    at (Some v) e = wired-undriven b v n e high

-- the products of a combinational unit are among the rows of its chip
pub comb-products : (net : Net) (units : List ChipUnit) (chip : NewChip) (i : ℕ) (u : ChipUnit) (t : List Literal) →
    unit_on chip.units u.cell.pin ≡ Some (old_rows (circuit_on net units) u.cell.pin i) → slice_get units i ≡ Some u →
    (f : IsComb (board_of net units) u) → Among t (f.lits ∷ old_terms (board_of net units) u) →
    Among (variable_product (circuit_on net units) t) (chip_products (circuit_on net units) chip)
comb-products net units chip i u t on e f a =
    let c = circuit_on net units in
    let b = board_of net units in
    let x = old_rows c u.cell.pin i in
    let rows : unit_products c chip x ≡ variable_product c f.lits ∷ terms_over c (old_terms b u) =
    ap (unit_products c chip) (comb-rows net units u.cell.pin i u e f)
    ∙ ap (λ (o : Option ℕ). products_by (is_22 chip.kind) o (comb_rows b u.cell.pin i u f.lits)) (ap register_driven (unit-driver net units i u e f)) in
    among-left (variable_product c t) (flat_map (unit_products c chip) chip.units) (control_products c chip)
    (among-flat_map (unit_products c chip) x (variable_product c t) chip.units (on-unit chip.units u.cell.pin x on).0
    (subst (λ (ps : List (List Literal)). Among (variable_product c t) ps) (sym rows) (map-among (variable_product c) t (f.lits ∷ old_terms b u) a)))

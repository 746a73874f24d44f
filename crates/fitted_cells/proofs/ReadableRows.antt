-- The rows of the placed units read what their new chip's pins stand on.
use Rattle.std.proofs.Common.{ℕ, ◌≡◌, Bool, true, false, not, cond, ◌&&◌, List, [], ◌∷◌, Option, Some, None, refl, sym, ap, ◌∙◌, subst, inl, inr, ◌⊎◌, eqb}
use Rattle.std.specs.List.{list_any, flat_map}
use Rattle.std.proofs.lemmas.Bool.{and_parts, not-true}
use Rattle.mig_base.specs.Among.{Among}
use Rattle.mig_base.specs.declared.kinds.Kind.{Kind}
use Rattle.mig_base.specs.declared.kinds.Mode.{Mode}
use Rattle.mig_base.specs.declared.kinds.Mode.TheVariants.{Fixed, Simple, Complex, Registered}
use Rattle.mig_base.specs.declared.circuit.Circuit.{Circuit}
use Rattle.mig_base.specs.declared.circuit.Gate.{Gate}
use Rattle.mig_base.specs.declared.circuit.Gate.TheVariants.{Never, Product}
use Rattle.mig_base.specs.declared.circuit.Literal.{Literal}
use Rattle.mig_base.specs.DeviceTables.{pair_pins, enable_pin, is_v8, is_22}
use Rattle.mig_base.specs.WellFormed.{has_mode}
use Rattle.mig_base.specs.Structure.{same_read, all_variables}
use Rattle.mig_base.specs.Reads.{IsNode}
use Rattle.mig_base.proofs.Amongs.{among-any, among-left, among-flat_map, among-split, node-among}
use Rattle.mig_base.proofs.KindFacts.{every-kind}
use Rattle.mig_base.proofs.ReadLaws.{same-read}
use Rattle.new_board.specs.declared.types.PlacedUnit.{PlacedUnit}
use Rattle.new_board.specs.NewChip.{OldBoard, NewChip, placed_register, first_registered, gate_products, comb_products, products_by, unit_products, control_products, chip_products, needed_variables}
use Rattle.new_board.specs.InputPins.{first_unserved}
use Rattle.new_board.proofs.Items.{among-filter}
use Rattle.new_board.proofs.Columns.{IsReadable}
use Rattle.new_board.proofs.Reading.{EnableApart}
use Rattle.new_board.proofs.Serving.{served-readable, served-all}
use Rattle.fitted_cells.proofs.OwnReads.{IsOwn, ReadOwn}

-- the rows of a unit are its terms and its enable
comb-own : (c : Circuit) (g : Gate) (terms : List (List Literal)) → ReadOwn c terms → ReadOwn c (gate_products g) → ReadOwn c (comb_products g terms)
comb-own c Never terms own enable = λ lits a. absurd a
comb-own c (Product ls) terms own enable = λ lits a. at lits a
  where
    at : (lits : List Literal) → Among lits (ls ∷ terms) → (x : Literal) → Among x lits → IsOwn c x.source
    at lits (inl e) = enable lits (inl e)
    at lits (inr a) = own lits a

by-own : (c : Circuit) (q : Bool) (o : Option ℕ) (x : PlacedUnit) → ReadOwn c x.terms → ReadOwn c (gate_products x.enable) → ReadOwn c (products_by q o x)
by-own c q None x own enable = comb-own c x.enable x.terms own enable
by-own c q (Some k) x own enable = λ lits a. at q lits (among-split lits x.terms (cond q (gate_products x.enable) []) a)
  where
    at : (q : Bool) (lits : List Literal) → Among lits x.terms ⊎ Among lits (cond q (gate_products x.enable) []) → (y : Literal) → Among y lits → IsOwn c y.source
    at q lits (inl a) = own lits a
    at true lits (inr a) = enable lits a
    at false lits (inr a) = absurd a

pub unit-own : (c : Circuit) (chip : NewChip) (x : PlacedUnit) → ReadOwn c x.terms → ReadOwn c (gate_products x.enable) → ReadOwn c (unit_products c chip x)
unit-own c chip x own enable = by-own c (is_22 chip.kind) (placed_register c x) x own enable

-- a variable of a row of a unit is needed
row-needed : (c : Circuit) (chip : NewChip) (x : PlacedUnit) (lits : List Literal) (y : Literal) → Among x chip.units → Among lits (unit_products c chip x) → Among y lits → IsNode c y.source → Among y.source (needed_variables c chip)
row-needed c chip x lits y unit row lit node =
    among-filter (λ v. list_any (λ ls. list_any (λ z. same_read z.source v) ls) (chip_products c chip)) y.source (all_variables c) (node-among c y.source node)
    (among-any (λ ls. list_any (λ z. same_read z.source y.source) ls) lits (chip_products c chip)
    (among-left lits (flat_map (unit_products c chip) chip.units) (control_products c chip) (among-flat_map (unit_products c chip) x lits chip.units unit row))
    (among-any (λ z. same_read z.source y.source) y lits lit (same-read y.source)))

-- where each needed variable has a pin, each row of own variables is read
pub row-readable : (b : OldBoard) (chip : NewChip) (x : PlacedUnit) (lits : List Literal) → EnableApart b chip → first_unserved b chip ≡ None → ReadOwn b.circuit (unit_products b.circuit chip x) →
    Among x chip.units → Among lits (unit_products b.circuit chip x) → IsReadable b chip lits
row-readable b chip x lits apart served own unit row = record {
  each = λ y a.
      let o = own lits row y a in
      served-readable b chip y.source apart o.own (served-all b chip served y.source (row-needed b.circuit chip x lits y unit row a o.node));
}

-- in registered mode the enable pin has no columns
no-columns : (k : Kind) → list_any (λ q. is_v8 k && eqb q (enable_pin k)) (pair_pins k Registered) ≡ false
no-columns k = not-true _ (every-kind (λ j. not (list_any (λ q. is_v8 j && eqb q (enable_pin j)) (pair_pins j Registered))) refl k)

-- a chip with registered units has none of the enable pin
pub enable-apart : (b : OldBoard) (chip : NewChip) → has_mode chip.kind chip.mode ≡ true → ((x : PlacedUnit) → first_registered b.circuit chip ≡ Some x → chip.mode ≡ Simple ⊎ chip.mode ≡ Complex → ⊥) → EnableApart b chip
enable-apart b chip has out = record { none = λ pin a e. at (first_registered b.circuit chip) refl chip.mode refl pin a e }
  where
    at : (o : Option PlacedUnit) → first_registered b.circuit chip ≡ o → (m : Mode) → chip.mode ≡ m → (pin : ℕ) → Among pin (pair_pins chip.kind chip.mode) → (is_v8 chip.kind && eqb pin (enable_pin chip.kind)) ≡ true → o ≡ None
    at None is m mode pin a e = refl
    at (Some x) is Simple mode pin a e = absurd (out x is (inl mode))
    at (Some x) is Complex mode pin a e = absurd (out x is (inr mode))
    at (Some x) is Registered mode pin a e =
        let found : list_any (λ q. is_v8 chip.kind && eqb q (enable_pin chip.kind)) (pair_pins chip.kind Registered) ≡ true =
        among-any (λ q. is_v8 chip.kind && eqb q (enable_pin chip.kind)) pin (pair_pins chip.kind Registered) (subst (λ (m : Mode). Among pin (pair_pins chip.kind m)) mode a) e in
        let wrong : true ≡ false = sym found ∙ no-columns chip.kind in
        cc
    at (Some x) is Fixed mode pin a e =
        let v8 : is_v8 chip.kind ≡ true = (and_parts _ _ e).0 in
        let fixed : not (is_v8 chip.kind) ≡ true = sym (ap (has_mode chip.kind) mode) ∙ has in
        let wrong : false ≡ true = sym (ap (λ (q : Bool). not q) v8) ∙ fixed in
        cc

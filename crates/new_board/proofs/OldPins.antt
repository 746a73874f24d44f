-- Each old literal finds its pin again: the net that it stood on can be wired, and a row has no more literals than the old one.
use Rattle.std.proofs.Common.{ℕ, ◌≡◌, ◌+◌, ◌<◌, ◌≤◌, Bool, true, false, List, length, Option, Some, None, is_some, refl, sym, ap, ◌∙◌, subst, eqb-true, eq-eqb, arith}
use Rattle.mig_base.specs.declared.circuit.Read.{Read}
use Rattle.mig_base.specs.declared.circuit.Read.TheVariants.{OfNet}
use Rattle.mig_base.specs.declared.circuit.Literal.{Literal}
use Rattle.mig_base.specs.First.{made_from}
use Rattle.mig_base.specs.Among.{Among}
use Rattle.mig_base.specs.WellFormed.{same_lit}
use Rattle.mig_base.specs.WrittenBoard.{are_distinct}
use Rattle.mig_base.specs.Structure.{alias_of, or_alias, variable_of, variable_product}
use Rattle.new_board.proofs.Items.{among-filter}
use Rattle.new_board.proofs.Variables.{among-made_from}
use Rattle.new_board.specs.NewChip.{OldBoard, NewChip, can_stand, when, is_register_of, alias_net}
use Rattle.new_board.specs.InputPins.{wire_for}
use Rattle.new_board.specs.NewFiles.{new_columns, new_product, is_full}
use Rattle.new_board.proofs.Columns.{among-first}
use Rattle.new_board.proofs.BuiltRows.{new-short}

-- an alias net is a named one
pub record IsNamedAlias (b : OldBoard) (n : ℕ) : Type 0 where
  pub place : ℕ
  pub number : n ≡ 2 + place
  pub within : place < length b.net.nets

-- a net on which a pin can stand, and which is named where it is an alias net
pub stood-wired : (b : OldBoard) (n : ℕ) → can_stand b n ≡ true → ((k : ℕ) (q : Bool) → alias_of b.circuit n ≡ Some (k, q) → IsNamedAlias b n)
    → is_some (wire_for b (variable_of b.circuit n)) ≡ true
stood-wired b n stands named = at (alias_of b.circuit n) refl
  where
    literal : Option (ℕ × Bool) → Read
    literal o = (or_alias o (record { source = OfNet n; high = true })).source

    found : (k : ℕ) (q : Bool) → alias_of b.circuit n ≡ Some (k, q) → is_some (alias_net b k) ≡ true
    found k q e =
        let name = named k q e in
        let among : Among n (made_from (λ m. m) 2 (length b.net.nets)) = subst (λ (m : ℕ). Among m (made_from (λ m. m) 2 (length b.net.nets))) (sym name.number) (among-made_from (λ m. m) 2 (length b.net.nets) name.place name.within) in
        let test : is_register_of k (alias_of b.circuit n) ≡ true = ap (is_register_of k) e ∙ eq-eqb k k refl in
        let first = among-first n _ (among-filter (λ m. is_register_of k (alias_of b.circuit m)) n (made_from (λ m. m) 2 (length b.net.nets)) among test) in
        ap (λ (o : Option ℕ). is_some o) first.1

    at : (o : Option (ℕ × Bool)) → alias_of b.circuit n ≡ o → is_some (wire_for b (or_alias o (record { source = OfNet n; high = true })).source) ≡ true
    at None e = ap (λ (q : Bool). is_some (when q (Some n))) stands
    at (Some a) e = found a.0 a.1 e

-- a row that has fewer literals than there are columns isn't full
pub short-not_full : (b : OldBoard) (chip : NewChip) (lits : List Literal) → are_distinct same_lit (new_columns b chip) ≡ true → length lits < length (new_columns b chip)
    → is_full b chip (variable_product b.circuit lits) ≡ false
short-not_full b chip lits distinct few = at (is_full b chip (variable_product b.circuit lits)) refl
  where
    no : length (new_product b chip (variable_product b.circuit lits)) ≤ length lits → length (new_product b chip (variable_product b.circuit lits)) ≡ length (new_columns b chip) → ⊥
    no h e = omega (arith, h, e, few)

    at : (q : Bool) → is_full b chip (variable_product b.circuit lits) ≡ q → q ≡ false
    at true e = absurd (no (new-short b chip lits distinct) (eqb-true _ _ e))
    at false e = refl

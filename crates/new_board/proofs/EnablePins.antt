-- The enable pin of old registered units can have its net again.
use Rattle.std.proofs.Common.{ℕ, ◌≡◌, Bool, true, false, cond, ◌&&◌, List, [], ◌∷◌, Option, Some, None, is_some, refl, sym, ap, ◌∙◌, eqb, arith}
use Rattle.std.specs.Prelude.{option_and_then}
use Rattle.mig_base.specs.declared.circuit.Read.TheVariants.{OfNet, OfRegister}
use Rattle.mig_base.specs.declared.circuit.Literal.{Literal}
use Rattle.mig_base.specs.declared.circuit.Gate.TheVariants.{Never, Product}
use Rattle.mig_base.specs.declared.circuit.Circuit.{Circuit}
use Rattle.mig_base.specs.Bools.{same_bool}
use Rattle.mig_base.specs.Boards.{low_pin}
use Rattle.mig_base.specs.Structure.{alias_of, or_alias, variable_literal, variable_product, variable_gate}
use Rattle.mig_base.proofs.ReadLaws.{same-read}
use Rattle.structure.specs.Sorted.{has_node, with_variable, with_literal}
use Rattle.structure.proofs.Sorting.{product-step, product-none}
use Rattle.new_board.specs.NewChip.{OldBoard, can_stand, when, alias_net, net_literal, is_complement_of, net_of_complement, enable_net}

-- a product of one literal over variables
pub product-single : (c : Circuit) (x : Literal) → has_node c (variable_literal c x).source ≡ true → variable_product c (x ∷ []) ≡ variable_literal c x ∷ []
product-single c x has =
    let y = variable_literal c x in
    let step : with_variable c y [] ≡ variable_product c (x ∷ []) = product-step c (x ∷ []) 0 x y [] (with_variable c y []) (omega arith) (sym (product-none c)) refl refl in
    sym step ∙ ap (λ (q : Bool). cond q (with_literal y []) []) has

abbrev pub complement : ℕ → Literal
complement n = record { source = OfNet n; high = false }

-- the net of an enable pin: a pin can stand on it, its variable is of the board, and where it is an alias net it is the named one of its register
pub record CanEnable (b : OldBoard) (n : ℕ) : Type 0 where
  pub stands : can_stand b n ≡ true
  pub within : has_node b.circuit (variable_literal b.circuit (complement n)).source ≡ true
  pub alias : (k : ℕ) (q : Bool) → alias_of b.circuit n ≡ Some (k, q) → alias_net b k ≡ Some n

complement-of : (k : ℕ) (q : Bool) → is_complement_of (record { source = OfRegister k; high = same_bool false q }) (record { source = OfRegister k; high = same_bool true q }) ≡ true
complement-of k true = ap (λ (r : Bool). r && true) (same-read (OfRegister k))
complement-of k false = ap (λ (r : Bool). r && true) (same-read (OfRegister k))

single-net : (b : OldBoard) (n : ℕ) → CanEnable b n → is_some (net_of_complement b (variable_literal b.circuit (complement n)).source (variable_literal b.circuit (complement n))) ≡ true
single-net b n can = at (alias_of b.circuit n) refl
  where
    at : (o : Option (ℕ × Bool)) → alias_of b.circuit n ≡ o → is_some (net_of_complement b (or_alias o (complement n)).source (or_alias o (complement n))) ≡ true
    at None e = ap (λ (q : Bool). is_some (when q (Some n))) can.stands
    at (Some a) e =
        let x : Literal = record { source = OfRegister a.0; high = same_bool false a.1 } in
        let literal : net_literal b.circuit n ≡ record { source = OfRegister a.0; high = same_bool true a.1 } = ap (λ (o : Option (ℕ × Bool)). or_alias o (record { source = OfNet n; high = true })) e in
        let test : is_complement_of x (net_literal b.circuit n) ≡ true = ap (is_complement_of x) literal ∙ complement-of a.0 a.1 in
        ap (λ (o : Option ℕ). is_some (option_and_then (λ m. when (is_complement_of x (net_literal b.circuit m)) (Some m)) o)) (can.alias a.0 a.1 e)
        ∙ ap (λ (q : Bool). is_some (when q (Some n))) test

-- the enable that the pin makes on the old board, over variables, can be had by the new enable pin
pub pin-enable : (b : OldBoard) (n : ℕ) → CanEnable b n → is_some (enable_net b (variable_gate b.circuit (low_pin n))) ≡ true
pin-enable b n can = at (eqb n 0) (eqb n 1)
  where
    at : (p q : Bool) → is_some (enable_net b (variable_gate b.circuit (cond p (Product []) (cond q Never (Product (complement n ∷ [])))))) ≡ true
    at true q = ap (λ (xs : List Literal). is_some (enable_net b (Product xs))) (product-none b.circuit)
    at false true = refl
    at false false = ap (λ (xs : List Literal). is_some (enable_net b (Product xs))) (product-single b.circuit (complement n) can.within) ∙ single-net b n can

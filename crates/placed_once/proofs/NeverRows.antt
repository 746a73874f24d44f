-- A unit that is never enabled has no enable row.
use Rattle.std.proofs.Common.{ℕ, ◌≡◌, Bool, false, List, [], Option, Some, None, refl, ap, ◌∙◌, subst}
use Rattle.std.specs.List.{slice_get}
use Rattle.std.proofs.lemmas.Option.{same_Some}
use Rattle.mig_base.specs.declared.circuit.Driver.{Driver}
use Rattle.mig_base.specs.declared.circuit.Gate.{Gate}
use Rattle.mig_base.specs.declared.circuit.Gate.TheVariants.{Never, Product}
use Rattle.mig_base.specs.declared.circuit.Gives.{Gives}
use Rattle.mig_base.specs.declared.circuit.Gives.TheVariants.{Sum, Visible}
use Rattle.mig_base.specs.declared.circuit.Register.{Register}
use Rattle.mig_base.specs.declared.circuit.Circuit.{Circuit}
use Rattle.mig_base.specs.declared.plans.Part.TheVariants.{Enable}
use Rattle.mig_base.specs.Structure.{variable_gate}
use Rattle.board.specs.Joined.{Joined, equations_of}
use Rattle.new_board.specs.NewChip.{gate_products}
use Rattle.new_board.specs.OneForOne.{old_driving, old_giving, old_reg}
use Rattle.plans.specs.Forms.{IsControlBy, IsGate, old_products, read_absorbed, reads_absorbed}

module _ (c : Circuit) (u : ℕ) (d : Driver) (never : d.enable ≡ Never) where
  given-never : (g : Gives) → (old_giving c 0 u d g).enable ≡ Never
  given-never (Sum terms) = ap (variable_gate c) never
  given-never (Visible k) = at (slice_get c.registers k)
    where
      at : (o : Option Register) → (old_reg c 0 u d o).enable ≡ Never
      at None = refl
      at (Some r) = ap (variable_gate c) never

  old-never : slice_get c.units u ≡ Some d → old_products c u Enable ≡ []
  old-never found = ap (λ (o : Option Driver). gate_products (old_driving c 0 u o).enable) found ∙ ap gate_products (given-never d.gives)

none-never : (g : Gate) → gate_products g ≡ [] → g ≡ Never
none-never Never e = refl
none-never (Product lits) e = cc

pub gate-never : (b : Joined) (absorbed : List ℕ) (u : ℕ) (d : Driver) (g : Gate) → slice_get (equations_of b).units u ≡ Some d → d.enable ≡ Never → IsGate b absorbed u Enable g → g ≡ Never
gate-never b absorbed u d g found never is =
    let none : old_products (equations_of b) u Enable ≡ [] = old-never (equations_of b) u d never found in
    let reads : reads_absorbed b absorbed u Enable ≡ false = ap (read_absorbed (equations_of b) absorbed) none in
    let own : IsControlBy false b absorbed u Enable (Some (gate_products g)) = subst (λ (q : Bool). IsControlBy q b absorbed u Enable (Some (gate_products g))) reads is in
    none-never g (same_Some (gate_products g) (old_products (equations_of b) u Enable) own ∙ none)

-- A unit with its old rows: its pin, its number, and its rows by what it drives.
use Rattle.std.proofs.Common.{ℕ, ◌≡◌, Option, Some, None, refl, ap, ◌∙◌}
use Rattle.std.specs.List.{slice_get}
use Rattle.mig_base.specs.declared.circuit.Gives.{Gives}
use Rattle.mig_base.specs.declared.circuit.Gives.TheVariants.{Sum, Visible}
use Rattle.mig_base.specs.declared.circuit.Driver.{Driver}
use Rattle.mig_base.specs.declared.circuit.Register.{Register}
use Rattle.mig_base.specs.declared.circuit.Circuit.{Circuit}
use Rattle.new_board.specs.OneForOne.{old_reg, old_giving, old_driving, old_rows}

reg-pin : (c : Circuit) (pin i : ℕ) (d : Driver) (o : Option Register) → (old_reg c pin i d o).pin ≡ pin
reg-pin c pin i d None = refl
reg-pin c pin i d (Some r) = refl

giving-pin : (c : Circuit) (pin i : ℕ) (d : Driver) (g : Gives) → (old_giving c pin i d g).pin ≡ pin
giving-pin c pin i d (Sum terms) = refl
giving-pin c pin i d (Visible k) = reg-pin c pin i d (slice_get c.registers k)

driving-pin : (c : Circuit) (pin i : ℕ) (o : Option Driver) → (old_driving c pin i o).pin ≡ pin
driving-pin c pin i None = refl
driving-pin c pin i (Some d) = giving-pin c pin i d d.gives

pub old-pin : (c : Circuit) (pin i : ℕ) → (old_rows c pin i).pin ≡ pin
old-pin c pin i = driving-pin c pin i (slice_get c.units i)

reg-unit : (c : Circuit) (pin i : ℕ) (d : Driver) (o : Option Register) → (old_reg c pin i d o).unit ≡ i
reg-unit c pin i d None = refl
reg-unit c pin i d (Some r) = refl

giving-unit : (c : Circuit) (pin i : ℕ) (d : Driver) (g : Gives) → (old_giving c pin i d g).unit ≡ i
giving-unit c pin i d (Sum terms) = refl
giving-unit c pin i d (Visible k) = reg-unit c pin i d (slice_get c.registers k)

driving-unit : (c : Circuit) (pin i : ℕ) (o : Option Driver) → (old_driving c pin i o).unit ≡ i
driving-unit c pin i None = refl
driving-unit c pin i (Some d) = giving-unit c pin i d d.gives

pub old-unit : (c : Circuit) (pin i : ℕ) → (old_rows c pin i).unit ≡ i
old-unit c pin i = driving-unit c pin i (slice_get c.units i)

-- the rows of a unit whose equation is known
pub old-rows : (c : Circuit) (pin i : ℕ) (d : Driver) → slice_get c.units i ≡ Some d → old_rows c pin i ≡ old_giving c pin i d d.gives
old-rows c pin i d e = ap (old_driving c pin i) e

-- of a registered one, by its register
pub old-reg : (c : Circuit) (pin i k : ℕ) (d : Driver) (r : Register) → slice_get c.units i ≡ Some d → d.gives ≡ Visible k → slice_get c.registers k ≡ Some r →
    old_rows c pin i ≡ old_reg c pin i d (Some r)
old-reg c pin i k d r e g h = old-rows c pin i d e ∙ ap (old_giving c pin i d) g ∙ ap (old_reg c pin i d) h

-- What a plan without breach says of placed units beside their rows.
use Rattle.std.specs.Prelude.{◌≡◌, ℕ, List, Some, slice_get}
use Rattle.mig_base.specs.declared.circuit.Driver.{Driver}
use Rattle.mig_base.specs.declared.circuit.Gate.TheVariants.{Never}
use Rattle.mig_base.specs.Among.{Among}
use Rattle.board.specs.Joined.{Joined, equations_of}
use Rattle.new_board.specs.declared.types.PlacedUnit.{PlacedUnit}
use Rattle.new_board.specs.NewChip.{NewChip}

-- each unit is placed once, none is absorbed, and one that is never enabled has no enable row
pub record ArePlacedOnce (b : Joined) (absorbed : List ℕ) (chips : List NewChip) : Type 0 where
  pub once : (i j : ℕ) (c d : NewChip) (x y : PlacedUnit) → slice_get chips i ≡ Some c → slice_get chips j ≡ Some d → Among x c.units → Among y d.units → x.unit ≡ y.unit → (i ≡ j) × (x.pin ≡ y.pin)
  pub kept : (c : NewChip) (x : PlacedUnit) → Among c chips → Among x c.units → Among x.unit absorbed → ⊥
  pub never : (c : NewChip) (x : PlacedUnit) (d : Driver) → Among c chips → Among x c.units → slice_get (equations_of b).units x.unit ≡ Some d → d.enable ≡ Never → x.enable ≡ Never

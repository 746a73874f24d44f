-- What the new chips of a planned board keep.
use Rattle.std.specs.Prelude.{◌≡◌, ℕ, false, List}
use Rattle.mig_base.specs.declared.circuit.Literal.{Literal}
use Rattle.mig_base.specs.Among.{Among}
use Rattle.mig_base.specs.Given.{IsGiven}
use Rattle.board.specs.Joined.{Joined, equations_of}
use Rattle.joiner.specs.AbsorbedNets.{AreAbsorbable}
use Rattle.new_board.specs.declared.types.PlacedUnit.{PlacedUnit}
use Rattle.new_board.specs.NewChip.{NewChip, control_products, gate_products}
use Rattle.new_board.proofs.Columns.{IsReadable}
use Rattle.new_board.proofs.WellMade.{IsFitChip}
use Rattle.plans.specs.Fitting.{new_board}
use Rattle.plans.specs.Forms.{read_absorbed}
use Rattle.plans.specs.Placings.{old}
use Rattle.planned_boards.specs.Planned.{IsPlannedChip}

-- the rows of a placed unit read no absorbed net
pub record ReadsStaying (b : Joined) (absorbed : List ℕ) (x : PlacedUnit) : Type 0 where
  pub terms : read_absorbed (equations_of b) absorbed x.terms ≡ false
  pub enable : read_absorbed (equations_of b) absorbed (gate_products x.enable) ≡ false
  pub reset : read_absorbed (equations_of b) absorbed (gate_products x.reset) ≡ false
  pub preset : read_absorbed (equations_of b) absorbed (gate_products x.preset) ≡ false

-- a new chip whose units fit their cells and have rows of the parts of their old units, which read no absorbed net, and whose
-- reset and preset rows are read by its pins
pub record IsKeptChip (b : Joined) (absorbed : List ℕ) (chip : NewChip) : Type 0 where
  pub fit : IsFitChip (old b) chip
  pub planned : IsPlannedChip b absorbed chip
  pub controls : (t : List Literal) → Among t (control_products (equations_of b) chip) → IsReadable (old b) chip t
  pub staying : (x : PlacedUnit) → Among x chip.units → ReadsStaying b absorbed x

-- an old board and the new board of such chips
pub record AreKeptChips (b : Joined) (absorbed : List ℕ) (chips : List NewChip) : Type 0 where
  pub old_given : IsGiven b.net b.chips
  pub given : IsGiven (new_board b chips).net (new_board b chips).chips
  pub absorbable : AreAbsorbable b absorbed
  pub chip : (c : NewChip) → Among c chips → IsKeptChip b absorbed c

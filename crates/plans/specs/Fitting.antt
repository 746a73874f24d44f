-- What is built by a plan: its chips with their cells and wires, and its wiring.
use Rattle.std.specs.Prelude.{◌≡◌, List, map}
use Rattle.mig_base.specs.declared.plans.Plan.{Plan}
use Rattle.board.specs.Joined.{Joined}
use Rattle.new_board.specs.declared.types.FittedChip.{FittedChip}
use Rattle.new_board.specs.NewChip.{NewChip}
use Rattle.new_board.specs.NewFiles.{fitted, new_net}
use Rattle.plans.specs.FirstOf.{AreEach}
use Rattle.plans.specs.Placings.{old}
use Rattle.plans.specs.Forms.{IsNewChip}

-- the new chips of a plan, in plan order
abbrev pub AreNewChips : Joined → Plan → List NewChip → Type 0
AreNewChips b p chips = AreEach (IsNewChip b p) p.chips chips

-- new chips with their cells and wires
abbrev pub fitted_chips : Joined → List NewChip → List FittedChip
fitted_chips b chips = map (fitted (old b)) chips

-- the new chips of a plan with their cells and wires
pub record AreFitted (b : Joined) (p : Plan) (built : List FittedChip) : Type 0 where
  pub chips : List NewChip
  pub are_new : AreNewChips b p chips
  pub are : built ≡ fitted_chips b chips

-- the new board: its wiring and its cells
abbrev pub new_board : Joined → List NewChip → Joined
new_board b chips = record { net = new_net b.net (fitted_chips b chips); chips = map (λ f. f.cells) (fitted_chips b chips) }

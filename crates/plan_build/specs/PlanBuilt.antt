-- What is kept by the board that a plan without breach makes.
use Rattle.std.specs.Prelude.{ℕ, List, map}
use Rattle.mig_base.specs.declared.plans.Plan.{Plan}
use Rattle.mig_base.specs.Accepted.{IsAccepted}
use Rattle.mig_base.specs.Given.{IsGiven}
use Rattle.board.specs.Joined.{Joined, equations_of}
use Rattle.level_laws.specs.SameBehaviour.{IsSame}
use Rattle.matchings.specs.Matchings.{IsProving}
use Rattle.new_board.specs.declared.types.FittedChip.{FittedChip}
use Rattle.new_board.specs.NewFiles.{new_net}
use Rattle.plan_text.specs.PlanText.{IsPlan}
use Rattle.plans.specs.Breaches.{HasNoBreach}
use Rattle.plans.specs.Fitting.{AreFitted}
use Rattle.fitted_cells.specs.FittedCells.{IsBuiltWell}

-- the board of new chips
abbrev pub built_board : Joined → List FittedChip → Joined
built_board b built = record { net = new_net b.net built; chips = map (λ f. f.cells) built }

-- its files can be written, it is accepted, it shows on every port what the old board shows, and some matching of the two proves that
pub record IsBuilt (b : Joined) (p : Plan) (built : List FittedChip) : Type 0 where
  pub well : IsBuiltWell b p built
  pub accepted : IsAccepted (equations_of (built_board b built))
  pub same : IsSame b.net b.chips (new_net b.net built) (map (λ f. f.cells) built)
  pub classes : List ℕ
  pub proving : IsProving b (built_board b built) classes

-- a plan that a text can say and that has no breach on an accepted board is built
abbrev pub PlansAreBuilt : Type 0
PlansAreBuilt = (b : Joined) (p : Plan) (built : List FittedChip) → IsGiven b.net b.chips → IsAccepted (equations_of b) → IsPlan p → HasNoBreach b p → AreFitted b p built → IsBuilt b p built

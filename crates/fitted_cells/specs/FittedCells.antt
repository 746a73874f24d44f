-- What is kept by the new chips that a plan without breach makes.
use Rattle.std.specs.Prelude.{◌≡◌, ◌≤◌, IsTrue, List, map, length}
use Rattle.std.specs.List.{AllByRecursion, list_all}
use Rattle.mig_base.specs.declared.plans.Plan.{Plan}
use Rattle.mig_base.specs.DeviceTables.{is_gal}
use Rattle.mig_base.specs.Given.{IsGiven}
use Rattle.mig_base.specs.Names.{is_name}
use Rattle.mig_base.specs.WellFormed.{IsWellFormed}
use Rattle.mig_base.specs.WrittenBoard.{IsWritable}
use Rattle.board.specs.Joined.{Joined}
use Rattle.new_board.specs.declared.types.FittedChip.{FittedChip}
use Rattle.new_board.specs.NewFiles.{new_net}
use Rattle.plan_text.specs.PlanText.{IsPlan}
use Rattle.plans.specs.Breaches.{HasNoBreach}
use Rattle.plans.specs.Fitting.{AreFitted}

-- what is asked of the files of the new board: chips of the plan's names and kinds, which are GALs, with cells that some fuses
-- make, and a wiring and a plan that have a text
pub record IsBuiltWell (b : Joined) (p : Plan) (built : List FittedChip) : Type 0 where
  pub cells : AllByRecursion (λ f. IsWellFormed f.cells) built
  pub gals : IsTrue (list_all (λ f. is_gal f.cells.kind) built)
  pub kinds : map (λ f. f.cells.kind) built ≡ map (λ c. c.kind) p.chips
  pub names : map (λ f. f.name) built ≡ map (λ c. c.name) p.chips
  pub named : IsTrue (list_all (λ f. is_name f.name) built)
  pub few : length built ≤ 64
  pub wiring : IsWritable (new_net b.net built)
  pub plan : IsPlan p

-- the new chips of a plan that a text can say and that has no breach are built well
abbrev pub PlansAreBuiltWell : Type 0
PlansAreBuiltWell = (b : Joined) (p : Plan) (built : List FittedChip) → IsGiven b.net b.chips → IsWritable b.net → IsPlan p → HasNoBreach b p → AreFitted b p built → IsBuiltWell b p built

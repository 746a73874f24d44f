-- The answers of the reader of plan texts.
use Rattle.std.specs.Prelude.{◌≡◌, List, [], Some, None, Result, Ok, Err}
use Rattle.mig_base.specs.declared.plans.Plan.{Plan}
use Rattle.mig_base.specs.declared.plans.PlanError.{PlanError}
use Rattle.mig_base.specs.declared.plans.PlanError.TheVariants.{Memory}
use Rattle.mig_base.specs.First.{first_refusal}
use Rattle.plan_text.specs.declared.lines.SaidLine.{SaidLine}
use Rattle.plan_text.specs.PlanText.{line_refusal, plan_in}

-- where memory doesn't run out
abbrev pub UnlessMemory : PlanError → Type 0 → Type 0
UnlessMemory Memory P = Unit {0}
UnlessMemory _ P = P

-- the plan of lines that nothing refuses, or the first refusal
abbrev pub Judges : List SaidLine → Result Plan PlanError → Type 0
Judges lines (Ok plan) = (first_refusal line_refusal [] lines ≡ None) × (plan ≡ plan_in lines)
Judges lines (Err e) = UnlessMemory e (first_refusal line_refusal [] lines ≡ Some e)

-- the answer is this one
abbrev pub Answers : Result Plan PlanError → Result Plan PlanError → Type 0
Answers said (Ok plan) = said ≡ Ok plan
Answers said (Err e) = UnlessMemory e (said ≡ Err e)

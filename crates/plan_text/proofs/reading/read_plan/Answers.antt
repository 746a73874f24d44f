use Rattle.std.proofs.Common.{◌≡◌, ap, ◌∙◌, sym, subst, List, []}
use Rattle.mig_base.specs.First.{first_refusal}
use Rattle.plan_text.specs.declared.lines.SaidLine.{SaidLine}
use Rattle.plan_text.specs.PlanText.{said_lines, plan_in, line_refusal, IsPlan}
use Rattle.plan_text.proofs.GivenPlans.{accepted-plan}
use Rattle.plan_text.proofs.reading.read_plan.Goals as goal

pub returns-clause-plan : goal.returns-clause-plan
returns-clause-plan c =
    let lines : c.as_slice.result.now ≡ said_lines c.args.bytes.now = c.as_slice.ensures.value ∙ c.in-Ok.ensures in
    subst IsPlan (ap plan_in (sym lines) ∙ sym c.in_ok-plan.ensures.1)
    (accepted-plan c.args.bytes.now (ap (λ (ls : List SaidLine). first_refusal line_refusal [] ls) (sym lines) ∙ c.in_ok-plan.ensures.0))

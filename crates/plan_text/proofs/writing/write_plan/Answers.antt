use Rattle.std.proofs.Common.{◌≡◌, length, ap, ◌∙◌, arith}
use Rattle.std.proofs.lemmas.Grind.{common_steps}
use Rattle.mig_base.specs.WrittenPlan.{written_plan}
use Rattle.plan_text.specs.PlanText.{plan_of_text}
use Rattle.plan_text.proofs.PlanBytes.{plan-bytes}
use Rattle.plan_text.proofs.PlanReadBack.{plan-read}
use Rattle.plan_text.proofs.writing.write_plan.Goals as goal

pub returns-clause-fits : goal.returns-clause-fits
returns-clause-fits c short =
    let written : c.into_bytes.result.items ≡ written_plan c.args.plan.now = grind (arith, common_steps) in
    let small = plan-bytes c.args.plan.now short in
    let same = ap length written in
    omega arith

pub returns-clause-read_back : goal.returns-clause-read_back
returns-clause-read_back c plan =
    let written : c.into_bytes.result.items ≡ written_plan c.args.plan.now = grind (arith, common_steps) in
    ap plan_of_text written ∙ plan-read c.args.plan.now plan

use Rattle.plan_rows.proofs.NamedVariables.{refusal-names}
use Rattle.plan_rows.proofs.holding.checked.Goals as goal

pub told-requires : goal.told-requires
told-requires c = refusal-names c.args.board.now c.args.plan.now c.check_plan-checked.result (c.breaches_name_variables.ensures c.args.board.now c.args.plan.now) c.check_plan-checked.ensures.refused

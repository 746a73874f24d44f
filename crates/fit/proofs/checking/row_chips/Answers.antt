use Rattle.fit.proofs.RuleOrder.{chips-left}
use Rattle.fit.proofs.checking.row_chips.Goals as goal

pub returns : goal.returns
returns c = chips-left c.args.board.now c.args.plan.now c.in_ok-answer.answer c.requires.rows.none c.in_ok-answer.ensures

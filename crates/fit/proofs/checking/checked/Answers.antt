use Rattle.std.proofs.Common.{subst}
use Rattle.plans.specs.FirstOf.{GivesFirst}
use Rattle.plans.specs.Breaches.{RuleGives, line_rules}
use Rattle.fit.proofs.RuleOrder.{line-first, placed-left}
use Rattle.fit.proofs.checking.checked.Goals as goal

pub returns-in-Some : goal.returns-in-Some
returns-in-Some c = line-first c.args.board.now c.args.plan.now c.in-Some.breach (subst (GivesFirst (RuleGives c.args.board.now c.args.plan.now) line_rules) c.in-Some.is c.in_ok-breach.ensures)

pub placed_chips-requires-clause-lines : goal.placed_chips-requires-clause-lines
placed_chips-requires-clause-lines c = subst (GivesFirst (RuleGives c.args.board.now c.args.plan.now) line_rules) c.in_default.is c.in_ok-breach.ensures

pub returns : goal.returns
returns c =
    placed-left c.args.board.now c.args.plan.now c.in_ok-answer.answer (subst (GivesFirst (RuleGives c.args.board.now c.args.plan.now) line_rules) c.in_default.is c.in_ok-breach.ensures)
    c.in_ok-answer.ensures

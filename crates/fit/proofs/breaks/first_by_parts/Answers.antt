use Rattle.fit.proofs.RuleSteps.{none-over, terms-left}
use Rattle.fit.proofs.breaks.first_by_parts.Goals as goal

pub first_terms_over-requires-clause-free : goal.first_terms_over-requires-clause-free
first_terms_over-requires-clause-free c = none-over c.args.reckoned.now.placed.now.board.now c.args.reckoned.now.placed.now.plan.now c.in_default.ensures

pub returns : goal.returns
returns c =
    terms-left c.args.reckoned.now.placed.now.board.now c.args.reckoned.now.placed.now.plan.now c.args.reckoned.now.placed.now.units.now c.first_terms_over.result c.args.reckoned.now.placed.now.are
    c.in_default.ensures c.first_terms_over.ensures

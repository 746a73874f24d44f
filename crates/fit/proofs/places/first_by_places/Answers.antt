use Rattle.fit.proofs.RuleSteps.{places-give}
use Rattle.fit.proofs.places.first_by_places.Goals as goal

pub returns : goal.returns
returns c = places-give c.args.placed.now.board.now c.args.placed.now.plan.now c.first_by.result c.first_by.ensures

use Rattle.fit.proofs.FirstUnits.{first-at}
use Rattle.fit.proofs.placed.Placed.first_on.Goals as goal

pub returns-clause-first : goal.returns-clause-first
returns-clause-first c = first-at c.args.self.now.board.now c.args.self.now.plan.now c.args.unit.now c.args.self.now.units.now c.first_place.result c.args.self.now.are c.first_place.ensures.place

use Rattle.plan_lines.proofs.Names.{number-of}
use Rattle.plan_lines.proofs.units.unit_named.Goals as goal

pub returns-clause-number : goal.returns-clause-number
returns-clause-number c = number-of c.args.board.now c.units.result.now c.args.name.now c.unit_among.result c.units.ensures.units c.unit_among.ensures.place

use Rattle.std.proofs.Common.{true, false, sym, ◌∙◌}
use Rattle.plan_lines.proofs.Names.{taken-by}
use Rattle.plan_lines.proofs.lines.pin_taken.Goals as goal

pub returns-then-any_takes : goal.returns-then-any_takes
returns-then-any_takes c = sym (taken-by c.args.before.now c.args.line.now c.in-Place.unit c.in-Place.chip c.in-Place.pin true c.in-Place.is (sym c.if-any_takes.true ∙ c.any_takes.ensures))

pub returns-else-any_takes : goal.returns-else-any_takes
returns-else-any_takes c = sym (taken-by c.args.before.now c.args.line.now c.in-Place.unit c.in-Place.chip c.in-Place.pin false c.in-Place.is (sym c.if-any_takes.false ∙ c.any_takes.ensures))

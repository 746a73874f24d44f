use Rattle.std.proofs.Common.{sym, subst}
use Rattle.board.specs.Joined.{Joined}
use Rattle.joiner.specs.AbsorbedNets.{AreAbsorbable}
use Rattle.fit.proofs.unit_rules.unit_breach.Goals as goal

pub part_breach-requires-clause-absorbable : goal.part_breach-requires-clause-absorbable
part_breach-requires-clause-absorbable c = subst (λ (b : Joined). AreAbsorbable b c.args.absorbed.now) (sym c.new-placed.ensures.board) c.requires.absorbable

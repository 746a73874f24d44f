use Rattle.std.proofs.Common.{List, length, ◌<◌, sym, ap, ◌∙◌, subst}
use Rattle.mig_base.specs.Among.{Among}
use Rattle.board.specs.Joined.{Joined, equations_of}
use Rattle.board.specs.UnitLists.{units_on}
use Rattle.plans.specs.declared.placing.Placing.{Placing}
use Rattle.fit.proofs.PlacedLaws.{placed-within}
use Rattle.fit.proofs.parts.reckon.Goals as goal

pub reckon_units-requires-clause-within : goal.reckon_units-requires-clause-within
reckon_units-requires-clause-within c x a =
    subst (λ (j : Joined). x.unit < length (equations_of j).units) (sym (c.in_ok-absorbed.ensures.board ∙ c.requires.board))
    (placed-within c.args.placed.now.board.now c.args.placed.now.plan.now c.units-units.result.now (c.units-units.ensures.units ∙ ap (λ (j : Joined). units_on j.net j.chips) c.requires.board)
    (c.units-units.ensures.all ∙ ap (λ (j : Joined). length (equations_of j).units) c.requires.board) x (subst (λ (us : List Placing). Among x us) c.args.placed.now.are a))

use Rattle.std.proofs.Common.{Option, None, subst}
use Rattle.mig_base.specs.declared.plans.Breach.{Breach}
use Rattle.plans.specs.FirstOf.{GivesFirst}
use Rattle.plans.specs.Breaches.{RuleGives}
use Rattle.fit.specs.UnitAnswers.{part_rules}
use Rattle.fit.proofs.RuleSteps.{part-breaks}
use Rattle.fit.proofs.unit_rules.part_breach.Goals as goal

pub returns : goal.returns
returns c =
    let b = c.args.placed.now.board.now in
    let p = c.args.placed.now.plan.now in
    record {
      none = part-breaks b p None c.requires.free (subst (λ (o : Option Breach). GivesFirst (RuleGives b p) part_rules o) c.in-None.is c.in_ok-breach.ensures);
      are = c.in_ok-rows_of-in-None.ensures;
    }

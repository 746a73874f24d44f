use Rattle.std.proofs.Common.{Option, sym, subst}
use Rattle.mig_base.specs.declared.plans.Breach.{Breach}
use Rattle.plans.specs.FirstOf.{Gives}
use Rattle.plans.specs.Placings.{absorbed_units}
use Rattle.plans.specs.UnitBreaches.{GivesConeWide, GivesPrimesOver}
use Rattle.fit.specs.declared.breaks.PartRule.{PartRule}
use Rattle.fit.specs.RuleLists.{PartGives}
use Rattle.fit.proofs.PartLaws.{wide-gives, over-gives}
use Rattle.fit.proofs.RuleSteps.{by-wide, by-over, by-reset, by-enable}
use Rattle.fit.proofs.breaks.broken.Goals as goal

pub returns-in-ConeWide : goal.returns-in-ConeWide
returns-in-ConeWide c =
    let b = c.args.reckoned.now.placed.now.board.now in
    let p = c.args.reckoned.now.placed.now.plan.now in
    subst (λ (r : PartRule). Gives (PartGives b p r) c.args.unit.now c.cone_wide.result) (sym c.in-ConeWide.is)
    (by-wide b p c.args.unit.now c.cone_wide.result (subst (λ (o : Option Breach). Gives (GivesConeWide b (absorbed_units b p)) c.args.unit.now o) (sym c.cone_wide.ensures)
    (wide-gives b (absorbed_units b p) c.args.unit.now c.args.parts.now c.requires.parts)))

pub returns-in-PrimesOver : goal.returns-in-PrimesOver
returns-in-PrimesOver c =
    let b = c.args.reckoned.now.placed.now.board.now in
    let p = c.args.reckoned.now.placed.now.plan.now in
    subst (λ (r : PartRule). Gives (PartGives b p r) c.args.unit.now c.primes_over.result) (sym c.in-PrimesOver.is)
    (by-over b p c.args.unit.now c.primes_over.result (subst (λ (o : Option Breach). Gives (GivesPrimesOver b (absorbed_units b p)) c.args.unit.now o) (sym c.primes_over.ensures)
    (over-gives b (absorbed_units b p) c.args.unit.now c.args.parts.now c.requires.parts)))

pub returns-in-WrongReset : goal.returns-in-WrongReset
returns-in-WrongReset c =
    let b = c.args.reckoned.now.placed.now.board.now in
    let p = c.args.reckoned.now.placed.now.plan.now in
    subst (λ (r : PartRule). Gives (PartGives b p r) c.args.unit.now c.wrong_reset.result) (sym c.in-WrongReset.is) (by-reset b p c.args.unit.now c.wrong_reset.result c.wrong_reset.ensures)

pub returns-in-WrongEnable : goal.returns-in-WrongEnable
returns-in-WrongEnable c =
    let b = c.args.reckoned.now.placed.now.board.now in
    let p = c.args.reckoned.now.placed.now.plan.now in
    subst (λ (r : PartRule). Gives (PartGives b p r) c.args.unit.now c.wrong_enable.result) (sym c.in-WrongEnable.is) (by-enable b p c.args.unit.now c.wrong_enable.result c.wrong_enable.ensures)

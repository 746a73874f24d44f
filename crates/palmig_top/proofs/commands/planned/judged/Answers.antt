use Rattle.std.proofs.Common.{◌≡◌, sym, subst}
use Rattle.mig_base.specs.declared.plans.Plan.{Plan}
use Rattle.breach_names.proofs.Named.{breach-named}
use Rattle.fit.specs.declared.Fitted.{Fitted}
use Rattle.fit.specs.declared.FitError.TheVariants as error
use Rattle.fit.specs.Answers.{RefusesPlan}
use Rattle.plan_text.specs.PlanText.{IsPlan}
use Rattle.plans.specs.Breaches.{HasNoBreach}
use Rattle.plans.specs.Fitting.{AreFitted}
use Rattle.palmig_top.proofs.Checked.{if-ok, if-err}
use Rattle.palmig_top.proofs.PlanSteps.{plan-built, plan-broken}
use Rattle.palmig_top.proofs.commands.planned.judged.Goals as goal

pub built-requires-clause-plan : goal.built-requires-clause-plan
built-requires-clause-plan c =
    subst IsPlan (sym (if-ok c.args.checked c.in-Ok.fitted (λ (f : Fitted). f.plan ≡ c.args.plan.now) c.in-Ok.is c.requires.plan)) c.requires.read

pub built-requires-clause-free : goal.built-requires-clause-free
built-requires-clause-free c =
    subst (HasNoBreach c.args.board.now) (sym (if-ok c.args.checked c.in-Ok.fitted (λ (f : Fitted). f.plan ≡ c.args.plan.now) c.in-Ok.is c.requires.plan))
    (if-ok c.args.checked c.in-Ok.fitted (λ (f : Fitted). HasNoBreach c.args.board.now c.args.plan.now) c.in-Ok.is c.requires.free)

pub built-requires-clause-chips : goal.built-requires-clause-chips
built-requires-clause-chips c =
    subst (λ (p : Plan). AreFitted c.args.board.now p c.in-Ok.fitted.chips) (sym (if-ok c.args.checked c.in-Ok.fitted (λ (f : Fitted). f.plan ≡ c.args.plan.now) c.in-Ok.is c.requires.plan))
    (if-ok c.args.checked c.in-Ok.fitted (λ (f : Fitted). AreFitted c.args.board.now c.args.plan.now f.chips) c.in-Ok.is c.requires.chips)

pub returns-in-Ok : goal.returns-in-Ok
returns-in-Ok c =
    plan-built c.args.new.now c.args.board.now c.args.plan.now c.in-Ok.fitted.plan c.in-Ok.fitted.chips c.built.result
    (if-ok c.args.checked c.in-Ok.fitted (λ (f : Fitted). f.plan ≡ c.args.plan.now) c.in-Ok.is c.requires.plan)
    (if-ok c.args.checked c.in-Ok.fitted (λ (f : Fitted). HasNoBreach c.args.board.now c.args.plan.now) c.in-Ok.is c.requires.free)
    (if-ok c.args.checked c.in-Ok.fitted (λ (f : Fitted). AreFitted c.args.board.now c.args.plan.now f.chips) c.in-Ok.is c.requires.chips) c.built.ensures

pub refused-requires : goal.refused-requires
refused-requires c =
    breach-named c.args.board.now c.args.plan.now c.in-Err-Breach.breach
    (if-err c.args.checked c.in-Err-Breach.field-0 (error.Breach c.in-Err-Breach.breach) (RefusesPlan c.args.board.now c.args.plan.now) c.in-Err-Breach.is c.in-Err-Breach.field-0-is c.requires.refused)

pub returns-in-Err-Breach : goal.returns-in-Err-Breach
returns-in-Err-Breach c =
    plan-broken c.args.new.now c.args.board.now c.args.plan.now c.in-Err-Breach.breach c.refused.result
    (if-err c.args.checked c.in-Err-Breach.field-0 (error.Breach c.in-Err-Breach.breach) (RefusesPlan c.args.board.now c.args.plan.now) c.in-Err-Breach.is c.in-Err-Breach.field-0-is c.requires.refused)
    c.refused.ensures

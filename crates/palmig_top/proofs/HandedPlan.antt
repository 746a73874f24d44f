-- What a plan that was read keeps, and that no refusal of its file is Done.
use Rattle.std.proofs.Common.{ℕ, ◌≡◌, Bool, true, false, not, List, [], Option, Some, None, Result, Ok, Err, refl, sym, ap, ◌∙◌, subst}
use Rattle.mig_base.specs.declared.plans.Plan.{Plan}
use Rattle.mig_base.specs.declared.plans.PlanError.{PlanError}
use Rattle.mig_base.specs.declared.plans.PlanError.TheVariants.{NoEnd}
use Rattle.mig_base.specs.First.{first_refusal, or_else, unless}
use Rattle.mig_base.specs.Limits.{most_file_bytes}
use Rattle.mig_io.specs.Holding.{Held}
use Rattle.plan_text.specs.PlanText.{plan_of_text, plan_in, line_refusal, said_lines, any_ends, refuse, IsPlan}
use Rattle.plan_text.proofs.GivenPlans.{accepted-plan}
use Rattle.answers.specs.declared.exit.Exit.{Exit}
use Rattle.answers.specs.declared.exit.Refusal.TheVariants.{PlanText}
use Rattle.verdicts.specs.Outcomes.{◌>>=◌}
use Rattle.verdicts.specs.JudgedBoard.{loaded}
use Rattle.verdicts.specs.commands.Migrate.{plan_of, plan_held}
use Rattle.palmig_top.proofs.HeldParts.{went, told}

ok-same : (x y : Plan) → (let q : Result Plan PlanError = Ok x in q) ≡ Ok y → x ≡ y
ok-same x y p = cc

-- the plan that a text says
pub plan-given : (bytes : List ℕ) (p : Plan) → plan_of_text bytes ≡ Ok p → IsPlan p
plan-given bytes p e = at (first_refusal line_refusal [] (said_lines bytes)) refl e
  where
    ended : (b : Bool) → first_refusal line_refusal [] (said_lines bytes) ≡ None → unless (refuse b NoEnd) (Ok (plan_in (said_lines bytes))) ≡ Ok p → IsPlan p
    ended true h e = cc
    ended false h e = subst IsPlan (ok-same (plan_in (said_lines bytes)) p e) (accepted-plan bytes h)

    at : (o : Option PlanError) → first_refusal line_refusal [] (said_lines bytes) ≡ o → unless (or_else o (refuse (not (any_ends (said_lines bytes))) NoEnd)) (Ok (plan_in (said_lines bytes))) ≡ Ok p → IsPlan p
    at None h e = ended (not (any_ends (said_lines bytes))) h e
    at (Some x) h e = cc

-- the plan in a file
pub plan-read : (h : Held) (name : List ℕ) (p : Plan) → plan_held h name ≡ Ok p → IsPlan p
plan-read h name p e =
    let a = went (loaded h most_file_bytes name) (λ bytes. plan_of name bytes) p e in
    plan-given a.at p (told (PlanText name) (plan_of_text a.at) p a.then)

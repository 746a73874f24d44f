-- What a plan's refusal names is there, since what a breach names is.
use Rattle.std.specs.Prelude.{Result, Ok, Err, IfErr}
use Rattle.mig_base.specs.declared.plans.Plan.{Plan}
use Rattle.mig_base.specs.declared.plans.Breach.{Breach}
use Rattle.board.specs.Joined.{Joined}
use Rattle.plans.specs.Breaches.{IsBreach}
use Rattle.fit.specs.declared.Fitted.{Fitted}
use Rattle.fit.specs.declared.FitError.{FitError}
use Rattle.fit.specs.declared.FitError.TheVariants as error
use Rattle.fit.specs.Answers.{RefusesPlan}
use Rattle.breach_names.specs.NamedVariables.{NamesVariable}
use Rattle.plan_rows.specs.Answers.{NamesOwn}

pub refusal-names : (b : Joined) (p : Plan) (r : Result Fitted FitError) → ((x : Breach) → IsBreach b p x → NamesVariable b x) → IfErr r (RefusesPlan b p) → IfErr r (NamesOwn b)
refusal-names b p (Ok fitted) law refused = refused
refusal-names b p (Err (error.Breach x)) law refused = law x refused
refusal-names b p (Err error.Memory) law refused = refused

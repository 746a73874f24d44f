-- The steps of a migration by a handed plan, or without one.
use Rattle.std.proofs.Common.{ℕ, ◌≡◌, ◌⊎◌, List, [], Option, Some, None, Result, Ok, Err, MatchResult, refl, sym, ap, ◌∙◌, subst, inl, inr}
use Rattle.std.specs.Prelude.{IfOk}
use Rattle.mig_base.specs.declared.plans.Plan.{Plan}
use Rattle.mig_base.specs.declared.plans.Breach.{Breach}
use Rattle.mig_io.specs.Counts.{Counts}
use Rattle.mig_io.specs.Holding.{Held}
use Rattle.new_board.specs.declared.types.FittedChip.{FittedChip}
use Rattle.plans.specs.Breaches.{IsBreach, HasNoBreach}
use Rattle.plans.specs.Fitting.{AreFitted}
use Rattle.answers.specs.declared.exit.Exit.{Exit}
use Rattle.answers.specs.declared.exit.Exit.TheVariants.{Memory}
use Rattle.answers.specs.declared.words.Migration.{Migration}
use Rattle.answers.proofs.OwnReports.{own-breach}
use Rattle.board.specs.Joined.{Joined}
use Rattle.verdicts.specs.HeldBoard.{plan_file}
use Rattle.verdicts.specs.Outcomes.{Outcome}
use Rattle.verdicts.specs.commands.Migrate.{MigratesBy, PlansTo, LoadsPlan, IsBroken, IsBuilt, breached, built, lacked, migrated_or_later}
use Rattle.palmig_top.specs.declared.prepared.Prepared.{Prepared}
use Rattle.palmig_top.specs.Preparing.{outcome_in}
use Rattle.palmig_top.specs.Steps.{Step, Finds, IsEnd}
use Rattle.palmig_top.proofs.Chains.{found}
use Rattle.palmig_top.proofs.NewFilesMade.{done-ends}

-- without a plan no file is loaded
pub unplanned : (m : Migration) (b : Joined) (handed : Option (List ℕ)) (held : Option Held) (before : Counts) (r : Result Prepared Exit) → handed ≡ None →
    Finds outcome_in (λ q. migrated_or_later m b ≡ q) r → Step outcome_in (λ h q. MigratesBy m handed h b q) (λ h f. LoadsPlan handed f) held held before before r
unplanned m b handed held before r none f =
    subst (λ (o : Option (List ℕ)). Step outcome_in (λ h q. MigratesBy m o h b q) (λ h f. LoadsPlan o f) held held before before r) (sym none)
    (found outcome_in (λ q. migrated_or_later m b ≡ q) (λ h f. LoadsPlan None f) held before r f)

pub by-handed : (m : Migration) (b : Joined) (handed : Option (List ℕ)) (stem : List ℕ) (held after : Option Held) (before now : Counts) (r : Result Prepared Exit) → handed ≡ Some stem →
    Step outcome_in (λ h q. MigratesBy m (Some stem) h b q) (λ h f. f ≡ plan_file stem) held after before now r →
    Step outcome_in (λ h q. MigratesBy m handed h b q) (λ h f. LoadsPlan handed f) held after before now r
by-handed m b handed stem held after before now r some p =
    subst (λ (o : Option (List ℕ)). Step outcome_in (λ h q. MigratesBy m o h b q) (λ h f. LoadsPlan o f) held after before now r) (sym some) p

-- a plan without breach comes to its files
pub plan-built : (new : List ℕ) (b : Joined) (p made : Plan) (chips : List FittedChip) (r : Result Prepared Exit) → made ≡ p → HasNoBreach b p → AreFitted b p chips →
    MatchResult r (λ x. outcome_in x ≡ built new b made chips) (λ e. e ≡ Memory) → Finds outcome_in (PlansTo new b p) r
plan-built new b p made chips (Ok x) same free fitted m = (outcome_in x, refl, inr (record { free = free; chips = chips; fitted = fitted; comes = m ∙ ap (λ (q : Plan). built new b q chips) same }))
plan-built new b p made chips (Err e) same free fitted m = subst (λ (x : Exit). Finds outcome_in (PlansTo new b p) (Err x)) (sym m) tt

-- another one to its breach
pub plan-broken : (new : List ℕ) (b : Joined) (p : Plan) (first : Breach) (r : Result Prepared Exit) → IsBreach b p first →
    MatchResult r (λ x. outcome_in x ≡ breached b first) (λ e. e ≡ Memory) → Finds outcome_in (PlansTo new b p) r
plan-broken new b p first (Ok x) is m = (outcome_in x, refl, inl (record { first = first; is = is; comes = m }))
plan-broken new b p first (Err e) is m = subst (λ (x : Exit). Finds outcome_in (PlansTo new b p) (Err x)) (sym m) tt

-- a breach is an end
breach-ends : (b : Joined) (x : Breach) → IsEnd (breached b x)
breach-ends b x = record { class = refl; sound = tt; own = λ own. own-breach (lacked b x) None x own }

made-ends : (new : List ℕ) (b : Joined) (p : Plan) (o : Outcome) → IsBroken b p o ⊎ IsBuilt new b p o → IsEnd o
made-ends new b p o (inl x) = subst IsEnd (sym x.comes) (breach-ends b x.first)
made-ends new b p o (inr x) = subst IsEnd (sym x.comes) (done-ends _ _)

ok-same : (x y : Outcome) → (let q : Result Outcome Exit = Ok x in q) ≡ Ok y → x ≡ y
ok-same x y p = cc

pub plan-ends : (new : List ℕ) (b : Joined) (p : Plan) (r : Result Prepared Exit) → Finds outcome_in (PlansTo new b p) r → IfOk r (λ x. IsEnd (outcome_in x))
plan-ends new b p (Err e) f = tt
plan-ends new b p (Ok x) f = subst IsEnd (sym (ok-same (outcome_in x) f.0 f.1)) (made-ends new b p f.0 f.2)

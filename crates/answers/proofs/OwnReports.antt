-- Which reports need no names of a board.
use Rattle.std.proofs.Common.{Option, ◌≡◌, true, List, [], ◌∷◌, refl, ap, codes}
use Rattle.mig_base.specs.declared.nets.NetLine.{NetLine}
use Rattle.mig_base.specs.declared.scripts.ScriptError.{ScriptError}
use Rattle.mig_base.specs.declared.scripts.ScriptError.TheVariants as script_error
use Rattle.answers.specs.declared.exit.Exit.{Exit}
use Rattle.answers.specs.declared.exit.Exit.TheVariants.{Done, Usage, Refused, Breached, Missing, ReadFault, SaveFault, OutFault, Memory}
use Rattle.answers.specs.declared.exit.Refusal.{Refusal}
use Rattle.answers.specs.declared.exit.Refusal.TheVariants.{Clash, Later, TooLong, Jed, Chip, Net, Board, Script, PlanText}
use Rattle.answers.specs.Exits.{is_own, is_own_script, is_own_refusal}
use Rattle.answers.specs.BreachLines.{is_own_breach, breached_line}
use Rattle.mig_base.specs.declared.plans.Breach.{Breach}
use Rattle.mig_base.specs.declared.plans.Breach.TheVariants as breach
use Rattle.mig_base.specs.declared.nets.Node.{Node}
use Rattle.mig_base.specs.WrittenBoard.{written_line}
use Rattle.answers.specs.Reasons.{Reason, reason_words, script_reason}
use Rattle.answers.specs.Reports.{answer_report}

own-script : (nets : List NetLine) (e : ScriptError) → is_own_script e ≡ true → script_reason nets e ≡ script_reason [] e
own-script nets (script_error.Line n) p = refl
own-script nets (script_error.PortUnknown n) p = refl
own-script nets (script_error.PortTwice n) p = refl
own-script nets (script_error.PortLeft net) p = cc
own-script nets (script_error.LevelBad n) p = refl
own-script nets (script_error.StepsOver n) p = refl
own-script nets script_error.NoEnd p = refl
own-script nets script_error.Memory p = refl

own-refusal : (nets : List NetLine) (r : Refusal) → is_own_refusal r ≡ true → answer_report nets (Refused r) ≡ answer_report [] (Refused r)
own-refusal nets Clash p = refl
own-refusal nets (Later f) p = refl
own-refusal nets (TooLong f) p = refl
own-refusal nets (Jed f e) p = refl
own-refusal nets (Chip f e) p = refl
own-refusal nets (Net f e) p = refl
own-refusal nets (Board f e) p = refl
own-refusal nets (PlanText f e) p = refl
own-refusal nets (Script f e) p = ap (λ (r : Reason). written_line (codes "refused" ∷ codes "script" ∷ f ∷ reason_words r)) (own-script nets e p)

-- the names of a board make no difference to a report that needs none
pub own-report : (nets : List NetLine) (e : Exit) → is_own e ≡ true → answer_report nets e ≡ answer_report [] e
own-report nets Done p = refl
own-report nets Usage p = refl
own-report nets (Refused r) p = own-refusal nets r p
own-report nets (Breached x) p = refl
own-report nets (Missing f) p = refl
own-report nets (ReadFault f) p = refl
own-report nets (SaveFault f) p = refl
own-report nets OutFault p = refl
own-report nets Memory p = refl

-- a breach that needs no names is told the same with any of them
pub own-breach : (named other : Option Node) (x : Breach) → is_own_breach x ≡ true → breached_line named x ≡ breached_line other x
own-breach named other (breach.ChipTwice chip) p = refl
own-breach named other (breach.UnitUnknown u) p = refl
own-breach named other (breach.UnitTwice u) p = refl
own-breach named other (breach.ChipUnknown u c) p = refl
own-breach named other (breach.NoCell u n) p = refl
own-breach named other (breach.PinTaken u n) p = refl
own-breach named other (breach.NotAbsorbable u) p = refl
own-breach named other (breach.Unplaced u) p = refl
own-breach named other (breach.Mode u) p = refl
own-breach named other (breach.Clock u) p = refl
own-breach named other (breach.Phase u) p = refl
own-breach named other (breach.ConeWide u n) p = refl
own-breach named other (breach.PrimesOver u) p = refl
own-breach named other (breach.Reset u) p = refl
own-breach named other (breach.Enable u) p = refl
own-breach named other (breach.TermsOver u n m) p = refl
own-breach named other (breach.FullRow u) p = refl
own-breach named other (breach.NoInput c v) p = cc

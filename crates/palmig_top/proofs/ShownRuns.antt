-- From the steps of a run to its answer.
use Rattle.std.proofs.Common.{ℕ, ◌≡◌, List, [], Option, Some, None, Result, Ok, Err, refl, sym, ◌∙◌, subst, inl, inr}
use Rattle.std.specs.Prelude.{IfSome, MatchResult}
use Rattle.std.specs.Option.{option_map}
use Rattle.mig_base.specs.declared.levels.Level.{Level}
use Rattle.mig_base.specs.declared.scripts.Script.{Script}
use Rattle.mig_io.specs.Counts.{Counts}
use Rattle.mig_io.specs.Holding.{Held}
use Rattle.answers.specs.declared.exit.Exit.{Exit}
use Rattle.answers.specs.declared.exit.Exit.TheVariants.{Done}
use Rattle.answers.specs.declared.words.Command.TheVariants.{Sim}
use Rattle.answers.specs.declared.words.Simulation.{Simulation}
use Rattle.answers.specs.Exits.{class_of}
use Rattle.answers.specs.Reports.{answer_report, run_report}
use Rattle.board.specs.Joined.{Joined}
use Rattle.verdicts.specs.HeldBoard.{sim_file}
use Rattle.verdicts.specs.JudgedBoard.{JudgesBoard, LoadsBoard}
use Rattle.verdicts.specs.commands.Sim.{JudgesRun, LoadsRun, script_held, shown_outcome}
use Rattle.verdicts.specs.Answer.{Call, Answers, IsReport, ReportAs, AnswersAs, placed_all}
use Rattle.verdicts.specs.Clauses.{Keeps}
use Rattle.palmig_top.specs.Steps.{Step, Gives, FailsAs}
use Rattle.palmig_top.specs.Concluding.{Sink, Puts, PutsShows, EndsRun, RunsOn, EndsBoard}
use Rattle.palmig_top.proofs.Chains.{fell-on, none-fell, fails-on, some-map, some-both}
use Rattle.palmig_top.proofs.Promises.{sink_of, keeps, unsent, wanting}
use Rattle.palmig_top.proofs.Ending.{keeps-failed, Answered, saved-whole}

-- what is told of files and sink before and after a run
abbrev pub run_call : Simulation → Option Held → Option Held → Counts → Counts → Sink → Call
run_call s held after before now out = record {
  said = Ok (Sim s);
  held = held;
  after = after;
  before = before;
  now = now;
  sent = out.sent;
  sent_after = out.after;
  faults = out.faults;
  faults_after = out.faults_after;
}

-- the board of a run failed
pub run-boardless : (s : Simulation) (held after : Option Held) (before now : Counts) (out : Sink) (result e : Exit) →
    Step {X = Joined} (λ b. b) (JudgesBoard s.board) (λ h f. LoadsBoard h s.board f) held after before now (Err e) →
    Puts e (answer_report [] e) out result → Keeps (run_call s held after before now out) result
run-boardless s held after before now out result e p put =
    keeps-failed (run_call s held after before now out) (JudgesBoard s.board) (λ h f. LoadsBoard h s.board f) [] e result (Sim s, refl) p.same p.later
    (λ h j. inr (e, j, refl)) (λ h f l. inl l) p.gives put

-- the board was read, and its script was refused
abbrev ReadsScript : Simulation → Joined → Held → Result Script Exit → Type 0
ReadsScript s b h q = JudgesBoard s.board h (Ok b) × (script_held h (sim_file s.script) b ≡ q)

pub run-scriptless : (s : Simulation) (b : Joined) (held mid after : Option Held) (before between now : Counts) (out : Sink) (result e : Exit) →
    Step (λ b. b) (JudgesBoard s.board) (λ h f. LoadsBoard h s.board f) held mid before between (Ok b) →
    Step {X = Script} (λ q. q) (λ h q. script_held h (sim_file s.script) b ≡ q) (λ h f. f ≡ sim_file s.script) mid after between now (Err e) →
    Puts e (answer_report b.net.nets e) out result → Keeps (run_call s held after before now out) result
run-scriptless s b held mid after before between now out result e p q put =
    keeps-failed (run_call s held after before now out) (ReadsScript s b) (LoadsRun s) b.net.nets e result (Sim s, refl) (q.same ∙ p.same) (fell-on before between now p.later q.later)
    (λ h j. inl (b, j.0, inr (e, j.1, refl))) (λ h f l. l)
    (fails-on (class_of e) (λ h (r : Result Script Exit). script_held h (sim_file s.script) b ≡ r) (ReadsScript s b) (λ h f. f ≡ sim_file s.script) (LoadsRun s) held before between now e p.later
    (some-map (λ h. JudgesBoard s.board h (Ok b)) (λ h. script_held h (sim_file s.script) b ≡ Err e → ReadsScript s b h (Err e)) held (λ h j r. (j, r)) p.gives)
    (some-map (λ h. JudgesBoard s.board h (Ok b)) (λ h. (f : List ℕ) → f ≡ sim_file s.script → LoadsRun s h f) held (λ h j f l. inr (b, j, l)) p.gives)
    (subst (λ (o : Option Held). FailsAs (class_of e) (λ h (r : Result Script Exit). script_held h (sim_file s.script) b ≡ r) (λ h f. f ≡ sim_file s.script) o between now e) p.same q.gives))
    put

none-saved : (held after : Option Held) → after ≡ held → after ≡ option_map (placed_all []) held
none-saved None after same = same
none-saved (Some h) after same = same

-- what was sent of a run that was done
run-sent : (call : Call) (s : Simulation) (text : List ℕ) (result : Exit) → call.said ≡ Ok (Sim s) → Answers call Done → IsReport call Done text → EndsRun text (sink_of call) result → Keeps call result
run-sent call s text result w a report (inl p) = keeps call Done text result a report (inl (p.0, (λ q. let no : ⊥ = cc in no), p.1))
run-sent call s text result w a report (inr (inl p)) = keeps call Done text result a report (inr (inl (p.0, (λ q. let no : ⊥ = cc in no), p.1, p.2)))
run-sent call s text result w a report (inr (inr p)) = subst (Keeps call) (sym p.0) (wanting call Done a (inr (Sim s, w, tt, (text, report, p.1))))

pub run-shown : (s : Simulation) (b : Joined) (script : Script) (held mid after : Option Held) (before between now : Counts) (out : Sink) (result : Exit) →
    Step (λ b. b) (JudgesBoard s.board) (λ h f. LoadsBoard h s.board f) held mid before between (Ok b) →
    Step (λ q. q) (λ h q. script_held h (sim_file s.script) b ≡ q) (λ h f. f ≡ sim_file s.script) mid after between now (Ok script) →
    PutsShows b script out result → Keeps (run_call s held after before now out) result
run-shown s b script held mid after before between now out result p q put =
    let call = run_call s held after before now out in
    let o = shown_outcome b put.0 in
    let judged : IfSome held (λ h. JudgesRun s h o) =
    some-both (λ h. JudgesBoard s.board h (Ok b)) (λ h. script_held h (sim_file s.script) b ≡ Ok script) (λ h. JudgesRun s h o) held (λ h j r. inl (b, j, inl (script, r, (put.0, put.1, refl)))) p.gives
    (subst (λ (m : Option Held). IfSome m (λ h. script_held h (sim_file s.script) b ≡ Ok script)) p.same q.gives) in
    let a = saved-whole call o (Sim s, refl) (record { class = refl; sound = tt; own = λ own. let no : ⊥ = cc in absurd no }) judged (none-saved held after (q.same ∙ p.same)) in
    run-sent call s o.report result refl (record { later = fell-on before between now p.later q.later; right = a.right }) (record { own = λ own. let no : ⊥ = cc in absurd no; judged = a.report }) put.2

-- a board was read, and then its run was brought to its end
pub run-ended : (s : Simulation) (b : Joined) (held mid after : Option Held) (before between now : Counts) (out : Sink) (result : Exit) →
    Step (λ b. b) (JudgesBoard s.board) (λ h f. LoadsBoard h s.board f) held mid before between (Ok b) → RunsOn s b mid after between now out result → Keeps (run_call s held after before now out) result
run-ended s b held mid after before between now out result p r = at r.script r.step r.put
  where
    at : (x : Result Script Exit) → Step {X = Script} (λ q. q) (λ h q. script_held h (sim_file s.script) b ≡ q) (λ h f. f ≡ sim_file s.script) mid after between now x →
        MatchResult x (λ q. PutsShows b q out result) (λ e. Puts e (answer_report b.net.nets e) out result) → Keeps (run_call s held after before now out) result
    at (Ok script) q put = run-shown s b script held mid after before between now out result p q put
    at (Err e) q put = run-scriptless s b held mid after before between now out result e p q put

-- a board was read or not, and then its run was brought to its end
pub run-concluded : (s : Simulation) (r : Result Joined Exit) (held mid after : Option Held) (before between now : Counts) (out : Sink) (result : Exit) →
    Step (λ b. b) (JudgesBoard s.board) (λ h f. LoadsBoard h s.board f) held mid before between r → EndsBoard s r mid after between now out result → Keeps (run_call s held after before now out) result
run-concluded s (Ok b) held mid after before between now out result p q = run-ended s b held mid after before between now out result p q
run-concluded s (Err e) held mid after before between now out result p q =
    run-boardless s held after before now out result e
    (subst (λ (n : Counts). Step {X = Joined} (λ b. b) (JudgesBoard s.board) (λ h f. LoadsBoard h s.board f) held after before n (Err e)) (sym q.counts)
    (subst (λ (o : Option Held). Step {X = Joined} (λ b. b) (JudgesBoard s.board) (λ h f. LoadsBoard h s.board f) held o before between (Err e)) (sym q.same) p)) q.put

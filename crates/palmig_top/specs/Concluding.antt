-- How a command ends: its files are loaded and saved, and then its report is sent.
use Rattle.std.specs.Prelude.{ℕ, ◌≡◌, ◌≢◌, ◌⊎◌, List, [], Option, Result, Ok, Err, MatchResult}
use Rattle.mig_io.specs.Counts.{Counts, Rose, NoneFell}
use Rattle.mig_io.specs.Holding.{Held}
use Rattle.answers.specs.declared.exit.Exit.{Exit}
use Rattle.answers.specs.declared.exit.Exit.TheVariants.{Done, OutFault, Memory}
use Rattle.answers.specs.Exits.{class_of}
use Rattle.answers.specs.Exits.Class.{Wanting}
use Rattle.answers.specs.Reports.{answer_report, run_report}
use Rattle.board.specs.Joined.{Joined}
use Rattle.mig_base.specs.declared.scripts.Script.{Script}
use Rattle.mig_base.specs.declared.levels.Level.{Level}
use Rattle.shown_runs.specs.Sending.{IsRunOf, Gets, GetsPart}
use Rattle.palmig_top.specs.declared.prepared.Prepared.{Prepared}
use Rattle.palmig_top.specs.Preparing.{outcome_in}
use Rattle.palmig_top.specs.Saving.{SavesAll}
use Rattle.palmig_top.specs.Steps.{Step}
use Rattle.verdicts.specs.HeldBoard.{sim_file}
use Rattle.verdicts.specs.commands.Sim.{script_held}
use Rattle.answers.specs.declared.words.Simulation.{Simulation}
use Rattle.verdicts.specs.Outcomes.{Outcome}

-- what the sink was sent, and how often it failed, before and after
pub record Sink : Type 0 where
  pub sent : Option (List ℕ)
  pub after : Option (List ℕ)
  pub faults : ℕ
  pub faults_after : ℕ

-- the sink got the text of an answer, or a part of it and failed, or memory was wanting and it got nothing
abbrev pub Puts : Exit → List ℕ → Sink → Exit → Type 0
Puts answer text out result =
    ((result ≡ answer) × (class_of answer ≢ Wanting) × Gets out.sent out.after text)
    ⊎ (((result ≡ OutFault) × (class_of answer ≢ Wanting) × Rose out.faults out.faults_after × GetsPart out.sent out.after text)
    ⊎ ((result ≡ Memory) × (out.after ≡ out.sent)))

-- the sink got this report; or a part of it, and failed or memory was wanting
abbrev pub EndsRun : List ℕ → Sink → Exit → Type 0
EndsRun text out result =
    ((result ≡ Done) × Gets out.sent out.after text)
    ⊎ (((result ≡ OutFault) × Rose out.faults out.faults_after × GetsPart out.sent out.after text)
    ⊎ ((result ≡ Memory) × GetsPart out.sent out.after text))

-- the sink got what the board shows under the script, as far as the answer says
abbrev pub PutsShows : Joined → Script → Sink → Exit → Type 0
PutsShows b script out result = (showns : List (List Level)) × IsRunOf b script showns × EndsRun (run_report b.net.nets showns) out result

-- the answer once the saves are tried
abbrev pub answer_of : Outcome → Result (Unit {0}) Exit → Exit
answer_of outcome (Ok saved) = outcome.answer
answer_of outcome (Err e) = e

-- the text of what was saved, or of the answer that came in its place
abbrev pub text_of : Outcome → Result (Unit {0}) Exit → List ℕ
text_of outcome (Ok saved) = outcome.report
text_of outcome (Err e) = answer_report [] e

-- what was prepared is saved or not, and the report of that is sent
pub record Finished (outcome : Outcome) (held after : Option Held) (before now : Counts) (out : Sink) (result : Exit) : Type 0 where
  pub saved : Result (Unit {0}) Exit
  pub saves : SavesAll outcome.saves held after before now saved
  pub later : NoneFell before now
  pub put : Puts (answer_of outcome saved) (text_of outcome saved) out result

-- no file is touched, and the report of the answer is sent
pub record Refuses (answer : Exit) (held after : Option Held) (before now : Counts) (out : Sink) (result : Exit) : Type 0 where
  pub same : after ≡ held
  pub counts : now ≡ before
  pub put : Puts answer (answer_report [] answer) out result

-- how what was prepared, or why it was not, is brought to its end
abbrev pub Concludes : Result Prepared Exit → Option Held → Option Held → Counts → Counts → Sink → Exit → Type 0
Concludes (Ok p) held after before now out result = Finished (outcome_in p) held after before now out result
Concludes (Err e) held after before now out result = Refuses e held after before now out result

-- the script for a board was read, and then what the board shows was sent; or why it was not
pub record RunsOn (s : Simulation) (b : Joined) (held after : Option Held) (before now : Counts) (out : Sink) (result : Exit) : Type 0 where
  pub script : Result Script Exit
  pub step : Step {X = Script} (λ q. q) (λ h q. script_held h (sim_file s.script) b ≡ q) (λ h f. f ≡ sim_file s.script) held after before now script
  pub put : MatchResult script (λ q. PutsShows b q out result) (λ e. Puts e (answer_report b.net.nets e) out result)

-- how the run of a board that was read, or why it was not, is brought to its end
abbrev pub EndsBoard : Simulation → Result Joined Exit → Option Held → Option Held → Counts → Counts → Sink → Exit → Type 0
EndsBoard s (Ok b) held after before now out result = RunsOn s b held after before now out result
EndsBoard s (Err e) held after before now out result = Refuses e held after before now out result

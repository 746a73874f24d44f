-- sim: what a board shows under a script.
use Rattle.std.specs.Prelude.{ℕ, ◌≡◌, ◌⊎◌, List, [], Result, Ok}
use Rattle.mig_base.specs.declared.levels.Level.{Level}
use Rattle.mig_base.specs.declared.nets.Net.{Net}
use Rattle.mig_base.specs.declared.scripts.Script.{Script}
use Rattle.mig_io.specs.Holding.{Held}
use Rattle.sim_run.specs.ScriptText.{ports_of, script_of_text}
use Rattle.answers.specs.declared.exit.Exit.{Exit}
use Rattle.answers.specs.declared.exit.Refusal.TheVariants.{Script as BadScript}
use Rattle.answers.specs.declared.words.Simulation.{Simulation}
use Rattle.answers.specs.Reports.{run_report}
use Rattle.board.specs.Joined.{Joined}
use Rattle.shown_runs.specs.Sending.{IsRunOf}
use Rattle.verdicts.specs.HeldBoard.{sim_file}
use Rattle.verdicts.specs.Outcomes.{◌>>=◌, Outcome, Ends, or_refused, done}
use Rattle.verdicts.specs.JudgedBoard.{JudgesBoard, LoadsBoard, loaded}

-- the most bytes of a script file
abbrev pub most_script_bytes : ℕ
most_script_bytes = 16777216

-- the script that a script text says for a wiring
abbrev pub script_of : List ℕ → Net → List ℕ → Result Script Exit
script_of name net bytes = or_refused (BadScript name) (script_of_text (ports_of net) bytes)

-- the script for a board in a file
abbrev pub script_held : Held → List ℕ → Joined → Result Script Exit
script_held held name b = loaded held most_script_bytes name >>= λ bytes. script_of name b.net bytes

-- nothing is saved, and the report is what the board shows
abbrev pub shown_outcome : Joined → List (List Level) → Outcome
shown_outcome b showns = done [] (run_report b.net.nets showns)

abbrev pub Shows : Joined → Script → Outcome → Type 0
Shows b script o = (showns : List (List Level)) × IsRunOf b script showns × (o ≡ shown_outcome b showns)

-- the script, told with the board's names where it is refused, and then the run
abbrev pub JudgesScript : Simulation → Held → Joined → Outcome → Type 0
JudgesScript s held b o = Ends b.net.nets (λ q. script_held held (sim_file s.script) b ≡ q) (Shows b) o

-- the board, then the script, then the run
abbrev pub JudgesRun : Simulation → Held → Outcome → Type 0
JudgesRun s held o = Ends [] (JudgesBoard s.board held) (JudgesScript s held) o

-- the files that are loaded for a run: each one, where every rule before its load holds
abbrev pub LoadsRun : Simulation → Held → List ℕ → Type 0
LoadsRun s held f = LoadsBoard held s.board f ⊎ ((b : Joined) × JudgesBoard s.board held (Ok b) × (f ≡ sim_file s.script))

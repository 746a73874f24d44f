-- What a sink gets of a text, and of the report of a run.
use Rattle.std.specs.Prelude.{ℕ, ◌≡◌, List, ◌++◌, take, map, Option, Result, Ok, Err}
use Rattle.std.specs.Option.{option_map}
use Rattle.mig_base.specs.declared.levels.Level.{Level}
use Rattle.mig_io.specs.declared.sink.PutError.{PutError}
use Rattle.mig_base.specs.declared.scripts.Script.{Script}
use Rattle.level_laws.specs.Runs.{IsRun}
use Rattle.board.specs.Joined.{Joined, equations_of}
use Rattle.answers.specs.Reports.{run_report}

-- the inputs of a script, step by step
abbrev pub inputs_of : Script → List (List Level)
inputs_of script = map (λ s. s.levels) script.steps

-- from power-up the board shows these levels under the script
abbrev pub IsRunOf : Joined → Script → List (List Level) → Type 0
IsRunOf b script showns = IsRun (equations_of b) (inputs_of script) showns

-- the sink got this text, where it tells what it was sent
abbrev pub Gets : Option (List ℕ) → Option (List ℕ) → List ℕ → Type 0
Gets old new text = new ≡ option_map (λ s. s ++ text) old

-- the sink got a first part of this text
abbrev pub GetsPart : Option (List ℕ) → Option (List ℕ) → List ℕ → Type 0
GetsPart old new text = (n : ℕ) × (new ≡ option_map (λ s. s ++ take n text) old)

-- the whole text, or after an error a first part of it
abbrev pub Sends : Option (List ℕ) → Option (List ℕ) → List ℕ → Result (Unit {0}) PutError → Type 0
Sends old new text (Ok done) = Gets old new text
Sends old new text (Err e) = GetsPart old new text

-- the sink got a front of a text, and the rest is still to be sent; or after an error a first part
abbrev pub Passes : Option (List ℕ) → Option (List ℕ) → List ℕ → List ℕ → Result (Unit {0}) PutError → Type 0
Passes old new text rest (Ok done) = (front : List ℕ) × (text ≡ front ++ rest) × Gets old new front
Passes old new text rest (Err e) = GetsPart old new text

-- the report of a run of the board under the script, or after an error a first part of it
abbrev pub PutsRun : Joined → Script → Option (List ℕ) → Option (List ℕ) → Result (Unit {0}) PutError → Type 0
PutsRun b script old new result = (showns : List (List Level)) × IsRunOf b script showns × Sends old new (run_report b.net.nets showns) result

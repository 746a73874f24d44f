-- What two boards show side by side, the first difference, and a trace that is run again.
use Rattle.std.specs.Prelude.{ℕ, ◌≡◌, ◌≢◌, ◌⊎◌, ◌<◌, ◌+◌, ◌-◌, List, [], map, take, length, Option, Some, slice_get, slice_index_or, All}
use Rattle.mig_base.specs.declared.levels.Level.{Level}
use Rattle.mig_base.specs.declared.nets.Net.{Net}
use Rattle.mig_base.specs.declared.scripts.Script.{Script}
use Rattle.mig_base.specs.Among.{Among}
use Rattle.mig_base.specs.WrittenBoard.{net_name}
use Rattle.board.specs.Joined.{Joined, equations_of}
use Rattle.level_laws.specs.Runs.{IsRun}
use Rattle.level_laws.specs.SameBehaviour.{port_names, shown_at}
use Rattle.settle.specs.Made.{IsInputFor}
use Rattle.sim_run.specs.WrittenScript.{IsWritableScript}
use Rattle.trials.specs.Places.{handed_over}
use Rattle.trials.specs.Trials.{trial_of}
use Rattle.mig_base.specs.declared.comparing.Trace.{Trace}

-- the inputs of a script, step by step
abbrev pub inputs_of : Script → List (List Level)
inputs_of script = map (λ given. given.levels) script.steps

-- what both boards show over these inputs of the first one
pub record BothRun (a b : Joined) (inputs left right : List (List Level)) : Type 0 where
  pub left_run : IsRun (equations_of a) inputs left
  pub right_run : IsRun (equations_of b) (map (handed_over a.net b.net) inputs) right

-- the name of a port by its place
abbrev pub port_name : Net → ℕ → Option (List ℕ)
port_name net i = slice_get (port_names net) i

-- the level that a port of this name shows after step n of a run
abbrev pub shown_in : Net → List (List Level) → ℕ → List ℕ → Option Level
shown_in net showns n name = shown_at (port_names net) (slice_index_or showns n []) name

-- over these inputs, after step n, the port at this place of the first board's order shows two levels
pub record DiffersOver (a b : Joined) (inputs : List (List Level)) (n place : ℕ) (x y : Option Level) : Type 0 where
  pub name : List ℕ
  pub left : List (List Level)
  pub right : List (List Level)
  pub runs : BothRun a b inputs left right
  pub named : port_name a.net place ≡ Some name
  pub left_shows : shown_in a.net left n name ≡ x
  pub right_shows : shown_in b.net right n name ≡ y
  pub differ : x ≢ y

-- the same of trial k
abbrev pub DiffersAt : Joined → Joined → ℕ → ℕ → ℕ → Option Level → Option Level → Type 0
DiffersAt a b k = DiffersOver a b (trial_of a.net k)

-- an earlier trial, else an earlier step, else an earlier port
abbrev pub IsSooner : ℕ → ℕ → ℕ → ℕ → ℕ → ℕ → Type 0
IsSooner k n place k0 n0 place0 = (k < k0) ⊎ ((k ≡ k0) × ((n < n0) ⊎ ((n ≡ n0) × (place < place0))))

-- the trace of the first difference
pub record IsFirstDifference (a b : Joined) (t : Trace) : Type 0 where
  pub trial_number : ℕ
  pub step : ℕ
  pub place : ℕ
  pub trial_within : trial_number < 64
  pub step_within : step < 64
  pub differs : DiffersAt a b trial_number step place (Some t.left) (Some t.right)
  pub port : slice_get (equations_of a).ports place ≡ Some t.port
  pub script : inputs_of t.script ≡ take (step + 1) (trial_of a.net trial_number)
  pub first : (k n i : ℕ) (x y : Option Level) → k < 64 → n < 64 → IsSooner k n i trial_number step place → DiffersAt a b k n i x y → ⊥

-- no trial differs
abbrev pub NoDifference : Joined → Joined → Type 0
NoDifference a b = (k n place : ℕ) (x y : Option Level) → k < 64 → n < 64 → DiffersAt a b k n place x y → ⊥

-- over the trace's script both boards show these levels, at its end, at its port
pub record IsReplay (a b : Joined) (t : Trace) (x y : Level) : Type 0 where
  pub left : List (List Level)
  pub right : List (List Level)
  pub runs : BothRun a b (inputs_of t.script) left right
  pub left_shows : shown_in a.net left (length t.script.steps - 1) (net_name a.net t.port) ≡ Some x
  pub right_shows : shown_in b.net right (length t.script.steps - 1) (net_name a.net t.port) ≡ Some y

-- a trace of the first board that can be run again, and whose script can be written
pub record IsReplayable (a : Joined) (t : Trace) : Type 0 where
  pub port : Among t.port (equations_of a).ports
  pub steps : 0 < length t.script.steps
  pub lawful : All (λ given. IsInputFor (equations_of a) given.levels) t.script.steps
  pub writable : IsWritableScript a.net t.script

-- Two boards that are stepped side by side.
use Rattle.std.specs.Prelude.{ℕ, ◌≡◌, ◌<◌, ◌+◌, List, take, length, Option, Some, None, slice_get, slice_index_or}
use Rattle.mig_base.specs.declared.levels.Level.{Level}
use Rattle.mig_base.specs.declared.circuit.Circuit.{Circuit}
use Rattle.mig_base.specs.Accepted.{IsAccepted}
use Rattle.mig_base.specs.Levels.{or_x}
use Rattle.mig_base.specs.WrittenBoard.{IsWritable}
use Rattle.board.specs.Joined.{Joined, equations_of}
use Rattle.level_laws.specs.Settled.{IsSettled}
use Rattle.level_laws.specs.Runs.{IsStep, shown_levels, power_up}
use Rattle.level_laws.specs.SameBehaviour.{port_names}
use Rattle.settle.specs.declared.config.Config.{Config}
use Rattle.settle.specs.Configs.{last_of}
use Rattle.settle.specs.Made.{IsConfigFor}
use Rattle.trials.specs.Differences.{DiffersAt, DiffersOver, inputs_of}
use Rattle.trials.specs.Trials.{trial_of}
use Rattle.matchings.specs.ByPort.{handed_names}
use Rattle.trials.specs.Places.{level_by_place, places_among}
use Rattle.trials.specs.declared.pairing.Pairing.{Pairing}
use Rattle.trials.specs.declared.differing.Uneven.{Uneven}
use Rattle.mig_base.specs.declared.comparing.Trace.{Trace}

-- the handed ports of the second board among those of the first, and the ports of the first among those of the second; both
-- boards are accepted, and the first has a wiring that can be written
pub record IsPairing (a b : Joined) (p : Pairing) : Type 0 where
  pub wiring : IsWritable a.net
  pub accepted_a : IsAccepted (equations_of a)
  pub accepted_b : IsAccepted (equations_of b)
  pub inputs : p.inputs ≡ places_among (handed_names b.net) (handed_names a.net)
  pub shows : p.shows ≡ places_among (port_names a.net) (port_names b.net)

-- a board at power-up
pub record IsStarted (c : Circuit) (config : Config) : Type 0 where
  pub made : IsConfigFor c config
  pub stored : config.stored ≡ power_up c
  pub last : last_of config ≡ None

-- one step to these inputs, and what is shown then
pub record IsStepped (c : Circuit) (given : List Level) (before after : Config) (shows : List Level) : Type 0 where
  pub made : IsConfigFor c after
  pub step : IsStep c before.stored (last_of before) given after.stored
  pub last : last_of after ≡ Some given
  pub settled : IsSettled c after.stored given after.levels
  pub shown : shows ≡ shown_levels c after.levels

-- the level in a list of shown levels at a place, and the one in the other list at its place
abbrev pub IsEvenAt : List (Option ℕ) → List Level → List Level → ℕ → Type 0
IsEvenAt places left right i = level_by_place left (Some i) ≡ level_by_place right (slice_index_or places i None)

-- the first place at which two lists of shown levels are uneven
pub record IsFirstUneven (places : List (Option ℕ)) (left right : List Level) (i : ℕ) : Type 0 where
  pub within : i < length places
  pub uneven : IsEvenAt places left right i → ⊥
  pub before : (j : ℕ) → j < i → IsEvenAt places left right j

abbrev pub AreEven : List (Option ℕ) → List Level → List Level → Type 0
AreEven places left right = (i : ℕ) → i < length places → IsEvenAt places left right i

-- the first step and the first port at which two boards show two levels over these inputs
pub record IsFirstOver (a b : Joined) (inputs : List (List Level)) (u : Uneven) : Type 0 where
  pub within : u.step < length inputs
  pub differs : DiffersOver a b inputs u.step u.place (Some u.left) (Some u.right)
  pub sooner : (n i : ℕ) (x y : Option Level) → n < u.step → DiffersOver a b inputs n i x y → ⊥
  pub before : (i : ℕ) (x y : Option Level) → i < u.place → DiffersOver a b inputs u.step i x y → ⊥

-- nowhere over these inputs do they show two levels
abbrev pub NoneOver : Joined → Joined → List (List Level) → Type 0
NoneOver a b inputs = (n i : ℕ) (x y : Option Level) → n < length inputs → DiffersOver a b inputs n i x y → ⊥

-- the first uneven port after this step, with its two levels
pub record IsUnevenAfter (places : List (Option ℕ)) (left right : List Level) (n : ℕ) (u : Uneven) : Type 0 where
  pub step : u.step ≡ n
  pub first : IsFirstUneven places left right u.place
  pub left_shows : u.left ≡ or_x (λ (level : Level). level) (level_by_place left (Some u.place))
  pub right_shows : u.right ≡ or_x (λ (level : Level). level) (level_by_place right (slice_index_or places u.place None))

-- the trace of the first difference in trial k
pub record IsDifferenceIn (a b : Joined) (k : ℕ) (t : Trace) : Type 0 where
  pub step : ℕ
  pub place : ℕ
  pub within : step < 64
  pub differs : DiffersAt a b k step place (Some t.left) (Some t.right)
  pub port : slice_get (equations_of a).ports place ≡ Some t.port
  pub script : inputs_of t.script ≡ take (step + 1) (trial_of a.net k)
  pub sooner : (n i : ℕ) (x y : Option Level) → n < step → DiffersAt a b k n i x y → ⊥
  pub before : (i : ℕ) (x y : Option Level) → i < place → DiffersAt a b k step i x y → ⊥

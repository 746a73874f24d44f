-- What two registers store after a step, by what each shows, takes and waits for.
use Rattle.std.specs.Prelude.{ℕ, ◌≡◌, Bool, true, false, ◌&&◌, List, Option, Some, None, if◌then◌else◌}
use Rattle.std.specs.Str.{bytes_eq}
use Rattle.mig_base.specs.declared.levels.Level.{Level}
use Rattle.mig_base.specs.declared.levels.Level.TheVariants.{Zero, One}
use Rattle.mig_base.specs.Levels.{same_level}
use Rattle.level_laws.specs.SameBehaviour.{Handing}

-- a register at settled levels: its visible Q, what it takes where its clock rises, and the port that clocks it, if it isn't a constant
pub record View : Type 0 where
  pub seen : Level
  pub taken : Level
  pub clock : Option (List ℕ)

abbrev pub rises_by : Option (List ℕ) → Handing → Handing → Bool
rises_by None before now = false
rises_by (Some name) before now = same_level (before name) Zero && same_level (now name) One

-- what it stores after a step
abbrev pub stores : View → Handing → Handing → Level
stores v before now = if rises_by v.clock before now then v.taken else v.seen

-- its clock may rise in the next step
abbrev pub Waits : Handing → Option (List ℕ) → Type 0
Waits before None = ⊥
Waits before (Some name) = before name ≡ Zero

abbrev pub same_clock : Option (List ℕ) → Option (List ℕ) → Bool
same_clock None None = true
same_clock None (Some n) = false
same_clock (Some m) None = false
same_clock (Some m) (Some n) = bytes_eq m n

-- with one clock, both take the same where it may rise; with two, each takes what it shows where its own may rise
abbrev pub EdgesAlike : Bool → Handing → View → View → Type 0
EdgesAlike true before v w = Waits before v.clock → v.taken ≡ w.taken
EdgesAlike false before v w = (Waits before v.clock → v.taken ≡ v.seen) × (Waits before w.clock → w.taken ≡ w.seen)

-- no step parts the two
pub record AreAlike (before : Handing) (v w : View) : Type 0 where
  pub seen : v.seen ≡ w.seen
  pub edges : EdgesAlike (same_clock v.clock w.clock) before v w

-- the same levels, with 1 at a port of this name
abbrev pub raised : List ℕ → Handing → Handing
raised name before other = if bytes_eq name other then One else before other

-- What the parts of a unit come to.
use Rattle.std.specs.Prelude.{ℕ, ◌≡◌, ◌≤◌, length, Bool, true, not, ◌||◌, List, [], ◌∷◌, Option, Some, None, if◌then◌else◌}
use Rattle.mig_base.specs.declared.plans.Part.{Part}
use Rattle.mig_base.specs.declared.plans.Part.TheVariants.{Logic}
use Rattle.board.specs.Joined.{Joined, equations_of}
use Rattle.joiner.specs.Joined.{unit_part}
use Rattle.joiner.specs.JoinedPart.{IsWide}
use Rattle.plans.specs.Forms.{Products, Try, Old, Direct, Inverse, Room, IsForm, HasNoForm, IsControl, old_low, reads_absorbed}
use Rattle.plans.specs.UnitBreaches.{IsLogicOver, IsLeastCount}
use Rattle.forms.specs.declared.attempts.Failure.{Failure}
use Rattle.forms.specs.declared.attempts.Failure.TheVariants as failure
use Rattle.forms.specs.declared.attempts.Attempt.{Attempt}
use Rattle.forms.specs.declared.attempts.Attempt.TheVariants as attempt
use Rattle.forms.specs.declared.logic.Form.{Form}
use Rattle.forms.specs.declared.logic.Form.TheVariants as form
use Rattle.forms.specs.declared.controls.Control.{Control}
use Rattle.forms.specs.declared.controls.Control.TheVariants as control
use Rattle.forms.specs.Attempts.{IsAttempt, IsFailure, behind_failure}

-- a part reads an absorbed net, and has more than 32 variables after replacement, so many
pub record IsWidePart (b : Joined) (absorbed : List ℕ) (u : ℕ) (part : Part) (count : ℕ) : Type 0 where
  pub reads : reads_absorbed b absorbed u part ≡ true
  pub wide : IsWide b absorbed (unit_part b u part) count

-- no form of Logic fits, no allowed cover has too many primes, and the least term count of the allowed forms is this
pub record IsTermsOver (b : Joined) (absorbed : List ℕ) (u : ℕ) (room : Room) (needed : ℕ) : Type 0 where
  pub none_fits : HasNoForm b absorbed u room
  pub no_over : IsLogicOver b absorbed u room → ⊥
  pub least : IsLeastCount b absorbed u room needed

-- what Logic of a unit comes to in a cell that offers this
abbrev pub IsFormOf : Joined → List ℕ → ℕ → Room → Form → Type 0
IsFormOf b absorbed u room (form.Fits low terms) = IsForm b absorbed u room (record { low = low; terms = terms })
IsFormOf b absorbed u room (form.Wide count) = IsWidePart b absorbed u Logic count
IsFormOf b absorbed u room form.PrimesOver = IsLogicOver b absorbed u room
IsFormOf b absorbed u room (form.TermsOver needed) = IsTermsOver b absorbed u room needed

-- what another part of a unit comes to
abbrev pub IsControlOf : Joined → List ℕ → ℕ → Part → Control → Type 0
IsControlOf b absorbed u part (control.Made products) = IsControl b absorbed u part (Some products)
IsControlOf b absorbed u part (control.Wide count) = IsWidePart b absorbed u part count
IsControlOf b absorbed u part control.PrimesOver = IsControl b absorbed u part None

-- what a cover of another part comes to
abbrev pub control_by : Option Products → Control
control_by None = control.PrimesOver
control_by (Some products) = control.Made products

-- the old products, where the cell has their inversion
abbrev pub old_tries : Bool → Bool → List Try
old_tries low may_invert = if may_invert || not low then Old ∷ [] else []

-- the covers that a cell allows
abbrev pub cover_tries : Bool → List Try
cover_tries may_invert = Direct ∷ (if may_invert then Inverse ∷ [] else [])

-- what the old products of a unit come to, if they are tried
abbrev pub IsOldAttempt : Joined → ℕ → Room → Option Attempt → Type 0
IsOldAttempt b u room None = old_tries (old_low (equations_of b) u) room.may_invert ≡ []
IsOldAttempt b u room (Some made) = ((absorbed : List ℕ) → IsAttempt b absorbed u room (Old ∷ []) made) × (old_tries (old_low (equations_of b) u) room.may_invert ≡ Old ∷ [])

-- why they fail, if they are tried
abbrev pub IsOldFailure : Joined → List ℕ → ℕ → Room → Option Failure → Type 0
IsOldFailure b absorbed u room None = old_tries (old_low (equations_of b) u) room.may_invert ≡ []
IsOldFailure b absorbed u room (Some why) = IsFailure b absorbed u room (Old ∷ []) why × (old_tries (old_low (equations_of b) u) room.may_invert ≡ Old ∷ [])

-- what covers come to behind the old products, if these are tried
abbrev pub behind_if : Option Failure → Attempt → Attempt
behind_if None covers = covers
behind_if (Some why) covers = behind_failure why covers

-- what all tries come to
abbrev pub form_by : Attempt → Form
form_by (attempt.Fits low terms) = form.Fits low terms
form_by (attempt.Fails failure.PrimesOver) = form.PrimesOver
form_by (attempt.Fails (failure.TermsOver needed)) = form.TermsOver needed

-- a form that fits has sixteen terms at most
abbrev pub has_few : Form → Type 0
has_few (form.Fits low terms) = length terms ≤ 16
has_few (form.Wide count) = Unit {0}
has_few form.PrimesOver = Unit {0}
has_few (form.TermsOver needed) = Unit {0}

-- the terms of a form that fits, or 17
abbrev pub terms_in : Form → ℕ
terms_in (form.Fits low terms) = length terms
terms_in (form.Wide count) = 17
terms_in form.PrimesOver = 17
terms_in (form.TermsOver needed) = 17

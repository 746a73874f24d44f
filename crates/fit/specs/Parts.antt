-- The parts of placed units, and what stands in them.
use Rattle.std.specs.Prelude.{ℕ, ◌≡◌, Bool, true, false, not, ◌||◌, List, Option, Some, None, is_none}
use Rattle.std.specs.Option.{option_map}
use Rattle.mig_base.specs.First.{or_else}
use Rattle.mig_base.specs.declared.plans.Plan.{Plan}
use Rattle.mig_base.specs.declared.plans.Part.TheVariants.{Enable, Reset, Preset}
use Rattle.mig_base.specs.declared.plans.Breach.{Breach}
use Rattle.mig_base.specs.declared.plans.Breach.TheVariants as breach
use Rattle.board.specs.Joined.{Joined}
use Rattle.new_board.specs.NewChip.{OldBoard, when, enable_net}
use Rattle.plans.specs.FirstOf.{AreEach}
use Rattle.plans.specs.declared.placing.Placing.{Placing}
use Rattle.plans.specs.Placings.{placings, absorbed_units}
use Rattle.plans.specs.Forms.{Products, Room, room_of}
use Rattle.plans.specs.UnitBreaches.{first_on, share_row, are_many, breaks_reset, row_gate}
use Rattle.forms.specs.declared.logic.Form.{Form}
use Rattle.forms.specs.declared.logic.Form.TheVariants as form
use Rattle.forms.specs.declared.controls.Control.{Control}
use Rattle.forms.specs.declared.controls.Control.TheVariants as control
use Rattle.forms.specs.Outcomes.{IsFormOf, IsControlOf}
use Rattle.fit.specs.declared.parts.UnitParts.{UnitParts}

-- what the parts of a placed unit come to
pub record AreParts (b : Joined) (absorbed : List ℕ) (x : Placing) (parts : UnitParts) : Type 0 where
  pub logic : IsFormOf b absorbed x.unit (room_of b x) parts.logic
  pub enable : IsControlOf b absorbed x.unit Enable parts.enable
  pub reset : IsControlOf b absorbed x.unit Reset parts.reset
  pub preset : IsControlOf b absorbed x.unit Preset parts.preset

-- those of all placed units
abbrev pub AreAllParts : Joined → Plan → List UnitParts → Type 0
AreAllParts b p parts = AreEach (AreParts b (absorbed_units b p)) (placings b p) parts

-- the products of a part, if it has some
abbrev pub made_in : Control → Option Products
made_in (control.Made products) = Some products
made_in (control.Wide count) = None
made_in control.PrimesOver = None

-- so many variables are too many
abbrev pub form_width : Form → Option ℕ
form_width (form.Fits low terms) = None
form_width (form.Wide count) = Some count
form_width form.PrimesOver = None
form_width (form.TermsOver needed) = None

-- the same of another part
abbrev pub control_width : Control → Option ℕ
control_width (control.Made products) = None
control_width (control.Wide count) = Some count
control_width control.PrimesOver = None

-- whether a cover of Logic has too many primes
abbrev pub is_form_over : Form → Bool
is_form_over form.PrimesOver = true
is_form_over _ = false

-- whether that of another part has
abbrev pub is_control_over : Control → Bool
is_control_over control.PrimesOver = true
is_control_over _ = false

-- the parts of the first registered unit of a unit's chip, if it has one
pub record HasFirstParts (b : Joined) (p : Plan) (x : Placing) (parts : UnitParts) : Type 0 where
  pub first : Placing
  pub is_first : first_on b p x ≡ Some first
  pub are : AreParts b (absorbed_units b p) first parts

abbrev pub AreFirstParts : Joined → Plan → Placing → Option UnitParts → Type 0
AreFirstParts b p x None = first_on b p x ≡ None
AreFirstParts b p x (Some parts) = HasFirstParts b p x parts

-- the number of variables of the first part that has too many
abbrev pub width_of : UnitParts → Option ℕ
width_of parts = or_else (form_width parts.logic) (or_else (control_width parts.enable) (or_else (control_width parts.reset) (control_width parts.preset)))

-- the breach of a unit with such a part
abbrev pub wide_breach : Placing → UnitParts → Option Breach
wide_breach x parts = option_map (λ (n : ℕ). breach.ConeWide x.name n) (width_of parts)

-- whether the cover of a part other than Logic has too many primes
abbrev pub has_control_over : UnitParts → Bool
has_control_over parts = is_control_over parts.enable || (is_control_over parts.reset || is_control_over parts.preset)

-- the breach of a unit with a part that has too many primes
abbrev pub over_breach : Placing → UnitParts → Option Breach
over_breach x parts = when (is_form_over parts.logic || has_control_over parts) (Some (breach.PrimesOver x.name))

-- the breach of a unit with more terms than its cell, by its Logic
abbrev pub terms_breach : Room → Placing → Form → Option Breach
terms_breach room x (form.Fits low terms) = None
terms_breach room x (form.Wide count) = None
terms_breach room x form.PrimesOver = None
terms_breach room x (form.TermsOver needed) = Some (breach.TermsOver x.name needed room.most)

-- what a test says of the products of two parts, if both have some
abbrev pub said_of : (Products → Products → Bool) → Option Products → Option Products → Bool
said_of says None firsts = false
said_of says (Some ps) None = false
said_of says (Some ps) (Some firsts) = says ps firsts

-- whether a reset or preset breaks the row that it shares
abbrev pub breaks_made : Bool → Control → Control → Bool
breaks_made on_22 own first = said_of (breaks_reset on_22) (made_in own) (made_in first)

-- whether the enable pin can't have this enable, or the first one is another
abbrev pub breaks_pin_of : OldBoard → Products → Products → Bool
breaks_pin_of o ps firsts = is_none (enable_net o (row_gate ps)) || not (share_row ps firsts)

-- the same of two parts
abbrev pub breaks_made_pin : OldBoard → Control → Control → Bool
breaks_made_pin o own first = said_of (breaks_pin_of o) (made_in own) (made_in first)

-- whether a part has two products or more
abbrev pub has_many : Option Products → Bool
has_many None = false
has_many (Some ps) = are_many ps

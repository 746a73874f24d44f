-- The plan that a plan text says.
use Rattle.std.specs.Prelude.{ℕ, ◌+◌, ◌≤◌, Bool, true, false, not, ◌&&◌, List, [], ◌∷◌, length, take, drop, map, if◌then◌else◌, ◌==◌, nat_le, IsTrue, Option, Some, None, Result, Ok, codes}
use Rattle.std.specs.List.{list_any, list_all, filter_map, position}
use Rattle.std.specs.Option.{option_and_then}
use Rattle.std.specs.Str.{bytes_eq}
use Rattle.mig_base.specs.declared.kinds.Kind.{Kind}
use Rattle.mig_base.specs.declared.kinds.Mode.{Mode}
use Rattle.mig_base.specs.declared.kinds.Mode.TheVariants.{Fixed, Simple, Complex, Registered}
use Rattle.mig_base.specs.declared.nets.PinName.{PinName}
use Rattle.mig_base.specs.declared.plans.Plan.{Plan}
use Rattle.mig_base.specs.declared.plans.PlanChip.{PlanChip}
use Rattle.mig_base.specs.declared.plans.PlanLine.{PlanLine}
use Rattle.mig_base.specs.declared.plans.PlanLine.TheVariants.{Place, Absorb}
use Rattle.mig_base.specs.declared.plans.PlanError.{PlanError}
use Rattle.mig_base.specs.declared.plans.PlanError.TheVariants.{Line as BadLine, KindUnknown, ChipsOver, LinesOver, NoEnd}
use Rattle.mig_base.specs.DeviceTables.{kind_named, is_gal}
use Rattle.mig_base.specs.First.{or_else, first_refusal, unless}
use Rattle.mig_base.specs.Lines.{TextLine, text_lines, number_of}
use Rattle.mig_base.specs.Names.{is_name}
use Rattle.mig_base.specs.WellFormed.{has_mode}
use Rattle.plan_text.specs.declared.says.Said.{Said}
use Rattle.plan_text.specs.declared.says.Said.TheVariants as said
use Rattle.plan_text.specs.declared.lines.SaidLine.{SaidLine}

-- a GAL kind
abbrev pub if_gal : Kind → Option Kind
if_gal k = if is_gal k then Some k else None

-- the GAL kind of this name
abbrev pub gal_named : List ℕ → Option Kind
gal_named w = option_and_then if_gal (kind_named w)

-- the mode of this name
abbrev pub mode_named : List ℕ → Option Mode
mode_named w =
    if bytes_eq w (codes "simple") then Some Simple
    else (if bytes_eq w (codes "complex") then Some Complex else (if bytes_eq w (codes "registered") then Some Registered else None))

-- a chip of a GAL kind, if any, in this mode; the kind has to have the mode
abbrev pub chip_of : List ℕ → Option Kind → Mode → Said
chip_of name None mode = said.OtherKind
chip_of name (Some kind) mode = if has_mode kind mode then said.Chip (record { name = name; kind = kind; mode = mode }) else said.Wrong

-- the same in a mode that a word names, if it does
abbrev pub chip_in : List ℕ → Option Kind → Option Mode → Said
chip_in name kind None = said.Wrong
chip_in name kind (Some mode) = chip_of name kind mode

-- a name and a kind, and the mode of a V8
abbrev pub after_chip : List (List ℕ) → Said
after_chip (name ∷ kind ∷ []) = if is_name name then chip_of name (gal_named kind) Fixed else said.Wrong
after_chip (name ∷ kind ∷ mode ∷ []) = if is_name name then chip_in name (gal_named kind) (mode_named mode) else said.Wrong
after_chip _ = said.Wrong

-- a pin of at most 99
abbrev pub pin_numbered : List ℕ → ℕ → Option PinName
pin_numbered chip pin = if nat_le pin 99 then Some (record { chip = chip; pin = pin }) else None

-- a chip's name and a pin's number
abbrev pub pin_of : List ℕ → List ℕ → Option PinName
pin_of chip pin = if is_name chip then option_and_then (pin_numbered chip) (number_of pin) else None

-- a word that is cut at this place
abbrev pub pin_cut : List ℕ → Option ℕ → Option PinName
pin_cut w None = None
pin_cut w (Some dot) = pin_of (take dot w) (drop (dot + 1) w)

-- a chip's name, a dot and a pin
abbrev pub pin_named : List ℕ → Option PinName
pin_named w = pin_cut w (position (λ b. b == 46) w)

-- an old unit at a pin of a new chip, where both are ones
abbrev pub place_of : Option PinName → Option PinName → Said
place_of None at = said.Wrong
place_of (Some unit) None = said.Wrong
place_of (Some unit) (Some at) = said.Place unit at

-- an old unit and a pin of a new chip
abbrev pub after_place : List (List ℕ) → Said
after_place (unit ∷ at ∷ []) = place_of (pin_named unit) (pin_named at)
after_place _ = said.Wrong

-- an absorbed unit, where it is one
abbrev pub absorb_of : Option PinName → Said
absorb_of None = said.Wrong
absorb_of (Some unit) = said.Absorb unit

-- an old unit
abbrev pub after_absorb : List (List ℕ) → Said
after_absorb (unit ∷ []) = absorb_of (pin_named unit)
after_absorb _ = said.Wrong

-- the version, which is 1
abbrev pub after_plan : List (List ℕ) → Said
after_plan (version ∷ []) = if bytes_eq version (codes "1") then said.Head else said.Wrong
after_plan _ = said.Wrong

-- nothing
abbrev pub after_end : List (List ℕ) → Said
after_end [] = said.End
after_end _ = said.Wrong

-- a line by its words
abbrev pub says : List (List ℕ) → Said
says [] = said.Wrong
says (w ∷ ws) =
    if bytes_eq w (codes "chip") then after_chip ws
    else (if bytes_eq w (codes "place") then after_place ws
    else (if bytes_eq w (codes "absorb") then after_absorb ws
    else (if bytes_eq w (codes "end") then after_end ws
    else (if bytes_eq w (codes "plan") then after_plan ws else said.Wrong))))

-- what a line says, with its number
abbrev pub said_line : TextLine → SaidLine
said_line l = record { n = l.n; says = says l.words }

-- what the lines of a text say
abbrev pub said_lines : List ℕ → List SaidLine
said_lines bytes = map said_line (text_lines bytes)

-- the chip of a line
abbrev pub chip_said : Said → Option PlanChip
chip_said (said.Chip chip) = Some chip
chip_said _ = None

-- the chips that lines say
abbrev pub chips_in : List SaidLine → List PlanChip
chips_in lines = filter_map (λ l. chip_said l.says) lines

-- what a line says of a unit
abbrev pub unit_said : Said → Option PlanLine
unit_said (said.Place unit at) = Some (Place unit at.chip at.pin)
unit_said (said.Absorb unit) = Some (Absorb unit)
unit_said _ = None

-- the place and absorb lines among lines
abbrev pub units_in : List SaidLine → List PlanLine
units_in lines = filter_map (λ l. unit_said l.says) lines

-- whether a line is the end
abbrev pub ends : Said → Bool
ends said.End = true
ends _ = false

-- whether one of these lines is
abbrev pub any_ends : List SaidLine → Bool
any_ends lines = list_any (λ l. ends l.says) lines

-- the text has begun and has not ended
abbrev pub is_open : List SaidLine → Bool
is_open before = not (length before == 0) && not (any_ends before)

-- whether a line may stand behind these: the head is the first one, and chips stand before place and absorb lines
abbrev pub may_stand : List SaidLine → Said → Bool
may_stand before said.Head = length before == 0
may_stand before (said.Chip chip) = is_open before && (length (units_in before) == 0)
may_stand before said.OtherKind = is_open before && (length (units_in before) == 0)
may_stand before _ = is_open before

-- the error, where something is wrong
abbrev pub refuse : Bool → PlanError → Option PlanError
refuse wrong error = if wrong then Some error else None

-- what is wrong with a line that may stand behind these: at most 64 chips, and 1,024 place and absorb lines
abbrev pub said_refusal : ℕ → List SaidLine → Said → Option PlanError
said_refusal n before said.Wrong = Some (BadLine n)
said_refusal n before said.OtherKind = Some (KindUnknown n)
said_refusal n before (said.Chip chip) = refuse (nat_le 64 (length (chips_in before))) (ChipsOver n)
said_refusal n before (said.Place unit at) = refuse (nat_le 1024 (length (units_in before))) (LinesOver n)
said_refusal n before (said.Absorb unit) = refuse (nat_le 1024 (length (units_in before))) (LinesOver n)
said_refusal n before _ = None

-- what is wrong with a line behind these
abbrev pub line_refusal : List SaidLine → SaidLine → Option PlanError
line_refusal before l = or_else (refuse (not (may_stand before l.says)) (BadLine l.n)) (said_refusal l.n before l.says)

-- the first line that is wrong, else whether the end is missing
abbrev pub text_refusal : List SaidLine → Option PlanError
text_refusal lines = or_else (first_refusal line_refusal [] lines) (refuse (not (any_ends lines)) NoEnd)

-- the plan that lines say
abbrev pub plan_in : List SaidLine → Plan
plan_in lines = record { chips = chips_in lines; lines = units_in lines }

-- the plan that a plan text says, or the first refusal
abbrev pub plan_of_text : List ℕ → Result Plan PlanError
plan_of_text bytes = unless (text_refusal (said_lines bytes)) (Ok (plan_in (said_lines bytes)))

-- a chip with a name, of a GAL kind and one of its modes
abbrev pub is_plan_chip : PlanChip → Bool
is_plan_chip c = is_name c.name && is_gal c.kind && has_mode c.kind c.mode

-- a pin of at most 99 of a chip with a name
abbrev pub is_plan_pin : PinName → Bool
is_plan_pin u = is_name u.chip && nat_le u.pin 99

-- a place or absorb line of such pins
abbrev pub is_plan_line : PlanLine → Bool
is_plan_line (Place unit chip pin) = is_plan_pin unit && is_plan_pin (record { chip = chip; pin = pin })
is_plan_line (Absorb unit) = is_plan_pin unit

-- what each plan that a text gives keeps, and what is asked of one that is read back
pub record IsPlan (p : Plan) : Type 0 where
  pub few_chips : length p.chips ≤ 64
  pub few_lines : length p.lines ≤ 1024
  pub named_chips : IsTrue (list_all is_plan_chip p.chips)
  pub named_lines : IsTrue (list_all is_plan_line p.lines)

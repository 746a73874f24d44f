-- The breaches of placed units, by their modes, clocks and parts.
use Rattle.std.specs.Prelude.{ℕ, ◌≡◌, ◌⊎◌, ◌≤◌, Bool, true, false, not, ◌&&◌, ◌||◌, ◌==◌, nat_lt, List, [], ◌∷◌, length, filter, Option, Some, None, is_none, slice_get, option_and_then, if◌then◌else◌}
use Rattle.std.specs.List.{list_any, list_all}
use Rattle.mig_base.specs.declared.kinds.Mode.{Mode}
use Rattle.mig_base.specs.declared.kinds.Mode.TheVariants as mode
use Rattle.mig_base.specs.declared.plans.Plan.{Plan}
use Rattle.mig_base.specs.declared.plans.Part.{Part}
use Rattle.mig_base.specs.declared.plans.Part.TheVariants as part
use Rattle.mig_base.specs.declared.plans.Breach.{Breach}
use Rattle.mig_base.specs.declared.plans.Breach.TheVariants as breach
use Rattle.mig_base.specs.declared.circuit.Literal.{Literal}
use Rattle.mig_base.specs.declared.circuit.Gate.{Gate}
use Rattle.mig_base.specs.declared.circuit.Gate.TheVariants.{Never, Product}
use Rattle.mig_base.specs.declared.circuit.Register.{Register}
use Rattle.mig_base.specs.DeviceTables.{is_22, is_v8}
use Rattle.mig_base.specs.Structure.{same_literal}
use Rattle.mig_base.specs.Among.{Among}
use Rattle.structure.specs.Pure.{always_enabled}
use Rattle.board.specs.Joined.{Joined, equations_of}
use Rattle.joiner.specs.Joined.{unit_part}
use Rattle.joiner.specs.JoinedPart.{IsWide}
use Rattle.new_board.specs.NewChip.{first_of, when, unit_register, enable_net}
use Rattle.new_board.specs.NewFiles.{pin_low_of}
use Rattle.plans.specs.FirstOf.{FirstOf}
use Rattle.plans.specs.declared.placing.Placing.{Placing}
use Rattle.plans.specs.Placings.{old, placings_on, absorbed_units}
use Rattle.plans.specs.Forms.{Products, Try, Room, tries, IsOffered, HasNoForm, IsControl, reads_absorbed, has_register, room_of}

-- a registered unit in simple or complex mode, or a unit in simple mode that isn't always enabled
abbrev pub is_out_of_mode : Mode → Bool → Bool → Bool
is_out_of_mode mode.Simple registered always = registered || not always
is_out_of_mode mode.Complex registered always = registered
is_out_of_mode mode.Registered registered always = false
is_out_of_mode mode.Fixed registered always = false

-- a unit doesn't go with the mode of its chip
abbrev pub wrong_mode : Joined → Placing → Option Breach
wrong_mode b x =
    when (is_out_of_mode x.chip.mode (has_register b x.unit) (always_enabled (slice_get (equations_of b).units x.unit))) (Some (breach.Mode x.name))

-- the first registered unit of a unit's chip
abbrev pub first_on : Joined → Plan → Placing → Option Placing
first_on b p x = first_of (filter (λ y. has_register b y.unit) (placings_on b p x.chip.name))

-- the clock net of a register
abbrev pub register_clock : Option Register → ℕ
register_clock None = 0
register_clock (Some r) = r.clock

-- the clock net of a registered unit
abbrev pub clock_of : Joined → ℕ → ℕ
clock_of b u = register_clock (option_and_then (slice_get (equations_of b).registers) (unit_register (equations_of b) u))

-- whether that unit, if it is one, has another clock net
abbrev pub has_other_clock : Joined → ℕ → Option Placing → Bool
has_other_clock b u None = false
has_other_clock b u (Some y) = not (clock_of b u == clock_of b y.unit)

-- a registered unit's clock net isn't that of the chip's first registered unit
abbrev pub wrong_clock : Joined → Plan → Placing → Option Breach
wrong_clock b p x = when (has_register b x.unit && has_other_clock b x.unit (first_on b p x)) (Some (breach.Clock x.name))

-- a register whose pin shows Q on a V8
abbrev pub wrong_phase : Joined → Placing → Option Breach
wrong_phase b x =
    when (has_register b x.unit && is_v8 x.chip.kind && not (pin_low_of (slice_get (equations_of b).units x.unit))) (Some (breach.Phase x.name))

-- the parts behind Logic
abbrev pub controls : List Part
controls = part.Enable ∷ part.Reset ∷ part.Preset ∷ []

-- a part reads an absorbed net, and has more than 32 variables, so many, after replacement
pub record GivesWidePart (b : Joined) (absorbed : List ℕ) (x : Placing) (q : Part) (y : Breach) : Type 0 where
  pub reads : reads_absorbed b absorbed x.unit q ≡ true
  pub count : ℕ
  pub wide : IsWide b absorbed (unit_part b x.unit q) count
  pub names : y ≡ breach.ConeWide x.name count

-- the first part of a unit that does
abbrev pub GivesConeWide : Joined → List ℕ → Placing → Breach → Type 0
GivesConeWide b absorbed x y = FirstOf (GivesWidePart b absorbed x) (part.Logic ∷ controls) y

-- no form of Logic fits, and one of the allowed covers has too many primes
pub record IsLogicOver (b : Joined) (absorbed : List ℕ) (u : ℕ) (room : Room) : Type 0 where
  pub none_fits : HasNoForm b absorbed u room
  pub form : Try
  pub allowed : Among form (tries b absorbed u room)
  pub over : IsOffered b absorbed u form None

-- the needed cover of another part has
pub record IsControlOver (b : Joined) (absorbed : List ℕ) (u : ℕ) : Type 0 where
  pub control : Part
  pub among : Among control controls
  pub over : IsControl b absorbed u control None

-- no form of Logic fits and one of the allowed covers has too many primes, or the needed cover of another part has
pub record GivesPrimesOver (b : Joined) (absorbed : List ℕ) (x : Placing) (y : Breach) : Type 0 where
  pub over : IsLogicOver b absorbed x.unit (room_of b x) ⊎ IsControlOver b absorbed x.unit
  pub names : y ≡ breach.PrimesOver x.name

-- each literal of the second product stands in the first
abbrev pub has_all : List Literal → List Literal → Bool
has_all xs ys = list_all (λ y. list_any (same_literal y) xs) ys

-- products are compared as sets of literals
abbrev pub same_product : List Literal → List Literal → Bool
same_product xs ys = has_all xs ys && has_all ys xs

-- a unit's products for a row, and those of another unit: at most one each, and the same
abbrev pub share_row : Products → Products → Bool
share_row [] [] = true
share_row (xs ∷ []) (ys ∷ []) = same_product xs ys
share_row _ _ = false

-- two products or more
abbrev pub are_many : Products → Bool
are_many ps = nat_lt 1 (length ps)

-- no product, which is Never
abbrev pub is_never : Products → Bool
is_never [] = true
is_never (p ∷ ps) = false

-- a reset or preset: two products or more, not Never on a V8, or on a 22V10 not that of the first registered unit
abbrev pub breaks_reset : Bool → Products → Products → Bool
breaks_reset on_22 ps firsts = are_many ps || (if on_22 then not (share_row ps firsts) else not (is_never ps))

-- a part of a unit and the same part of the first registered unit of its chip
pub record BothParts (b : Joined) (p : Plan) (x : Placing) (q : Part) : Type 0 where
  pub products : Products
  pub own : IsControl b (absorbed_units b p) x.unit q (Some products)
  pub first : Placing
  pub is_first : first_on b p x ≡ Some first
  pub firsts : Products
  pub of_first : IsControl b (absorbed_units b p) first.unit q (Some firsts)

-- the reset or the preset of a registered unit breaks the row that it shares
pub record BreaksReset (b : Joined) (p : Plan) (x : Placing) (q : Part) : Type 0 where
  pub both : BothParts b p x q
  pub breaks : breaks_reset (is_22 x.chip.kind) both.products both.firsts ≡ true

-- a registered unit's reset or preset has two products or more, or isn't Never on a V8, or differs on a 22V10 from that of the
-- chip's first registered unit
pub record GivesReset (b : Joined) (p : Plan) (x : Placing) (y : Breach) : Type 0 where
  pub registered : has_register b x.unit ≡ true
  pub breaks : BreaksReset b p x part.Reset ⊎ BreaksReset b p x part.Preset
  pub names : y ≡ breach.Reset x.name

-- an enable as a row
abbrev pub row_gate : Products → Gate
row_gate [] = Never
row_gate (p ∷ ps) = Product p

-- an enable that the enable pin of a V8 can't have, or that isn't that of the first registered unit
abbrev pub breaks_pin : Joined → Products → Products → Bool
breaks_pin b ps firsts = is_none (enable_net (old b) (row_gate ps)) || not (share_row ps firsts)

-- a registered unit on a V8
abbrev pub uses_pin : Joined → Placing → Bool
uses_pin b x = has_register b x.unit && is_v8 x.chip.kind

-- the products of a part are two or more
pub record HasManyProducts (b : Joined) (p : Plan) (x : Placing) (q : Part) : Type 0 where
  pub products : Products
  pub own : IsControl b (absorbed_units b p) x.unit q (Some products)
  pub many : are_many products ≡ true

-- a registered unit on a V8 whose enable the enable pin can't have, or that differs from that of the first registered unit
pub record BreaksPin (b : Joined) (p : Plan) (x : Placing) : Type 0 where
  pub uses : uses_pin b x ≡ true
  pub both : BothParts b p x part.Enable
  pub breaks : breaks_pin b both.products both.firsts ≡ true

-- a unit's enable has two products or more, or, registered on a V8, it breaks the enable pin
pub record GivesEnable (b : Joined) (p : Plan) (x : Placing) (y : Breach) : Type 0 where
  pub breaks : HasManyProducts b p x part.Enable ⊎ BreaksPin b p x
  pub names : y ≡ breach.Enable x.name

-- the least term count of the allowed forms
pub record IsLeastCount (b : Joined) (absorbed : List ℕ) (u : ℕ) (room : Room) (needed : ℕ) : Type 0 where
  pub form : Try
  pub allowed : Among form (tries b absorbed u room)
  pub products : Products
  pub offered : IsOffered b absorbed u form (Some products)
  pub count : needed ≡ length products
  pub least : (t : Try) (ps : Products) → Among t (tries b absorbed u room) → IsOffered b absorbed u t (Some ps) → needed ≤ length ps

-- no form of Logic fits; it needs the least term count of the allowed forms, and the cell has so many terms at most
pub record GivesTermsOver (b : Joined) (absorbed : List ℕ) (x : Placing) (y : Breach) : Type 0 where
  pub none_fits : HasNoForm b absorbed x.unit (room_of b x)
  pub needed : ℕ
  pub least : IsLeastCount b absorbed x.unit (room_of b x) needed
  pub names : y ≡ breach.TermsOver x.name needed (room_of b x).most

-- Input pins do not go by the rows of a chip's units, but for the variables that they need.
use Rattle.std.proofs.Common.{ℕ, ◌≡◌, ◌==◌, Bool, true, false, not, cond, ◌&&◌, ◌||◌, List, [], ◌∷◌, map, Option, Some, None, is_some, is_none, refl, sym, ap, ◌∙◌, inl, inr}
use Rattle.std.specs.Prelude.{filter, option_and_then}
use Rattle.std.specs.List.{list_any}
use Rattle.std.specs.Option.{option_map}
use Rattle.mig_base.specs.First.{or_else}
use Rattle.mig_base.specs.declared.circuit.Circuit.{Circuit}
use Rattle.mig_base.specs.declared.circuit.Read.{Read}
use Rattle.mig_base.specs.Among.{Among}
use Rattle.mig_base.specs.DeviceTables.{pair_pins, ordinary_pins, clock_pin, enable_pin, is_v8}
use Rattle.board.specs.Joined.{Joined}
use Rattle.board.specs.Variables.{read_of}
use Rattle.new_board.specs.declared.types.PlacedUnit.{PlacedUnit}
use Rattle.new_board.specs.NewChip.{OldBoard, NewChip, unit_on, placed_register, placed_clock, register_on, is_registered_unit, first_of, first_registered, clock_net, when, unit_net, enable_net, fixed_net, read_by, is_literal_of, is_read_at, is_read, needed_variables}
use Rattle.new_board.specs.InputPins.{Taken, wire_for, is_free, free_pins, take_pins, stood, anywhere, has_pin, input_at, input_pins}
use Rattle.avail.specs.ServedVariables.{wanting, pins_for, pin_net_by, pin_reads_by, reading_pin_by, is_served_by, first_unserved_by}
use Rattle.avail.specs.declared.needs.ChipNeed.{ChipNeed}
use Rattle.avail.specs.Needs.{board_of, stripped, bare, need_chip, HasNeed, IsOfChip}
use Rattle.avail.proofs.CodeNeeded.{filter-same}

bare-unit_on : (us : List PlacedUnit) (pin : ℕ) → unit_on (map stripped us) pin ≡ option_map stripped (unit_on us pin)
bare-unit_on [] pin = refl
bare-unit_on (u ∷ us) pin = at (u.pin == pin) (bare-unit_on us pin)
  where
    at : (q : Bool) → unit_on (map stripped us) pin ≡ option_map stripped (unit_on us pin) → cond q (Some (stripped u)) (unit_on (map stripped us) pin) ≡ option_map stripped (cond q (Some u) (unit_on us pin))
    at true e = refl
    at false e = e

bare-registered : (c : Circuit) (us : List PlacedUnit) → first_of (filter (is_registered_unit c) (map stripped us)) ≡ option_map stripped (first_of (filter (is_registered_unit c) us))
bare-registered c [] = refl
bare-registered c (u ∷ us) = at (is_registered_unit c u) (bare-registered c us)
  where
    at : (q : Bool) → first_of (filter (is_registered_unit c) (map stripped us)) ≡ option_map stripped (first_of (filter (is_registered_unit c) us)) →
        first_of (cond q (stripped u ∷ filter (is_registered_unit c) (map stripped us)) (filter (is_registered_unit c) (map stripped us)))
        ≡ option_map stripped (first_of (cond q (u ∷ filter (is_registered_unit c) us) (filter (is_registered_unit c) us)))
    at true e = refl
    at false e = e

-- what goes by the unit's number alone
by-unit : {T : Type 0} (f : PlacedUnit → Option T) → ((x : PlacedUnit) → f (stripped x) ≡ f x) → (o : Option PlacedUnit) → option_and_then f (option_map stripped o) ≡ option_and_then f o
by-unit f same None = refl
by-unit f same (Some x) = same x

bare-register_on : (c : Circuit) (chip : NewChip) (pin : ℕ) → register_on c (bare chip) pin ≡ register_on c chip pin
bare-register_on c chip pin = ap (option_and_then (placed_register c)) (bare-unit_on chip.units pin) ∙ by-unit (placed_register c) (λ x. refl) (unit_on chip.units pin)

bare-clock : (c : Circuit) (chip : NewChip) → clock_net c (bare chip) ≡ clock_net c chip
bare-clock c chip = ap (option_and_then (placed_clock c)) (bare-registered c chip.units) ∙ by-unit (placed_clock c) (λ x. refl) (first_registered c chip)

-- no column of the enable pin, where a chip has registered units on a V8
abbrev Apart : OldBoard → NewChip → Type 0
Apart b chip = (pin : ℕ) → Among pin (pair_pins chip.kind chip.mode) → (is_v8 chip.kind && (pin == enable_pin chip.kind)) ≡ true → first_registered b.circuit chip ≡ None

bare-enable : (b : OldBoard) (chip : NewChip) (q : Bool) → (q ≡ true → first_registered b.circuit chip ≡ None) →
    when q (option_and_then (λ (x : PlacedUnit). enable_net b x.enable) (first_registered b.circuit (bare chip))) ≡ when q (option_and_then (λ (x : PlacedUnit). enable_net b x.enable) (first_registered b.circuit chip))
bare-enable b chip true none =
    let e = none refl in
    ap (option_and_then (λ (x : PlacedUnit). enable_net b x.enable)) (bare-registered b.circuit chip.units ∙ ap (option_map stripped) e) ∙ ap (option_and_then (λ (x : PlacedUnit). enable_net b x.enable)) (sym e)
bare-enable b chip false none = refl

bare-fixed : (b : OldBoard) (chip : NewChip) (pin : ℕ) → Apart b chip → Among pin (pair_pins chip.kind chip.mode) → fixed_net b (bare chip) pin ≡ fixed_net b chip pin
bare-fixed b chip pin apart a =
    let unit : option_and_then (λ (x : PlacedUnit). unit_net b x.unit) (unit_on (map stripped chip.units) pin) ≡ option_and_then (λ (x : PlacedUnit). unit_net b x.unit) (unit_on chip.units pin) =
    ap (option_and_then (λ (x : PlacedUnit). unit_net b x.unit)) (bare-unit_on chip.units pin) ∙ by-unit (λ (x : PlacedUnit). unit_net b x.unit) (λ x. refl) (unit_on chip.units pin) in
    let enable = bare-enable b chip (is_v8 chip.kind && (pin == enable_pin chip.kind)) (apart pin a) in
    ap (λ (o : Option ℕ). or_else o (or_else (when (pin == clock_pin chip.kind) (clock_net b.circuit (bare chip)))
    (when (is_v8 chip.kind && (pin == enable_pin chip.kind)) (option_and_then (λ (x : PlacedUnit). enable_net b x.enable) (first_registered b.circuit (bare chip)))))) unit
    ∙ ap (λ (o : Option ℕ). or_else (option_and_then (λ (x : PlacedUnit). unit_net b x.unit) (unit_on chip.units pin)) (or_else (when (pin == clock_pin chip.kind) o)
    (when (is_v8 chip.kind && (pin == enable_pin chip.kind)) (option_and_then (λ (x : PlacedUnit). enable_net b x.enable) (first_registered b.circuit (bare chip)))))) (bare-clock b.circuit chip)
    ∙ ap (λ (o : Option ℕ). or_else (option_and_then (λ (x : PlacedUnit). unit_net b x.unit) (unit_on chip.units pin)) (or_else (when (pin == clock_pin chip.kind) (clock_net b.circuit chip)) o)) enable

-- tests that agree on the items of a list
any-agree : {T : Type 0} (f g : T → Bool) (xs : List T) → ((x : T) → Among x xs → f x ≡ g x) → list_any f xs ≡ list_any g xs
any-agree f g [] e = refl
any-agree f g (x ∷ xs) e = ap (λ (q : Bool). q || list_any f xs) (e x (inl refl)) ∙ ap (λ (q : Bool). g x || q) (any-agree f g xs (λ y a. e y (inr a)))

filter-agree : {T : Type 0} (f g : T → Bool) (xs : List T) → ((x : T) → Among x xs → f x ≡ g x) → filter f xs ≡ filter g xs
filter-agree f g [] e = refl
filter-agree {T} f g (x ∷ xs) e =
    ap (λ (q : Bool). cond q (x ∷ filter f xs) (filter f xs)) (e x (inl refl)) ∙ ap (λ (ys : List T). cond (g x) (x ∷ ys) ys) (filter-agree f g xs (λ y a. e y (inr a)))

bare-is_read : (b : OldBoard) (chip : NewChip) (v : Read) → Apart b chip → is_read b (bare chip) v ≡ is_read b chip v
bare-is_read b chip v apart = any-agree (is_read_at b (bare chip) v) (is_read_at b chip v) (pair_pins chip.kind chip.mode) (λ pin a.
    ap (λ (o : Option ℕ). is_literal_of v (read_by b.circuit o (fixed_net b (bare chip) pin))) (bare-register_on b.circuit chip pin)
    ∙ ap (λ (o : Option ℕ). is_literal_of v (read_by b.circuit (register_on b.circuit chip pin) o)) (bare-fixed b chip pin apart a))

none-stripped : (o : Option PlacedUnit) → is_none (option_map stripped o) ≡ is_none o
none-stripped None = refl
none-stripped (Some x) = refl

bare-free : (b : OldBoard) (chip : NewChip) → free_pins b (bare chip) ≡ free_pins b chip
bare-free b chip = filter-same (is_free b (bare chip)) (is_free b chip) (ordinary_pins chip.kind) (λ pin.
    ap (λ (q : Bool). list_any (λ p. p == pin) (pair_pins chip.kind chip.mode) && q && not ((pin == clock_pin chip.kind) && is_some (clock_net b.circuit (bare chip))))
    (ap is_none (bare-unit_on chip.units pin) ∙ none-stripped (unit_on chip.units pin))
    ∙ ap (λ (o : Option ℕ). list_any (λ p. p == pin) (pair_pins chip.kind chip.mode) && is_none (unit_on chip.units pin) && not ((pin == clock_pin chip.kind) && is_some o)) (bare-clock b.circuit chip))

bare-wanting : (b : OldBoard) (chip : NewChip) (vs : List Read) → Apart b chip → wanting b (bare chip) vs ≡ wanting b chip vs
bare-wanting b chip vs apart =
    filter-same (λ v. not (is_read b (bare chip) v) && is_some (wire_for b v)) (λ v. not (is_read b chip v) && is_some (wire_for b v)) vs (λ v. ap (λ (q : Bool). not q && is_some (wire_for b v)) (bare-is_read b chip v apart))

bare-pins : (b : OldBoard) (chip : NewChip) (vs : List Read) → Apart b chip → pins_for b (bare chip) vs ≡ pins_for b chip vs
bare-pins b chip vs apart =
    ap (λ (ps : List ℕ). take_pins anywhere ps (take_pins (stood b chip) ps [] (wanting b (bare chip) vs)) (wanting b (bare chip) vs)) (bare-free b chip)
    ∙ ap (λ (ws : List Read). take_pins anywhere (free_pins b chip) (take_pins (stood b chip) (free_pins b chip) [] ws) ws) (bare-wanting b chip vs apart)

bare-left : (b : OldBoard) (chip : NewChip) (taken : List Taken) (vs : List Read) → Apart b chip → first_unserved_by b (bare chip) taken vs ≡ first_unserved_by b chip taken vs
bare-left b chip taken vs apart =
    ap first_of (filter-same (λ v. not (is_served_by b (bare chip) taken v)) (λ v. not (is_served_by b chip taken v)) vs (λ v. ap (λ (q : Bool). not (q || has_pin taken v)) (bare-is_read b chip v apart)))

bare-reading : (b : OldBoard) (chip : NewChip) (taken : List Taken) (v : Read) → Apart b chip → reading_pin_by b (bare chip) taken v ≡ reading_pin_by b chip taken v
bare-reading b chip taken v apart =
    ap first_of (filter-agree (λ pin. is_literal_of v (pin_reads_by b (bare chip) taken pin)) (λ pin. is_literal_of v (pin_reads_by b chip taken pin)) (pair_pins chip.kind chip.mode) (λ pin a.
    ap (λ (o : Option ℕ). is_literal_of v (read_by b.circuit o (pin_net_by b (bare chip) taken pin))) (bare-register_on b.circuit chip pin)
    ∙ ap (λ (o : Option ℕ). is_literal_of v (read_by b.circuit (register_on b.circuit chip pin) (or_else o (option_and_then (wire_for b) (input_at taken pin))))) (bare-fixed b chip pin apart a)))

-- what is said of a need is what is said of a chip that has it
pub need-of-chip : (b : Joined) (need : ChipNeed) (chip : NewChip) → HasNeed b need chip → IsOfChip b need chip
need-of-chip b need chip h = record { pins = pins; left = left; reads = reads }
  where
    variables : map (read_of b.chips) need.vars ≡ needed_variables (board_of b).circuit chip
    variables = sym h.vars

    pins : pins_for (board_of b) (need_chip need) (map (read_of b.chips) need.vars) ≡ input_pins (board_of b) chip
    pins =
        ap (λ (k : NewChip). pins_for (board_of b) k (map (read_of b.chips) need.vars)) (sym h.same) ∙ ap (pins_for (board_of b) (bare chip)) variables
        ∙ bare-pins (board_of b) chip (needed_variables (board_of b).circuit chip) h.apart

    left : first_unserved_by (board_of b) (need_chip need) (pins_for (board_of b) (need_chip need) (map (read_of b.chips) need.vars)) (map (read_of b.chips) need.vars)
        ≡ first_unserved_by (board_of b) chip (input_pins (board_of b) chip) (needed_variables (board_of b).circuit chip)
    left =
        ap (λ (ts : List Taken). first_unserved_by (board_of b) (need_chip need) ts (map (read_of b.chips) need.vars)) pins
        ∙ ap (first_unserved_by (board_of b) (need_chip need) (input_pins (board_of b) chip)) variables
        ∙ ap (λ (k : NewChip). first_unserved_by (board_of b) k (input_pins (board_of b) chip) (needed_variables (board_of b).circuit chip)) (sym h.same)
        ∙ bare-left (board_of b) chip (input_pins (board_of b) chip) (needed_variables (board_of b).circuit chip) h.apart

    reads : (v : Read) → reading_pin_by (board_of b) (need_chip need) (pins_for (board_of b) (need_chip need) (map (read_of b.chips) need.vars)) v ≡ reading_pin_by (board_of b) chip (input_pins (board_of b) chip) v
    reads v =
        ap (λ (ts : List Taken). reading_pin_by (board_of b) (need_chip need) ts v) pins ∙ ap (λ (k : NewChip). reading_pin_by (board_of b) k (input_pins (board_of b) chip) v) (sym h.same)
        ∙ bare-reading (board_of b) chip (input_pins (board_of b) chip) v h.apart

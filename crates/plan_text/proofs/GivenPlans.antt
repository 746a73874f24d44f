-- The plan of lines that nothing refuses is one that can be written.
use Rattle.std.proofs.Common.{ℕ, ◌≡◌, ◌+◌, ◌<◌, ◌≤◌, Bool, true, false, cond, ◌&&◌, eqb, List, [], ◌∷◌, ◌++◌, map, length, refl, sym, ap, ◌∙◌, subst, arith, take, drop, Option, Some, None, length-append, append_assoc}
use Rattle.std.specs.Prelude.{not, nat_le, codes}
use Rattle.std.specs.List.{list_all, cons_option, position}
use Rattle.std.specs.Option.{option_and_then}
use Rattle.std.specs.Str.{bytes_eq}
use Rattle.std.proofs.lemmas.Bool.{and_from, leb-false}
use Rattle.std.proofs.lemmas.List.{append-nil}
use Rattle.std.proofs.lemmas.List.Elements.{filter_map-append}
use Rattle.mig_base.specs.declared.kinds.Kind.{Kind}
use Rattle.mig_base.specs.declared.kinds.Mode.{Mode}
use Rattle.mig_base.specs.declared.kinds.Mode.TheVariants.{Fixed}
use Rattle.mig_base.specs.declared.nets.PinName.{PinName}
use Rattle.mig_base.specs.declared.plans.PlanChip.{PlanChip}
use Rattle.mig_base.specs.declared.plans.PlanLine.{PlanLine}
use Rattle.mig_base.specs.declared.plans.PlanError.{PlanError}
use Rattle.mig_base.specs.declared.plans.PlanError.TheVariants.{Line as BadLine, ChipsOver, LinesOver}
use Rattle.mig_base.specs.DeviceTables.{is_gal, kind_named}
use Rattle.mig_base.specs.First.{or_else, first_refusal}
use Rattle.mig_base.specs.Lines.{TextLine, text_lines, number_of}
use Rattle.mig_base.specs.Names.{is_name}
use Rattle.mig_base.specs.WellFormed.{has_mode}
use Rattle.plan_text.specs.declared.says.Said.{Said}
use Rattle.plan_text.specs.declared.says.Said.TheVariants.{Head, Chip, OtherKind, Place, Absorb, End, Wrong}
use Rattle.plan_text.specs.declared.lines.SaidLine.{SaidLine}
use Rattle.plan_text.specs.PlanText.{if_gal, gal_named, mode_named, chip_of, chip_in, pin_numbered, pin_cut, pin_named, place_of, absorb_of, after_chip, after_place, after_absorb, after_plan, after_end, says, said_line, said_lines, chip_said, chips_in, unit_said, units_in, may_stand, refuse, said_refusal, line_refusal, plan_in, is_plan_chip, is_plan_pin, is_plan_line, IsPlan}

-- the chip and the pins of a line have their form
abbrev is_formed : Said → Bool
is_formed (Chip chip) = is_plan_chip chip
is_formed (Place unit at) = is_plan_pin unit && is_plan_pin at
is_formed (Absorb unit) = is_plan_pin unit
is_formed _ = true

choose : (b : Bool) (x y : Said) → is_formed x ≡ true → is_formed y ≡ true → is_formed (cond b x y) ≡ true
choose true x y hx hy = hx
choose false x y hx hy = hy

gal-is : (w : List ℕ) (k : Kind) → gal_named w ≡ Some k → is_gal k ≡ true
gal-is w k h = at (kind_named w) h
  where
    on : (j : Kind) (t : Bool) → is_gal j ≡ t → cond t (Some j) None ≡ Some k → is_gal k ≡ true
    on j true e q = let same : j ≡ k = cc in ap is_gal (sym same) ∙ e
    on j false e q = absurd (let no : ⊥ = cc in no)

    at : (o : Option Kind) → option_and_then if_gal o ≡ Some k → is_gal k ≡ true
    at None e = absurd (let no : ⊥ = cc in no)
    at (Some j) e = on j (is_gal j) refl e

chip-formed : (name : List ℕ) (o : Option Kind) (mode : Mode) → is_name name ≡ true → ((k : Kind) → o ≡ Some k → is_gal k ≡ true) → is_formed (chip_of name o mode) ≡ true
chip-formed name None mode named gal = refl
chip-formed name (Some k) mode named gal = at (has_mode k mode) refl
  where
    at : (t : Bool) → has_mode k mode ≡ t → is_formed (cond t (Chip (record { name = name; kind = k; mode = mode })) Wrong) ≡ true
    at true e = and_from _ _ (and_from _ _ named (gal k refl)) e
    at false e = refl

chip-in-formed : (name : List ℕ) (o : Option Kind) (mode : Option Mode) → is_name name ≡ true → ((k : Kind) → o ≡ Some k → is_gal k ≡ true) → is_formed (chip_in name o mode) ≡ true
chip-in-formed name o None named gal = refl
chip-in-formed name o (Some mode) named gal = chip-formed name o mode named gal

if-named : (name : List ℕ) (s : Said) → (is_name name ≡ true → is_formed s ≡ true) → is_formed (cond (is_name name) s Wrong) ≡ true
if-named name s h = at (is_name name) refl
  where
    at : (t : Bool) → is_name name ≡ t → is_formed (cond t s Wrong) ≡ true
    at true e = h e
    at false e = refl

chips-formed : (ws : List (List ℕ)) → is_formed (after_chip ws) ≡ true
chips-formed [] = refl
chips-formed (name ∷ []) = refl
chips-formed (name ∷ kind ∷ []) = if-named name _ (λ e. chip-formed name (gal_named kind) Fixed e (gal-is kind))
chips-formed (name ∷ kind ∷ mode ∷ []) = if-named name _ (λ e. chip-in-formed name (gal_named kind) (mode_named mode) e (gal-is kind))
chips-formed (name ∷ kind ∷ mode ∷ w ∷ ws) = refl

pin-formed : (w : List ℕ) (u : PinName) → pin_named w ≡ Some u → is_plan_pin u ≡ true
pin-formed w u h = cut (position (λ b. eqb b 46) w) h
  where
    on : (chip : List ℕ) (n : ℕ) (t : Bool) → is_name chip ≡ true → nat_le n 99 ≡ t → cond t (Some (let p : PinName = record { chip = chip; pin = n } in p)) None ≡ Some u → is_plan_pin u ≡ true
    on chip n true named e q = let same : (let p : PinName = record { chip = chip; pin = n } in p) ≡ u = cc in subst (λ (v : PinName). is_plan_pin v ≡ true) same (and_from _ _ named e)
    on chip n false named e q = absurd (let no : ⊥ = cc in no)

    by : (chip : List ℕ) (t : Bool) (o : Option ℕ) → is_name chip ≡ t → cond t (option_and_then (pin_numbered chip) o) None ≡ Some u → is_plan_pin u ≡ true
    by chip true None e q = absurd (let no : ⊥ = cc in no)
    by chip true (Some n) e q = on chip n (nat_le n 99) e refl q
    by chip false o e q = absurd (let no : ⊥ = cc in no)

    cut : (o : Option ℕ) → pin_cut w o ≡ Some u → is_plan_pin u ≡ true
    cut None e = absurd (let no : ⊥ = cc in no)
    cut (Some dot) e = by (take dot w) (is_name (take dot w)) (number_of (drop (dot + 1) w)) refl e

places-formed : (ws : List (List ℕ)) → is_formed (after_place ws) ≡ true
places-formed [] = refl
places-formed (unit ∷ []) = refl
places-formed (unit ∷ to ∷ []) = by (pin_named unit) (pin_named to) refl refl
  where
    by : (a b : Option PinName) → pin_named unit ≡ a → pin_named to ≡ b → is_formed (place_of a b) ≡ true
    by None b ea eb = refl
    by (Some u) None ea eb = refl
    by (Some u) (Some p) ea eb = and_from _ _ (pin-formed unit u ea) (pin-formed to p eb)
places-formed (unit ∷ to ∷ w ∷ ws) = refl

absorbs-formed : (ws : List (List ℕ)) → is_formed (after_absorb ws) ≡ true
absorbs-formed [] = refl
absorbs-formed (unit ∷ []) = by (pin_named unit) refl
  where
    by : (o : Option PinName) → pin_named unit ≡ o → is_formed (absorb_of o) ≡ true
    by None e = refl
    by (Some u) e = pin-formed unit u e
absorbs-formed (unit ∷ w ∷ ws) = refl

ends-formed : (ws : List (List ℕ)) → is_formed (after_end ws) ≡ true
ends-formed [] = refl
ends-formed (w ∷ ws) = refl

plans-formed : (ws : List (List ℕ)) → is_formed (after_plan ws) ≡ true
plans-formed [] = refl
plans-formed (v ∷ []) = choose (bytes_eq v (codes "1")) Head Wrong refl refl
plans-formed (v ∷ w ∷ ws) = refl

says-formed : (ws : List (List ℕ)) → is_formed (says ws) ≡ true
says-formed [] = refl
says-formed (w ∷ ws) =
    let plan = cond (bytes_eq w (codes "plan")) (after_plan ws) Wrong in
    let end = cond (bytes_eq w (codes "end")) (after_end ws) plan in
    let absorb = cond (bytes_eq w (codes "absorb")) (after_absorb ws) end in
    let place = cond (bytes_eq w (codes "place")) (after_place ws) absorb in
    choose (bytes_eq w (codes "chip")) (after_chip ws) place (chips-formed ws)
    (choose (bytes_eq w (codes "place")) (after_place ws) absorb (places-formed ws)
    (choose (bytes_eq w (codes "absorb")) (after_absorb ws) end (absorbs-formed ws)
    (choose (bytes_eq w (codes "end")) (after_end ws) plan (ends-formed ws)
    (choose (bytes_eq w (codes "plan")) (after_plan ws) Wrong (plans-formed ws) refl))))

-- the chips and units of lines have their form
chips-in-formed : (ls : List TextLine) → list_all is_plan_chip (chips_in (map said_line ls)) ≡ true
chips-in-formed [] = refl
chips-in-formed (l ∷ ls) = at (says l.words) (says-formed l.words) (chips-in-formed ls)
  where
    at : (s : Said) → is_formed s ≡ true → list_all is_plan_chip (chips_in (map said_line ls)) ≡ true → list_all is_plan_chip (cons_option (chip_said s) (chips_in (map said_line ls))) ≡ true
    at Head e rest = rest
    at (Chip chip) e rest = and_from _ _ e rest
    at OtherKind e rest = rest
    at (Place unit to) e rest = rest
    at (Absorb unit) e rest = rest
    at End e rest = rest
    at Wrong e rest = rest

units-in-formed : (ls : List TextLine) → list_all is_plan_line (units_in (map said_line ls)) ≡ true
units-in-formed [] = refl
units-in-formed (l ∷ ls) = at (says l.words) (says-formed l.words) (units-in-formed ls)
  where
    at : (s : Said) → is_formed s ≡ true → list_all is_plan_line (units_in (map said_line ls)) ≡ true → list_all is_plan_line (cons_option (unit_said s) (units_in (map said_line ls))) ≡ true
    at Head e rest = rest
    at (Chip chip) e rest = rest
    at OtherKind e rest = rest
    at (Place unit to) e rest = and_from _ _ e rest
    at (Absorb unit) e rest = and_from _ _ e rest
    at End e rest = rest
    at Wrong e rest = rest

-- lines with few chips and few units
record AreFew (lines : List SaidLine) : Type 0 where
  chips : length (chips_in lines) ≤ 64
  units : length (units_in lines) ≤ 1024

none-of : (a b : Option PlanError) → or_else a b ≡ None → (a ≡ None) × (b ≡ None)
none-of None b h = (refl, h)
none-of (Some e) b h = absurd (let no : ⊥ = cc in no)

not-refused : (t : Bool) (e : PlanError) → refuse t e ≡ None → t ≡ false
not-refused true e h = absurd (let no : ⊥ = cc in no)
not-refused false e h = refl

room : {T : Type 0} (xs : List T) (most : ℕ) (e : PlanError) (x : T) → refuse (nat_le most (length xs)) e ≡ None → length (xs ++ x ∷ []) ≤ most
room xs most e x h =
    let few : length xs < most = leb-false most (length xs) (not-refused _ e h) in
    let more : length (xs ++ x ∷ []) ≡ length xs + 1 = length-append xs (x ∷ []) in
    omega arith

same-room : {T : Type 0} (xs : List T) (most : ℕ) → length xs ≤ most → length (xs ++ []) ≤ most
same-room xs most h = let e : length (xs ++ []) ≡ length xs = ap length (append-nil xs) in omega arith

chip-room : (before : List SaidLine) (n : ℕ) (s : Said) → said_refusal n before s ≡ None → length (chips_in before) ≤ 64 → length (chips_in before ++ cons_option (chip_said s) []) ≤ 64
chip-room before n Head h few = same-room _ 64 few
chip-room before n (Chip chip) h few = room (chips_in before) 64 (ChipsOver n) chip h
chip-room before n OtherKind h few = same-room _ 64 few
chip-room before n (Place unit to) h few = same-room _ 64 few
chip-room before n (Absorb unit) h few = same-room _ 64 few
chip-room before n End h few = same-room _ 64 few
chip-room before n Wrong h few = same-room _ 64 few

unit-room : (before : List SaidLine) (n : ℕ) (s : Said) → said_refusal n before s ≡ None → length (units_in before) ≤ 1024 → length (units_in before ++ cons_option (unit_said s) []) ≤ 1024
unit-room before n Head h few = same-room _ 1024 few
unit-room before n (Chip chip) h few = same-room _ 1024 few
unit-room before n OtherKind h few = same-room _ 1024 few
unit-room before n (Place unit to) h few = room (units_in before) 1024 (LinesOver n) _ h
unit-room before n (Absorb unit) h few = room (units_in before) 1024 (LinesOver n) _ h
unit-room before n End h few = same-room _ 1024 few
unit-room before n Wrong h few = same-room _ 1024 few

few-more : (before : List SaidLine) (l : SaidLine) → AreFew before → line_refusal before l ≡ None → AreFew (before ++ l ∷ [])
few-more before l few h =
    let passed = (none-of (refuse (not (may_stand before l.says)) (BadLine l.n)) (said_refusal l.n before l.says) h).1 in
    record {
      chips = subst (λ (cs : List PlanChip). length cs ≤ 64) (sym (filter_map-append (λ k. chip_said k.says) before (l ∷ []))) (chip-room before l.n l.says passed few.chips);
      units = subst (λ (us : List PlanLine). length us ≤ 1024) (sym (filter_map-append (λ k. unit_said k.says) before (l ∷ []))) (unit-room before l.n l.says passed few.units);
    }

few-all : (before lines : List SaidLine) → AreFew before → first_refusal line_refusal before lines ≡ None → AreFew (before ++ lines)
few-all before [] few h = subst AreFew (sym (append-nil before)) few
few-all before (l ∷ lines) few h =
    let both = none-of (line_refusal before l) (first_refusal line_refusal (before ++ l ∷ []) lines) h in
    subst AreFew (append_assoc before (l ∷ []) lines) (few-all (before ++ l ∷ []) lines (few-more before l few both.0) both.1)

-- a text whose lines nothing refuses gives a plan that can be written
pub accepted-plan : (bytes : List ℕ) → first_refusal line_refusal [] (said_lines bytes) ≡ None → IsPlan (plan_in (said_lines bytes))
accepted-plan bytes h =
    let few : AreFew (said_lines bytes) = few-all [] (said_lines bytes) (record { chips = omega arith; units = omega arith }) h in
    record {
      few_chips = few.chips;
      few_lines = few.units;
      named_chips = chips-in-formed (text_lines bytes);
      named_lines = units-in-formed (text_lines bytes);
    }

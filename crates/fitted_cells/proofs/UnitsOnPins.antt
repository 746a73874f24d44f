-- The units of a new chip: each on a macrocell pin, and each the one on its pin.
use Rattle.std.proofs.Common.{ℕ, ◌≡◌, ◌+◌, Bool, true, false, not, cond, List, [], ◌∷◌, Option, Some, None, refl, sym, ap, ◌∙◌, subst, inl, inr, eqb, eqb-true, eq-eqb}
use Rattle.std.specs.List.{list_any, filter, filter_map, cons_option}
use Rattle.std.specs.Str.{bytes_eq}
use Rattle.std.proofs.lemmas.Bool.{and_parts, not-true}
use Rattle.std.proofs.lemmas.Option.{same_Some}
use Rattle.mig_base.specs.Among.{Among}
use Rattle.mig_base.specs.declared.nets.PinName.{PinName}
use Rattle.mig_base.specs.declared.plans.Plan.{Plan}
use Rattle.mig_base.specs.declared.plans.PlanChip.{PlanChip}
use Rattle.mig_base.specs.declared.plans.PlanLine.TheVariants.{Place}
use Rattle.mig_base.specs.declared.plans.Breach.TheVariants as breach
use Rattle.mig_base.specs.DeviceTables.{cell_pins}
use Rattle.mig_base.specs.Given.{IsGiven}
use Rattle.mig_base.specs.WrittenBoard.{are_distinct}
use Rattle.mig_base.proofs.Amongs.{among-any, any-among}
use Rattle.mig_base.proofs.Distinct.{same-refl}
use Rattle.board.specs.Joined.{Joined}
use Rattle.new_board.specs.declared.types.PlacedUnit.{PlacedUnit}
use Rattle.new_board.specs.NewChip.{unit_on}
use Rattle.new_board.proofs.Items.{among-unfilter, among-unfilter_map}
use Rattle.plans.specs.FirstOf.{Says, AreEach}
use Rattle.plans.specs.declared.placing.Placing.{Placing}
use Rattle.plans.specs.Placings.{same_pin, unit_names, numbered_from, numbered_units, chip_named, placing_of, placings, is_on, placings_on}
use Rattle.plans.specs.LineBreaches.{is_cell_of, has_no_cell, no_cell}
use Rattle.plans.specs.Forms.{AreRows}
use Rattle.plans.specs.Breaches.{NoCell, all_rules, RuleGives, HasNoBreach}
use Rattle.plans.proofs.Firsts.{none-each}
use Rattle.fit.proofs.UnitNames.{pins-equal, unit-names-apart}
use Rattle.fitted_cells.proofs.PlanRules.{fails, bytes-same, chips-distinct, named-own}
use Rattle.fitted_cells.proofs.PlacedPins.{IsTarget, is-target, target-line, targets-apart, none-taken}

-- an item of the second list has one of the first
pub each-back : {T U : Type 0} (is : T → U → Type 0) (ys : List T) (xs : List U) (x : U) → AreEach is ys xs → Among x xs → (y : T) × Among y ys × is y x
each-back is [] [] x h a = absurd a
each-back is [] (z ∷ zs) x h a = absurd h
each-back is (y ∷ ys) [] x h a = absurd h
each-back is (y ∷ ys) (z ∷ zs) x h (inl e) = (y, inl refl, subst (is y) (sym e) h.0)
each-back is (y ∷ ys) (z ∷ zs) x h (inr a) = let r = each-back is ys zs x h.1 a in (r.0, inr r.1, r.2)

-- names differ
abbrev NamesApart : List (ℕ × PinName) → Type 0
NamesApart [] = Unit {0}
NamesApart (u ∷ us) = ((w : ℕ × PinName) → Among w us → u.1 ≡ w.1 → ⊥) × NamesApart us

numbered-name : (n : ℕ) (names : List PinName) (w : ℕ × PinName) → Among w (numbered_from n names) → Among w.1 names
numbered-name n [] w a = absurd a
numbered-name n (m ∷ ms) w (inl e) = inl (ap (λ (q : ℕ × PinName). q.1) e)
numbered-name n (m ∷ ms) w (inr a) = inr (numbered-name (n + 1) ms w a)

numbered-apart : (n : ℕ) (names : List PinName) → are_distinct same_pin names ≡ true → NamesApart (numbered_from n names)
numbered-apart n [] h = tt
numbered-apart n (m ∷ ms) h =
    let parts : (not (list_any (same_pin m) ms) ≡ true) × (are_distinct same_pin ms ≡ true) = and_parts _ _ h in (
      (λ w a e.
          let there = among-any (same_pin m) w.1 ms (numbered-name (n + 1) ms w a) (ap (same_pin m) (sym e) ∙ same-refl pins-equal m) in
          let wrong : true ≡ false = sym there ∙ not-true _ parts.0 in
          cc),
      numbered-apart (n + 1) ms parts.1,
    )

-- no two of these are on one pin
abbrev pub PinsApart : List Placing → Type 0
PinsApart [] = Unit {0}
PinsApart (x ∷ xs) = ((y : Placing) → Among y xs → x.pin ≡ y.pin → ⊥) × PinsApart xs

first-name : (cs : List PlanChip) (n : List ℕ) (d : PlanChip) → chip_named cs n ≡ Some d → d.name ≡ n
first-name [] n d e = cc
first-name (k ∷ ks) n d e = at (bytes_eq k.name n) refl e (first-name ks n d)
  where
    at : (q : Bool) → bytes_eq k.name n ≡ q → cond q (Some k) (chip_named ks n) ≡ Some d → (chip_named ks n ≡ Some d → d.name ≡ n) → d.name ≡ n
    at true is h rest = ap (λ (z : PlanChip). z.name) (sym (same_Some k d h)) ∙ bytes-same k.name n is
    at false is h rest = rest h

target-chip : (p : Plan) (name : PinName) (x : Placing) (t : IsTarget p name x) → x.chip.name ≡ t.target.chip
target-chip p name x t = first-name p.chips t.target.chip x.chip t.chip

-- the chip of a unit that is placed on one of this name
own-chip : (b : Joined) (p : Plan) (c : PlanChip) (name : PinName) (x : Placing) → HasNoBreach b p → Among c p.chips → IsTarget p name x → is_on c.name x ≡ true → x.chip ≡ c
own-chip b p c name x none there t on =
    named-own p.chips c x.chip (chips-distinct b p none) there
    (ap (chip_named p.chips) (sym (bytes-same x.chip.name c.name on) ∙ target-chip p name x t) ∙ t.chip)

same-target : (b : Joined) (p : Plan) (name : List ℕ) (n m : PinName) (x y : Placing) → HasNoBreach b p → IsTarget p n x → IsTarget p m y → is_on name x ≡ true → is_on name y ≡ true → x.pin ≡ y.pin → n ≡ m
same-target b p name n m x y none s t on to e =
    let chip : s.target.chip ≡ t.target.chip = sym (target-chip p n x s) ∙ bytes-same x.chip.name name on ∙ sym (bytes-same y.chip.name name to) ∙ target-chip p m y t in
    let pin : s.target.pin ≡ t.target.pin = sym s.pin ∙ e ∙ t.pin in
    let same : s.target ≡ t.target = λ i. record { chip = chip i; pin = pin i } in
    targets-apart [] p.lines n m t.target (none-taken b p none) (s.found ∙ ap (λ (q : PinName). Some q) same) t.found

-- the units on a chip
placed-apart : (b : Joined) (p : Plan) (name : List ℕ) (us : List (ℕ × PinName)) → HasNoBreach b p → NamesApart us → PinsApart (filter (is_on name) (filter_map (placing_of p) us))
placed-apart b p name [] none h = tt
placed-apart b p name (u ∷ us) none h = at (placing_of p u) refl (placed-apart b p name us none h.1)
  where
    rest : List Placing
    rest = filter_map (placing_of p) us

    kept : (x : Placing) (q : Bool) → is_on name x ≡ q → IsTarget p u.1 x → PinsApart (filter (is_on name) rest) → PinsApart (cond q (x ∷ filter (is_on name) rest) (filter (is_on name) rest))
    kept x false on t more = more
    kept x true on t more = (
      (λ y a e.
          let y-kept = among-unfilter (is_on name) y rest a in
          let w = among-unfilter_map (placing_of p) y us y-kept.0 in
          h.0 w.0 w.1 (same-target b p name u.1 w.0.1 x y none t (is-target p w.0 y w.2) on y-kept.1 e)),
      more,
    )

    at : (o : Option Placing) → placing_of p u ≡ o → PinsApart (filter (is_on name) rest) → PinsApart (filter (is_on name) (cons_option o rest))
    at None e more = more
    at (Some x) e more = kept x (is_on name x) refl (is-target p u x e) more

pub pins-apart : (b : Joined) (p : Plan) (name : List ℕ) → IsGiven b.net b.chips → HasNoBreach b p → PinsApart (placings_on b p name)
pins-apart b p name given none = placed-apart b p name (numbered_units b) none (numbered-apart 0 (unit_names b) (unit-names-apart b given))

-- a placed unit on a chip: on that chip, on a macrocell pin
pub record IsPlacedOn (b : Joined) (p : Plan) (c : PlanChip) (x : Placing) : Type 0 where
  pub among : Among x (placings b p)
  pub chip : x.chip ≡ c
  pub cell : Among x.pin (cell_pins c.kind)

pub placed-on : (b : Joined) (p : Plan) (c : PlanChip) (x : Placing) → HasNoBreach b p → Among c p.chips → Among x (placings_on b p c.name) → IsPlacedOn b p c x
placed-on b p c x none there a =
    let kept = among-unfilter (is_on c.name) x (placings b p) a in
    let u = among-unfilter_map (placing_of p) x (numbered_units b) kept.0 in
    let t = is-target p u.0 x u.2 in
    let chip = own-chip b p c u.0.1 x none there t kept.1 in
    let line = target-line p.lines u.0.1 t.target t.found in
    let has : has_no_cell (chip_named p.chips t.target.chip) t.target.pin ≡ false =
    fails (has_no_cell (chip_named p.chips t.target.chip) t.target.pin) (breach.NoCell line.0 t.target.pin)
    (λ y e. none-each (Says (no_cell p)) p.lines (none-each (RuleGives b p) all_rules none NoCell (inr (inr (inr (inr (inl refl)))))) (Place line.0 t.target.chip t.target.pin) line.1 y e) in
    let its : has_no_cell (Some c) x.pin ≡ false = ap (λ (d : PlanChip). has_no_cell (Some d) x.pin) (sym chip) ∙ ap (λ (o : Option PlanChip). has_no_cell o x.pin) (sym t.chip)
    ∙ ap (has_no_cell (chip_named p.chips t.target.chip)) t.pin ∙ has in
    let found = any-among (λ q. eqb q x.pin) (cell_pins c.kind) (not-false (is_cell_of c x.pin) its) in
    record { among = kept.0; chip = chip; cell = subst (λ (q : ℕ). Among q (cell_pins c.kind)) (eqb-true found.0 x.pin found.2) found.1 }
  where
    not-false : (q : Bool) → not q ≡ false → q ≡ true
    not-false true e = refl
    not-false false e = cc

-- the unit on its pin is it
pub own-pin : (b : Joined) (absorbed : List ℕ) (ys : List Placing) (xs : List PlacedUnit) (x : PlacedUnit) → PinsApart ys → AreEach (AreRows b absorbed) ys xs → Among x xs → unit_on xs x.pin ≡ Some x
own-pin b absorbed ys [] x apart rows a = absurd a
own-pin b absorbed [] (z ∷ zs) x apart rows a = absurd rows
own-pin b absorbed (y ∷ ys) (z ∷ zs) x apart rows (inl e) =
    ap (λ (w : PlacedUnit). unit_on (z ∷ zs) w.pin) e ∙ ap (λ (q : Bool). cond q (Some z) (unit_on zs z.pin)) (eq-eqb z.pin z.pin refl) ∙ ap (λ (w : PlacedUnit). Some w) (sym e)
own-pin b absorbed (y ∷ ys) (z ∷ zs) x apart rows (inr a) = at (eqb z.pin x.pin) refl (own-pin b absorbed ys zs x apart.1 rows.1 a)
  where
    at : (q : Bool) → eqb z.pin x.pin ≡ q → unit_on zs x.pin ≡ Some x → cond q (Some z) (unit_on zs x.pin) ≡ Some x
    at false e rest = rest
    at true e rest =
        let w = each-back (AreRows b absorbed) ys zs x rows.1 a in
        absurd (apart.0 w.0 w.1 (sym rows.0.pin ∙ eqb-true z.pin x.pin e ∙ w.2.pin))

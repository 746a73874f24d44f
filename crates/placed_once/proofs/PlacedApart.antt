-- Each unit is placed once.
use Rattle.std.proofs.Common.{ℕ, zero, suc, ◌≡◌, ◌+◌, true, false, not, List, [], ◌∷◌, map, Option, Some, None, refl, sym, ap, ◌∙◌, subst, inl, inr, arith}
use Rattle.std.specs.List.{list_any, slice_get}
use Rattle.std.specs.Option.{option_map}
use Rattle.std.specs.Str.{bytes_eq}
use Rattle.std.proofs.lemmas.Bool.{and_parts, not-true}
use Rattle.std.proofs.lemmas.Option.{same_Some, slice_get-map}
use Rattle.mig_base.specs.Among.{Among}
use Rattle.mig_base.specs.declared.nets.PinName.{PinName}
use Rattle.mig_base.specs.declared.plans.Part.TheVariants.{Enable}
use Rattle.mig_base.specs.declared.plans.Plan.{Plan}
use Rattle.mig_base.specs.declared.plans.PlanChip.{PlanChip}
use Rattle.mig_base.specs.WrittenBoard.{are_distinct}
use Rattle.mig_base.proofs.Amongs.{among-any, among-get}
use Rattle.mig_base.proofs.Distinct.{bytes-equal, same-refl}
use Rattle.mig_base.proofs.PlaceLaws.{passes-at}
use Rattle.board.specs.Joined.{Joined}
use Rattle.new_board.specs.declared.types.PlacedUnit.{PlacedUnit}
use Rattle.new_board.specs.NewChip.{NewChip}
use Rattle.new_board.proofs.Items.{among-unfilter, among-unfilter_map, get-among}
use Rattle.plans.specs.FirstOf.{AreEach}
use Rattle.plans.specs.declared.placing.Placing.{Placing}
use Rattle.plans.specs.Placings.{absorbed_units, chip_named, is_absorbed_in, is_on, numbered_from, numbered_units, placing_at, placing_of, placing_on, placings, placings_on, target_in, unit_names}
use Rattle.plans.specs.Forms.{AreRows, IsGate, IsNewChip}
use Rattle.plans.specs.Breaches.{HasNoBreach}
use Rattle.plans.specs.Fitting.{AreNewChips}
use Rattle.planned_nets.specs.PlacedOnce.{ArePlacedOnce}
use Rattle.fitted_cells.proofs.PlanRules.{bytes-same, chips-distinct}
use Rattle.fitted_cells.proofs.PlacedPins.{is-target}
use Rattle.fitted_cells.proofs.UnitsOnPins.{each-back}
use Rattle.placed_once.proofs.LinesApart.{not-both}
use Rattle.placed_once.proofs.NeverRows.{gate-never}

each-at : {T U : Type 0} (is : T → U → Type 0) (xs : List T) (ys : List U) (i : ℕ) (y : U) → AreEach is xs ys → slice_get ys i ≡ Some y → (x : T) × (slice_get xs i ≡ Some x) × is x y
each-at is [] [] i y h e = cc
each-at is [] (z ∷ zs) i y h e = absurd h
each-at is (x ∷ xs) [] i y h e = absurd h
each-at is (x ∷ xs) (z ∷ zs) zero y h e = (x, refl, subst (is x) (same_Some z y e) h.0)
each-at is (x ∷ xs) (z ∷ zs) (suc i) y h e = each-at is xs zs i y h.1 e

-- the name at a number
numbered-at : (k : ℕ) (names : List PinName) (u : ℕ × PinName) → Among u (numbered_from k names) → (i : ℕ) × (u.0 ≡ k + i) × (slice_get names i ≡ Some u.1)
numbered-at k [] u a = absurd a
numbered-at k (n ∷ ns) u (inl e) = (0, (let start : k ≡ k + 0 = omega arith in ap (λ (v : ℕ × PinName). v.0) e ∙ start), ap (λ (v : ℕ × PinName). Some v.1) (sym e))
numbered-at k (n ∷ ns) u (inr a) = let r = numbered-at (k + 1) ns u a in (suc r.0, (let next : k + 1 + r.0 ≡ k + suc r.0 = omega arith in r.1 ∙ next), r.2)

-- the unit of a placing
unit-at : (p : Plan) (u : ℕ) (name : PinName) (o : Option PinName) (y : Placing) → placing_at p.chips u name o ≡ Some y → y.unit ≡ u
unit-at p u name None y e = cc
unit-at p u name (Some t) y e = at (chip_named p.chips t.chip) e
  where
    at : (o : Option PlanChip) → placing_on u name t.pin o ≡ Some y → y.unit ≡ u
    at None h = cc
    at (Some c) h = sym (ap (λ (z : Placing). z.unit) (same_Some (record { unit = u; name = name; chip = c; pin = t.pin }) y h))

-- different names are at one place
no-first : (m : List ℕ) (ms : List (List ℕ)) (j : ℕ) (n : List ℕ) → are_distinct bytes_eq (m ∷ ms) ≡ true → m ≡ n → slice_get ms j ≡ Some n → ⊥
no-first m ms j n d e f =
    let found = among-any (bytes_eq m) n ms (among-get ms j n f) (ap (bytes_eq m) (sym e) ∙ same-refl bytes-equal m) in
    let wrong : true ≡ false = sym found ∙ not-true (list_any (bytes_eq m) ms) (and_parts (not (list_any (bytes_eq m) ms)) (are_distinct bytes_eq ms) d).0 in
    cc

name-place : (names : List (List ℕ)) (i j : ℕ) (n : List ℕ) → are_distinct bytes_eq names ≡ true → slice_get names i ≡ Some n → slice_get names j ≡ Some n → i ≡ j
name-place [] i j n d e f = cc
name-place (m ∷ ms) zero zero n d e f = refl
name-place (m ∷ ms) zero (suc j) n d e f = absurd (no-first m ms j n d (same_Some m n e) f)
name-place (m ∷ ms) (suc i) zero n d e f = absurd (no-first m ms i n d (same_Some m n f) e)
name-place (m ∷ ms) (suc i) (suc j) n d e f = ap suc (name-place ms i j n (and_parts (not (list_any (bytes_eq m) ms)) (are_distinct bytes_eq ms) d).1 e f)

-- the placing of a placed unit
record IsFrom (b : Joined) (p : Plan) (i : ℕ) (x : PlacedUnit) : Type 0 where
  chip : PlanChip
  found : slice_get p.chips i ≡ Some chip
  placing : Placing
  named : placing.chip.name ≡ chip.name
  number : ℕ × PinName
  numbered : Among number (numbered_units b)
  placed : placing_of p number ≡ Some placing
  rows : AreRows b (absorbed_units b p) placing x

module _ (b : Joined) (p : Plan) (chips : List NewChip) (none : HasNoBreach b p) (are : AreNewChips b p chips) where
  is-from : (i : ℕ) (c : NewChip) (x : PlacedUnit) → slice_get chips i ≡ Some c → Among x c.units → IsFrom b p i x
  is-from i c x e a =
      let chip = each-at (IsNewChip b p) p.chips chips i c are e in
      let y = each-back (AreRows b (absorbed_units b p)) (placings_on b p chip.0.name) c.units x chip.2.units a in
      let kept = among-unfilter (is_on chip.0.name) y.0 (placings b p) y.1 in
      let u = among-unfilter_map (placing_of p) y.0 (numbered_units b) kept.0 in
      record { chip = chip.0; found = chip.1; placing = y.0; named = bytes-same y.0.chip.name chip.0.name kept.1; number = u.0; numbered = u.1; placed = u.2; rows = y.2 }

  unit-is : (i : ℕ) (x : PlacedUnit) (f : IsFrom b p i x) → x.unit ≡ f.number.0
  unit-is i x f = f.rows.unit ∙ unit-at p f.number.0 f.number.1 (target_in p.lines f.number.1) f.placing f.placed

  -- one number, one placing
  one-placing : (i j : ℕ) (x y : PlacedUnit) (f : IsFrom b p i x) (g : IsFrom b p j y) → x.unit ≡ y.unit → f.placing ≡ g.placing
  one-placing i j x y f g e =
      let m = numbered-at 0 (unit_names b) f.number f.numbered in
      let n = numbered-at 0 (unit_names b) g.number g.numbered in
      let number : f.number.0 ≡ g.number.0 = sym (unit-is i x f) ∙ e ∙ unit-is j y g in
      let place : m.0 ≡ n.0 = let first : f.number.0 ≡ 0 + m.0 = m.1 in let second : g.number.0 ≡ 0 + n.0 = n.1 in omega (arith, first, second, number) in
      let name : f.number.1 ≡ g.number.1 = same_Some f.number.1 g.number.1 (sym m.2 ∙ ap (slice_get (unit_names b)) place ∙ n.2) in
      let same : f.number ≡ g.number = λ i. (number i, name i) in
      same_Some f.placing g.placing (sym f.placed ∙ ap (placing_of p) same ∙ g.placed)

  name-at : (i : ℕ) (c : PlanChip) → slice_get p.chips i ≡ Some c → slice_get (map (λ (d : PlanChip). d.name) p.chips) i ≡ Some c.name
  name-at i c e = slice_get-map (λ (d : PlanChip). d.name) p.chips i ∙ ap (option_map (λ (d : PlanChip). d.name)) e

  placed-once : (i j : ℕ) (x y : PlacedUnit) (f : IsFrom b p i x) (g : IsFrom b p j y) → x.unit ≡ y.unit → (i ≡ j) × (x.pin ≡ y.pin)
  placed-once i j x y f g e =
      let same = one-placing i j x y f g e in
      let name : g.chip.name ≡ f.chip.name = sym g.named ∙ ap (λ (z : Placing). z.chip.name) (sym same) ∙ f.named in (
        name-place (map (λ (d : PlanChip). d.name) p.chips) i j f.chip.name (chips-distinct b p none) (name-at i f.chip f.found) (name-at j g.chip g.found ∙ ap (λ (n : List ℕ). Some n) name),
        f.rows.pin ∙ ap (λ (z : Placing). z.pin) same ∙ sym g.rows.pin,
      )

  not-absorbed : (i : ℕ) (x : PlacedUnit) (f : IsFrom b p i x) → Among x.unit (absorbed_units b p) → ⊥
  not-absorbed i x f a =
      let t = is-target p f.number f.placing f.placed in
      let s = passes-at (is_absorbed_in p.lines) 0 (unit_names b) x.unit a in
      let m = numbered-at 0 (unit_names b) f.number f.numbered in
      let place : s.place ≡ m.0 = let first : f.number.0 ≡ 0 + m.0 = m.1 in let second : x.unit ≡ 0 + s.place = s.number in let unit : x.unit ≡ f.number.0 = unit-is i x f in omega (arith, first, second, unit) in
      let name : s.item ≡ f.number.1 = same_Some s.item f.number.1 (sym s.is ∙ ap (slice_get (unit_names b)) place ∙ m.2) in
      not-both b p none f.number.1 t.target t.found (ap (is_absorbed_in p.lines) (sym name) ∙ s.passes)

  pub once : ArePlacedOnce b (absorbed_units b p) chips
  once = record {
    once = λ i j c d x y e k a h same. placed-once i j x y (is-from i c x e a) (is-from j d y k h) same;
    kept = λ c x a h. let i = get-among c chips a in not-absorbed i.0 x (is-from i.0 c x i.1 h);
    never = λ c x d a h found never.
        let i = get-among c chips a in
        let f = is-from i.0 c x i.1 h in
        gate-never b (absorbed_units b p) x.unit d x.enable found never (subst (λ (u : ℕ). IsGate b (absorbed_units b p) u Enable x.enable) (sym f.rows.unit) f.rows.enable);
  }

-- Each live unit of the board is absorbed or placed, where a plan has no breach.
use Rattle.std.proofs.Common.{ℕ, zero, suc, ◌≡◌, ◌⊎◌, ◌<◌, ◌+◌, Bool, true, false, cond, ◌||◌, List, [], ◌∷◌, length, Option, Some, None, is_none, refl, sym, ap, ◌∙◌, subst, inl, inr, arith}
use Rattle.std.specs.List.{slice_get}
use Rattle.std.specs.Str.{bytes_eq}
use Rattle.std.proofs.lemmas.List.{length-map}
use Rattle.std.proofs.lemmas.Option.{same_Some, slice_get_within}
use Rattle.mig_base.specs.First.{or_else}
use Rattle.mig_base.specs.declared.circuit.Driver.{Driver}
use Rattle.mig_base.specs.declared.nets.PinName.{PinName}
use Rattle.mig_base.specs.declared.plans.Plan.{Plan}
use Rattle.mig_base.specs.declared.plans.PlanChip.{PlanChip}
use Rattle.mig_base.specs.declared.plans.PlanLine.{PlanLine}
use Rattle.mig_base.specs.declared.plans.PlanLine.TheVariants.{Place, Absorb}
use Rattle.mig_base.specs.declared.plans.Breach.TheVariants as breach
use Rattle.mig_base.specs.Among.{Among}
use Rattle.mig_base.specs.Boards.{driver_of, units_from}
use Rattle.mig_base.proofs.Distinct.{bytes-equal, same-refl}
use Rattle.mig_base.proofs.ListLaws.{item-at}
use Rattle.structure.specs.Live.{IsLive}
use Rattle.board.specs.Joined.{Joined, equations_of}
use Rattle.board.specs.NodeNames.{unit_name}
use Rattle.new_board.specs.NewChip.{NewChip, when}
use Rattle.new_board.proofs.Items.{among-filter, among-filter_map}
use Rattle.new_board.proofs.KeptNets.{get-places}
use Rattle.plans.specs.FirstOf.{AreEach, Says}
use Rattle.plans.specs.declared.placing.Placing.{Placing}
use Rattle.plans.specs.Placings.{absorbed_units, chip_named, is_absorbed_in, is_listed, is_on, numbered_from, numbered_units, placing_at, placing_of, placing_on, placings, placings_on, same_pin, target_in, unit_names}
use Rattle.plans.specs.LineBreaches.{GivesUnplaced, chip_unknown}
use Rattle.plans.specs.Forms.{AreRows, IsNewChip}
use Rattle.plans.specs.Fitting.{AreNewChips}
use Rattle.plans.specs.Breaches.{ChipUnknown, HasNoBreach, Unplaced}
use Rattle.plans.proofs.BreachLaws.{none-unbroken}
use Rattle.plans.proofs.Firsts.{none-each}
use Rattle.fitted_cells.proofs.PlacedPins.{target-line}
use Rattle.fitted_cells.proofs.PlanRules.{fails}
use Rattle.planned_boards.specs.Planned.{IsPlaced}

-- a unit with its name is numbered
numbered-among : (n : ℕ) (names : List PinName) (i : ℕ) (name : PinName) → slice_get names i ≡ Some name → Among (n + i, name) (numbered_from n names)
numbered-among n [] i name e = cc
numbered-among n (m ∷ ms) zero name e = let same : m ≡ name = same_Some m name e in let number : n + 0 ≡ n = omega arith in inl (λ t. (number t, sym same t))
numbered-among n (m ∷ ms) (suc i) name e =
    let number : n + 1 + i ≡ n + suc i = omega arith in
    inr (subst (λ (k : ℕ). Among (k, name) (numbered_from (n + 1) ms)) number (numbered-among (n + 1) ms i name e))

-- a listed unit is absorbed or has a target
pub listed-cases : (lines : List PlanLine) (name : PinName) → is_listed lines name ≡ true → (is_absorbed_in lines name ≡ true) ⊎ ((t : PinName) × (target_in lines name ≡ Some t))
listed-cases [] name e = cc
listed-cases (Place unit chip pin ∷ ls) name e = at (same_pin unit name) refl e (listed-cases ls name)
  where
    at : (q : Bool) → same_pin unit name ≡ q → (q || is_listed ls name) ≡ true → (is_listed ls name ≡ true → (is_absorbed_in ls name ≡ true) ⊎ ((t : PinName) × (target_in ls name ≡ Some t))) →
        (is_absorbed_in ls name ≡ true) ⊎ ((t : PinName) × (or_else (when (same_pin unit name) (Some (record { chip = chip; pin = pin }))) (target_in ls name) ≡ Some t))
    at true is h rest = inr (record { chip = chip; pin = pin }, ap (λ (q : Bool). or_else (when q (Some (record { chip = chip; pin = pin }))) (target_in ls name)) is)
    at false is h rest = by (rest h)
      where
        by : (is_absorbed_in ls name ≡ true) ⊎ ((t : PinName) × (target_in ls name ≡ Some t)) →
            (is_absorbed_in ls name ≡ true) ⊎ ((t : PinName) × (or_else (when (same_pin unit name) (Some (record { chip = chip; pin = pin }))) (target_in ls name) ≡ Some t))
        by (inl g) = inl g
        by (inr t) = inr (t.0, ap (λ (q : Bool). or_else (when q (Some (record { chip = chip; pin = pin }))) (target_in ls name)) is ∙ t.1)
listed-cases (Absorb unit ∷ ls) name e = at (same_pin unit name) refl e (listed-cases ls name)
  where
    at : (q : Bool) → same_pin unit name ≡ q → (q || is_listed ls name) ≡ true → (is_listed ls name ≡ true → (is_absorbed_in ls name ≡ true) ⊎ ((t : PinName) × (target_in ls name ≡ Some t))) →
        ((same_pin unit name || is_absorbed_in ls name) ≡ true) ⊎ ((t : PinName) × (target_in ls name ≡ Some t))
    at true is h rest = inl (ap (λ (q : Bool). q || is_absorbed_in ls name) is)
    at false is h rest = by (rest h)
      where
        by : (is_absorbed_in ls name ≡ true) ⊎ ((t : PinName) × (target_in ls name ≡ Some t)) → ((same_pin unit name || is_absorbed_in ls name) ≡ true) ⊎ ((t : PinName) × (target_in ls name ≡ Some t))
        by (inl g) = inl (ap (λ (q : Bool). q || is_absorbed_in ls name) is ∙ g)
        by (inr t) = inr t

named-among : (cs : List PlanChip) (n : List ℕ) (c : PlanChip) → chip_named cs n ≡ Some c → Among c cs
named-among [] n c e = cc
named-among (d ∷ ds) n c e = at (bytes_eq d.name n) e (named-among ds n c)
  where
    at : (q : Bool) → cond q (Some d) (chip_named ds n) ≡ Some c → (chip_named ds n ≡ Some c → Among c ds) → Among c (d ∷ ds)
    at true h rest = inl (sym (same_Some d c h))
    at false h rest = inr (rest h)

-- two lists item by item: the item that belongs to one of the first
each-found : {T U : Type 0} (is : T → U → Type 0) (xs : List T) (ys : List U) (x : T) → AreEach is xs ys → Among x xs → (i : ℕ) × ((y : U) × (slice_get ys i ≡ Some y) × (Among y ys × is x y))
each-found is [] ys x each a = absurd a
each-found is (z ∷ zs) [] x each a = absurd each
each-found {T} is (z ∷ zs) (y ∷ ys) x each (inl e) = (0, (y, refl, (inl refl, subst (λ (t : T). is t y) (sym e) each.0)))
each-found is (z ∷ zs) (y ∷ ys) x each (inr a) = let r = each-found is zs ys x each.1 a in (suc r.0, (r.1.0, r.1.1, (inr r.1.2.0, r.1.2.1)))

module _ (b : Joined) (p : Plan) (none : HasNoBreach b p) (chips : List NewChip) (are : AreNewChips b p chips) where
  -- a unit with a target is placed
  target-placed : (u : ℕ) (name t : PinName) → Among (u, name) (numbered_units b) → target_in p.lines name ≡ Some t → IsPlaced chips u
  target-placed u name t numbered found =
      let line = target-line p.lines name t found in
      let known : is_none (chip_named p.chips t.chip) ≡ false =
      fails (is_none (chip_named p.chips t.chip)) (breach.ChipUnknown line.0 t.chip)
      (λ z e. none-each (Says (chip_unknown p)) p.lines (λ w h. none-unbroken b p none ChipUnknown w h) (Place line.0 t.chip t.pin) line.1 z e) in
      by (chip_named p.chips t.chip) refl known
    where
      by : (o : Option PlanChip) → chip_named p.chips t.chip ≡ o → is_none o ≡ false → IsPlaced chips u
      by None is k = cc
      by (Some c) is k =
          let x : Placing = record { unit = u; name = name; chip = c; pin = t.pin } in
          let placing : placing_of p (u, name) ≡ Some (record { unit = u; name = name; chip = c; pin = t.pin }) = ap (placing_at p.chips u name) found ∙ ap (placing_on u name t.pin) is in
          let among : Among x (placings b p) = among-filter_map (placing_of p) (u, name) x (numbered_units b) numbered placing in
          let on : Among x (placings_on b p c.name) = among-filter (is_on c.name) x (placings b p) among (same-refl bytes-equal c.name) in
          let chip = each-found (IsNewChip b p) p.chips chips c are (named-among p.chips t.chip c is) in
          let unit = each-found (AreRows b (absorbed_units b p)) (placings_on b p c.name) chip.1.0.units x chip.1.2.1.units on in
          record { place = chip.0; chip = chip.1.0; found = chip.1.1; unit = unit.1.0; placed = unit.1.2.0; number = unit.1.2.1.unit }

  pub live-placed : (u : ℕ) (d : Driver) → slice_get (equations_of b).units u ≡ Some d → IsLive (equations_of b) u → Among u (absorbed_units b p) ⊎ IsPlaced chips u
  live-placed u d e live =
      let low : u < length (equations_of b).units = slice_get_within (equations_of b).units u d e in
      let named : length (unit_names b) ≡ length (units_from 0 b.chips) = length-map (units_from 0 b.chips) (unit_name b.net) in
      let driven : length (equations_of b).units ≡ length (units_from 0 b.chips) = length-map (units_from 0 b.chips) (driver_of b.net (units_from 0 b.chips)) in
      let name = item-at (unit_names b) u (omega (arith, low, named, driven)) in
      let number : 0 + u ≡ u = omega arith in
      let numbered : Among (u, name.0) (numbered_units b) = subst (λ (k : ℕ). Among (k, name.0) (numbered_units b)) number (numbered-among 0 (unit_names b) u name.0 name.1) in
      by name.0 name.1 numbered (listed-cases p.lines name.0 (listed name.0 numbered (is_listed p.lines name.0) refl))
    where
      listed : (name : PinName) → Among (u, name) (numbered_units b) → (q : Bool) → is_listed p.lines name ≡ q → is_listed p.lines name ≡ true
      listed name numbered true is = is
      listed name numbered false is =
          absurd (none-each (GivesUnplaced b p) (numbered_units b) (λ w h. none-unbroken b p none Unplaced w h) (u, name) numbered (breach.Unplaced name) (record { live = live; unlisted = is; names = refl }))

      by : (name : PinName) → slice_get (unit_names b) u ≡ Some name → Among (u, name) (numbered_units b) → (is_absorbed_in p.lines name ≡ true) ⊎ ((t : PinName) × (target_in p.lines name ≡ Some t)) →
          Among u (absorbed_units b p) ⊎ IsPlaced chips u
      by name is numbered (inl absorbed) = let number : u ≡ 0 + u = omega arith in inl (get-places (is_absorbed_in p.lines) 0 u u (unit_names b) name is absorbed number)
      by name is numbered (inr t) = inr (target-placed u name t.0 numbered t.1)

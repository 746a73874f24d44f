-- The marks of new chips say which placed units have a full row.
use Rattle.std.proofs.Common.{ℕ, ◌≡◌, ◌==◌, Bool, true, false, cond, List, [], ◌∷◌, map, Option, Some, None, refl, sym, ap, ◌∙◌, subst}
use Rattle.std.specs.List.{filter_map, cons_option, AllByRecursion}
use Rattle.std.specs.Str.{bytes_eq}
use Rattle.std.proofs.lemmas.Slice.Eq.{bytes_eq-Decides}
use Rattle.mig_base.specs.declared.nets.PinName.{PinName}
use Rattle.mig_base.specs.declared.plans.Plan.{Plan}
use Rattle.mig_base.specs.declared.plans.PlanChip.{PlanChip}
use Rattle.mig_base.specs.declared.plans.Breach.{Breach}
use Rattle.mig_base.specs.declared.plans.Breach.TheVariants as breach
use Rattle.board.specs.Joined.{Joined}
use Rattle.new_board.specs.declared.types.PlacedUnit.{PlacedUnit}
use Rattle.new_board.specs.NewChip.{OldBoard, NewChip, unit_on, when}
use Rattle.plans.specs.declared.placing.Placing.{Placing}
use Rattle.plans.specs.Placings.{old, chip_named, placing_on, placing_at, placing_of, target_in}
use Rattle.plans.specs.ChipBreaches.{GivesFullRow, unit_is_full}
use Rattle.std.proofs.lemmas.Option.{same_Some}
use Rattle.plans.proofs.FormLaws.{chip-one}
use Rattle.fit.specs.FullRows.{mark_of, marks_of, full_at, full_on}
use Rattle.fit.specs.ChipAnswers.{GivesMarked}
use Rattle.fit.proofs.NewChipLaws.{HasRows, chip_by, new-chip}

full-at : (b : OldBoard) (chip : NewChip) (us : List PlacedUnit) (pin : ℕ) → full_at (map (mark_of b chip) us) pin ≡ unit_is_full b chip (unit_on us pin)
full-at b chip [] pin = refl
full-at b chip (u ∷ us) pin = at (u.pin == pin) (full-at b chip us pin)
  where
    at : (q : Bool) → full_at (map (mark_of b chip) us) pin ≡ unit_is_full b chip (unit_on us pin) →
        cond q (mark_of b chip u).full (full_at (map (mark_of b chip) us) pin) ≡ unit_is_full b chip (cond q (Some u) (unit_on us pin))
    at true e = refl
    at false e = e

-- whether the unit on a pin of this chip, if there is one, has a full row
abbrev full_of : OldBoard → (PlanChip → NewChip) → ℕ → Option PlanChip → Bool
full_of b f pin None = false
full_of b f pin (Some c) = unit_is_full b (f c) (unit_on (f c).units pin)

full-named : (b : OldBoard) (f : PlanChip → NewChip) → ((c : PlanChip) → (f c).name ≡ c.name) → (cs : List PlanChip) (name : List ℕ) (pin : ℕ) →
    full_on (map (marks_of b) (map f cs)) name pin ≡ full_of b f pin (chip_named cs name)
full-named b f same [] name pin = refl
full-named b f same (c ∷ cs) name pin =
    ap (λ (n : List ℕ). cond (bytes_eq n name) (full_at (map (mark_of b (f c)) (f c).units) pin) (full_on (map (marks_of b) (map f cs)) name pin)) (same c)
    ∙ at (bytes_eq c.name name) (full-named b f same cs name pin)
  where
    at : (q : Bool) → full_on (map (marks_of b) (map f cs)) name pin ≡ full_of b f pin (chip_named cs name) →
        cond q (full_at (map (mark_of b (f c)) (f c).units) pin) (full_on (map (marks_of b) (map f cs)) name pin) ≡ full_of b f pin (cond q (Some c) (chip_named cs name))
    at true e = full-at b (f c) (f c).units pin
    at false e = e

-- the plan names the chip of a placed unit
abbrev pub IsPlaced : Plan → Placing → Type 0
IsPlaced p x = chip_named p.chips x.chip.name ≡ Some x.chip

named-name : (cs : List PlanChip) (name : List ℕ) (c : PlanChip) → chip_named cs name ≡ Some c → c.name ≡ name
named-name [] name c e = cc
named-name (d ∷ ds) name c e = at (bytes_eq d.name name) refl e (named-name ds name c)
  where
    at : (q : Bool) → bytes_eq d.name name ≡ q → cond q (Some d) (chip_named ds name) ≡ Some c → (chip_named ds name ≡ Some c → c.name ≡ name) → c.name ≡ name
    at true here k more = sym (ap (λ (x : PlanChip). x.name) (same_Some d c k)) ∙ (bytes_eq-Decides d.name name).0 here
    at false here k more = more k

placed-on : (cs : List PlanChip) (u : ℕ) (name : PinName) (pin : ℕ) (at : List ℕ) (o : Option PlanChip) (x : Placing) → chip_named cs at ≡ o → placing_on u name pin o ≡ Some x →
    chip_named cs x.chip.name ≡ Some x.chip
placed-on cs u name pin at None x e k = cc
placed-on cs u name pin at (Some c) x e k =
    let same : c ≡ x.chip = ap (λ (y : Placing). y.chip) (same_Some (record { unit = u; name = name; chip = c; pin = pin }) x k) in
    subst (λ (d : PlanChip). chip_named cs d.name ≡ Some d) same (ap (chip_named cs) (named-name cs at c e) ∙ e)

placed-at : (cs : List PlanChip) (u : ℕ) (name : PinName) (t : Option PinName) (x : Placing) → placing_at cs u name t ≡ Some x → chip_named cs x.chip.name ≡ Some x.chip
placed-at cs u name None x e = cc
placed-at cs u name (Some t) x e = placed-on cs u name t.pin t.chip (chip_named cs t.chip) x refl e

-- each placed unit's chip is one of the plan
pub placed-named : (p : Plan) (us : List (ℕ × PinName)) → AllByRecursion (IsPlaced p) (filter_map (placing_of p) us)
placed-named p [] = tt
placed-named p (u ∷ us) = at (placing_of p u) refl (placed-named p us)
  where
    at : (o : Option Placing) → placing_of p u ≡ o → AllByRecursion (IsPlaced p) (filter_map (placing_of p) us) → AllByRecursion (IsPlaced p) (cons_option o (filter_map (placing_of p) us))
    at None e rest = rest
    at (Some x) e rest = (placed-at p.chips u.0 u.1 (target_in p.lines u.1) x e, rest)

when-some : {T : Type 0} (q : Bool) (x y : T) → when q (Some x) ≡ Some y → (q ≡ true) × (y ≡ x)
when-some true x y e = (refl, sym (same_Some x y e))
when-some false x y e = cc

-- what the marks say of a placed unit
marked : (b : Joined) (p : Plan) (rows : List PlacedUnit) (x : Placing) → IsPlaced p x →
    full_on (map (marks_of (old b)) (map (chip_by b p rows) p.chips)) x.chip.name x.pin ≡ unit_is_full (old b) (chip_by b p rows x.chip) (unit_on (chip_by b p rows x.chip).units x.pin)
marked b p rows x placed = full-named (old b) (chip_by b p rows) (λ c. refl) p.chips x.chip.name x.pin ∙ ap (full_of (old b) (chip_by b p rows) x.pin) placed

pub row-to : (b : Joined) (p : Plan) (rows : List PlacedUnit) → HasRows b p rows → (x : Placing) → IsPlaced p x → (y : Breach) → GivesMarked b (map (chip_by b p rows) p.chips) x y → GivesFullRow b p x y
row-to b p rows h x placed y e =
    let some = when-some (full_on (map (marks_of (old b)) (map (chip_by b p rows) p.chips)) x.chip.name x.pin) (breach.FullRow x.name) y e in
    record { chip = chip_by b p rows x.chip; is_new = new-chip b p rows h x.chip; full = sym (marked b p rows x placed) ∙ some.0; names = some.1 }

pub row-from : (b : Joined) (p : Plan) (rows : List PlacedUnit) → HasRows b p rows → (x : Placing) → IsPlaced p x → (y : Breach) → GivesFullRow b p x y → GivesMarked b (map (chip_by b p rows) p.chips) x y
row-from b p rows h x placed y k =
    let same : chip_by b p rows x.chip ≡ k.chip = chip-one b p x.chip (chip_by b p rows x.chip) k.chip (new-chip b p rows h x.chip) k.is_new in
    let full : full_on (map (marks_of (old b)) (map (chip_by b p rows) p.chips)) x.chip.name x.pin ≡ true =
    marked b p rows x placed ∙ ap (λ (n : NewChip). unit_is_full (old b) n (unit_on n.units x.pin)) same ∙ k.full in
    ap (λ (q : Bool). when q (Some (breach.FullRow x.name))) full ∙ ap Some (sym k.names)

-- Placed units are units of the board, and what is made for each of them.
use Rattle.std.proofs.Common.{ℕ, ◌≡◌, ◌+◌, ◌<◌, List, [], ◌∷◌, length, get_or, Option, Some, None, refl, sym, ap, ◌∙◌, subst, inl, inr, arith, zero, suc}
use Rattle.std.specs.List.{slice_get}
use Rattle.std.proofs.lemmas.Option.{same_Some}
use Rattle.structure.proofs.NeededNodes.{among-at}
use Rattle.mig_base.specs.Among.{Among}
use Rattle.mig_base.specs.declared.nets.PinName.{PinName}
use Rattle.mig_base.specs.declared.plans.Plan.{Plan}
use Rattle.mig_base.specs.declared.plans.PlanChip.{PlanChip}
use Rattle.mig_base.specs.declared.plans.Breach.{Breach}
use Rattle.board.specs.declared.Unit.{Unit as NamedUnit}
use Rattle.board.specs.Joined.{Joined, equations_of}
use Rattle.board.specs.UnitLists.{units_on}
use Rattle.new_board.proofs.Items.{among-unfilter_map}
use Rattle.plans.specs.FirstOf.{AreEach, Gives}
use Rattle.plans.specs.Forms.{room_of}
use Rattle.plans.specs.UnitBreaches.{first_on, GivesPrimesOver, GivesTermsOver}
use Rattle.plans.specs.Breaches.{PrimesOver, RuleGives}
use Rattle.plans.proofs.Firsts.{none-each}
use Rattle.plans.specs.declared.placing.Placing.{Placing}
use Rattle.plans.specs.Placings.{placings, absorbed_units, placing_of, placing_at, placing_on, chip_named, target_in, numbered_from, numbered_units, unit_names}
use Rattle.plan_lines.proofs.Names.{length-names}
use Rattle.fit.specs.declared.parts.UnitParts.{UnitParts}
use Rattle.fit.specs.Parts.{AreParts, AreAllParts, HasFirstParts, terms_breach}
use Rattle.fit.proofs.EachLaws.{each-long, each-get, item-get}
use Rattle.fit.proofs.PartLaws.{terms-gives}

on-number : (u : ℕ) (name : PinName) (pin : ℕ) (o : Option PlanChip) (x : Placing) → placing_on u name pin o ≡ Some x → x.unit ≡ u
on-number u name pin None x e = let wrong = e in cc
on-number u name pin (Some chip) x e = sym (ap (λ (y : Placing). y.unit) (same_Some _ x e))

at-number : (chips : List PlanChip) (u : ℕ) (name : PinName) (o : Option PinName) (x : Placing) → placing_at chips u name o ≡ Some x → x.unit ≡ u
at-number chips u name None x e = let wrong = e in cc
at-number chips u name (Some t) x e = on-number u name t.pin (chip_named chips t.chip) x e

number-below : (u : ℕ) (names : List PinName) (q : ℕ × PinName) → Among q (numbered_from u names) → q.0 < u + length names
number-below u [] q a = absurd a
number-below u (n ∷ ns) q (inl e) = let same : q.0 ≡ u = ap (λ (r : ℕ × PinName). r.0) e in omega arith
number-below u (n ∷ ns) q (inr a) = let less : q.0 < u + 1 + length ns = number-below (u + 1) ns q a in omega arith

pub placed-within : (b : Joined) (p : Plan) (units : List NamedUnit) → units ≡ units_on b.net b.chips → length units ≡ length (equations_of b).units → (x : Placing) → Among x (placings b p) → x.unit < length (equations_of b).units
placed-within b p units e all x a =
    let q = among-unfilter_map (placing_of p) x (numbered_units b) a in
    let same : x.unit ≡ q.0.0 = at-number p.chips q.0.0 q.0.1 (target_in p.lines q.0.1) x q.2 in
    let less : q.0.0 < 0 + length (unit_names b) = number-below 0 (unit_names b) q.0 q.1 in
    let long : length (unit_names b) ≡ length units = length-names b units e in
    omega arith

-- the parts of all placed units, by a board and absorbed units that are these
pub all-parts : (b c : Joined) (p : Plan) (absorbed : List ℕ) (units : List Placing) (parts : List UnitParts) → c ≡ b → absorbed ≡ absorbed_units b p → units ≡ placings b p → AreEach (AreParts c absorbed) units parts → AreAllParts b p parts
all-parts b c p absorbed units parts board same placed h =
    let on : AreEach (AreParts b absorbed) units parts = subst (λ (j : Joined). AreEach (AreParts j absorbed) units parts) board h in
    let under : AreEach (AreParts b (absorbed_units b p)) units parts = subst (λ (us : List ℕ). AreEach (AreParts b us) units parts) same on in
    subst (λ (xs : List Placing). AreEach (AreParts b (absorbed_units b p)) xs parts) placed under

-- the parts at a place

pub part-there : (b : Joined) (p : Plan) (units placed : List Placing) (parts : List UnitParts) (i : ℕ) → units ≡ placed → placed ≡ placings b p → AreAllParts b p parts → i < length units → i < length parts
part-there b p units placed parts i e k each lt =
    let long : length (placings b p) ≡ length parts = each-long (AreParts b (absorbed_units b p)) (placings b p) parts each in
    let same : length units ≡ length (placings b p) = ap length (e ∙ k) in
    omega arith

pub parts-at : (b : Joined) (p : Plan) (units placed : List Placing) (parts : List UnitParts) (i : ℕ) (x : Placing) (q : UnitParts) → units ≡ placed → placed ≡ placings b p → AreAllParts b p parts →
    i < length units → x ≡ get_or units i x → slice_get parts i ≡ Some q → AreParts b (absorbed_units b p) x q
parts-at b p units placed parts i x q e k each lt is there =
    each-get (AreParts b (absorbed_units b p)) (placings b p) parts i x q each (ap (λ (us : List Placing). slice_get us i) (sym (e ∙ k)) ∙ item-get units i x lt ∙ ap (λ (y : Placing). Some y) (sym is)) there

item-there : {T : Type 0} (xs : List T) (i : ℕ) → i < length xs → (x : T) × (slice_get xs i ≡ Some x)
item-there [] i lt = absurd (omega arith)
item-there (x ∷ xs) zero lt = (x, refl)
item-there (x ∷ xs) (suc i) lt = item-there xs i (omega arith)

pub item-among : {T : Type 0} (xs : List T) (i : ℕ) (x : T) → i < length xs → x ≡ get_or xs i x → Among x xs
item-among {T} xs i x lt is = subst (λ (y : T). Among y xs) (sym is) (among-at xs i x lt)

-- those of the first registered unit of a chip
pub first-parts : (b : Joined) (p : Plan) (x : Placing) (units : List Placing) (parts : List UnitParts) (i : ℕ) (q : UnitParts) → units ≡ placings b p → AreAllParts b p parts → i < length units → slice_get units i ≡ first_on b p x →
    slice_get parts i ≡ Some q → HasFirstParts b p x q
first-parts b p x units parts i q e each lt first there =
    let y = item-there units i lt in
    record {
      first = y.0;
      is_first = sym first ∙ y.1;
      are = each-get (AreParts b (absorbed_units b p)) (placings b p) parts i y.0 q each (ap (λ (us : List Placing). slice_get us i) (sym e) ∙ y.1) there;
    }

-- what a unit at a place gives by its terms
pub terms-at : (b : Joined) (p : Plan) (units placed : List Placing) (parts : List UnitParts) (i : ℕ) (x : Placing) (q : UnitParts) (o : Option Breach) → units ≡ placed → placed ≡ placings b p → AreAllParts b p parts →
    ((y : Breach) → RuleGives b p PrimesOver y → ⊥) → i < length units → x ≡ get_or units i x → slice_get parts i ≡ Some q → o ≡ terms_breach (room_of b x) x q.logic → Gives (GivesTermsOver b (absorbed_units b p)) x o
terms-at b p units placed parts i x q o e k each none lt is there says =
    let h = parts-at b p units placed parts i x q e k each lt is there in
    let a : Among x (placings b p) = subst (λ (us : List Placing). Among x us) (e ∙ k) (item-among units i x lt is) in
    subst (λ (r : Option Breach). Gives (GivesTermsOver b (absorbed_units b p)) x r) (sym says)
    (terms-gives b (absorbed_units b p) x q.logic h.logic (none-each (GivesPrimesOver b (absorbed_units b p)) (placings b p) none x a))

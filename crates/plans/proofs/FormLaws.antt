-- A placed unit has one form, and a plan one new chip for each of its chips.
use Rattle.std.proofs.Common.{ℕ, ◌≡◌, Bool, true, false, cond, List, [], ◌∷◌, Option, Some, None, refl, sym, ap, ◌∙◌, subst}
use Rattle.std.specs.Option.{option_map}
use Rattle.std.proofs.lemmas.Option.{same_Some}
use Rattle.mig_base.specs.declared.nets.Var.{Var}
use Rattle.mig_base.specs.declared.plans.Plan.{Plan}
use Rattle.mig_base.specs.declared.plans.PlanChip.{PlanChip}
use Rattle.mig_base.specs.declared.plans.Part.{Part}
use Rattle.mig_base.specs.declared.plans.Part.TheVariants.{Logic, Enable, Reset, Preset}
use Rattle.mig_base.specs.declared.circuit.Gate.{Gate}
use Rattle.mig_base.specs.declared.circuit.Gate.TheVariants as gate
use Rattle.primes.specs.Prime.{Function, Product}
use Rattle.cover.proofs.UniqueLemmas.{cover_unique}
use Rattle.rails.specs.Variables.{all_rails}
use Rattle.rails.specs.Points.{inverse}
use Rattle.board.specs.Joined.{Joined}
use Rattle.joiner.specs.Joined.{Inverted, unit_part}
use Rattle.joiner.specs.JoinedPart.{IsJoinedPart}
use Rattle.new_board.specs.declared.types.PlacedUnit.{PlacedUnit}
use Rattle.new_board.specs.NewChip.{NewChip, gate_products}
use Rattle.plans.specs.declared.placing.Placing.{Placing}
use Rattle.plans.specs.Placings.{absorbed_units, placings_on}
use Rattle.plans.specs.Forms.{Products, Try, Old, Direct, Inverse, Room, LogicForm, IsCoverOf, IsCovered, cover_products, IsOffered, Fits, IsForm, tries, IsControlBy, IsControl, IsGate, AreRows, IsNewChip, reads_absorbed, room_of}
use Rattle.plans.proofs.Firsts.{first-one, each-one}
use Rattle.plans.proofs.Cones.{cone-one, function-one}

cover-one : (f : Function) (ts us : Option (List Product)) → IsCoverOf f ts → IsCoverOf f us → ts ≡ us
cover-one f None None h k = refl
cover-one f None (Some us) h k = absurd (k.1 h)
cover-one f (Some ts) None h k = absurd (h.1 k)
cover-one f (Some ts) (Some us) h k = ap Some (cover_unique f ts us h.0 k.0)

-- what is covered
abbrev target : Bool → List (Var × Bool) → Function → Function
target inverted vars f = cond inverted (inverse (all_rails vars) f) f

pub covered-one : (b : Joined) (absorbed : List ℕ) (sum : Inverted) (inverted : Bool) (ps qs : Option Products) → IsCovered b absorbed sum inverted ps → IsCovered b absorbed sum inverted qs → ps ≡ qs
covered-one b absorbed sum inverted ps qs h k =
    let e : h.vars ≡ k.vars = cone-one b absorbed sum.terms h.vars k.vars h.joined.cone k.joined.cone in
    let joined : IsJoinedPart b absorbed sum h.vars k.function = subst (λ vs. IsJoinedPart b absorbed sum vs k.function) (sym e) k.joined in
    let f : h.function ≡ k.function = function-one b absorbed sum h.vars h.function k.function h.joined joined in
    let cover : IsCoverOf (target inverted h.vars h.function) k.terms = subst (λ g. IsCoverOf (target inverted h.vars g) k.terms) (sym f) (subst (λ vs. IsCoverOf (target inverted vs k.function) k.terms) (sym e) k.cover) in
    let t : h.terms ≡ k.terms = cover-one (target inverted h.vars h.function) h.terms k.terms h.cover cover in
    h.are ∙ ap (option_map (cover_products b h.vars)) t ∙ ap (λ vs. option_map (cover_products b vs) k.terms) e ∙ sym k.are

pub offered-one : (b : Joined) (absorbed : List ℕ) (u : ℕ) (t : Try) (ps qs : Option Products) → IsOffered b absorbed u t ps → IsOffered b absorbed u t qs → ps ≡ qs
offered-one b absorbed u Old ps qs h k = h ∙ sym k
offered-one b absorbed u Direct ps qs h k = covered-one b absorbed (unit_part b u Logic) false ps qs h k
offered-one b absorbed u Inverse ps qs h k = covered-one b absorbed (unit_part b u Logic) true ps qs h k

fits-one : (b : Joined) (absorbed : List ℕ) (u : ℕ) (room : Room) (t : Try) (x y : LogicForm) → Fits b absorbed u room t x → Fits b absorbed u room t y → x ≡ y
fits-one b absorbed u room t x y h k =
    let terms : x.terms ≡ y.terms = same_Some x.terms y.terms (offered-one b absorbed u t (Some x.terms) (Some y.terms) h.offered k.offered) in
    let low : x.low ≡ y.low = h.inversion ∙ sym k.inversion in
    (λ i. record { low = low i; terms = terms i })

pub form-one : (b : Joined) (absorbed : List ℕ) (u : ℕ) (room : Room) (x y : LogicForm) → IsForm b absorbed u room x → IsForm b absorbed u room y → x ≡ y
form-one b absorbed u room x y h k = first-one (Fits b absorbed u room) (fits-one b absorbed u room) (tries b absorbed u room) x y h k

control-by : (reads : Bool) (b : Joined) (absorbed : List ℕ) (u : ℕ) (q : Part) (ps qs : Option Products) → IsControlBy reads b absorbed u q ps → IsControlBy reads b absorbed u q qs → ps ≡ qs
control-by true b absorbed u q ps qs h k = covered-one b absorbed (unit_part b u q) false ps qs h k
control-by false b absorbed u q ps qs h k = h ∙ sym k

pub control-one : (b : Joined) (absorbed : List ℕ) (u : ℕ) (q : Part) (ps qs : Option Products) → IsControl b absorbed u q ps → IsControl b absorbed u q qs → ps ≡ qs
control-one b absorbed u q ps qs h k = control-by (reads_absorbed b absorbed u q) b absorbed u q ps qs h k

abbrev gate_of : Products → Gate
gate_of [] = gate.Never
gate_of (p ∷ ps) = gate.Product p

gate-again : (g : Gate) → gate_of (gate_products g) ≡ g
gate-again gate.Never = refl
gate-again (gate.Product lits) = refl

pub gate-one : (b : Joined) (absorbed : List ℕ) (u : ℕ) (q : Part) (g h : Gate) → IsGate b absorbed u q g → IsGate b absorbed u q h → g ≡ h
gate-one b absorbed u q g h x y =
    let e = same_Some (gate_products g) (gate_products h) (control-one b absorbed u q (Some (gate_products g)) (Some (gate_products h)) x y) in
    sym (gate-again g) ∙ ap gate_of e ∙ gate-again h

pub rows-one : (b : Joined) (absorbed : List ℕ) (x : Placing) (r s : PlacedUnit) → AreRows b absorbed x r → AreRows b absorbed x s → r ≡ s
rows-one b absorbed x r s h k =
    let pin : r.pin ≡ s.pin = h.pin ∙ sym k.pin in
    let unit : r.unit ≡ s.unit = h.unit ∙ sym k.unit in
    let form = form-one b absorbed x.unit (room_of b x) (record { low = r.low; terms = r.terms }) (record { low = s.low; terms = s.terms }) h.logic k.logic in
    let low : r.low ≡ s.low = ap (λ (f : LogicForm). f.low) form in
    let terms : r.terms ≡ s.terms = ap (λ (f : LogicForm). f.terms) form in
    let enable : r.enable ≡ s.enable = gate-one b absorbed x.unit Enable r.enable s.enable h.enable k.enable in
    let reset : r.reset ≡ s.reset = gate-one b absorbed x.unit Reset r.reset s.reset h.reset k.reset in
    let preset : r.preset ≡ s.preset = gate-one b absorbed x.unit Preset r.preset s.preset h.preset k.preset in
    (λ i. record { pin = pin i; unit = unit i; low = low i; terms = terms i; enable = enable i; reset = reset i; preset = preset i })

pub chip-one : (b : Joined) (p : Plan) (c : PlanChip) (x y : NewChip) → IsNewChip b p c x → IsNewChip b p c y → x ≡ y
chip-one b p c x y h k =
    let name : x.name ≡ y.name = h.name ∙ sym k.name in
    let kind : x.kind ≡ y.kind = h.kind ∙ sym k.kind in
    let mode : x.mode ≡ y.mode = h.mode ∙ sym k.mode in
    let units : x.units ≡ y.units = each-one (AreRows b (absorbed_units b p)) (rows-one b (absorbed_units b p)) (placings_on b p c.name) x.units y.units h.units k.units in
    (λ i. record { name = name i; kind = kind i; mode = mode i; units = units i })

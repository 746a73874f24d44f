-- What a plan without breach makes is built well.
use Rattle.std.proofs.Common.{ℕ, ◌≡◌, ◌≤◌, Bool, true, false, cond, List, [], ◌∷◌, map, length, Option, Some, None, refl, sym, ap, ◌∙◌, subst, eqb, eq-eqb, ltb, arith, IsTrue}
use Rattle.std.specs.List.{list_all, filter_map, cons_option}
use Rattle.std.specs.Str.{bytes_eq}
use Rattle.std.proofs.lemmas.Bool.{and_parts}
use Rattle.std.proofs.lemmas.List.{length-map}
use Rattle.std.proofs.lemmas.Option.{same_Some}
use Rattle.mig_base.specs.Among.{Among}
use Rattle.mig_base.specs.declared.plans.Plan.{Plan}
use Rattle.mig_base.specs.declared.plans.PlanChip.{PlanChip}
use Rattle.mig_base.specs.DeviceTables.{is_gal, ordinary_pins}
use Rattle.mig_base.specs.Given.{IsGiven}
use Rattle.mig_base.specs.Names.{is_name}
use Rattle.mig_base.specs.WellFormed.{IsWellFormed}
use Rattle.mig_base.specs.WrittenBoard.{are_distinct, is_part, IsWritable}
use Rattle.mig_base.proofs.Amongs.{all-among, among-map, pass-all}
use Rattle.mig_base.proofs.Distinct.{part-more}
use Rattle.board.specs.Joined.{Joined}
use Rattle.new_board.specs.declared.types.FittedChip.{FittedChip}
use Rattle.new_board.specs.declared.types.PinNet.{PinNet}
use Rattle.new_board.specs.NewChip.{OldBoard, NewChip, private_from}
use Rattle.new_board.specs.NewFiles.{fitted, new_wires, wire_at}
use Rattle.new_board.specs.InputPins.{pin_net}
use Rattle.new_board.proofs.Items.{all-pass, among-unfilter_map}
use Rattle.new_wirings.specs.NewWirings.{has_rising_pins, is_on_named_nets, CanBeWired}
use Rattle.new_wirings.proofs.WiredPins.{map-in-turn}
use Rattle.new_wirings.proofs.WrittenWiring.{wiring-writable}
use Rattle.plan_text.specs.PlanText.{IsPlan, is_plan_chip}
use Rattle.plans.specs.FirstOf.{AreEach}
use Rattle.plans.specs.Placings.{old}
use Rattle.plans.specs.Forms.{IsNewChip}
use Rattle.plans.specs.Breaches.{HasNoBreach}
use Rattle.plans.specs.Fitting.{AreNewChips, fitted_chips}
use Rattle.fit.proofs.EachLaws.{each-long}
use Rattle.fitted_cells.specs.FittedCells.{IsBuiltWell, PlansAreBuiltWell}
use Rattle.fitted_cells.proofs.PlanRules.{chips-distinct}
use Rattle.fitted_cells.proofs.UnitsOnPins.{each-back}
use Rattle.fitted_cells.proofs.FitChips.{well}

-- values that are the same item by item
each-same : {T U V : Type 0} (is : T → U → Type 0) (f : T → V) (g : U → V) → ((x : T) (y : U) → is x y → g y ≡ f x) → (xs : List T) (ys : List U) → AreEach is xs ys → map g ys ≡ map f xs
each-same is f g same [] [] h = refl
each-same is f g same [] (y ∷ ys) h = absurd h
each-same is f g same (x ∷ xs) [] h = absurd h
each-same is f g same (x ∷ xs) (y ∷ ys) h = let here = same x y h.0 in let rest = each-same is f g same xs ys h.1 in (λ i. here i ∷ rest i)

-- the wired pins of a new chip rise
wires-rise : (b : OldBoard) (net_at : ℕ → Option ℕ) (pins : List ℕ) → is_part (λ p q. eqb p q) (map (λ (w : PinNet). w.pin) (filter_map (λ pin. wire_at b pin (net_at pin)) pins)) pins ≡ true
wires-rise b net_at [] = refl
wires-rise b net_at (p ∷ ps) = at (net_at p) (wires-rise b net_at ps)
  where
    rest : List PinNet
    rest = filter_map (λ pin. wire_at b pin (net_at pin)) ps

    names : List PinNet → List ℕ
    names ws = map (λ (w : PinNet). w.pin) ws

    wired : (n : ℕ) (t : Bool) → is_part (λ p q. eqb p q) (names rest) ps ≡ true →
        is_part (λ p q. eqb p q) (names (cons_option (cond t (Some (record { pin = p; net = n })) None) rest)) (p ∷ ps) ≡ true
    wired n true h = ap (λ (t : Bool). cond t (is_part (λ p q. eqb p q) (names rest) ps) (is_part (λ p q. eqb p q) (p ∷ names rest) ps)) (eq-eqb p p refl) ∙ h
    wired n false h = part-more (λ p q. eqb p q) (names rest) p ps h

    at : (o : Option ℕ) → is_part (λ p q. eqb p q) (names rest) ps ≡ true → is_part (λ p q. eqb p q) (names (cons_option (wire_at b p o) rest)) (p ∷ ps) ≡ true
    at None h = part-more (λ p q. eqb p q) (names rest) p ps h
    at (Some n) h = wired n (ltb n (private_from b.net)) h

wire-low : (b : OldBoard) (pin : ℕ) (o : Option ℕ) (w : PinNet) → wire_at b pin o ≡ Some w → ltb w.net (private_from b.net) ≡ true
wire-low b pin None w e = cc
wire-low b pin (Some n) w e = at (ltb n (private_from b.net)) refl e
  where
    at : (t : Bool) → ltb n (private_from b.net) ≡ t → cond t (Some (record { pin = pin; net = n })) None ≡ Some w → ltb w.net (private_from b.net) ≡ true
    at false low e = cc
    at true low e = ap (λ (v : PinNet). ltb v.net (private_from b.net)) (sym (same_Some (record { pin = pin; net = n }) w e)) ∙ low

module _ (b : Joined) (p : Plan) (given : IsGiven b.net b.chips) (writable : IsWritable b.net) (plan : IsPlan p) (none : HasNoBreach b p) (chips : List NewChip) (are : AreNewChips b p chips) where
  -- a fitted chip is that of a chip of the plan
  of-plan : (f : FittedChip) → Among f (fitted_chips b chips) → (c : PlanChip) × Among c p.chips × ((k : NewChip) × IsNewChip b p c k × (f ≡ fitted (old b) k))
  of-plan f a =
      let k = among-map (fitted (old b)) f chips a in
      let c = each-back (IsNewChip b p) p.chips chips k.0 are k.1 in
      (c.0, c.1, (k.0, c.2, k.2))

  said : (c : PlanChip) → Among c p.chips → (is_name c.name ≡ true) × (is_gal c.kind ≡ true)
  said c a = let all = and_parts _ _ (all-pass is_plan_chip c p.chips plan.named_chips a) in and_parts _ _ all.0

  same-names : map (λ (f : FittedChip). f.name) (fitted_chips b chips) ≡ map (λ (c : PlanChip). c.name) p.chips
  same-names = map-in-turn (λ (f : FittedChip). f.name) (fitted (old b)) chips ∙ each-same (IsNewChip b p) (λ (c : PlanChip). c.name) (λ (k : NewChip). k.name) (λ c k is. is.name) p.chips chips are

  same-kinds : map (λ (f : FittedChip). f.cells.kind) (fitted_chips b chips) ≡ map (λ (c : PlanChip). c.kind) p.chips
  same-kinds = map-in-turn (λ (f : FittedChip). f.cells.kind) (fitted (old b)) chips ∙ each-same (IsNewChip b p) (λ (c : PlanChip). c.kind) (λ (k : NewChip). k.kind) (λ c k is. is.kind) p.chips chips are

  few-chips : length (fitted_chips b chips) ≤ 64
  few-chips =
      let made : length (fitted_chips b chips) ≡ length chips = length-map chips (fitted (old b)) in
      let each = each-long (IsNewChip b p) p.chips chips are in
      let few = plan.few_chips in
      omega arith

  all-named : list_all (λ (f : FittedChip). is_name f.name) (fitted_chips b chips) ≡ true
  all-named = pass-all (λ (f : FittedChip). is_name f.name) (fitted_chips b chips) (λ f a.
      let c = of-plan f a in
      ap (λ (g : FittedChip). is_name g.name) c.2.2 ∙ ap is_name c.2.1.name ∙ (said c.0 c.1).0)

  rising-pins : list_all has_rising_pins (fitted_chips b chips) ≡ true
  rising-pins = pass-all has_rising_pins (fitted_chips b chips) (λ f a.
      let c = of-plan f a in
      ap has_rising_pins c.2.2 ∙ wires-rise (old b) (pin_net (old b) c.2.0) (ordinary_pins c.2.0.kind))

  named-nets : list_all (is_on_named_nets b.net) (fitted_chips b chips) ≡ true
  named-nets = pass-all (is_on_named_nets b.net) (fitted_chips b chips) (λ f a.
      let c = of-plan f a in
      ap (is_on_named_nets b.net) c.2.2
      ∙ pass-all (λ (w : PinNet). ltb w.net (private_from b.net)) (new_wires (old b) c.2.0) (λ w h.
      let pin = among-unfilter_map (λ pin. wire_at (old b) pin (pin_net (old b) c.2.0 pin)) w (ordinary_pins c.2.0.kind) h in
      wire-low (old b) pin.0 (pin_net (old b) c.2.0 pin.0) w pin.2))

  can-be-wired : CanBeWired b.net (fitted_chips b chips)
  can-be-wired = record {
    few = few-chips;
    named = all-named;
    distinct = subst (λ (names : List (List ℕ)). IsTrue (are_distinct bytes_eq names)) (sym same-names) (chips-distinct b p none);
    rising = rising-pins;
    on_nets = named-nets;
  }

  made-well : IsBuiltWell b p (fitted_chips b chips)
  made-well = record {
    cells = all-among (λ (f : FittedChip). IsWellFormed f.cells) (fitted_chips b chips) (λ f a.
        let c = of-plan f a in
        subst (λ (g : FittedChip). IsWellFormed g.cells) (sym c.2.2) (well b p given plan none c.0 c.1 c.2.0 c.2.1));
    gals = pass-all (λ (f : FittedChip). is_gal f.cells.kind) (fitted_chips b chips) (λ f a.
        let c = of-plan f a in
        ap (λ (g : FittedChip). is_gal g.cells.kind) c.2.2 ∙ ap is_gal c.2.1.kind ∙ (said c.0 c.1).1);
    kinds = same-kinds;
    names = same-names;
    named = all-named;
    few = few-chips;
    wiring = wiring-writable b.net (fitted_chips b chips) writable can-be-wired;
    plan = plan;
  }

-- what a plan without breach makes
pub plans-built : PlansAreBuiltWell
plans-built b p built given writable plan none fit = subst (IsBuiltWell b p) (sym fit.are) (made-well b p given writable plan none fit.chips fit.are_new)

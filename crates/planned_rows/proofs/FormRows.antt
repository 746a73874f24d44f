-- The forms of a unit's parts: old products or covers.
use Rattle.std.proofs.Common.{ℕ, ◌≡◌, ◌≢◌, Bool, true, false, List, [], ◌∷◌, ◌++◌, map, Option, Some, None, refl, sym, ap, ◌∙◌, subst, inl, inr, cond}
use Rattle.std.specs.List.{AllByRecursion, slice_get}
use Rattle.std.proofs.lemmas.Option.{same_Some}
use Rattle.mig_base.specs.declared.plans.Part.{Part}
use Rattle.mig_base.specs.declared.plans.Part.TheVariants.{Logic, Enable, Reset, Preset}
use Rattle.mig_base.specs.declared.circuit.Read.TheVariants.{OfRegister}
use Rattle.mig_base.specs.declared.circuit.Literal.{Literal}
use Rattle.mig_base.specs.declared.circuit.Gate.{Gate}
use Rattle.mig_base.specs.declared.circuit.Gate.TheVariants.{Never, Product}
use Rattle.mig_base.specs.declared.circuit.Gives.{Gives}
use Rattle.mig_base.specs.declared.circuit.Gives.TheVariants.{Sum, Visible}
use Rattle.mig_base.specs.declared.circuit.Driver.{Driver}
use Rattle.mig_base.specs.declared.circuit.Register.{Register}
use Rattle.mig_base.specs.declared.circuit.Circuit.{Circuit}
use Rattle.mig_base.specs.Given.{IsGiven}
use Rattle.mig_base.specs.Reads.{IsNode, driver_reads, gives_reads}
use Rattle.mig_base.specs.Structure.{variable_product, variable_gate}
use Rattle.mig_base.specs.Values.{inverted, row_reads, sum_reads}
use Rattle.mig_base.proofs.ListLaws.{item-at}
use Rattle.level_laws.proofs.Unique.{all_right}
use Rattle.board.specs.Joined.{Joined, equations_of}
use Rattle.joiner.specs.AbsorbedNets.{AreAbsorbable}
use Rattle.joiner.specs.Joined.{part_low, logic_low, register_low, unit_part}
use Rattle.read_nodes.proofs.GivenNodes.{given-nodes}
use Rattle.new_board.specs.declared.types.PlacedUnit.{PlacedUnit}
use Rattle.new_board.specs.NewChip.{gate_products}
use Rattle.new_board.specs.OneForOne.{old_rows, old_driving, old_giving, old_reg}
use Rattle.plans.specs.FirstOf.{FirstOf}
use Rattle.plans.specs.Forms.{Products, IsCovered, Try, Old, Direct, Inverse, Room, LogicForm, part_of, old_products, old_low, Fits, IsForm, tries, IsControlBy, IsControl, IsGate, reads_absorbed}
use Rattle.fitting_levels.specs.NodeValues.{NodeLevels, terms_by}
use Rattle.placed_boards.specs.Rows.{AreRows, gate_terms}
use Rattle.placed_boards.proofs.RowParts.{old-rows}
use Rattle.joined_rows.specs.PartRows.{register_terms, reset_terms, preset_terms, logic_terms, resetting_terms, presetting_terms, raw_part, part_level, HasOwnLiterals}
use Rattle.joined_rows.proofs.OwnLiterals.{given-own}
use Rattle.planned_rows.proofs.CoveredRows.{covered-rows}

-- the first that gives something is one that gives
first-given : {T E : Type 0} (gives : T → E → Type 0) (ts : List T) (x : E) → FirstOf gives ts x → (t : T) × gives t x
first-given gives [] x h = absurd h
first-given gives (t ∷ ts) x (inl h) = (t, h)
first-given gives (t ∷ ts) x (inr h) = first-given gives ts x h.1

gate-over : (c : Circuit) (g : Gate) → gate_products (variable_gate c g) ≡ map (variable_product c) (gate_terms g)
gate-over c Never = refl
gate-over c (Product xs) = refl

-- the old rows of a unit that gives this are its products over variables, with its inversion
record AreOld (c : Circuit) (d : Driver) (g : Gives) (x : PlacedUnit) : Type 0 where
  pub logic : x.terms ≡ map (variable_product c) (logic_terms c g)
  pub enable : gate_products x.enable ≡ map (variable_product c) (gate_terms d.enable)
  pub reset : gate_products x.reset ≡ map (variable_product c) (resetting_terms c g)
  pub preset : gate_products x.preset ≡ map (variable_product c) (presetting_terms c g)
  pub low : x.low ≡ logic_low c g d.low

module _ (b : Joined) (given : IsGiven b.net b.chips) (u : ℕ) (d : Driver) (is : slice_get (equations_of b).units u ≡ Some d) where
  abbrev c : Circuit
  c = equations_of b

  -- a registered unit has its register
  register-there : (k : ℕ) → d.gives ≡ Visible k → (r : Register) × (slice_get c.registers k ≡ Some r)
  register-there k e =
      let all : AllByRecursion (IsNode c) (row_reads d.enable ++ gives_reads d.gives) = subst (λ (o : Option Driver). AllByRecursion (IsNode c) (driver_reads o)) is ((given-nodes b.net b.chips given).units u) in
      let seen : AllByRecursion (IsNode c) (gives_reads d.gives) = all_right (IsNode c) (row_reads d.enable) (gives_reads d.gives) all in
      let one : AllByRecursion (IsNode c) (OfRegister k ∷ []) = subst (λ (g : Gives). AllByRecursion (IsNode c) (gives_reads g)) e seen in
      item-at c.registers k one.0

  giving-old : (g : Gives) → d.gives ≡ g → AreOld c d g (old_giving c 0 u d g)
  giving-old (Sum ts) e = record { logic = refl; enable = gate-over c d.enable; reset = refl; preset = refl; low = refl }
  giving-old (Visible k) e = let r = register-there k e in subst (λ (o : Option Register). AreOld c d (Visible k) (old_reg c 0 u d o)) (sym r.1) (by r.0 r.1)
    where
      by : (r : Register) → slice_get c.registers k ≡ Some r → AreOld c d (Visible k) (old_reg c 0 u d (Some r))
      by r there = record {
        logic = ap (λ (o : Option Register). map (variable_product c) (register_terms o)) (sym there);
        enable = gate-over c d.enable;
        reset = gate-over c r.reset ∙ ap (λ (o : Option Register). map (variable_product c) (reset_terms o)) (sym there);
        preset = gate-over c r.preset ∙ ap (λ (o : Option Register). map (variable_product c) (preset_terms o)) (sym there);
        low = ap register_low (sym there);
      }

  old : AreOld c d d.gives (old_rows c 0 u)
  old = subst (λ (o : Option Driver). AreOld c d d.gives (old_driving c 0 u o)) (sym is) (giving-old d.gives refl)

  pub products-old : (part : Part) → old_products c u part ≡ map (variable_product c) (raw_part c d part)
  products-old Logic = old.logic
  products-old Enable = old.enable
  products-old Reset = old.reset
  products-old Preset = old.preset

  module _ (absorbed : List ℕ) (may : AreAbsorbable b absorbed) where
    abbrev IsRows : Part → Products → Bool → Type 0
    IsRows part rows low = AreRows c absorbed (part_level c d part) (sum_reads (raw_part c d part)) rows low

    -- the old products
    old-part : (part : Part) (rows : Products) (low : Bool) → rows ≡ old_products c u part → low ≡ part_low c d part → IsRows part rows low
    old-part part rows low e l =
        let r = old-rows c absorbed (raw_part c d part) (part_low c d part) ((given-own b given).each u d part is) in
        subst (λ (q : Bool). IsRows part rows q) (sym l)
        (subst (λ (ps : Products). IsRows part ps (part_low c d part)) (sym (e ∙ products-old part)) (record { same = λ f fit. r.same f fit; named = λ v a. r.named v a }))

    covered-part : (part : Part) (rows : Products) (side low : Bool) → low ≡ side → IsCovered b absorbed (unit_part b u part) side (Some rows) → IsRows part rows low
    covered-part part rows side low l h = subst (λ (q : Bool). IsRows part rows q) (sym l) (covered-rows b absorbed (given-own b given) may u d is part side rows h)

    tried : (room : Room) (x : LogicForm) (t : Try) → Fits b absorbed u room t x → IsRows Logic x.terms x.low
    tried room x Old h = old-part Logic x.terms x.low (same_Some x.terms (old_products c u Logic) h.offered) (h.inversion ∙ old.low)
    tried room x Direct h = covered-part Logic x.terms false x.low h.inversion h.offered
    tried room x Inverse h = covered-part Logic x.terms true x.low h.inversion h.offered

    no-low : (part : Part) → part ≢ Logic → false ≡ part_low c d part
    no-low Logic h = absurd (h refl)
    no-low Enable h = refl
    no-low Reset h = refl
    no-low Preset h = refl

    control : (part : Part) → part ≢ Logic → (rows : Products) (reads : Bool) → IsControlBy reads b absorbed u part (Some rows) → IsRows part rows false
    control part other rows true h = covered-part part rows false false refl h
    control part other rows false h = old-part part rows false (same_Some rows (old_products c u part) h) (no-low part other)

-- the form of Logic
pub form-rows : (b : Joined) (absorbed : List ℕ) → IsGiven b.net b.chips → AreAbsorbable b absorbed → (u : ℕ) (d : Driver) → slice_get (equations_of b).units u ≡ Some d → (room : Room) (x : LogicForm) →
    IsForm b absorbed u room x → AreRows (equations_of b) absorbed (part_level (equations_of b) d Logic) (sum_reads (raw_part (equations_of b) d Logic)) x.terms x.low
form-rows b absorbed given may u d is room x form =
    let t = first-given (Fits b absorbed u room) (tries b absorbed u room) x form in
    tried b given u d is absorbed may room x t.0 t.1

-- the row of another part
pub gate-is-rows : (b : Joined) (absorbed : List ℕ) → IsGiven b.net b.chips → AreAbsorbable b absorbed → (u : ℕ) (d : Driver) → slice_get (equations_of b).units u ≡ Some d → (part : Part) → part ≢ Logic →
    (gate : Gate) → IsGate b absorbed u part gate → AreRows (equations_of b) absorbed (part_level (equations_of b) d part) (sum_reads (raw_part (equations_of b) d part)) (gate_products gate) false
gate-is-rows b absorbed given may u d is part other gate h = control b given u d is absorbed may part other (gate_products gate) (reads_absorbed b absorbed u part) h

-- The cells of placed units: their terms, forms, inversions and enables, by the rules that the plan keeps.
use Rattle.std.proofs.Common.{ℕ, ◌≡◌, Bool, true, false, not, ◌&&◌, ◌||◌, List, [], ◌∷◌, Option, Some, None, refl, sym, ap, ◌∙◌, subst, inl, inr}
use Rattle.std.specs.Prelude.{slice_get}
use Rattle.std.proofs.lemmas.Option.{same_Some}
use Rattle.mig_base.specs.Among.{Among}
use Rattle.mig_base.specs.declared.kinds.Kind.{Kind}
use Rattle.mig_base.specs.declared.kinds.Kind.TheVariants.{Gal16V8, Gal20V8, Gal22V10, Gal22V10Q}
use Rattle.mig_base.specs.declared.kinds.Mode.{Mode}
use Rattle.mig_base.specs.declared.kinds.Mode.TheVariants.{Fixed, Simple, Complex, Registered}
use Rattle.mig_base.specs.declared.cells.Form.TheVariants as form
use Rattle.mig_base.specs.declared.circuit.Circuit.{Circuit}
use Rattle.mig_base.specs.declared.circuit.Driver.{Driver}
use Rattle.mig_base.specs.declared.circuit.Gate.{Gate}
use Rattle.mig_base.specs.declared.circuit.Gate.TheVariants.{Never, Product}
use Rattle.mig_base.specs.declared.circuit.Gives.{Gives}
use Rattle.mig_base.specs.declared.circuit.Gives.TheVariants.{Sum, Visible}
use Rattle.mig_base.specs.declared.circuit.Literal.{Literal}
use Rattle.mig_base.specs.declared.plans.Part.TheVariants.{Enable}
use Rattle.mig_base.specs.Structure.{variable_gate}
use Rattle.mig_base.specs.DeviceTables.{is_22, is_v8, is_gal}
use Rattle.mig_base.specs.WellFormed.{has_mode, has_form, has_inversions}
use Rattle.structure.specs.Pure.{is_always, always_enabled}
use Rattle.structure.proofs.Sorting.{product-none}
use Rattle.board.specs.Joined.{Joined, equations_of}
use Rattle.new_board.specs.NewChip.{register_driven, register_given, unit_register, gate_products}
use Rattle.new_board.specs.OneForOne.{old_giving, old_driving}
use Rattle.plans.specs.Forms.{Products, part_of, old_products, read_absorbed, reads_absorbed, IsControlBy, IsControl, Try, low_by, tries_by}
use Rattle.plans.specs.UnitBreaches.{is_out_of_mode}

-- tables of kinds and modes

pub gal-22 : (k : Kind) → is_gal k ≡ true → is_v8 k ≡ false → is_22 k ≡ true
gal-22 Gal16V8 g e = cc
gal-22 Gal20V8 g e = cc
gal-22 Gal22V10 g e = refl
gal-22 Gal22V10Q g e = refl
gal-22 _ g e = cc

pub gal-v8 : (k : Kind) → is_gal k ≡ true → is_22 k ≡ false → is_v8 k ≡ true
gal-v8 Gal16V8 g e = refl
gal-v8 Gal20V8 g e = refl
gal-v8 Gal22V10 g e = cc
gal-v8 Gal22V10Q g e = cc
gal-v8 _ g e = cc

or-true : (q : Bool) → (q || true) ≡ true
or-true true = refl
or-true false = refl

or-left : (q r : Bool) → q ≡ true → (q || r) ≡ true
or-left true r e = refl
or-left false r e = cc

not-true-false : (q : Bool) → not q ≡ true → q ≡ false
not-true-false false e = refl
not-true-false true e = cc

not-false-true : (q : Bool) → not q ≡ false → q ≡ true
not-false-true true e = refl
not-false-true false e = cc

-- a registered unit has the form that its cell takes
pub takes-register : (kind : Kind) (mode : Mode) (pin : ℕ) (always : Bool) → is_gal kind ≡ true → has_mode kind mode ≡ true → is_out_of_mode mode true always ≡ false → has_form kind mode pin form.Reg ≡ true
takes-register kind Simple pin always g m e = cc
takes-register kind Complex pin always g m e = cc
takes-register kind Registered pin always g m e = or-true (is_22 kind)
takes-register kind Fixed pin always g m e = or-left (is_22 kind) _ (gal-22 kind g (not-true-false (is_v8 kind) m))

-- and the inversions
pub takes-inversions : (kind : Kind) (low pin_low : Bool) → is_gal kind ≡ true → (is_22 kind ≡ true → low ≡ false) → (is_v8 kind && not pin_low) ≡ false → has_inversions kind form.Reg low pin_low ≡ true
takes-inversions kind low pin_low g d e = at (is_22 kind) (is_v8 kind) refl refl d e
  where
    at : (q r : Bool) → is_22 kind ≡ q → is_v8 kind ≡ r → (q ≡ true → low ≡ false) → (r && not pin_low) ≡ false → ((r || not low) && (q || pin_low)) ≡ true
    at true true is js d e = refl
    at true false is js d e = ap (λ (q : Bool). not q && true) (d refl)
    at false true is js d e = not-false-true pin_low e
    at false false is js d e = let wrong : true ≡ false = sym (gal-v8 kind g is) ∙ js in cc

-- a 22V10 can't invert D
low-direct : (reads low : Bool) (t : Try) → Among t (tries_by reads low false) → low_by low t ≡ false
low-direct true low t (inl e) = ap (low_by low) e
low-direct true low t (inr none) = absurd none
low-direct false false t (inl e) = ap (low_by false) e
low-direct false false t (inr (inl e)) = ap (low_by false) e
low-direct false false t (inr (inr none)) = absurd none
low-direct false true t (inl e) = ap (low_by true) e
low-direct false true t (inr none) = absurd none

pub never-inverts : (reads low may : Bool) (t : Try) → may ≡ false → Among t (tries_by reads low may) → low_by low t ≡ false
never-inverts reads low may t e a = low-direct reads low t (subst (λ (q : Bool). Among t (tries_by reads low q)) e a)

-- the enable of a unit that is always enabled

no-reads : (c : Circuit) (absorbed : List ℕ) (products : Products) → products ≡ [] ∷ [] → read_absorbed c absorbed products ≡ false
no-reads c absorbed products e = ap (read_absorbed c absorbed) e

gate-always : (g : Gate) → gate_products g ≡ [] ∷ [] → g ≡ Product []
gate-always Never e = cc
gate-always (Product lits) e = cc

always-gate : (c : Circuit) (g : Gate) → is_always g ≡ true → gate_products (variable_gate c g) ≡ [] ∷ []
always-gate c Never e = cc
always-gate c (Product []) e = ap (λ (lits : List Literal). lits ∷ []) (product-none c)
always-gate c (Product (x ∷ xs)) e = cc

always-giving : (c : Circuit) (u : ℕ) (d : Driver) (g : Gives) → register_given g ≡ None → is_always d.enable ≡ true → part_of (old_giving c 0 u d g) Enable ≡ [] ∷ []
always-giving c u d (Sum terms) none always = always-gate c d.enable always
always-giving c u d (Visible k) none always = cc

always-driving : (c : Circuit) (u : ℕ) (o : Option Driver) → register_driven o ≡ None → always_enabled o ≡ true → part_of (old_driving c 0 u o) Enable ≡ [] ∷ []
always-driving c u None none always = cc
always-driving c u (Some d) none always = always-giving c u d d.gives none always

pub always-enable : (b : Joined) (absorbed : List ℕ) (u : ℕ) (g : Gate) → unit_register (equations_of b) u ≡ None → always_enabled (slice_get (equations_of b).units u) ≡ true →
    IsControl b absorbed u Enable (Some (gate_products g)) → g ≡ Product []
always-enable b absorbed u g none always control = gate-always g (by (reads_absorbed b absorbed u Enable) (no-reads (equations_of b) absorbed (old_products (equations_of b) u Enable) old) control ∙ old)
  where
    old : old_products (equations_of b) u Enable ≡ [] ∷ []
    old = always-driving (equations_of b) u (slice_get (equations_of b).units u) none always

    by : (q : Bool) → q ≡ false → IsControlBy q b absorbed u Enable (Some (gate_products g)) → gate_products g ≡ old_products (equations_of b) u Enable
    by true e h = cc
    by false e h = same_Some (gate_products g) (old_products (equations_of b) u Enable) h

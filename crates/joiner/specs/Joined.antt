-- The parts of units with absorbed nets replaced by what their units give: which variables they name, and what they read.
use Rattle.std.specs.Prelude.{◌≡◌, ◌↔◌, ℕ, Bool, true, false, not, List, [], ◌∷◌, map, Option, Some, None, slice_get, if◌then◌else◌}
use Rattle.std.specs.List.{list_any, list_all}
use Rattle.mig_base.specs.Among.{Among}
use Rattle.mig_base.specs.declared.plans.Part.{Part}
use Rattle.mig_base.specs.declared.plans.Part.TheVariants.{Logic, Enable, Reset, Preset}
use Rattle.mig_base.specs.declared.nets.Var.{Var}
use Rattle.mig_base.specs.declared.nets.Var.TheVariants.{Net}
use Rattle.mig_base.specs.declared.nets.VarLit.{VarLit}
use Rattle.mig_base.specs.declared.nets.VarProduct.{VarProduct}
use Rattle.mig_base.specs.declared.circuit.Gives.{Gives}
use Rattle.mig_base.specs.declared.circuit.Gives.TheVariants.{Sum, Visible}
use Rattle.mig_base.specs.declared.circuit.Driver.{Driver}
use Rattle.mig_base.specs.declared.circuit.Register.{Register}
use Rattle.mig_base.specs.declared.circuit.Wire.{Wire}
use Rattle.mig_base.specs.declared.circuit.Circuit.{Circuit}
use Rattle.structure.specs.Pure.{IsPure}
use Rattle.structure.specs.Products.{unit_products, part_of}
use Rattle.rails.specs.Variables.{AreRising}
use Rattle.board.specs.Joined.{Joined, equations_of}
use Rattle.board.specs.UnitLists.{register_units}
use Rattle.board.specs.Variables.{read_of}

-- a sum of products over variables, and whether it is inverted
pub record Inverted : Type 0 where
  pub terms : List VarProduct
  pub low : Bool

abbrev pub register_low : Option Register → Bool
register_low None = false
register_low (Some r) = r.low

-- the inversion of the pin of a combinational unit, and that before D of a registered one
abbrev pub logic_low : Circuit → Gives → Bool → Bool
logic_low c (Sum terms) low = low
logic_low c (Visible k) low = register_low (slice_get c.registers k)

-- no other part is inverted
abbrev pub part_low : Circuit → Driver → Part → Bool
part_low c d Logic = logic_low c d.gives d.low
part_low c d Enable = false
part_low c d Reset = false
part_low c d Preset = false

-- a part of a unit
abbrev pub driver_part : Joined → Driver → Part → Inverted
driver_part b d part = record {
  terms = part_of (unit_products (equations_of b) (register_units b.chips) d) part;
  low = part_low (equations_of b) d part;
}

abbrev pub part_or_none : Joined → Part → Option Driver → Inverted
part_or_none b part None = record { terms = []; low = false }
part_or_none b part (Some d) = driver_part b d part

-- a part of the unit of this number
abbrev pub unit_part : Joined → ℕ → Part → Inverted
unit_part b u part = part_or_none b part (slice_get (equations_of b).units u)

-- the unit u, which is absorbed, alone drives the net n
pub record IsAbsorbed (b : Joined) (absorbed : List ℕ) (n u : ℕ) : Type 0 where
  pub wire : Wire
  pub on : slice_get (equations_of b).nets n ≡ Some wire
  pub alone : wire.drivers ≡ u ∷ []
  pub listed : Among u absorbed

-- a literal of a product
pub record StandsIn (x : VarLit) (terms : List VarProduct) : Type 0 where
  pub product : VarProduct
  pub among : Among product terms
  pub within : Among x product.lits

-- the products name v: a literal of v stands in them and no absorbed unit drives v, or a literal of an absorbed net stands in
-- them, and what its unit gives names v
pub data Names (b : Joined) (absorbed : List ℕ) (v : Var) : List VarProduct → Type 0 where
  itself : {terms : List VarProduct} → (x : VarLit) → StandsIn x terms → x.var ≡ v
      → ((n u : ℕ) → v ≡ Net n → IsAbsorbed b absorbed n u → ⊥) → Names b absorbed v terms
  through : {terms : List VarProduct} → (x : VarLit) → StandsIn x terms → (n u : ℕ) → x.var ≡ Net n
      → IsAbsorbed b absorbed n u → Names b absorbed v (unit_part b u Logic).terms → Names b absorbed v terms

-- the cone: all variables that are named, each once and in order, with their purity
pub record IsCone (b : Joined) (absorbed : List ℕ) (terms : List VarProduct) (vs : List (Var × Bool)) : Type 0 where
  pub rising : AreRising vs
  pub exact : (v : Var) → Among v (map (λ (w : Var × Bool). w.0) vs) ↔ Names b absorbed v terms
  pub pure : (w : Var × Bool) → Among w vs → (w.1 ≡ true) ↔ IsPure (equations_of b) (read_of b.chips w.0)

-- what the true literal and the complement literal of each variable read
abbrev pub Reading : Type 0
Reading = Var → Bool → Bool

-- a literal, or its complement where `side` is not set
abbrev pub literal_read : Reading → Bool → VarLit → Bool
literal_read r side x = r x.var (if side then x.high else not x.high)

-- a product; inverted, it is the sum of its inverted literals
abbrev pub product_read : Reading → Bool → VarProduct → Bool
product_read r true product = list_all (literal_read r true) product.lits
product_read r false product = list_any (literal_read r false) product.lits

-- a sum; inverted, it is the product of its inverted products
abbrev pub terms_read : Reading → Bool → List VarProduct → Bool
terms_read r true terms = list_any (product_read r true) terms
terms_read r false terms = list_all (product_read r false) terms

-- a sum that is inverted where it says so
abbrev pub inverted_read : Reading → Bool → Inverted → Bool
inverted_read r side sum = terms_read r (if sum.low then not side else side) sum.terms

-- both literals of each absorbed net read what its unit gives: all nets at once, with no order
pub record ReadsAbsorbed (b : Joined) (absorbed : List ℕ) (r : Reading) : Type 0 where
  pub each : (n u : ℕ) → IsAbsorbed b absorbed n u → (side : Bool) → r (Net n) side ≡ inverted_read r side (unit_part b u Logic)

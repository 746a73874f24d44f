-- The forms of the parts of a placed unit: the old products, or a cover of the joined part.
use Rattle.std.specs.Prelude.{ℕ, ◌≡◌, ◌≤◌, Bool, true, false, not, ◌&&◌, ◌||◌, ◌==◌, List, [], ◌∷◌, ◌++◌, length, map, Option, Some, None, is_some, slice_get, if◌then◌else◌}
use Rattle.std.specs.List.{list_any, filter_map}
use Rattle.std.specs.Option.{option_map}
use Rattle.mig_base.specs.declared.kinds.Kind.{Kind}
use Rattle.mig_base.specs.declared.kinds.Mode.{Mode}
use Rattle.mig_base.specs.declared.cells.Form.TheVariants as form
use Rattle.mig_base.specs.declared.nets.Var.{Var}
use Rattle.mig_base.specs.declared.nets.VarLit.{VarLit}
use Rattle.mig_base.specs.declared.plans.Plan.{Plan}
use Rattle.mig_base.specs.declared.plans.PlanChip.{PlanChip}
use Rattle.mig_base.specs.declared.plans.Part.{Part}
use Rattle.mig_base.specs.declared.plans.Part.TheVariants.{Logic, Enable, Reset, Preset}
use Rattle.mig_base.specs.declared.circuit.Read.{Read}
use Rattle.mig_base.specs.declared.circuit.Read.TheVariants.{OfNet, OfRegister}
use Rattle.mig_base.specs.declared.circuit.Literal.{Literal}
use Rattle.mig_base.specs.declared.circuit.Gate.{Gate}
use Rattle.mig_base.specs.declared.circuit.Wire.{Wire}
use Rattle.mig_base.specs.declared.circuit.Circuit.{Circuit}
use Rattle.mig_base.specs.DeviceTables.{is_22}
use Rattle.mig_base.specs.WellFormed.{most_terms}
use Rattle.primes.specs.Prime.{Function, Product, HasMorePrimes}
use Rattle.cover.specs.Cover.{IsCover}
use Rattle.rails.specs.declared.Rail.{Rail}
use Rattle.rails.specs.Variables.{all_rails}
use Rattle.rails.specs.Points.{inverse, literal_of}
use Rattle.board.specs.Joined.{Joined, equations_of}
use Rattle.board.specs.Variables.{read_of}
use Rattle.joiner.specs.Joined.{Inverted, unit_part}
use Rattle.joiner.specs.JoinedPart.{IsJoinedPart}
use Rattle.new_board.specs.declared.types.PlacedUnit.{PlacedUnit}
use Rattle.new_board.specs.NewChip.{NewChip, unit_register, gate_products}
use Rattle.new_board.specs.OneForOne.{old_rows}
use Rattle.plans.specs.FirstOf.{FirstOf, NoneOf, AreEach}
use Rattle.plans.specs.declared.placing.Placing.{Placing}
use Rattle.plans.specs.Placings.{absorbed_units, placings_on}

-- products over variables
abbrev pub Products : Type 0
Products = List (List Literal)

-- the most primes of a function that is covered
abbrev pub most_primes : ℕ
most_primes = 4096

-- the products of a part of a unit with these rows
abbrev pub part_of : PlacedUnit → Part → Products
part_of x Logic = x.terms
part_of x Enable = gate_products x.enable
part_of x Reset = gate_products x.reset
part_of x Preset = gate_products x.preset

-- the products of a part as the old unit has them
abbrev pub old_products : Circuit → ℕ → Part → Products
old_products c u part = part_of (old_rows c 0 u) part

-- the inversion that its cell has
abbrev pub old_low : Circuit → ℕ → Bool
old_low c u = (old_rows c 0 u).low

-- an absorbed unit alone drives a net with these drivers
abbrev pub is_sole_absorbed : List ℕ → List ℕ → Bool
is_sole_absorbed absorbed (u ∷ []) = list_any (λ a. a == u) absorbed
is_sole_absorbed absorbed _ = false

-- whether a net is absorbed
abbrev pub is_absorbed_wire : List ℕ → Option Wire → Bool
is_absorbed_wire absorbed None = false
is_absorbed_wire absorbed (Some w) = is_sole_absorbed absorbed w.drivers

-- whether what is read is an absorbed net
abbrev pub is_absorbed_read : Circuit → List ℕ → Read → Bool
is_absorbed_read c absorbed (OfNet n) = is_absorbed_wire absorbed (slice_get c.nets n)
is_absorbed_read c absorbed (OfRegister k) = false

-- whether products read an absorbed net
abbrev pub read_absorbed : Circuit → List ℕ → Products → Bool
read_absorbed c absorbed products = list_any (λ lits. list_any (λ x. is_absorbed_read c absorbed x.source) lits) products

-- whether a part of a unit does
abbrev pub reads_absorbed : Joined → List ℕ → ℕ → Part → Bool
reads_absorbed b absorbed u part = read_absorbed (equations_of b) absorbed (old_products (equations_of b) u part)

-- a literal over variables as one of the board's equations
abbrev pub over_board : Joined → VarLit → Literal
over_board b x = record { source = read_of b.chips x.var; high = x.high }

-- the literal of a rail, or of its complement
abbrev pub rail_literal : Joined → List Rail → ℕ × Bool → Option Literal
rail_literal b rails l = option_map (λ r. over_board b (literal_of r l.1)) (slice_get rails l.0)

-- the products of a cover over variables, in the cover's order
abbrev pub cover_products : Joined → List (Var × Bool) → List Product → Products
cover_products b vars terms = map (filter_map (rail_literal b (all_rails vars))) terms

-- the cover of a function, or none where there are too many primes
abbrev pub IsCoverOf : Function → Option (List Product) → Type 0
IsCoverOf f None = HasMorePrimes f most_primes
IsCoverOf f (Some terms) = IsCover f terms × (HasMorePrimes f most_primes → ⊥)

-- what the cover of a joined part, or of the inverted part, gives
pub record IsCovered (b : Joined) (absorbed : List ℕ) (sum : Inverted) (inverted : Bool) (products : Option Products) : Type 0 where
  pub vars : List (Var × Bool)
  pub function : Function
  pub joined : IsJoinedPart b absorbed sum vars function
  pub terms : Option (List Product)
  pub cover : IsCoverOf (if inverted then inverse (all_rails vars) function else function) terms
  pub are : products ≡ option_map (cover_products b vars) terms

-- the forms of Logic in the order in which they are tried
pub data Try : Type 0 where
  Old : Try
  Direct : Try
  Inverse : Try

-- what a cell offers: its most terms, and whether it may invert the sum
pub record Room : Type 0 where
  pub most : ℕ
  pub may_invert : Bool

-- a sum on the new chip, and whether the cell inverts it
pub record LogicForm : Type 0 where
  pub low : Bool
  pub terms : Products

-- the inversion of a form, where the old cell has this one
abbrev pub low_by : Bool → Try → Bool
low_by low Old = low
low_by low Direct = false
low_by low Inverse = true

-- the old products if Logic reads no absorbed net, the cover, the inverted cover, each where the cell has its inversion
abbrev pub tries_by : Bool → Bool → Bool → List Try
tries_by reads low may_invert = (if not reads && (may_invert || not low) then Old ∷ [] else []) ++ Direct ∷ (if may_invert then Inverse ∷ [] else [])

-- the forms that a cell allows a unit's Logic
abbrev pub tries : Joined → List ℕ → ℕ → Room → List Try
tries b absorbed u room = tries_by (reads_absorbed b absorbed u Logic) (old_low (equations_of b) u) room.may_invert

-- the products that a try offers, or none where there are too many primes
abbrev pub IsOffered : Joined → List ℕ → ℕ → Try → Option Products → Type 0
IsOffered b absorbed u Old products = products ≡ Some (old_products (equations_of b) u Logic)
IsOffered b absorbed u Direct products = IsCovered b absorbed (unit_part b u Logic) false products
IsOffered b absorbed u Inverse products = IsCovered b absorbed (unit_part b u Logic) true products

-- a try fits where the cell has enough terms
pub record Fits (b : Joined) (absorbed : List ℕ) (u : ℕ) (room : Room) (t : Try) (x : LogicForm) : Type 0 where
  pub offered : IsOffered b absorbed u t (Some x.terms)
  pub few : length x.terms ≤ room.most
  pub inversion : x.low ≡ low_by (old_low (equations_of b) u) t

-- the form of Logic: the first that fits
abbrev pub IsForm : Joined → List ℕ → ℕ → Room → LogicForm → Type 0
IsForm b absorbed u room x = FirstOf (Fits b absorbed u room) (tries b absorbed u room) x

-- none fits
abbrev pub HasNoForm : Joined → List ℕ → ℕ → Room → Type 0
HasNoForm b absorbed u room = NoneOf (Fits b absorbed u room) (tries b absorbed u room)

-- a part other than Logic, by whether it reads an absorbed net: its cover, or the old products
abbrev pub IsControlBy : Bool → Joined → List ℕ → ℕ → Part → Option Products → Type 0
IsControlBy true b absorbed u part products = IsCovered b absorbed (unit_part b u part) false products
IsControlBy false b absorbed u part products = products ≡ Some (old_products (equations_of b) u part)

-- Enable, Reset and Preset: the old products if they read no absorbed net, else the cover
abbrev pub IsControl : Joined → List ℕ → ℕ → Part → Option Products → Type 0
IsControl b absorbed u part products = IsControlBy (reads_absorbed b absorbed u part) b absorbed u part products

-- one product, or none, which is Never
abbrev pub IsGate : Joined → List ℕ → ℕ → Part → Gate → Type 0
IsGate b absorbed u part gate = IsControl b absorbed u part (Some (gate_products gate))

-- whether a unit is registered
abbrev pub has_register : Joined → ℕ → Bool
has_register b u = is_some (unit_register (equations_of b) u)

-- what a cell offers a unit; a register on a 22V10 can't invert D
abbrev pub room_on : Kind → Mode → ℕ → Bool → Room
room_on kind mode pin registered =
    record { most = most_terms kind mode pin (if registered then form.Reg else form.Comb); may_invert = not (is_22 kind && registered) }

-- what its cell offers a placed unit
abbrev pub room_of : Joined → Placing → Room
room_of b x = room_on x.chip.kind x.chip.mode x.pin (has_register b x.unit)

-- the rows of a placed unit under a set of absorbed units
pub record AreRows (b : Joined) (absorbed : List ℕ) (x : Placing) (rows : PlacedUnit) : Type 0 where
  pub pin : rows.pin ≡ x.pin
  pub unit : rows.unit ≡ x.unit
  pub logic : IsForm b absorbed x.unit (room_of b x) (record { low = rows.low; terms = rows.terms })
  pub enable : IsGate b absorbed x.unit Enable rows.enable
  pub reset : IsGate b absorbed x.unit Reset rows.reset
  pub preset : IsGate b absorbed x.unit Preset rows.preset

-- the new chip that a plan makes of one of its chips
pub record IsNewChip (b : Joined) (p : Plan) (c : PlanChip) (chip : NewChip) : Type 0 where
  pub name : chip.name ≡ c.name
  pub kind : chip.kind ≡ c.kind
  pub mode : chip.mode ≡ c.mode
  pub units : AreEach (AreRows b (absorbed_units b p)) (placings_on b p c.name) chip.units

-- A new chip with its units and their rows over variables: the net that each pin stands on, and what each column reads.
use Rattle.std.specs.Prelude.{ℕ, ◌+◌, Bool, true, false, not, ◌&&◌, ◌||◌, ◌==◌, nat_lt, List, [], ◌∷◌, ◌++◌, length, filter, if◌then◌else◌, Option, Some, None, is_some, slice_get, option_and_then}
use Rattle.std.specs.List.{list_any, flat_map}
use Rattle.std.specs.Option.{option_map}
use Rattle.mig_base.specs.declared.kinds.Kind.{Kind}
use Rattle.mig_base.specs.declared.kinds.Mode.{Mode}
use Rattle.mig_base.specs.declared.nets.Net.{Net}
use Rattle.mig_base.specs.declared.circuit.Read.{Read}
use Rattle.mig_base.specs.declared.circuit.Literal.{Literal}
use Rattle.mig_base.specs.declared.circuit.Gate.{Gate}
use Rattle.mig_base.specs.declared.circuit.Gives.{Gives}
use Rattle.mig_base.specs.declared.circuit.Driver.{Driver}
use Rattle.mig_base.specs.declared.circuit.Wire.{Wire}
use Rattle.mig_base.specs.declared.circuit.Circuit.{Circuit}
use Rattle.mig_base.specs.declared.circuit.Read.TheVariants.{OfNet, OfRegister}
use Rattle.mig_base.specs.declared.circuit.Gate.TheVariants.{Never, Product}
use Rattle.mig_base.specs.declared.circuit.Gives.TheVariants.{Sum, Visible}
use Rattle.new_board.specs.declared.types.PlacedUnit.{PlacedUnit}
use Rattle.mig_base.specs.First.{made_from, or_else}
use Rattle.mig_base.specs.DeviceTables.{pair_pins, clock_pin, enable_pin, is_22, is_v8}
use Rattle.mig_base.specs.Boards.{ChipUnit, at_of, net_of}
use Rattle.mig_base.specs.Bools.{same_bool}
use Rattle.mig_base.specs.Structure.{same_read, alias_of, variable_literal, variables_in, has_no_driver}

-- the board that is rebuilt: its wiring, its units, and its equations
pub record OldBoard : Type 0 where
  pub net : Net
  pub units : List ChipUnit
  pub circuit : Circuit

-- a new chip; its units in unit order
pub record NewChip : Type 0 where
  pub name : List ℕ
  pub kind : Kind
  pub mode : Mode
  pub units : List PlacedUnit

-- the unit on a pin
abbrev pub unit_on : List PlacedUnit → ℕ → Option PlacedUnit
unit_on [] pin = None
unit_on (x ∷ xs) pin = if x.pin == pin then Some x else unit_on xs pin

-- the register whose visible level a unit gives
abbrev pub register_given : Gives → Option ℕ
register_given (Sum terms) = None
register_given (Visible k) = Some k

-- the register of what drives, if it drives one
abbrev pub register_driven : Option Driver → Option ℕ
register_driven None = None
register_driven (Some d) = register_given d.gives

-- the number of the register of a unit
abbrev pub unit_register : Circuit → ℕ → Option ℕ
unit_register c u = register_driven (slice_get c.units u)

-- the number of the register of a placed unit
abbrev pub placed_register : Circuit → PlacedUnit → Option ℕ
placed_register c x = unit_register c x.unit

-- whether a placed unit has a register
abbrev pub is_registered_unit : Circuit → PlacedUnit → Bool
is_registered_unit c x = is_some (placed_register c x)

-- the number of the register on a pin
abbrev pub register_on : Circuit → NewChip → ℕ → Option ℕ
register_on c chip pin = option_and_then (placed_register c) (unit_on chip.units pin)

-- the first item of a list
abbrev pub first_of : {T : Type 0} → List T → Option T
first_of [] = None
first_of (x ∷ xs) = Some x

-- the first registered unit of the chip
abbrev pub first_registered : Circuit → NewChip → Option PlacedUnit
first_registered c chip = first_of (filter (is_registered_unit c) chip.units)

-- the clock net of a unit's register
abbrev pub placed_clock : Circuit → PlacedUnit → Option ℕ
placed_clock c x = option_map (λ r. r.clock) (option_and_then (slice_get c.registers) (placed_register c x))

-- the net of the clock pin, where the chip has registered units
abbrev pub clock_net : Circuit → NewChip → Option ℕ
clock_net c chip = option_and_then (placed_clock c) (first_registered c chip)

-- GND, VCC and the named nets have numbers below this one
abbrev pub private_from : Net → ℕ
private_from net = 2 + length net.nets

-- a value, where the test passes
abbrev pub when : {T : Type 0} → Bool → Option T → Option T
when test value = if test then value else None

-- a net that an input pin or an enable pin can stand on: a constant, a named net, a private net without driver
abbrev pub can_stand : OldBoard → ℕ → Bool
can_stand b n = nat_lt n (private_from b.net) || has_no_driver (slice_get b.circuit.nets n)

-- whether an alias is one of this register
abbrev pub is_register_of : ℕ → Option (ℕ × Bool) → Bool
is_register_of k None = false
is_register_of k (Some a) = a.0 == k

-- the alias net of a register, if it is named
abbrev pub alias_net : OldBoard → ℕ → Option ℕ
alias_net b k = first_of (filter (λ n. is_register_of k (alias_of b.circuit n)) (made_from (λ n. n) 2 (length b.net.nets)))

-- the literal of a net's level
abbrev pub net_literal : Circuit → ℕ → Literal
net_literal c n = variable_literal c (record { source = OfNet n; high = true })

-- whether two literals are of one variable, and one is the complement of the other
abbrev pub is_complement_of : Literal → Literal → Bool
is_complement_of x y = same_read x.source y.source && same_bool x.high (not y.high)

-- the net of whose level a literal is the complement
abbrev pub net_of_complement : OldBoard → Read → Literal → Option ℕ
net_of_complement b (OfNet n) x = when (not x.high && can_stand b n) (Some n)
net_of_complement b (OfRegister k) x = option_and_then (λ n. when (is_complement_of x (net_literal b.circuit n)) (Some n)) (alias_net b k)

-- the enable pin of registered units on a V8: GND where they are always enabled, VCC where never,
-- else the net of whose level their one literal is the complement
abbrev pub enable_net : OldBoard → Gate → Option ℕ
enable_net b Never = Some 1
enable_net b (Product []) = Some 0
enable_net b (Product (x ∷ [])) = net_of_complement b x.source x
enable_net b (Product (x ∷ y ∷ more)) = None

-- the net of the pin of a unit that is there
abbrev pub unit_net_of : OldBoard → Option ChipUnit → Option ℕ
unit_net_of b None = None
unit_net_of b (Some u) = Some (net_of b.net (at_of u))

-- the net of a unit
abbrev pub unit_net : OldBoard → ℕ → Option ℕ
unit_net b u = unit_net_of b (slice_get b.units u)

-- the net that a pin stands on, but for input pins: that of its unit, of the clock, of the enable pin
abbrev pub fixed_net : OldBoard → NewChip → ℕ → Option ℕ
fixed_net b chip pin =
    or_else (option_and_then (λ x. unit_net b x.unit) (unit_on chip.units pin))
    (or_else (when (pin == clock_pin chip.kind) (clock_net b.circuit chip))
    (when (is_v8 chip.kind && (pin == enable_pin chip.kind)) (option_and_then (λ x. enable_net b x.enable) (first_registered b.circuit chip))))

-- what the columns of a pin read: the register of its unit, or the level of the pin's net
abbrev pub read_by : Circuit → Option ℕ → Option ℕ → Option Literal
read_by c (Some k) net = Some (record { source = OfRegister k; high = true })
read_by c None None = None
read_by c None (Some n) = Some (net_literal c n)

-- whether what is read is a literal of the variable
abbrev pub is_literal_of : Read → Option Literal → Bool
is_literal_of v None = false
is_literal_of v (Some x) = same_read x.source v

-- whether a pin of a column pair reads a variable, but for input pins
abbrev pub is_read_at : OldBoard → NewChip → Read → ℕ → Bool
is_read_at b chip v pin = is_literal_of v (read_by b.circuit (register_on b.circuit chip pin) (fixed_net b chip pin))

-- whether a column of the chip reads a variable, but for input pins
abbrev pub is_read : OldBoard → NewChip → Read → Bool
is_read b chip v = list_any (is_read_at b chip v) (pair_pins chip.kind chip.mode)

-- the rows of the new chip over variables

-- the products of a row: one, or none where it is constant 0
abbrev pub gate_products : Gate → List (List Literal)
gate_products Never = []
gate_products (Product lits) = lits ∷ []

-- a combinational unit that is never enabled has an Idle cell and no rows
abbrev pub comb_products : Gate → List (List Literal) → List (List Literal)
comb_products Never terms = []
comb_products (Product lits) terms = lits ∷ terms

-- a combinational unit has its enable row and its terms, a registered one on a 22V10 too; on a V8 its terms alone
abbrev pub products_by : Bool → Option ℕ → PlacedUnit → List (List Literal)
products_by enabled_by_row None x = comb_products x.enable x.terms
products_by enabled_by_row (Some k) x = x.terms ++ (if enabled_by_row then gate_products x.enable else [])

-- the rows of a unit on its chip
abbrev pub unit_products : Circuit → NewChip → PlacedUnit → List (List Literal)
unit_products c chip x = products_by (is_22 chip.kind) (placed_register c x) x

-- the reset and preset rows of a unit that is there
abbrev pub controls_of : Option PlacedUnit → List (List Literal)
controls_of None = []
controls_of (Some x) = gate_products x.reset ++ gate_products x.preset

-- the reset and preset rows, which a 22V10 alone has: those of its first registered unit
abbrev pub control_products : Circuit → NewChip → List (List Literal)
control_products c chip = if is_22 chip.kind then controls_of (first_registered c chip) else []

-- the rows of all units of the chip, and its reset and preset rows
abbrev pub chip_products : Circuit → NewChip → List (List Literal)
chip_products c chip = flat_map (unit_products c chip) chip.units ++ control_products c chip

-- the variables that stand in them, in variable order
abbrev pub needed_variables : Circuit → NewChip → List Read
needed_variables c chip = variables_in c (chip_products c chip)

-- Alias nets, and the variables of a board's equations.
use Rattle.std.specs.Prelude.{ℕ, Bool, true, false, not, ◌&&◌, ◌==◌, List, [], ◌∷◌, ◌++◌, length, map, filter, if◌then◌else◌, Option, Some, None, slice_get}
use Rattle.std.specs.List.{list_any, flat_map}
use Rattle.mig_base.specs.Bools.{same_bool}
use Rattle.mig_base.specs.First.{made_from}
use Rattle.mig_base.specs.declared.circuit.Read.{Read}
use Rattle.mig_base.specs.declared.circuit.Literal.{Literal}
use Rattle.mig_base.specs.declared.circuit.Gate.{Gate}
use Rattle.mig_base.specs.declared.circuit.Gives.{Gives}
use Rattle.mig_base.specs.declared.circuit.Driver.{Driver}
use Rattle.mig_base.specs.declared.circuit.NetKind.{NetKind}
use Rattle.mig_base.specs.declared.circuit.Wire.{Wire}
use Rattle.mig_base.specs.declared.circuit.Circuit.{Circuit}
use Rattle.mig_base.specs.declared.circuit.Read.TheVariants.{OfNet, OfRegister}
use Rattle.mig_base.specs.declared.circuit.Gate.TheVariants.{Never, Product}
use Rattle.mig_base.specs.declared.circuit.Gives.TheVariants.{Visible}
use Rattle.mig_base.specs.declared.circuit.NetKind.TheVariants.{Shared}

abbrev pub same_read : Read → Read → Bool
same_read (OfNet n) (OfNet m) = n == m
same_read (OfRegister k) (OfRegister j) = k == j
same_read (OfNet n) (OfRegister k) = false
same_read (OfRegister k) (OfNet n) = false

abbrev pub same_literal : Literal → Literal → Bool
same_literal a b = same_read a.source b.source && same_bool a.high b.high

abbrev pub is_shared : NetKind → Bool
is_shared (Shared place) = true
is_shared _ = false

-- the register whose visible Q a unit always drives, and whether its level is Q
abbrev pub alias_by : Gate → Gives → Bool → Option (ℕ × Bool)
alias_by (Product []) (Visible k) low = Some (k, not low)
alias_by _ _ low = None

abbrev pub alias_unit : Option Driver → Option (ℕ × Bool)
alias_unit None = None
alias_unit (Some d) = alias_by d.enable d.gives d.low

abbrev pub alias_only : Circuit → List ℕ → Option (ℕ × Bool)
alias_only c (u ∷ []) = alias_unit (slice_get c.units u)
alias_only c _ = None

abbrev pub alias_wire : Circuit → Option Wire → Option (ℕ × Bool)
alias_wire c None = None
alias_wire c (Some w) = if is_shared w.kind then None else alias_only c w.drivers

-- an alias net is no Both port, and its only driver is a registered unit that is always enabled: its register, and whether its level is Q
abbrev pub alias_of : Circuit → ℕ → Option (ℕ × Bool)
alias_of c n = alias_wire c (slice_get c.nets n)

abbrev pub or_alias : Option (ℕ × Bool) → Literal → Literal
or_alias None x = x
or_alias (Some a) x = record { source = OfRegister a.0; high = same_bool x.high a.1 }

abbrev pub variable_by : Circuit → Read → Literal → Literal
variable_by c (OfNet n) x = or_alias (alias_of c n) x
variable_by c (OfRegister k) x = x

-- a literal of an alias net is one of its register
abbrev pub variable_literal : Circuit → Literal → Literal
variable_literal c x = variable_by c x.source x

-- the variable of a net
abbrev pub variable_of : Circuit → ℕ → Read
variable_of c n = (variable_literal c (record { source = OfNet n; high = true })).source

-- the nets and then the registers, each by its number
abbrev pub all_variables : Circuit → List Read
all_variables c = made_from OfNet 0 (length c.nets) ++ made_from OfRegister 0 (length c.registers)

abbrev pub both_literals : Read → List Literal
both_literals v = record { source = v; high = true } ∷ record { source = v; high = false } ∷ []

-- those of these literals that are among the others
abbrev pub literals_among : List Literal → List Literal → List Literal
literals_among others xs = filter (λ x. list_any (same_literal x) others) xs

-- a product over variables: each literal once, in variable order, true before complement
abbrev pub variable_product : Circuit → List Literal → List Literal
variable_product c lits = literals_among (map (variable_literal c) lits) (flat_map both_literals (all_variables c))

abbrev pub variable_gate : Circuit → Gate → Gate
variable_gate c Never = Never
variable_gate c (Product lits) = Product (variable_product c lits)

-- the variables that stand in these products, in variable order
abbrev pub variables_in : Circuit → List (List Literal) → List Read
variables_in c products = filter (λ v. list_any (λ lits. list_any (λ x. same_read x.source v) lits) products) (all_variables c)

-- a net that is there and has no driver
abbrev pub has_no_driver : Option Wire → Bool
has_no_driver None = false
has_no_driver (Some w) = length w.drivers == 0

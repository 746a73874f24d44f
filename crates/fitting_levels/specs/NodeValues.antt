-- The values of a board's parts where each node has a level as literals read it.
use Rattle.std.specs.Prelude.{ℕ, List, [], ◌∷◌, if◌then◌else◌, slice_get}
use Rattle.mig_base.specs.declared.levels.Level.{Level}
use Rattle.mig_base.specs.declared.levels.Level.TheVariants.{Zero, One}
use Rattle.mig_base.specs.declared.circuit.Read.{Read}
use Rattle.mig_base.specs.declared.circuit.Read.TheVariants.{OfRegister}
use Rattle.mig_base.specs.declared.circuit.Literal.{Literal}
use Rattle.mig_base.specs.declared.circuit.Gate.{Gate}
use Rattle.mig_base.specs.declared.circuit.Gate.TheVariants.{Never, Product}
use Rattle.mig_base.specs.declared.circuit.Gives.{Gives}
use Rattle.mig_base.specs.declared.circuit.Gives.TheVariants.{Sum, Visible}
use Rattle.mig_base.specs.declared.circuit.Driver.{Driver}
use Rattle.mig_base.specs.declared.circuit.Register.{Register}
use Rattle.mig_base.specs.declared.circuit.Circuit.{Circuit}
use Rattle.mig_base.specs.Levels.{not3, and3, or3, or_x}
use Rattle.mig_base.specs.Values.{inverted}
use Rattle.level_laws.specs.Settled.{gated}

-- a level for each node, as literals read it
abbrev pub NodeLevels : Type 0
NodeLevels = Read → Level

abbrev pub literal_by : NodeLevels → Literal → Level
literal_by f x = if x.high then f x.source else not3 (f x.source)

-- 1 where there is no literal
abbrev pub product_by : NodeLevels → List Literal → Level
product_by f [] = One
product_by f (x ∷ xs) = and3 (literal_by f x) (product_by f xs)

-- 0 where there is no product
abbrev pub terms_by : NodeLevels → List (List Literal) → Level
terms_by f [] = Zero
terms_by f (t ∷ ts) = or3 (product_by f t) (terms_by f ts)

abbrev pub gate_by : NodeLevels → Gate → Level
gate_by f Never = Zero
gate_by f (Product xs) = product_by f xs

abbrev pub gives_by : NodeLevels → Gives → Level
gives_by f (Sum ts) = terms_by f ts
gives_by f (Visible k) = f (OfRegister k)

-- what a unit puts on its net where it is enabled
abbrev pub logic_by : NodeLevels → Driver → Level
logic_by f d = inverted d.low (gives_by f d.gives)

-- a unit's drive
abbrev pub drive_by : NodeLevels → Driver → Level
drive_by f d = gated (gate_by f d.enable) (logic_by f d)

-- what a register takes where its clock rises
abbrev pub taken_by : NodeLevels → Register → Level
taken_by f r = and3 (or3 (inverted r.low (terms_by f r.terms)) (gate_by f r.preset)) (not3 (gate_by f r.reset))

-- the same by the number of a unit
abbrev pub logic_at : Circuit → NodeLevels → ℕ → Level
logic_at c f u = or_x (logic_by f) (slice_get c.units u)

abbrev pub drive_at : Circuit → NodeLevels → ℕ → Level
drive_at c f u = or_x (drive_by f) (slice_get c.units u)

-- Levels of a board's nodes that fit each other, some units being absorbed.
use Rattle.std.specs.Prelude.{ℕ, ◌≡◌, ◌≢◌, Bool, List, [], ◌∷◌, Option, Some, None, slice_get}
use Rattle.mig_base.specs.declared.levels.Level.TheVariants.{Zero, One, Z}
use Rattle.mig_base.specs.declared.circuit.Read.{Read}
use Rattle.mig_base.specs.declared.circuit.Read.TheVariants.{OfNet, OfRegister}
use Rattle.mig_base.specs.declared.circuit.NetKind.{NetKind}
use Rattle.mig_base.specs.declared.circuit.NetKind.TheVariants.{Ground, Power}
use Rattle.mig_base.specs.declared.circuit.Wire.{Wire}
use Rattle.mig_base.specs.declared.circuit.Circuit.{Circuit}
use Rattle.mig_base.specs.Among.{Among}
use Rattle.mig_base.specs.Structure.{alias_of}
use Rattle.structure.specs.Pure.{IsPure}
use Rattle.level_laws.specs.SameBehaviour.{IsBit}
use Rattle.fitting_levels.specs.NodeValues.{NodeLevels, literal_by, logic_at}

-- the unit u, which is absorbed, alone drives the net n
pub record IsAbsorbed (c : Circuit) (absorbed : List ℕ) (n u : ℕ) : Type 0 where
  pub wire : Wire
  pub on : slice_get c.nets n ≡ Some wire
  pub alone : wire.drivers ≡ u ∷ []
  pub listed : Among u absorbed

abbrev pub wire_kind : Option Wire → Option NetKind
wire_kind None = None
wire_kind (Some w) = Some w.kind

-- the kind of a net, none of what is no net
abbrev pub net_kind : Circuit → ℕ → Option NetKind
net_kind c n = wire_kind (slice_get c.nets n)

-- levels that fit each other: none floats, GND is 0 and VCC is 1, pure nodes are 0 or 1, an alias net has the level of its
-- register's literal, and an absorbed net the level that its unit gives
pub record AreFitting (c : Circuit) (absorbed : List ℕ) (f : NodeLevels) : Type 0 where
  pub driven : (v : Read) → f v ≢ Z
  pub ground : (n : ℕ) → net_kind c n ≡ Some Ground → f (OfNet n) ≡ Zero
  pub power : (n : ℕ) → net_kind c n ≡ Some Power → f (OfNet n) ≡ One
  pub pure : (v : Read) → IsPure c v → IsBit (f v)
  pub aliases : (n : ℕ) (x : ℕ × Bool) → alias_of c n ≡ Some x → f (OfNet n) ≡ literal_by f (record { source = OfRegister x.0; high = x.1 })
  pub absorbs : (n u : ℕ) → IsAbsorbed c absorbed n u → f (OfNet n) ≡ logic_at c f u

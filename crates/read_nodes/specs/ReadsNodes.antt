-- Boards whose rows read nothing but their own nodes.
use Rattle.std.specs.Prelude.{ℕ, ◌≡◌, Some, slice_get}
use Rattle.std.specs.List.{AllByRecursion}
use Rattle.mig_base.specs.declared.circuit.Register.{Register}
use Rattle.mig_base.specs.declared.circuit.Circuit.{Circuit}
use Rattle.mig_base.specs.Reads.{IsNode, driver_reads, edge_reads}

-- all that units and registers read are nodes of the board
pub record ReadsNodes (c : Circuit) : Type 0 where
  pub units : (u : ℕ) → AllByRecursion (IsNode c) (driver_reads (slice_get c.units u))
  pub registers : (k : ℕ) (r : Register) → slice_get c.registers k ≡ Some r → AllByRecursion (IsNode c) (edge_reads r)

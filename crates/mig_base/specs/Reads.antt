-- The reads-from graph: what each net and each visible register reads.
use Rattle.std.specs.Prelude.{◌<◌, length, List, [], ◌∷◌, ◌++◌, Option, Some, None, slice_get}
use Rattle.std.specs.List.{flat_map}
use Rattle.mig_base.specs.declared.circuit.Read.{Read}
use Rattle.mig_base.specs.declared.circuit.Gives.{Gives}
use Rattle.mig_base.specs.declared.circuit.Driver.{Driver}
use Rattle.mig_base.specs.declared.circuit.Register.{Register}
use Rattle.mig_base.specs.declared.circuit.Wire.{Wire}
use Rattle.mig_base.specs.declared.circuit.Circuit.{Circuit}
use Rattle.mig_base.specs.declared.circuit.Read.TheVariants.{OfNet, OfRegister}
use Rattle.mig_base.specs.declared.circuit.Gives.TheVariants.{Sum, Visible}
use Rattle.mig_base.specs.Values.{row_reads, sum_reads}

-- a combinational unit reads the sources of its terms, a registered one its visible Q
abbrev pub gives_reads : Gives → List Read
gives_reads (Sum terms) = sum_reads terms
gives_reads (Visible k) = OfRegister k ∷ []

-- a driver reads besides the sources of its enable
abbrev pub driver_reads : Option Driver → List Read
driver_reads None = []
driver_reads (Some d) = row_reads d.enable ++ gives_reads d.gives

-- a net reads what its drivers read
abbrev pub wire_reads : Circuit → Wire → List Read
wire_reads c w = flat_map (λ u. driver_reads (slice_get c.units u)) w.drivers

abbrev pub reads_of_wire : Circuit → Option Wire → List Read
reads_of_wire c None = []
reads_of_wire c (Some w) = wire_reads c w

-- a visible Q reads the sources of its reset
abbrev pub reads_of_register : Option Register → List Read
reads_of_register None = []
reads_of_register (Some r) = row_reads r.reset

-- what a node reads in the reads-from graph
abbrev pub node_reads : Circuit → Read → List Read
node_reads c (OfNet n) = reads_of_wire c (slice_get c.nets n)
node_reads c (OfRegister k) = reads_of_register (slice_get c.registers k)

-- what a register reads at an edge of its clock
abbrev pub edge_reads : Register → List Read
edge_reads r = sum_reads r.terms ++ row_reads r.preset ++ row_reads r.reset

-- a net or a register of the board
abbrev pub IsNode : Circuit → Read → Type 0
IsNode c (OfNet n) = n < length c.nets
IsNode c (OfRegister k) = k < length c.registers

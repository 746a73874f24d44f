-- Each driver of a wiring's board is one of its units.
use Rattle.std.proofs.Common.{ℕ, zero, suc, ◌≡◌, ◌<◌, ◌+◌, List, [], ◌∷◌, length, arith}
use Rattle.std.specs.Prelude.{slice_get}
use Rattle.std.proofs.lemmas.List.{length-map}
use Rattle.mig_base.specs.declared.cells.ChipCells.{ChipCells}
use Rattle.mig_base.specs.declared.nets.Net.{Net}
use Rattle.mig_base.specs.declared.nets.Pull.{Pull}
use Rattle.mig_base.specs.declared.circuit.NetKind.{NetKind}
use Rattle.mig_base.specs.Boards.{ChipUnit, circuit, driver_of, drives, kinds_of, units_from, wires_from}
use Rattle.mig_base.proofs.PlaceLaws.{places-within}
use Rattle.structure.specs.Live.{DrivesWire}
use Rattle.level_laws.specs.PureLevels.{DriversAreUnits}

wires-within : (net : Net) (units : List ChipUnit) (n : ℕ) (ks : List (NetKind × Pull)) (m u : ℕ) → DrivesWire u (slice_get (wires_from net units n ks) m) → u < length units
wires-within net units n [] m u a = absurd a
wires-within net units n (k ∷ ks) zero u a = let low : u < 0 + length units = places-within (drives net units n) 0 units u a in omega arith
wires-within net units n (k ∷ ks) (suc m) u a = wires-within net units (n + 1) ks m u a

pub drivers-units : (net : Net) (chips : List ChipCells) → DriversAreUnits (circuit net chips)
drivers-units net chips n u a =
    let low : u < length (units_from 0 chips) = wires-within net (units_from 0 chips) 0 (kinds_of net) n u a in
    let long : length (circuit net chips).units ≡ length (units_from 0 chips) = length-map (units_from 0 chips) (driver_of net (units_from 0 chips)) in
    omega arith

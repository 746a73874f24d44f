-- The boards that are migrated so far: PAL16 chips with registers, of which none reads combinational feedback.
use Rattle.std.specs.Prelude.{◌≡◌, ◌+◌, Bool, true, false, not, ◌&&◌, ◌==◌, nat_le, nat_lt, List, [], ◌∷◌, length, map, if◌then◌else◌, Option, Some, None, Ok, slice_get}
use Rattle.std.specs.List.{list_any, list_all}
use Rattle.std.specs.Str.{bytes_eq}
use Rattle.mig_base.specs.Structure.{has_no_driver}
use Rattle.mig_base.specs.declared.cells.ChipCells.{ChipCells}
use Rattle.mig_base.specs.declared.nets.Net.{Net}
use Rattle.mig_base.specs.declared.nets.ChipLine.{ChipLine}
use Rattle.mig_base.specs.declared.nets.Pull.{Pull}
use Rattle.mig_base.specs.declared.nets.Pull.TheVariants.{Free}
use Rattle.mig_base.specs.declared.circuit.Read.{Read}
use Rattle.mig_base.specs.declared.circuit.Read.TheVariants.{OfNet, OfRegister}
use Rattle.mig_base.specs.declared.circuit.Gives.{Gives}
use Rattle.mig_base.specs.declared.circuit.Gives.TheVariants.{Sum, Visible}
use Rattle.mig_base.specs.declared.circuit.Driver.{Driver}
use Rattle.mig_base.specs.declared.circuit.Register.{Register}
use Rattle.mig_base.specs.declared.circuit.NetKind.{NetKind}
use Rattle.mig_base.specs.declared.circuit.NetKind.TheVariants.{Handed}
use Rattle.mig_base.specs.declared.circuit.Wire.{Wire}
use Rattle.mig_base.specs.declared.circuit.Circuit.{Circuit}
use Rattle.mig_base.specs.DeviceTables.{is_pal16}
use Rattle.mig_base.specs.Values.{row_reads, sum_reads}
use Rattle.mig_base.specs.Accepted.{is_fixed}
use Rattle.mig_base.specs.Boards.{circuit}
use Rattle.mig_base.specs.BoardText.{is_both}
use Rattle.mig_base.specs.Given.{AreMade}
use Rattle.mig_base.specs.WrittenBoard.{are_distinct}
use Rattle.structure.specs.Absorbable.{is_sum}

abbrev pub is_free : Pull → Bool
is_free Free = true
is_free _ = false

-- the wiring of PAL16 chips, without pulls
abbrev pub is_taken_wiring : Net → Bool
is_taken_wiring net = list_all (λ c. is_pal16 c.kind) net.chips && list_all (λ l. is_free l.pull) net.nets

-- no Input port and no constant net has a driver, and no net two
abbrev pub has_few_drivers : Wire → Bool
has_few_drivers w = nat_le (length w.drivers) (if is_fixed w.kind then 0 else 1)

-- no net that has a driver: a net without one, or a register
abbrev pub is_undriven : Circuit → Read → Bool
is_undriven c (OfNet n) = has_no_driver (slice_get c.nets n)
is_undriven c (OfRegister k) = true

abbrev pub is_input_kind : NetKind → Bool
is_input_kind (Handed place) = true
is_input_kind _ = false

abbrev pub is_input_wire : Option Wire → Bool
is_input_wire None = false
is_input_wire (Some w) = is_input_kind w.kind

-- all registers have one Input port as clock net
abbrev pub have_one_clock : Circuit → List Register → Bool
have_one_clock c [] = true
have_one_clock c (r ∷ rs) = is_input_wire (slice_get c.nets r.clock) && list_all (λ s. s.clock == r.clock) rs

abbrev pub enable_undriven : Circuit → Driver → Bool
enable_undriven c d = list_all (is_undriven c) (row_reads d.enable)

abbrev pub is_combinational : Option Driver → Bool
is_combinational None = false
is_combinational (Some d) = is_sum d.gives

abbrev pub is_combinational_wire : Circuit → Option Wire → Bool
is_combinational_wire c None = false
is_combinational_wire c (Some w) = list_any (λ u. is_combinational (slice_get c.units u)) w.drivers

-- a net that has a combinational driver
abbrev pub is_combinational_net : Circuit → Read → Bool
is_combinational_net c (OfNet n) = is_combinational_wire c (slice_get c.nets n)
is_combinational_net c (OfRegister k) = false

-- a combinational unit reads none in its terms
abbrev pub terms_registered : Circuit → Gives → Bool
terms_registered c (Sum terms) = list_all (λ v. not (is_combinational_net c v)) (sum_reads terms)
terms_registered c (Visible k) = true

-- no Input port and no constant net has a driver, no net has two; all registers have one Input port as clock net;
-- no enable reads a net that has a driver, and no combinational unit one that has a combinational driver
abbrev pub is_taken_circuit : Circuit → Bool
is_taken_circuit c =
    list_all has_few_drivers c.nets && have_one_clock c c.registers && list_all (enable_undriven c) c.units && list_all (λ d. terms_registered c d.gives) c.units

-- no named net is a Both port
abbrev pub are_taken_ports : Net → Bool
are_taken_ports net = list_all (λ l. not (is_both l.port)) net.nets

abbrev pub is_taken_form : Net → List ChipCells → Bool
is_taken_form net chips = are_taken_ports net && is_taken_circuit (circuit net chips)

-- a board that is taken, whose cells some fuses make; chips have different names, and each pin line is on a constant or a named net
pub record TakenBoard (net : Net) (chips : List ChipCells) : Type 0 where
  pub wiring : is_taken_wiring net ≡ true
  pub names : are_distinct bytes_eq (map (λ c. c.name) net.chips) ≡ true
  pub lines : list_all (λ l. nat_lt l.net (2 + length net.nets)) net.pins ≡ true
  pub cells : AreMade net.chips chips
  pub form : is_taken_form net chips ≡ true

-- A unit drives one net at most, which is that of its pin.
use Rattle.std.proofs.Common.{ℕ, zero, suc, ◌≡◌, ◌<◌, ◌+◌, Bool, true, List, [], ◌∷◌, length, get_or, Option, Some, None, refl, sym, ap, ◌∙◌, subst, arith, eqb, eqb-true}
use Rattle.std.specs.Prelude.{slice_get}
use Rattle.std.specs.List.{zip}
use Rattle.std.proofs.lemmas.Bool.{and_parts}
use Rattle.std.proofs.lemmas.List.{get_or-map}
use Rattle.std.proofs.lemmas.Option.{get_or_from_slice_get, same_Some, slice_get_within}
use Rattle.mig_base.specs.declared.cells.ChipCells.{ChipCells}
use Rattle.mig_base.specs.declared.circuit.NetKind.{NetKind}
use Rattle.mig_base.specs.declared.circuit.Wire.{Wire}
use Rattle.mig_base.specs.declared.nets.Net.{Net}
use Rattle.mig_base.specs.declared.nets.Pull.{Pull}
use Rattle.mig_base.specs.Among.{Among}
use Rattle.mig_base.specs.Boards.{ChipUnit, at_of, can_drive, circuit, circuit_on, driver_of, drives, kinds_of, net_of, places_from, units_from, wires_from}
use Rattle.mig_base.proofs.PlaceLaws.{passes-at}
use Rattle.mig_base.proofs.ListLaws.{item-at}
use Rattle.structure.specs.Live.{DrivesWire}
use Rattle.board.specs.declared.Unit.{Unit as NamedUnit}
use Rattle.board.specs.Enables.{drivers_of}
use Rattle.board.specs.UnitLists.{cell_places, unit_on, units_on}
use Rattle.board.proofs.PlaceLaws.{zip-firsts}
use Rattle.board.proofs.UnitLaws.{length-cells, length-zip}

wires-drivers : (net : Net) (units : List ChipUnit) (n : ℕ) (ks : List (NetKind × Pull)) (m u : ℕ) → DrivesWire u (slice_get (wires_from net units n ks) m) → Among u (places_from (drives net units (n + m)) 0 units)
wires-drivers net units n [] m u a = absurd a
wires-drivers net units n (k ∷ ks) zero u a = let e : n ≡ n + 0 = omega arith in subst (λ (j : ℕ). Among u (places_from (drives net units j) 0 units)) e a
wires-drivers net units n (k ∷ ks) (suc m) u a =
    let e : n + 1 + m ≡ n + suc m = omega arith in
    subst (λ (j : ℕ). Among u (places_from (drives net units j) 0 units)) e (wires-drivers net units (n + 1) ks m u a)

-- the unit of a driver, whose pin is on the net
pub record IsOnNet (net : Net) (units : List ChipUnit) (n u : ℕ) : Type 0 where
  pub unit : ChipUnit
  pub is : slice_get units u ≡ Some unit
  pub on : net_of net (at_of unit) ≡ n

pub driver-on : (net : Net) (units : List ChipUnit) (n u : ℕ) → DrivesWire u (slice_get (circuit_on net units).nets n) → IsOnNet net units n u
driver-on net units n u d =
    let p = passes-at (drives net units (0 + n)) 0 units u (wires-drivers net units 0 (kinds_of net) n u d) in
    let number : p.place ≡ u = let e : 0 + p.place ≡ p.place = omega arith in sym (p.number ∙ e) in
    let parts = and_parts (eqb (net_of net (at_of p.item)) (0 + n)) (can_drive (driver_of net units p.item).enable) p.passes in
    let on : 0 + n ≡ n = omega arith in
    record { unit = p.item; is = subst (λ (j : ℕ). slice_get units j ≡ Some p.item) number p.is; on = eqb-true (net_of net (at_of p.item)) (0 + n) parts.0 ∙ on }

-- a unit drives the net of its pin
pub driven-pin : (net : Net) (chips : List ChipCells) (n u : ℕ) (unit : ChipUnit) → slice_get (units_from 0 chips) u ≡ Some unit → DrivesWire u (slice_get (circuit net chips).nets n) → n ≡ net_of net (at_of unit)
driven-pin net chips n u unit is d =
    let o = driver-on net (units_from 0 chips) n u d in
    sym o.on ∙ ap (λ (x : ChipUnit). net_of net (at_of x)) (same_Some o.unit unit (sym o.is ∙ is))

-- a unit drives one net at most
pub one-net : (net : Net) (chips : List ChipCells) (n m u : ℕ) → DrivesWire u (slice_get (circuit net chips).nets n) → DrivesWire u (slice_get (circuit net chips).nets m) → n ≡ m
one-net net chips n m u a b =
    let o = driver-on net (units_from 0 chips) n u a in
    driven-pin net chips n u o.unit o.is a ∙ sym (driven-pin net chips m u o.unit o.is b)

-- a unit by name has the net of its pin
pub named-net : (net : Net) (chips : List ChipCells) (u : ℕ) (r : NamedUnit) → u < length (units_from 0 chips) → r ≡ get_or (units_on net chips) u r →
    (unit : ChipUnit) × (slice_get (units_from 0 chips) u ≡ Some unit) × (r.net ≡ net_of net (at_of unit))
named-net net chips u r h e =
    let pairs : List (ChipUnit × ℕ) = zip (units_from 0 chips) (cell_places chips) in
    let long : length pairs ≡ length (units_from 0 chips) = length-zip (units_from 0 chips) (cell_places chips) (length-cells 0 chips) in
    let within : u < length pairs = omega arith in
    let found = item-at pairs u within in
    let p : ChipUnit × ℕ = found.0 in
    let at : get_or pairs u p ≡ p = get_or_from_slice_get pairs u p p found.1 in
    let is : r ≡ unit_on net p = e ∙ get_or-map (unit_on net) pairs u p r within ∙ ap (unit_on net) at in
    (p.0, zip-firsts (units_from 0 chips) (cell_places chips) u p found.1, ap (λ (x : NamedUnit). x.net) is)

-- each net that has a unit among its drivers is that of the unit by name
pub driven-named : (net : Net) (chips : List ChipCells) (n u : ℕ) (r : NamedUnit) → u < length (units_from 0 chips) → r ≡ get_or (units_on net chips) u r → DrivesWire u (slice_get (circuit net chips).nets n) → n ≡ r.net
driven-named net chips n u r h e d = let p = named-net net chips u r h e in driven-pin net chips n u p.0 p.1 d ∙ sym p.2

-- a net with a driver is one of the board
pub driven-within : (ws : List Wire) (n u : ℕ) → DrivesWire u (slice_get ws n) → n < length ws
driven-within ws n u d = at (slice_get ws n) refl d
  where
    at : (o : Option Wire) → slice_get ws n ≡ o → DrivesWire u o → n < length ws
    at None e d = absurd d
    at (Some w) e d = slice_get_within ws n w e

-- the drivers of a net drive it
pub driver-drives : (o : Option Wire) (u : ℕ) → Among u (drivers_of o) → DrivesWire u o
driver-drives None u a = absurd a
driver-drives (Some w) u a = a

pub drives-driver : (o : Option Wire) (u : ℕ) → DrivesWire u o → Among u (drivers_of o)
drives-driver None u d = absurd d
drives-driver (Some w) u d = d

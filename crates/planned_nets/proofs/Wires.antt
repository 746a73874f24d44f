-- The wires of a board and their drivers, by the kinds of its nets and the pins of its units.
use Rattle.std.proofs.Common.{ℕ, ◌≡◌, ◌+◌, true, List, Option, Some, None, refl, sym, ap, ◌∙◌, subst, eqb, eqb-true, eq-eqb, arith}
use Rattle.std.specs.List.{slice_get}
use Rattle.std.specs.Option.{option_map}
use Rattle.std.proofs.lemmas.Bool.{and_parts, and_from}
use Rattle.std.proofs.lemmas.Option.{same_Some, slice_get-map}
use Rattle.mig_base.specs.declared.nets.Net.{Net}
use Rattle.mig_base.specs.declared.nets.Pull.{Pull}
use Rattle.mig_base.specs.declared.circuit.NetKind.{NetKind}
use Rattle.mig_base.specs.declared.circuit.Driver.{Driver}
use Rattle.mig_base.specs.declared.circuit.Wire.{Wire}
use Rattle.mig_base.specs.Among.{Among}
use Rattle.mig_base.specs.Boards.{ChipUnit, at_of, can_drive, circuit_on, driver_of, drives, kinds_of, net_of}
use Rattle.mig_base.proofs.PlaceLaws.{passes-at}
use Rattle.new_board.proofs.KeptNets.{get-places}
use Rattle.new_board.proofs.Wiring.{wire_of}
use Rattle.rebuilt_boards.proofs.RebuiltCircuit.{old-wire}

-- a unit that drives a net
pub record IsDriver (net : Net) (units : List ChipUnit) (n v : ℕ) : Type 0 where
  pub unit : ChipUnit
  pub found : slice_get units v ≡ Some unit
  pub on : net_of net (at_of unit) ≡ n
  pub can : can_drive (driver_of net units unit).enable ≡ true

module _ (net : Net) (units : List ChipUnit) where
  -- the wire of a net of this kind
  pub kind-wire : (n : ℕ) (k : NetKind × Pull) → slice_get (kinds_of net) n ≡ Some k → slice_get (circuit_on net units).nets n ≡ Some (wire_of net units n k)
  kind-wire n k e = old-wire net units n ∙ ap (option_map (wire_of net units n)) e

  pub wire-kind : (n : ℕ) (w : Wire) → slice_get (circuit_on net units).nets n ≡ Some w → (k : NetKind × Pull) × (slice_get (kinds_of net) n ≡ Some k) × (w ≡ wire_of net units n k)
  wire-kind n w e = at (slice_get (kinds_of net) n) refl (sym (old-wire net units n) ∙ e)
    where
      at : (o : Option (NetKind × Pull)) → slice_get (kinds_of net) n ≡ o → option_map (wire_of net units n) o ≡ Some w → (k : NetKind × Pull) × (slice_get (kinds_of net) n ≡ Some k) × (w ≡ wire_of net units n k)
      at None is h = cc
      at (Some k) is h = (k, is, sym (same_Some (wire_of net units n k) w h))

  -- its drivers
  pub wire-driver : (n v : ℕ) (w : Wire) → slice_get (circuit_on net units).nets n ≡ Some w → Among v w.drivers → IsDriver net units n v
  wire-driver n v w e a =
      let k = wire-kind n w e in
      let p = passes-at (drives net units n) 0 units v (subst (λ (x : Wire). Among v x.drivers) k.2 a) in
      let number : p.place ≡ v = let start : 0 + p.place ≡ p.place = omega arith in sym (p.number ∙ start) in
      let parts = and_parts (eqb (net_of net (at_of p.item)) n) (can_drive (driver_of net units p.item).enable) p.passes in
      record { unit = p.item; found = subst (λ (j : ℕ). slice_get units j ≡ Some p.item) number p.is; on = eqb-true (net_of net (at_of p.item)) n parts.0; can = parts.1 }

  pub driver-wire : (n v : ℕ) (w : Wire) → slice_get (circuit_on net units).nets n ≡ Some w → IsDriver net units n v → Among v w.drivers
  driver-wire n v w e d =
      let k = wire-kind n w e in
      subst (λ (x : Wire). Among v x.drivers) (sym k.2)
      (get-places (drives net units n) 0 v v units d.unit d.found (and_from (eqb (net_of net (at_of d.unit)) n) (can_drive (driver_of net units d.unit).enable) (eq-eqb (net_of net (at_of d.unit)) n d.on) d.can) (omega arith))

  -- the unit of an equation
  pub unit-there : (u : ℕ) (d : Driver) → slice_get (circuit_on net units).units u ≡ Some d → (x : ChipUnit) × (slice_get units u ≡ Some x) × (d ≡ driver_of net units x)
  unit-there u d e = at (slice_get units u) refl (sym (slice_get-map (driver_of net units) units u) ∙ e)
    where
      at : (o : Option ChipUnit) → slice_get units u ≡ o → option_map (driver_of net units) o ≡ Some d → (x : ChipUnit) × (slice_get units u ≡ Some x) × (d ≡ driver_of net units x)
      at None is h = cc
      at (Some x) is h = (x, is, sym (same_Some (driver_of net units x) d h))

  -- the equation of a unit
  pub unit-driver : (u : ℕ) (x : ChipUnit) → slice_get units u ≡ Some x → slice_get (circuit_on net units).units u ≡ Some (driver_of net units x)
  unit-driver u x e = slice_get-map (driver_of net units) units u ∙ ap (option_map (driver_of net units)) e

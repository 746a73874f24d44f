-- A unit drives one net at most, and a Both port is a port.
use Rattle.std.proofs.Common.{ℕ, zero, suc, ◌≡◌, ◌+◌, Bool, true, false, cond, List, [], ◌∷◌, ◌++◌, map, Some, refl, sym, ap, ◌∙◌, subst, inl, arith}
use Rattle.std.specs.List.{slice_get}
use Rattle.std.proofs.lemmas.Option.{same_Some}
use Rattle.mig_base.specs.declared.nets.Net.{Net}
use Rattle.mig_base.specs.declared.nets.NetLine.{NetLine}
use Rattle.mig_base.specs.declared.nets.Pull.{Pull}
use Rattle.mig_base.specs.declared.nets.Pull.TheVariants.{Free}
use Rattle.mig_base.specs.declared.nets.Port.{Port}
use Rattle.mig_base.specs.declared.nets.Port.TheVariants as port
use Rattle.mig_base.specs.declared.circuit.NetKind.{NetKind}
use Rattle.mig_base.specs.declared.circuit.NetKind.TheVariants.{Ground, Power, Inner}
use Rattle.mig_base.specs.declared.circuit.Wire.{Wire}
use Rattle.mig_base.specs.Among.{Among}
use Rattle.mig_base.specs.Boards.{ChipUnit, at_of, circuit_on, drives, is_handed, is_port, is_port_kind, kind_at, kinds_from, kinds_of, net_of, places_from, privates, wires_from}
use Rattle.mig_base.specs.Structure.{is_shared}
use Rattle.mig_base.proofs.Amongs.{among-right}
use Rattle.structure.specs.Live.{DrivesWire}
use Rattle.board.proofs.DrivenLaws.{driver-on}

module _ (net : Net) (units : List ChipUnit) where
  -- a unit drives one net at most
  pub one-net : (n m u : ℕ) → DrivesWire u (slice_get (circuit_on net units).nets n) → DrivesWire u (slice_get (circuit_on net units).nets m) → n ≡ m
  one-net n m u a b =
      let x = driver-on net units n u a in
      let y = driver-on net units m u b in
      sym x.on ∙ ap (λ (z : ChipUnit). net_of net (at_of z)) (same_Some x.unit y.unit (sym x.is ∙ y.is)) ∙ y.on

  private-kind : {T : Type 0} (ps : List T) (j : ℕ) (k : NetKind × Pull) → slice_get (map (λ q. (Inner, Free)) ps) j ≡ Some k → is_shared k.0 ≡ true → ⊥
  private-kind [] j k e s = cc
  private-kind (p ∷ ps) zero k e s = let inner : Inner ≡ k.0 = ap (λ (q : NetKind × Pull). q.0) (same_Some (Inner, Free) k e) in let wrong : false ≡ true = ap is_shared inner ∙ s in cc
  private-kind (p ∷ ps) (suc j) k e s = private-kind ps j k e s

  shared-line : {T : Type 0} (place i : ℕ) (ls : List NetLine) (ps : List T) (j : ℕ) (k : NetKind × Pull) → slice_get (kinds_from place ls ++ map (λ q. (Inner, Free)) ps) j ≡ Some k → is_shared k.0 ≡ true →
      Among (i + j) (places_from is_port i ls)
  shared-line place i [] ps j k e s = absurd (private-kind ps j k e s)
  shared-line {T} place i (l ∷ ls) ps zero k e s =
      let shared : is_shared (kind_at place l.port) ≡ true = ap (λ (q : NetKind × Pull). is_shared q.0) (same_Some (kind_at place l.port, l.pull) k e) ∙ s in
      at l.port refl shared
    where
      at : (p : Port) → l.port ≡ p → is_shared (kind_at place p) ≡ true → Among (i + 0) (cond (is_port l) (i ∷ []) [] ++ places_from is_port (i + 1) ls)
      at port.Inner is s = cc
      at port.Input is s = cc
      at port.Output is s = cc
      at port.Both is s = by (is_port l) refl
        where
          by : (q : Bool) → is_port l ≡ q → Among (i + 0) (cond q (i ∷ []) [] ++ places_from is_port (i + 1) ls)
          by true e = inl (omega arith)
          by false e = let wrong : true ≡ false = sym (ap is_port_kind is) ∙ e in cc
  shared-line place i (l ∷ ls) ps (suc j) k e s =
      let n : i + 1 + j ≡ i + suc j = omega arith in
      among-right (i + suc j) (cond (is_port l) (i ∷ []) []) (places_from is_port (i + 1) ls)
      (subst (λ (m : ℕ). Among m (places_from is_port (i + 1) ls)) n (shared-line (cond (is_handed l.port) (place + 1) place) (i + 1) ls ps j k e s))

  wire-kinds : (n : ℕ) (ks : List (NetKind × Pull)) (m : ℕ) (w : Wire) → slice_get (wires_from net units n ks) m ≡ Some w → (k : NetKind × Pull) × (slice_get ks m ≡ Some k) × (w.kind ≡ k.0)
  wire-kinds n [] m w e = cc
  wire-kinds n (k ∷ ks) zero w e = (k, refl, sym (ap (λ (x : Wire). x.kind) (same_Some (record { kind = k.0; pull = k.1; drivers = places_from (drives net units n) 0 units }) w e)))
  wire-kinds n (k ∷ ks) (suc m) w e = wire-kinds (n + 1) ks m w e

  -- the net of a Both port is a port
  pub shared-port : (n : ℕ) (w : Wire) → slice_get (circuit_on net units).nets n ≡ Some w → is_shared w.kind ≡ true → Among n (circuit_on net units).ports
  shared-port n w e s = let k = wire-kinds 0 (kinds_of net) n w e in at n k.0 k.1 (sym (ap is_shared k.2) ∙ s)
    where
      at : (n : ℕ) (k : NetKind × Pull) → slice_get (kinds_of net) n ≡ Some k → is_shared k.0 ≡ true → Among n (places_from is_port 2 net.nets)
      at zero k e s = let is : Ground ≡ k.0 = ap (λ (q : NetKind × Pull). q.0) (same_Some (Ground, Free) k e) in let wrong : false ≡ true = ap is_shared is ∙ s in cc
      at (suc zero) k e s = let is : Power ≡ k.0 = ap (λ (q : NetKind × Pull). q.0) (same_Some (Power, Free) k e) in let wrong : false ≡ true = ap is_shared is ∙ s in cc
      at (suc (suc j)) k e s =
          let m : 2 + j ≡ suc (suc j) = omega arith in
          subst (λ (i : ℕ). Among i (places_from is_port 2 net.nets)) m (shared-line 0 2 net.nets (privates net) j k e s)

-- Nets that an absorbed unit alone drives.
use Rattle.std.proofs.Common.{ℕ, ◌≡◌, true, List, [], ◌∷◌, Option, Some, None, refl, sym, ap, ◌∙◌, subst, inl, eqb, eqb-true, eq-eqb}
use Rattle.std.specs.List.{slice_get}
use Rattle.mig_base.specs.declared.circuit.NetKind.{NetKind}
use Rattle.mig_base.specs.declared.circuit.NetKind.TheVariants.{Ground, Power, Handed, Shared, Inner}
use Rattle.mig_base.specs.declared.circuit.Read.TheVariants.{OfNet}
use Rattle.mig_base.specs.declared.circuit.Wire.{Wire}
use Rattle.mig_base.specs.declared.circuit.Circuit.{Circuit}
use Rattle.mig_base.specs.Accepted.{IsAccepted, is_fixed}
use Rattle.mig_base.specs.Among.{Among}
use Rattle.mig_base.specs.Structure.{is_shared}
use Rattle.mig_base.proofs.Amongs.{among-any, any-among}
use Rattle.structure.specs.Absorbable.{IsAbsorbable}
use Rattle.structure.specs.Live.{DrivesWire}
use Rattle.plans.specs.Forms.{is_absorbed_read, is_absorbed_wire, is_sole_absorbed}
use Rattle.fitting_levels.specs.Fitting.{IsAbsorbed}
use Rattle.fitting_levels.specs.Wired.{IsWired}

-- the absorbed unit of a net that is absorbed
pub absorbed-net : (c : Circuit) (absorbed : List ℕ) (n : ℕ) → is_absorbed_read c absorbed (OfNet n) ≡ true → (u : ℕ) × IsAbsorbed c absorbed n u
absorbed-net c absorbed n e = at (slice_get c.nets n) refl e
  where
    by : (w : Wire) → slice_get c.nets n ≡ Some w → (ds : List ℕ) → w.drivers ≡ ds → is_sole_absorbed absorbed ds ≡ true → (u : ℕ) × IsAbsorbed c absorbed n u
    by w on [] is h = cc
    by w on (u ∷ []) is h =
        let found = any-among (λ a. eqb a u) absorbed h in
        (u, record { wire = w; on = on; alone = is; listed = subst (λ (x : ℕ). Among x absorbed) (eqb-true found.0 u found.2) found.1 })
    by w on (u ∷ v ∷ vs) is h = cc

    at : (o : Option Wire) → slice_get c.nets n ≡ o → is_absorbed_wire absorbed o ≡ true → (u : ℕ) × IsAbsorbed c absorbed n u
    at None on h = cc
    at (Some w) on h = by w on w.drivers refl h

pub net-absorbed : (c : Circuit) (absorbed : List ℕ) (n u : ℕ) → IsAbsorbed c absorbed n u → is_absorbed_read c absorbed (OfNet n) ≡ true
net-absorbed c absorbed n u is =
    ap (is_absorbed_wire absorbed) is.on ∙ ap (is_sole_absorbed absorbed) is.alone ∙ among-any (λ a. eqb a u) u absorbed is.listed (eq-eqb u u refl)

module _ (c : Circuit) (absorbed : List ℕ) (may : (u : ℕ) → Among u absorbed → IsAbsorbable c u) (wired : IsWired c) where
  drives-alone : (o : Option Wire) (w : Wire) (u : ℕ) → o ≡ Some w → w.drivers ≡ u ∷ [] → DrivesWire u o
  drives-alone o w u on alone = subst (DrivesWire u) (sym on) (subst (Among u) (sym alone) (inl refl))

  -- the net that an absorbed unit drives is the one that it is absorbed for
  pub own-net : (n u : ℕ) → Among u absorbed → DrivesWire u (slice_get c.nets n) → IsAbsorbed c absorbed n u
  own-net n u listed d =
      let m = may u listed in
      let same : m.0 ≡ n = wired.one_net m.0 n u (drives-alone (slice_get c.nets m.0) m.1.wire u m.1.on m.1.alone) d in
      record { wire = m.1.wire; on = ap (slice_get c.nets) (sym same) ∙ m.1.on; alone = m.1.alone; listed = listed }

  -- it is no port
  pub absorbed-no-port : (n u : ℕ) → IsAbsorbed c absorbed n u → Among n c.ports → ⊥
  absorbed-no-port n u is port =
      let m = may u is.listed in
      let same : m.0 ≡ n = wired.one_net m.0 n u (drives-alone (slice_get c.nets m.0) m.1.wire u m.1.on m.1.alone) (drives-alone (slice_get c.nets n) is.wire u is.on is.alone) in
      m.1.no_port (subst (λ (k : ℕ). Among k c.ports) (sym same) port)

  -- and an inner net
  pub absorbed-inner : (n u : ℕ) → IsAccepted c → (is : IsAbsorbed c absorbed n u) → is.wire.kind ≡ Inner
  absorbed-inner n u accepted is = at is.wire.kind refl
    where
      driven : is_fixed is.wire.kind ≡ true → ⊥
      driven e = let none : u ∷ [] ≡ [] = sym is.alone ∙ accepted.driven n is.wire is.on e in cc

      shared : is_shared is.wire.kind ≡ true → ⊥
      shared e = absorbed-no-port n u is (wired.shared n is.wire is.on e)

      at : (k : NetKind) → is.wire.kind ≡ k → k ≡ Inner
      at Ground e = absurd (driven (ap is_fixed e))
      at Power e = absurd (driven (ap is_fixed e))
      at (Handed place) e = absurd (driven (ap is_fixed e))
      at (Shared place) e = absurd (shared (ap is_shared e))
      at Inner e = refl

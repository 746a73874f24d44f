-- What a part names is read over some way, and what stands behind it is live where the part's unit is.
use Rattle.std.proofs.Common.{ℕ, zero, suc, ◌≡◌, Bool, true, List, [], ◌∷◌, ◌++◌, Option, Some, None, refl, sym, ap, ◌∙◌, subst, inl, inr}
use Rattle.std.specs.List.{slice_get}
use Rattle.mig_base.specs.declared.circuit.Read.{Read}
use Rattle.mig_base.specs.declared.circuit.Read.TheVariants.{OfNet, OfRegister}
use Rattle.mig_base.specs.declared.circuit.Gives.{Gives}
use Rattle.mig_base.specs.declared.circuit.Gives.TheVariants.{Sum, Visible}
use Rattle.mig_base.specs.declared.circuit.Driver.{Driver}
use Rattle.mig_base.specs.declared.circuit.Wire.{Wire}
use Rattle.mig_base.specs.declared.circuit.Circuit.{Circuit}
use Rattle.mig_base.specs.Accepted.{Walk}
use Rattle.mig_base.specs.Among.{Among}
use Rattle.mig_base.specs.Reads.{gives_reads, driver_reads, reads_of_wire, node_reads}
use Rattle.mig_base.specs.Structure.{alias_of, or_alias}
use Rattle.mig_base.specs.Values.{row_reads}
use Rattle.structure.specs.Live.{part_reads, reads_of_unit, unit_reads, DrivesWire, GivesQ, HasRegister, StandsBehind, IsLiveSet}
use Rattle.fitting_levels.specs.Fitting.{IsAbsorbed}
use Rattle.fitting_levels.specs.Wired.{IsWired}
use Rattle.carried_boards.specs.Carries.{variable_at}
use Rattle.placed_boards.specs.Places.{sum_reads_of, logic_reads_by, logic_reads, Named}
use Rattle.placed_boards.specs.Places.Named.{itself, behind}
use Rattle.mig_base.proofs.Amongs.{among-right, among-flat_map}
use Rattle.mig_base.proofs.Aliases.{alias-is}

-- the variable of a net

pub variable-none : (c : Circuit) (n : ℕ) → alias_of c n ≡ None → variable_at c (OfNet n) ≡ OfNet n
variable-none c n e = ap (λ (o : Option (ℕ × Bool)). (or_alias o (record { source = OfNet n; high = true })).source) e

pub variable-some : (c : Circuit) (n : ℕ) (x : ℕ × Bool) → alias_of c n ≡ Some x → variable_at c (OfNet n) ≡ OfRegister x.0
variable-some c n x e = ap (λ (o : Option (ℕ × Bool)). (or_alias o (record { source = OfNet n; high = true })).source) e

-- what a driver of a net reads, the net reads
pub driver-reads : (c : Circuit) (n u : ℕ) (w : Wire) (d : Driver) (x : Read) → slice_get c.nets n ≡ Some w → Among u w.drivers → slice_get c.units u ≡ Some d →
    Among x (row_reads d.enable ++ gives_reads d.gives) → Among x (node_reads c (OfNet n))
driver-reads c n u w d x en au ed ax =
    subst (λ (o : Option Wire). Among x (reads_of_wire c o)) (sym en)
    (among-flat_map (λ (i : ℕ). driver_reads (slice_get c.units i)) u x w.drivers au (subst (λ (o : Option Driver). Among x (driver_reads o)) (sym ed) ax))

alias-read : (c : Circuit) (n : ℕ) (x : ℕ × Bool) → alias_of c n ≡ Some x → Among (OfRegister x.0) (node_reads c (OfNet n))
alias-read c n x e =
    let i = alias-is c n x e in
    driver-reads c n i.unit i.wire i.driver (OfRegister x.0) i.found (subst (Among i.unit) (sym i.only) (inl refl)) i.unit_is
    (among-right (OfRegister x.0) (row_reads i.driver.enable) (gives_reads i.driver.gives)
    (subst (λ (g : Gives). Among (OfRegister x.0) (gives_reads g)) (sym i.alias.gives) (inl refl)))

-- what a unit's terms read, its net reads
logic-read : (c : Circuit) (absorbed : List ℕ) (n u : ℕ) → IsAbsorbed c absorbed n u → (w : Read) → Among w (logic_reads c u) → Among w (node_reads c (OfNet n))
logic-read c absorbed n u a w aw = at (slice_get c.units u) refl aw
  where
    sums : (g : Gives) → Among w (sum_reads_of g) → Among w (gives_reads g)
    sums (Sum ts) h = h
    sums (Visible k) h = absurd h

    at : (o : Option Driver) → slice_get c.units u ≡ o → Among w (logic_reads_by o) → Among w (node_reads c (OfNet n))
    at None e h = absurd h
    at (Some d) e h =
        driver-reads c n u a.wire d w a.on (subst (Among u) (sym a.alone) (inl refl)) e (among-right w (row_reads d.enable) (gives_reads d.gives) (sums d.gives h))

-- a variable that is named is read over some way
pub named-walk : (c : Circuit) (absorbed : List ℕ) (v x : Read) (reads : List Read) → ((w : Read) → Among w reads → Among w (node_reads c x)) → Named c absorbed v reads → (k : ℕ) × Walk c k x v
named-walk c absorbed v x reads within (itself (OfRegister k) aw e) = (zero, subst (λ (q : Read). Among q (node_reads c x)) e (within (OfRegister k) aw))
named-walk c absorbed v x reads within (itself (OfNet n) aw e) = at (alias_of c n) refl
  where
    at : (o : Option (ℕ × Bool)) → alias_of c n ≡ o → (k : ℕ) × Walk c k x v
    at None is = (zero, subst (λ (q : Read). Among q (node_reads c x)) (sym (variable-none c n is) ∙ e) (within (OfNet n) aw))
    at (Some y) is =
        (suc zero, (OfNet n, within (OfNet n) aw, subst (λ (q : Read). Among q (node_reads c (OfNet n))) (sym (variable-some c n y is) ∙ e) (alias-read c n y is)))
named-walk c absorbed v x reads within (behind n u an a rest) =
    let r = named-walk c absorbed v (OfNet n) (logic_reads c u) (logic-read c absorbed n u a) rest in
    (suc r.0, (OfNet n, within (OfNet n) an, r.1))

-- liveness

module _ (c : Circuit) (live : ℕ → Bool) (wired : IsWired c) (set : IsLiveSet c live) where
  -- each unit behind a node is live
  abbrev pub AreLive : Read → Type 0
  AreLive v = (u : ℕ) → StandsBehind c u v → live u ≡ true

  pub only-one : (u w : ℕ) (ds : List ℕ) → ds ≡ u ∷ [] → Among w ds → w ≡ u
  only-one u w ds e a = at (subst (Among w) e a)
    where
      at : Among w (u ∷ []) → w ≡ u
      at (inl same) = same
      at (inr none) = absurd none

  -- the unit of an alias net
  alias-owner : (n : ℕ) (x : ℕ × Bool) (is : alias_of c n ≡ Some x) → HasRegister x.0 (slice_get c.units (alias-is c n x is).unit)
  alias-owner n x is =
      let i = alias-is c n x is in
      subst (HasRegister x.0) (sym i.unit_is) (subst (GivesQ x.0) (sym i.alias.gives) refl)

  alias-driver : (n u : ℕ) (x : ℕ × Bool) (is : alias_of c n ≡ Some x) → StandsBehind c u (OfNet n) → u ≡ (alias-is c n x is).unit
  alias-driver n u x is s =
      let i = alias-is c n x is in
      only-one i.unit u i.wire.drivers i.only (subst (DrivesWire u) i.found s)

  to-variable : (v : Read) → AreLive v → AreLive (variable_at c v)
  to-variable (OfRegister k) h = h
  to-variable (OfNet n) h = at (alias_of c n) refl
    where
      at : (o : Option (ℕ × Bool)) → alias_of c n ≡ o → AreLive (variable_at c (OfNet n))
      at None is = subst AreLive (sym (variable-none c n is)) h
      at (Some x) is = subst AreLive (sym (variable-some c n x is)) by
        where
          by : AreLive (OfRegister x.0)
          by u s =
              let i = alias-is c n x is in
              let same : u ≡ i.unit = wired.one_unit x.0 u i.unit s.1 (alias-owner n x is) in
              ap live same ∙ h i.unit (subst (DrivesWire i.unit) (sym i.found) (subst (Among i.unit) (sym i.only) (inl refl)))

  from-variable : (v : Read) → AreLive (variable_at c v) → AreLive v
  from-variable (OfRegister k) h = h
  from-variable (OfNet n) h = at (alias_of c n) refl
    where
      at : (o : Option (ℕ × Bool)) → alias_of c n ≡ o → AreLive (OfNet n)
      at None is = subst AreLive (variable-none c n is) h
      at (Some x) is = by
        where
          register : AreLive (OfRegister x.0)
          register = subst AreLive (variable-some c n x is) h

          by : AreLive (OfNet n)
          by u s =
              let i = alias-is c n x is in
              ap live (alias-driver n u x is s) ∙ register i.unit (wired.registers x.0 i.unit (alias-owner n x is), alias-owner n x is)

  logic-part : (u : ℕ) (w : Read) → Among w (logic_reads c u) → Among w (unit_reads c u)
  logic-part u w aw = at (slice_get c.units u) aw
    where
      sums : (g : Gives) → Among w (sum_reads_of g) → Among w (part_reads c g)
      sums (Sum ts) h = h
      sums (Visible k) h = absurd h

      at : (o : Option Driver) → Among w (logic_reads_by o) → Among w (reads_of_unit c o)
      at None h = absurd h
      at (Some d) h = among-right w (row_reads d.enable) (part_reads c d.gives) (sums d.gives h)

  -- a node whose variable is named by what a live unit reads
  pub named-live : (absorbed : List ℕ) (v : Read) (u : ℕ) (reads : List Read) → live u ≡ true → ((w : Read) → Among w reads → Among w (unit_reads c u)) →
      Named c absorbed v reads → (x : Read) → variable_at c x ≡ v → AreLive x
  named-live absorbed v u reads on within (itself w aw e) x is =
      from-variable x (subst AreLive (e ∙ sym is) (to-variable w (λ y s. set.reads u w y on (within w aw) s)))
  named-live absorbed v u reads on within (behind n y an a rest) x is =
      let drives : StandsBehind c y (OfNet n) = subst (DrivesWire y) (sym a.on) (subst (Among y) (sym a.alone) (inl refl)) in
      named-live absorbed v y (logic_reads c y) (set.reads u (OfNet n) y on (within (OfNet n) an) drives) (logic-part y) rest x is

-- A board that places units of an accepted one carries it.
use Rattle.std.proofs.Common.{ℕ, zero, ◌≡◌, ◌⊎◌, ◌<◌, ltb, Bool, true, false, List, [], ◌∷◌, ◌++◌, length, Option, Some, None, refl, sym, ap, ◌∙◌, subst, inl, inr, arith}
use Rattle.std.specs.List.{AllByRecursion, flat_map, slice_get}
use Rattle.std.proofs.lemmas.Bool.{and_parts, and_from}
use Rattle.std.proofs.lemmas.Bool.Decides.{nat_tests}
use Rattle.std.proofs.lemmas.Option.{same_Some, slice_get_within}
use Rattle.mig_base.specs.declared.levels.Level.{Level}
use Rattle.mig_base.specs.declared.circuit.Read.{Read}
use Rattle.mig_base.specs.declared.circuit.Read.TheVariants.{OfNet, OfRegister}
use Rattle.mig_base.specs.declared.circuit.Gives.{Gives}
use Rattle.mig_base.specs.declared.circuit.Gives.TheVariants.{Sum, Visible}
use Rattle.mig_base.specs.declared.circuit.Driver.{Driver}
use Rattle.mig_base.specs.declared.circuit.Register.{Register}
use Rattle.mig_base.specs.declared.circuit.NetKind.{NetKind}
use Rattle.mig_base.specs.declared.circuit.NetKind.TheVariants.{Ground, Power, Handed, Shared, Inner}
use Rattle.mig_base.specs.declared.circuit.Wire.{Wire}
use Rattle.mig_base.specs.declared.circuit.Circuit.{Circuit}
use Rattle.mig_base.specs.Accepted.{Walk, IsAccepted, is_fixed}
use Rattle.mig_base.specs.Among.{Among}
use Rattle.mig_base.specs.Levels.{and3, or3, not3, or_x}
use Rattle.mig_base.specs.Reads.{gives_reads, driver_reads, reads_of_wire, reads_of_register, node_reads, edge_reads}
use Rattle.mig_base.specs.Structure.{alias_of}
use Rattle.mig_base.specs.Values.{inverted, row_reads, sum_reads}
use Rattle.level_laws.specs.Settled.{gated}
use Rattle.structure.specs.Live.{part_reads, reads_of_unit, unit_reads, reads_at_edge, DrivesWire, GivesQ, HasRegister, NotHanded, WireNotHanded}
use Rattle.fitting_levels.specs.NodeValues.{NodeLevels, gate_by, terms_by, gives_by, logic_by, drive_by}
use Rattle.fitting_levels.specs.Fitting.{net_kind, wire_kind}
use Rattle.fitting_levels.specs.Wired.{IsWired}
use Rattle.carried_boards.specs.Carries.{Numbers, old_node, through, variable_at, IsBelow, Kept, IsKept, StandsFor, Floats, IsCarriedNet, IsCarriedRegister, Carries}
use Rattle.placed_boards.specs.Places.{Named, IsPart, GivesAlike, IsPlacedUnit, IsPlacedRegister, IsPlacedNet, IsSeen, Places, all_live, kept_of}
use Rattle.placed_boards.specs.Places.Named.{itself, behind}
use Rattle.mig_base.proofs.Amongs.{among-left, among-right, among-split, all-among, map-among, pass-all}
use Rattle.mig_base.proofs.ListLaws.{item-at}
use Rattle.mig_base.proofs.Aliases.{IsAlias, alias-is}
use Rattle.carried_boards.proofs.Ranks.{wire-of}
use Rattle.placed_boards.proofs.RowParts.{all-pass}
use Rattle.placed_boards.proofs.Naming.{variable-none, variable-some, driver-reads, named-walk, AreLive, only-one, named-live}

among-unflat_map : {T S : Type 0} (f : T → List S) (y : S) (xs : List T) → Among y (flat_map f xs) → (x : T) × Among x xs × Among y (f x)
among-unflat_map f y [] a = absurd a
among-unflat_map {T} f y (z ∷ zs) a = at (among-split y (f z) (flat_map f zs) a) (among-unflat_map f y zs)
  where
    at : Among y (f z) ⊎ Among y (flat_map f zs) → (Among y (flat_map f zs) → (x : T) × Among x zs × Among y (f x)) → (x : T) × Among x (z ∷ zs) × Among y (f x)
    at (inl h) rest = (z, inl refl, h)
    at (inr h) rest = let r = rest h in (r.0, inr r.1, r.2)

not-named : (c : Circuit) (absorbed : List ℕ) (v : Read) (reads : List Read) → reads ≡ [] → Named c absorbed v reads → ⊥
not-named c absorbed v reads e (itself w aw is) = subst (Among w) e aw
not-named c absorbed v reads e (behind n u an a rest) = subst (Among (OfNet n)) e an

module _ (a b : Circuit) (absorbed : List ℕ) (live : ℕ → Bool) (owner : ℕ → ℕ) (old : Numbers) (seen : ℕ → Bool) (accepted : IsAccepted a) (wired : IsWired a) (new_wired : IsWired b)
    (p : Places a b absorbed live owner old seen) where
  abbrev kept : Kept
  kept = kept_of a b live owner old seen

  abbrev Live : Read → Type 0
  Live v = AreLive a live wired p.live_set v

  wire-live : (u : ℕ) (o : Option Wire) → all_live live o ≡ true → DrivesWire u o → live u ≡ true
  wire-live u None e d = absurd d
  wire-live u (Some w) e d = all-pass live u w.drivers e d

  net-kept : (m : ℕ) → IsKept kept (OfNet m) → (seen m ≡ true) × Live (OfNet (old.net m))
  net-kept m is =
      let parts = and_parts (seen m) (all_live live (slice_get a.nets (old.net m))) is in
      (parts.0, λ u d. wire-live u (slice_get a.nets (old.net m)) parts.1 d)

  kept-net : (m : ℕ) → seen m ≡ true → Live (OfNet (old.net m)) → IsKept kept (OfNet m)
  kept-net m s h =
      let i = p.nets m s in
      and_from (seen m) (all_live live (slice_get a.nets (old.net m))) s
      (subst (λ (o : Option Wire). all_live live o ≡ true) (sym i.found) (pass-all live i.wire.drivers (λ u au. h u (subst (DrivesWire u) (sym i.found) au))))

  less : (k n : ℕ) → ltb k n ≡ true → k < n
  less k n e = grind (arith, nat_tests)

  less-back : (k n : ℕ) → k < n → ltb k n ≡ true
  less-back k n h = grind (arith, nat_tests)

  register-kept : (k : ℕ) → IsKept kept (OfRegister k) → (k < length b.registers) × (live (owner (old.register k)) ≡ true)
  register-kept k is =
      let parts = and_parts (ltb k (length b.registers)) (live (owner (old.register k))) is in
      (less k (length b.registers) parts.0, parts.1)

  register-there : (k : ℕ) → k < length b.registers → (new : Register) × IsPlacedRegister a b absorbed old k new × (slice_get b.registers k ≡ Some new)
  register-there k h = let found = item-at b.registers k h in (found.0, p.registers k found.0 found.1, found.1)

  old-there : (k : ℕ) → k < length b.registers → old.register k < length a.registers
  old-there k h = let r = register-there k h in slice_get_within a.registers (old.register k) r.1.register r.1.found

  kept-register : (k : ℕ) → k < length b.registers → Live (OfRegister (old.register k)) → IsKept kept (OfRegister k)
  kept-register k h on =
      let there : old.register k < length a.registers = old-there k h in
      and_from (ltb k (length b.registers)) (live (owner (old.register k))) (less-back k (length b.registers) h) (on (owner (old.register k)) (there, p.owners (old.register k) there))

  -- a new node whose old one has live units alone behind it
  seen-kept : (w : Read) → IsSeen b seen w → Live (old_node old w) → IsKept kept w
  seen-kept (OfNet m) s on = kept-net m s on
  seen-kept (OfRegister k) s on = kept-register k s on

  -- what a part of a live unit reads
  part-kept : (level : NodeLevels → Level) (reads : List Read) (new_level : NodeLevels → Level) (new_reads : List Read) → IsPart a absorbed old level reads new_level new_reads →
      (u : ℕ) → live u ≡ true → ((w : Read) → Among w reads → Among w (unit_reads a u)) → (w : Read) → Among w new_reads → IsSeen b seen w → IsKept kept w
  part-kept level reads new_level new_reads is u on within w aw s =
      seen-kept w s (named-live a live wired p.live_set absorbed (variable_at a (old_node old w)) u reads on within (is.named w aw) (old_node old w) refl)

  -- the register of a live unit
  owned-live : (k u : ℕ) → HasRegister k (slice_get a.units u) → live u ≡ true → Live (OfRegister k)
  owned-live k u has on y s = ap live (wired.one_unit k y u s.1 has) ∙ on

  unit-part : (u : ℕ) (d : Driver) → slice_get a.units u ≡ Some d → (w : Read) → Among w (row_reads d.enable ++ part_reads a d.gives) → Among w (unit_reads a u)
  unit-part u d e w aw = subst (λ (o : Option Driver). Among w (reads_of_unit a o)) (sym e) aw

  gives-kept : (u : ℕ) (d new : Driver) → slice_get a.units u ≡ Some d → live u ≡ true → (g h : Gives) → d.gives ≡ g → GivesAlike a absorbed old d new g h →
      (w : Read) → Among w (gives_reads h) → IsSeen b seen w → IsKept kept w
  gives-kept u d new e on (Sum ts) (Sum us) is part w aw s =
      part-kept (λ f. logic_by f d) (sum_reads ts) (λ f. logic_by f new) (sum_reads us) part u on
      (λ x ax. unit-part u d e x (among-right x (row_reads d.enable) (part_reads a d.gives) (subst (λ (g : Gives). Among x (part_reads a g)) (sym is) ax))) w aw s
  gives-kept u d new e on (Visible k) (Visible j) is same w (inl at) s =
      let has : HasRegister k (slice_get a.units u) = subst (HasRegister k) (sym e) (subst (GivesQ k) (sym is) refl) in
      seen-kept w s (subst (λ (x : Read). Live (old_node old x)) (sym at) (subst (λ (i : ℕ). Live (OfRegister i)) same.0 (owned-live k u has on)))
  gives-kept u d new e on (Visible k) (Visible j) is same w (inr none) s = absurd none
  gives-kept u d new e on (Sum ts) (Visible j) is none w aw s = absurd none
  gives-kept u d new e on (Visible k) (Sum us) is none w aw s = absurd none

  net-closed : (m : ℕ) → IsKept kept (OfNet m) → (w : Read) → Among w (node_reads b (OfNet m)) → IsKept kept w
  net-closed m is w aw =
      let k = net-kept m is in
      let i = p.nets m k.0 in
      let r = among-unflat_map (λ (u : ℕ). driver_reads (slice_get b.units u)) w i.new.drivers (subst (λ (o : Option Wire). Among w (reads_of_wire b o)) i.new_found aw) in
      at r.0 (k.1 (old.unit r.0) (subst (DrivesWire (old.unit r.0)) (sym i.found) (i.only r.0 r.1))) (slice_get b.units r.0) refl r.2
    where
      at : (v : ℕ) → live (old.unit v) ≡ true → (o : Option Driver) → slice_get b.units v ≡ o → Among w (driver_reads o) → IsKept kept w
      at v on None e none = absurd none
      at v on (Some new) e av = by (p.units v new e) (among-split w (row_reads new.enable) (gives_reads new.gives) av)
        where
          by : IsPlacedUnit a absorbed old v new → Among w (row_reads new.enable) ⊎ Among w (gives_reads new.gives) → IsKept kept w
          by q (inl h) =
              part-kept (λ f. gate_by f q.driver.enable) (row_reads q.driver.enable) (λ f. gate_by f new.enable) (row_reads new.enable) q.enable (old.unit v) on
              (λ x ax. unit-part (old.unit v) q.driver q.found x (among-left x (row_reads q.driver.enable) (part_reads a q.driver.gives) ax)) w h (p.reads (OfNet m) w aw)
          by q (inr h) = gives-kept (old.unit v) q.driver new q.found on q.driver.gives new.gives refl q.gives w h (p.reads (OfNet m) w aw)

  -- what a register reads at its edge, its unit reads
  edge-part : (k u : ℕ) (r : Register) → HasRegister k (slice_get a.units u) → slice_get a.registers k ≡ Some r → (w : Read) → Among w (edge_reads r) → Among w (unit_reads a u)
  edge-part k u r has e w aw = at (slice_get a.units u) refl has
    where
      gives : (g : Gives) → GivesQ k g → Among w (part_reads a g)
      gives (Sum ts) none = absurd none
      gives (Visible j) same = subst (λ (o : Option Register). Among w (reads_at_edge o)) (sym (ap (slice_get a.registers) same ∙ e)) aw

      at : (o : Option Driver) → slice_get a.units u ≡ o → HasRegister k o → Among w (unit_reads a u)
      at None is none = absurd none
      at (Some d) is h = unit-part u d is w (among-right w (row_reads d.enable) (part_reads a d.gives) (gives d.gives h))

  module _ (k : ℕ) (new : Register) (is : IsKept kept (OfRegister k)) (there : slice_get b.registers k ≡ Some new) where
    abbrev placed : IsPlacedRegister a b absorbed old k new
    placed = p.registers k new there

    abbrev unit : ℕ
    unit = owner (old.register k)

    owned : HasRegister (old.register k) (slice_get a.units unit)
    owned = p.owners (old.register k) (slice_get_within a.registers (old.register k) placed.register placed.found)

    abbrev r : Register
    r = placed.register

    edge : (w : Read) → Among w (edge_reads r) → Among w (unit_reads a unit)
    edge w aw = edge-part (old.register k) unit r owned placed.found w aw

    reset-kept : (w : Read) → Among w (row_reads new.reset) → IsKept kept w
    reset-kept w aw =
        part-kept (λ f. gate_by f r.reset) (row_reads r.reset) (λ f. gate_by f new.reset) (row_reads new.reset) placed.reset unit (register-kept k is).1
        (λ x ax. edge x (among-right x (sum_reads r.terms ++ row_reads r.preset) (row_reads r.reset) ax)) w aw
        (p.edges k new w there (among-right w (sum_reads new.terms ++ row_reads new.preset) (row_reads new.reset) aw))

    preset-kept : (w : Read) → Among w (row_reads new.preset) → IsKept kept w
    preset-kept w aw =
        part-kept (λ f. gate_by f r.preset) (row_reads r.preset) (λ f. gate_by f new.preset) (row_reads new.preset) placed.preset unit (register-kept k is).1
        (λ x ax. edge x (among-left x (sum_reads r.terms ++ row_reads r.preset) (row_reads r.reset) (among-right x (sum_reads r.terms) (row_reads r.preset) ax))) w aw
        (p.edges k new w there (among-left w (sum_reads new.terms ++ row_reads new.preset) (row_reads new.reset) (among-right w (sum_reads new.terms) (row_reads new.preset) aw)))

    terms-kept : (w : Read) → Among w (sum_reads new.terms) → IsKept kept w
    terms-kept w aw =
        part-kept (λ f. inverted r.low (terms_by f r.terms)) (sum_reads r.terms) (λ f. inverted new.low (terms_by f new.terms)) (sum_reads new.terms) placed.logic unit (register-kept k is).1
        (λ x ax. edge x (among-left x (sum_reads r.terms ++ row_reads r.preset) (row_reads r.reset) (among-left x (sum_reads r.terms) (row_reads r.preset) ax))) w aw
        (p.edges k new w there (among-left w (sum_reads new.terms ++ row_reads new.preset) (row_reads new.reset) (among-left w (sum_reads new.terms) (row_reads new.preset) aw)))

    edge-kept : (w : Read) → Among w (edge_reads new) → IsKept kept w
    edge-kept w aw = front (among-split w (sum_reads new.terms ++ row_reads new.preset) (row_reads new.reset) aw)
      where
        terms : Among w (sum_reads new.terms) ⊎ Among w (row_reads new.preset) → IsKept kept w
        terms (inl h) = terms-kept w h
        terms (inr h) = preset-kept w h

        front : Among w (sum_reads new.terms ++ row_reads new.preset) ⊎ Among w (row_reads new.reset) → IsKept kept w
        front (inl h) = terms (among-split w (sum_reads new.terms) (row_reads new.preset) h)
        front (inr h) = reset-kept w h

    carried : IsCarriedRegister a b absorbed old kept k
    carried = record {
      register = r;
      new = new;
      found = placed.found;
      new_found = there;
      reset = placed.reset.same;
      takes = λ f fit i. and3 (or3 (placed.logic.same f fit i) (placed.preset.same f fit i)) (not3 (placed.reset.same f fit i));
      reads = all-among (IsKept kept) (edge_reads new) edge-kept;
      clock = placed.clock;
    }

  registers : (k : ℕ) → IsKept kept (OfRegister k) → IsCarriedRegister a b absorbed old kept k
  registers k is = let r = register-there k (register-kept k is).0 in carried k r.0 is r.2

  register-closed : (k : ℕ) → IsKept kept (OfRegister k) → (w : Read) → Among w (node_reads b (OfRegister k)) → IsKept kept w
  register-closed k is w aw =
      let r = register-there k (register-kept k is).0 in
      reset-kept k r.0 is r.2 w (subst (λ (o : Option Register). Among w (reads_of_register o)) r.2 aw)

  closed : (v : Read) → IsKept kept v → AllByRecursion (IsKept kept) (node_reads b v)
  closed (OfNet m) is = all-among (IsKept kept) (node_reads b (OfNet m)) (net-closed m is)
  closed (OfRegister k) is = all-among (IsKept kept) (node_reads b (OfRegister k)) (register-closed k is)

  -- a new unit drives what its old one does
  stands : (v : ℕ) (new : Driver) → slice_get b.units v ≡ Some new → StandsFor a b absorbed old v (old.unit v)
  stands v new e f fit =
      let q = p.units v new e in
      ap (or_x (drive_by f)) q.found
      ∙ (λ i. gated (q.enable.same f fit i) (logic q i))
      ∙ sym (ap (or_x (drive_by (through old f))) e)
    where
      gives : (d : Driver) (g h : Gives) → d.gives ≡ g → new.gives ≡ h → GivesAlike a absorbed old d new g h → logic_by f d ≡ logic_by (through old f) new
      gives d (Sum ts) (Sum us) eg eh part = part.same f fit
      gives d (Visible k) (Visible j) eg eh same =
          ap (λ (g : Gives). inverted d.low (gives_by f g)) eg
          ∙ (λ i. inverted (same.1 i) (f (OfRegister (same.0 i))))
          ∙ sym (ap (λ (g : Gives). inverted new.low (gives_by (through old f) g)) eh)
      gives d (Sum ts) (Visible j) eg eh none = absurd none
      gives d (Visible k) (Sum us) eg eh none = absurd none

      logic : (q : IsPlacedUnit a absorbed old v new) → logic_by f q.driver ≡ logic_by (through old f) new
      logic q = gives q.driver q.driver.gives new.gives refl refl q.gives

  new-driver : (m v : ℕ) (new : Wire) → slice_get b.nets m ≡ Some new → Among v new.drivers → (d : Driver) × (slice_get b.units v ≡ Some d)
  new-driver m v new e av = item-at b.units v (new_wired.units m v (subst (DrivesWire v) (sym e) av))

  nets : (m : ℕ) → IsKept kept (OfNet m) → IsCarriedNet a b absorbed old m
  nets m is =
      let k = net-kept m is in
      let i = p.nets m k.0 in
      record {
        wire = i.wire;
        new = i.new;
        found = i.found;
        new_found = i.new_found;
        kind = i.kind;
        pull = i.pull;
        every = λ u au. every i u au (k.1 u (subst (DrivesWire u) (sym i.found) au));
        only = λ v av. let d = new-driver m v i.new i.new_found av in (old.unit v, i.only v av, stands v d.0 d.1);
      }
    where
      every : (i : IsPlacedNet a b absorbed live old m) (u : ℕ) → Among u i.wire.drivers → live u ≡ true →
          Floats a b absorbed old u ⊎ ((v : ℕ) × Among v i.new.drivers × StandsFor a b absorbed old v u)
      every i u au on = elim (i.every u au on) [
        | inl floats ↦ inl floats
        | inr (v, av, e) ↦ let d = new-driver m v i.new i.new_found av in inr (v, av, subst (StandsFor a b absorbed old v) e (stands v d.0 d.1))
      ]

  -- a net with a driver stands for an old one
  driven-seen : (m v : ℕ) → DrivesWire v (slice_get b.nets m) → seen m ≡ true
  driven-seen m v d = at (seen m) refl (slice_get b.nets m) refl d
    where
      at : (q : Bool) → seen m ≡ q → (o : Option Wire) → slice_get b.nets m ≡ o → DrivesWire v o → q ≡ true
      at true s o e h = refl
      at false s None e h = absurd h
      at false s (Some w) e h = absurd (subst (Among v) (p.others m w e s).1 h)

  driven : (m v : ℕ) → DrivesWire v (slice_get b.nets m) → (u : ℕ) × DrivesWire u (slice_get a.nets (old.net m))
  driven m v d =
      let i = p.nets m (driven-seen m v d) in
      (old.unit v, subst (DrivesWire (old.unit v)) (sym i.found) (i.only v (subst (DrivesWire v) i.new_found d)))

  kinds : (m : ℕ) (w : Wire) → slice_get b.nets m ≡ Some w → (w.kind ≡ Inner) ⊎ (net_kind a (old.net m) ≡ Some w.kind)
  kinds m w e = at (seen m) refl
    where
      at : (q : Bool) → seen m ≡ q → (w.kind ≡ Inner) ⊎ (net_kind a (old.net m) ≡ Some w.kind)
      at false s = inl (p.others m w e s).0
      at true s =
          let i = p.nets m s in
          inr (ap wire_kind i.found ∙ ap (λ (k : NetKind). Some k) (i.kind ∙ ap (λ (x : Wire). x.kind) (same_Some i.new w (sym i.new_found ∙ e))))

  clocks : (k : ℕ) (r : Register) → slice_get b.registers k ≡ Some r → (w : Wire) × (slice_get b.nets r.clock ≡ Some w) × (is_fixed w.kind ≡ true)
  clocks k r e =
      let q = p.registers k r e in
      let c = accepted.clocks (old.register k) q.register q.found in
      let w = wire-of b r.clock c.0.kind (sym q.clock ∙ ap wire_kind c.1) in
      (w.0, w.1, ap is_fixed w.2 ∙ c.2)

  -- what a new net's unit reads stands below
  net-falls : (m v : ℕ) (new : Driver) (w : Read) → DrivesWire v (slice_get b.nets m) → slice_get b.units v ≡ Some new → Among w (row_reads new.enable ++ gives_reads new.gives) →
      IsBelow a (OfNet (old.net m)) (old_node old w)
  net-falls m v new w d e aw = at (alias_of a (old.net m)) refl
    where
      i : IsPlacedNet a b absorbed live old m
      i = p.nets m (driven-seen m v d)

      drives : Among (old.unit v) i.wire.drivers
      drives = i.only v (subst (DrivesWire v) i.new_found d)

      q : IsPlacedUnit a absorbed old v new
      q = p.units v new e

      read : (x : Read) → Among x (row_reads q.driver.enable ++ gives_reads q.driver.gives) → Among x (node_reads a (OfNet (old.net m)))
      read x ax = driver-reads a (old.net m) (old.unit v) i.wire q.driver x i.found drives q.found ax

      -- an alias net
      alias : (y : ℕ × Bool) → alias_of a (old.net m) ≡ Some y → Among w (row_reads new.enable) ⊎ Among w (gives_reads new.gives) → IsBelow a (OfNet (old.net m)) (old_node old w)
      alias y is found = by (alias-is a (old.net m) y is) found
        where
          unit : (j : IsAlias a (old.net m) y) → old.unit v ≡ j.unit
          unit j = only-one a live wired p.live_set j.unit (old.unit v) j.wire.drivers j.only (subst (λ (x : Wire). Among (old.unit v) x.drivers) (same_Some i.wire j.wire (sym i.found ∙ j.found)) drives)

          driver : (j : IsAlias a (old.net m) y) → q.driver ≡ j.driver
          driver j = same_Some q.driver j.driver (sym q.found ∙ ap (slice_get a.units) (unit j) ∙ j.unit_is)

          gives : (k : ℕ) (g h : Gives) → g ≡ Visible k → GivesAlike a absorbed old q.driver new g h → Among w (gives_reads h) → variable_at a (OfNet (old.net m)) ≡ OfRegister k → IsBelow a (OfNet (old.net m)) (old_node old w)
          gives k (Sum ts) h eg part aw is = cc
          gives k (Visible j) (Sum us) eg none aw is = absurd none
          gives k (Visible j) (Visible n) eg part (inr none) is = absurd none
          gives k (Visible j) (Visible n) eg part (inl at) is =
              let number : k ≡ old.register n = sym (visible j k eg) ∙ part.0 in
              subst (λ (x : Read). IsBelow a (OfNet (old.net m)) (old_node old x)) (sym at) (inl (is ∙ ap OfRegister number))
            where
              visible : (i j : ℕ) → Visible i ≡ Visible j → i ≡ j
              visible i j e = cc

          by : IsAlias a (old.net m) y → Among w (row_reads new.enable) ⊎ Among w (gives_reads new.gives) → IsBelow a (OfNet (old.net m)) (old_node old w)
          by j (inl h) =
              absurd (not-named a absorbed (variable_at a (old_node old w)) (row_reads q.driver.enable)
              (ap (λ (x : Driver). row_reads x.enable) (driver j) ∙ ap row_reads j.alias.enable) (q.enable.named w h))
          by j (inr h) = gives y.0 q.driver.gives new.gives (ap (λ (x : Driver). x.gives) (driver j) ∙ j.alias.gives) q.gives h (variable-some a (old.net m) y is)

      -- another net
      plain : alias_of a (old.net m) ≡ None → Among w (row_reads new.enable) ⊎ Among w (gives_reads new.gives) → IsBelow a (OfNet (old.net m)) (old_node old w)
      plain is (inl h) =
          let walk = named-walk a absorbed (variable_at a (old_node old w)) (OfNet (old.net m)) (row_reads q.driver.enable)
          (λ x ax. read x (among-left x (row_reads q.driver.enable) (gives_reads q.driver.gives) ax)) (q.enable.named w h) in
          inr (walk.0, subst (λ (x : Read). Walk a walk.0 x (variable_at a (old_node old w))) (sym (variable-none a (old.net m) is)) walk.1)
      plain is (inr h) = gives q.driver.gives new.gives refl q.gives h
        where
          gives : (g k : Gives) → q.driver.gives ≡ g → GivesAlike a absorbed old q.driver new g k → Among w (gives_reads k) → IsBelow a (OfNet (old.net m)) (old_node old w)
          gives (Sum ts) (Sum us) eg part aw =
              let walk = named-walk a absorbed (variable_at a (old_node old w)) (OfNet (old.net m)) (sum_reads ts)
              (λ x ax. read x (among-right x (row_reads q.driver.enable) (gives_reads q.driver.gives) (subst (λ (g : Gives). Among x (gives_reads g)) (sym eg) ax))) (part.named w aw) in
              inr (walk.0, subst (λ (x : Read). Walk a walk.0 x (variable_at a (old_node old w))) (sym (variable-none a (old.net m) is)) walk.1)
          gives (Visible k) (Visible j) eg part (inl at) =
              let here : Among (OfRegister k) (node_reads a (OfNet (old.net m))) =
              read (OfRegister k) (among-right (OfRegister k) (row_reads q.driver.enable) (gives_reads q.driver.gives) (subst (λ (g : Gives). Among (OfRegister k) (gives_reads g)) (sym eg) (inl refl))) in
              subst (λ (x : Read). IsBelow a (OfNet (old.net m)) (old_node old x)) (sym at)
              (inr (
                zero,
                subst (λ (x : Read). Among (OfRegister (old.register j)) (node_reads a x)) (sym (variable-none a (old.net m) is))
                    (subst (λ (n : ℕ). Among (OfRegister n) (node_reads a (OfNet (old.net m)))) part.0 here),
              ))
          gives (Visible k) (Visible j) eg part (inr none) = absurd none
          gives (Sum ts) (Visible j) eg none aw = absurd none
          gives (Visible k) (Sum us) eg none aw = absurd none

      at : (o : Option (ℕ × Bool)) → alias_of a (old.net m) ≡ o → IsBelow a (OfNet (old.net m)) (old_node old w)
      at None is = plain is (among-split w (row_reads new.enable) (gives_reads new.gives) aw)
      at (Some y) is = alias y is (among-split w (row_reads new.enable) (gives_reads new.gives) aw)

  falls : (v w : Read) → Among w (node_reads b v) → IsBelow a (old_node old v) (old_node old w)
  falls (OfNet m) w aw = at (slice_get b.nets m) refl aw
    where
      unit : (v : ℕ) → DrivesWire v (slice_get b.nets m) → (o : Option Driver) → slice_get b.units v ≡ o → Among w (driver_reads o) → IsBelow a (OfNet (old.net m)) (old_node old w)
      unit v d None e none = absurd none
      unit v d (Some new) e h = net-falls m v new w d e h

      at : (o : Option Wire) → slice_get b.nets m ≡ o → Among w (reads_of_wire b o) → IsBelow a (OfNet (old.net m)) (old_node old w)
      at None e none = absurd none
      at (Some new) e h =
          let r = among-unflat_map (λ (u : ℕ). driver_reads (slice_get b.units u)) w new.drivers h in
          unit r.0 (subst (DrivesWire r.0) (sym e) r.1) (slice_get b.units r.0) refl r.2
  falls (OfRegister k) w aw = at (slice_get b.registers k) refl aw
    where
      at : (o : Option Register) → slice_get b.registers k ≡ o → Among w (reads_of_register o) → IsBelow a (OfRegister (old.register k)) (old_node old w)
      at None e none = absurd none
      at (Some new) e h =
          let q = p.registers k new e in
          inr (named-walk a absorbed (variable_at a (old_node old w)) (OfRegister (old.register k)) (row_reads q.register.reset)
          (λ x ax. subst (λ (o : Option Register). Among x (reads_of_register o)) (sym q.found) ax) (q.reset.named w h))

  -- the ports
  shown : (m : ℕ) → Among m b.ports → IsKept kept (OfNet m)
  shown m am = kept-net m (p.shown m am) live_port
    where
      i : IsPlacedNet a b absorbed live old m
      i = p.nets m (p.shown m am)

      old_port : Among (old.net m) a.ports
      old_port = subst (Among (old.net m)) (sym p.ports) (map-among old.net m b.ports am)

      live_port : Live (OfNet (old.net m))
      live_port u d = at i.wire.kind refl
        where
          drives : Among u i.wire.drivers
          drives = subst (DrivesWire u) i.found d

          other : WireNotHanded (Some i.wire) → live u ≡ true
          other h = p.live_set.ports (old.net m) u (old_port, subst WireNotHanded (sym i.found) h) d

          at : (k : NetKind) → i.wire.kind ≡ k → live u ≡ true
          at Ground e = other (subst NotHanded (sym e) tt)
          at Power e = other (subst NotHanded (sym e) tt)
          at (Shared j) e = other (subst NotHanded (sym e) tt)
          at Inner e = other (subst NotHanded (sym e) tt)
          at (Handed j) e = absurd (subst (Among u) (accepted.driven (old.net m) i.wire i.found (ap is_fixed e)) drives)

  pub places-carries : Carries a b absorbed old kept
  places-carries = record {
    absorbable = p.absorbable;
    kinds = kinds;
    driven = driven;
    clocks = clocks;
    falls = falls;
    closed = closed;
    nets = nets;
    registers = registers;
    ports = p.ports;
    shown = shown;
  }

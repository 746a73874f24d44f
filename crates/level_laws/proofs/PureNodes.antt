-- A pure node is 0 or 1 where all pure ones that it reads are; so on an accepted board all are.
use Rattle.std.proofs.Common.{ℕ, zero, suc, ◌≡◌, ◌⊎◌, ◌<◌, Bool, true, false, ◌&&◌, ◌||◌, List, [], ◌∷◌, ◌++◌, map, length, Option, Some, None, refl, sym, ap, ◌∙◌, subst, arith, inl, inr}
use Rattle.std.specs.Prelude.{slice_get}
use Rattle.std.specs.List.{AllByRecursion, flat_map, list_all}
use Rattle.std.proofs.lemmas.Bool.{and_parts, and_from}
use Rattle.std.proofs.lemmas.Option.{slice_get_within}
use Rattle.mig_base.specs.declared.levels.Level.{Level}
use Rattle.mig_base.specs.declared.levels.Level.TheVariants.{Zero, One, Z, X}
use Rattle.mig_base.specs.declared.circuit.Read.{Read}
use Rattle.mig_base.specs.declared.circuit.Read.TheVariants.{OfNet, OfRegister}
use Rattle.mig_base.specs.declared.circuit.Driver.{Driver}
use Rattle.mig_base.specs.declared.circuit.Register.{Register}
use Rattle.mig_base.specs.declared.circuit.NetKind.{NetKind}
use Rattle.mig_base.specs.declared.circuit.NetKind.TheVariants.{Ground, Power, Handed, Shared, Inner}
use Rattle.mig_base.specs.declared.circuit.Wire.{Wire}
use Rattle.mig_base.specs.declared.circuit.Circuit.{Circuit}
use Rattle.mig_base.specs.declared.circuit.Levels.{Levels}
use Rattle.mig_base.specs.Accepted.{IsAccepted}
use Rattle.mig_base.specs.Among.{Among}
use Rattle.mig_base.specs.Levels.{level_at, or_x}
use Rattle.mig_base.specs.Reads.{IsNode, driver_reads, edge_reads, node_reads, reads_of_register, reads_of_wire, wire_reads}
use Rattle.mig_base.specs.Resolve.{resolved}
use Rattle.mig_base.specs.Values.{node_level, sum_reads, row_reads}
use Rattle.mig_base.proofs.ListLaws.{all-get}
use Rattle.level_laws.specs.SameBehaviour.{IsBit, IsLawful, IsLawfulAt}
use Rattle.level_laws.specs.Settled.{IsSettled, drive_level, level_by, visible_levels, wire_level}
use Rattle.ranks.proofs.NoLoops.{nodes-loop}
use Rattle.level_laws.proofs.Unique.{all_left, level_at-map}
use Rattle.structure.specs.Live.{DrivesWire}
use Rattle.mig_base.specs.WrittenBoard.{is_pulled}
use Rattle.structure.specs.Pure.{always_enabled, net_rule, pure_driven, pure_kind, pure_rule, register_rule, IsPureSet}
use Rattle.level_laws.specs.PureLevels.{DriversAreUnits, HasPureLevels, HasPureStored}
use Rattle.level_laws.proofs.PureBits.{IsBitAt, driven-bit, pulled-bit, seen-bit}

-- a node of the set is at 0 or 1
abbrev pub IsBitIn : (Read → Bool) → Levels → Read → Type 0
IsBitIn set l v = set v ≡ true → IsBitAt l v

all-in : (set : Read → Bool) (l : Levels) (vs : List Read) → list_all set vs ≡ true → AllByRecursion (IsBitIn set l) vs → AllByRecursion (IsBitAt l) vs
all-in set l [] e h = tt
all-in set l (v ∷ vs) e h =
    let parts = and_parts (set v) (list_all set vs) e in
    (h.0 parts.0, all-in set l vs parts.1 h.1)

unit-there : (c : Circuit) (u : ℕ) → u < length c.units → slice_get c.units u ≡ None → ⊥
unit-there c u within none = at c.units u within none
  where
    at : (ds : List Driver) (n : ℕ) → n < length ds → slice_get ds n ≡ None → ⊥
    at [] n h e = absurd (omega arith)
    at (d ∷ ds) zero h e = cc
    at (d ∷ ds) (suc n) h e = at ds n (omega arith) e

-- a net whose drivers are these
wire-bit : (c : Circuit) (inputs : List Level) (l : Levels) (set : Read → Bool) (w : Wire) → l.drives ≡ map (drive_level l) c.units → ((u : ℕ) → Among u w.drivers → u < length c.units) →
    IsLawfulAt inputs w.kind → pure_kind c set w w.kind ≡ true → AllByRecursion (IsBitIn set l) (wire_reads c w) → IsBit (wire_level inputs l w)
wire-bit c inputs l set w drives units lawful pure reads = kind w.kind lawful pure
  where
    one : (u : ℕ) (o : Option Driver) → slice_get c.units u ≡ o → u < length c.units → (always_enabled o || is_pulled w.pull) ≡ true → AllByRecursion (IsBitAt l) (driver_reads o) →
        IsBit (resolved w.pull (or_x (drive_level l) o ∷ []))
    one u None e within can all = absurd (unit-there c u within e)
    one u (Some d) e within can all = driven-bit l w.pull d can all

    driven : (us : List ℕ) → w.drivers ≡ us → pure_driven c set w us ≡ true → IsBit (resolved w.pull (map (level_at l.drives) us))
    driven [] e h = pulled-bit w.pull h
    driven (u ∷ []) e h =
        let parts = and_parts (always_enabled (slice_get c.units u) || is_pulled w.pull) (list_all set (wire_reads c w)) h in
        let all : AllByRecursion (IsBitAt l) (wire_reads c w) = all-in set l (wire_reads c w) parts.1 reads in
        let here : AllByRecursion (IsBitAt l) (driver_reads (slice_get c.units u) ++ []) =
        subst (λ (us : List ℕ). AllByRecursion (IsBitAt l) (flat_map (λ (n : ℕ). driver_reads (slice_get c.units n)) us)) e all in
        let within : u < length c.units = units u (subst (Among u) (sym e) (inl refl)) in
        let is : level_at l.drives u ≡ or_x (drive_level l) (slice_get c.units u) = ap (λ (ds : List Level). level_at ds u) drives ∙ level_at-map (drive_level l) c.units u in
        subst (λ (a : Level). IsBit (resolved w.pull (a ∷ []))) (sym is)
        (one u (slice_get c.units u) refl within parts.0 (all_left (IsBitAt l) (driver_reads (slice_get c.units u)) [] here))
    driven (u ∷ v ∷ us) e h = cc

    kind : (k : NetKind) → IsLawfulAt inputs k → pure_kind c set w k ≡ true → IsBit (level_by inputs k w.pull (map (level_at l.drives) w.drivers))
    kind Ground given h = tt
    kind Power given h = tt
    kind (Handed j) given h = given
    kind (Shared j) given h = cc
    kind Inner given h = driven w.drivers refl h

visible-bit : (l : Levels) (rs : List Register) (ss : List Level) (k : ℕ) (r : Register) → slice_get rs k ≡ Some r → IsBit (level_at ss k) → AllByRecursion (IsBitAt l) (row_reads r.reset) →
    IsBit (level_at (visible_levels l rs ss) k)
visible-bit l [] ss k r e h reads = cc
visible-bit l (q ∷ rs) [] k r e h reads = absurd h
visible-bit l (q ∷ rs) (s ∷ ss) zero r e h reads = seen-bit l q s h (subst (λ (p : Register). AllByRecursion (IsBitAt l) (row_reads p.reset)) (sym (same q r e)) reads)
  where
    same : (a b : Register) → Some a ≡ Some b → a ≡ b
    same a b e = cc
visible-bit l (q ∷ rs) (s ∷ ss) (suc k) r e h reads = visible-bit l rs ss k r e h reads

-- what a register reads at an edge has what its reset reads
reset-in : (set : Read → Bool) (l : Levels) (r : Register) → list_all set (edge_reads r) ≡ true → AllByRecursion (IsBitIn set l) (row_reads r.reset) → AllByRecursion (IsBitAt l) (row_reads r.reset)
reset-in set l r e h = all-in set l (row_reads r.reset) (tail (sum_reads r.terms ++ row_reads r.preset) e) h
  where
    tail : (vs : List Read) → list_all set (vs ++ row_reads r.reset) ≡ true → list_all set (row_reads r.reset) ≡ true
    tail [] e = e
    tail (v ∷ vs) e = tail vs (and_parts (set v) (list_all set (vs ++ row_reads r.reset)) e).1

-- what the levels of a board settle under
record IsGiven (c : Circuit) (stored inputs : List Level) (l : Levels) : Type 0 where
  accepted : IsAccepted c
  units : DriversAreUnits c
  stored_levels : HasPureStored c stored
  lawful : IsLawful c inputs
  settled : IsSettled c stored inputs l

node-bit : (c : Circuit) (stored inputs : List Level) (l : Levels) (set : Read → Bool) → IsGiven c stored inputs l → IsPureSet c set →
    (v : Read) → set v ≡ true → AllByRecursion (IsBitIn set l) (node_reads c v) → IsBitAt l v
node-bit c stored inputs l set g pure (OfNet n) h reads =
    subst IsBit (sym (ap (λ (ls : List Level). level_at ls n) g.settled.nets ∙ level_at-map (wire_level inputs l) c.nets n)) (at (slice_get c.nets n) refl (pure (OfNet n) h) reads)
  where
    at : (o : Option Wire) → slice_get c.nets n ≡ o → net_rule c set o ≡ true → AllByRecursion (IsBitIn set l) (reads_of_wire c o) → IsBit (or_x (wire_level inputs l) o)
    at None e rule reads = cc
    at (Some w) e rule reads =
        wire-bit c inputs l set w g.settled.drives (λ u a. g.units n u (subst (DrivesWire u) (sym e) a))
        (all-get (λ (q : Wire). IsLawfulAt inputs q.kind) c.nets n w g.lawful e) rule reads
node-bit c stored inputs l set g pure (OfRegister k) h reads =
    subst (λ (ls : List Level). IsBit (level_at ls k)) (sym g.settled.visible) (at (slice_get c.registers k) refl (pure (OfRegister k) h) reads)
  where
    at : (o : Option Register) → slice_get c.registers k ≡ o → register_rule set o ≡ true → AllByRecursion (IsBitIn set l) (reads_of_register o) →
        IsBit (level_at (visible_levels l c.registers stored) k)
    at None e rule reads = cc
    at (Some r) e rule reads = visible-bit l c.registers stored k r e (g.stored_levels k (set, pure, h)) (reset-in set l r rule reads)

-- neither 0 nor 1
is_odd : Level → Bool
is_odd Zero = false
is_odd One = false
is_odd Z = true
is_odd X = true

odd-or-bit : (a : Level) → is_odd a ≡ false → IsBit a
unfolding is_odd
odd-or-bit Zero e = tt
odd-or-bit One e = tt
odd-or-bit Z e = cc
odd-or-bit X e = cc

bit-not-odd : (a : Level) → IsBit a → is_odd a ≡ true → ⊥
unfolding is_odd
bit-not-odd Zero h e = cc
bit-not-odd One h e = cc
bit-not-odd Z h e = absurd h
bit-not-odd X h e = absurd h

-- a node of the set that is neither
abbrev is_odd_in : (Read → Bool) → Levels → Read → Bool
is_odd_in set l v = set v && is_odd (node_level l v)

-- one of these nodes, or none
search-odd : (set : Read → Bool) (l : Levels) (vs : List Read) → ((w : Read) × Among w vs × (is_odd_in set l w ≡ true)) ⊎ AllByRecursion (IsBitIn set l) vs
search-odd set l [] = inr tt
search-odd set l (v ∷ vs) = at (set v) refl (is_odd (node_level l v)) refl (search-odd set l vs)
  where
    at : (b : Bool) → set v ≡ b → (o : Bool) → is_odd (node_level l v) ≡ o → ((w : Read) × Among w vs × (is_odd_in set l w ≡ true)) ⊎ AllByRecursion (IsBitIn set l) vs →
        ((w : Read) × Among w (v ∷ vs) × (is_odd_in set l w ≡ true)) ⊎ AllByRecursion (IsBitIn set l) (v ∷ vs)
    at b eb o eo (inl found) = inl (found.0, inr found.1, found.2)
    at true eb true eo (inr none) = inl (v, inl refl, and_from (set v) (is_odd (node_level l v)) eb eo)
    at true eb false eo (inr none) = inr (λ e. odd-or-bit (node_level l v) eo, none)
    at false eb o eo (inr none) = inr (λ e. let wrong : true ≡ false = sym e ∙ eb in absurd (apart wrong), none)
      where
        apart : true ≡ false → ⊥
        apart e = cc

-- what keeps the rule is a node of the board
rule-node : (c : Circuit) (set : Read → Bool) (v : Read) → pure_rule c set v ≡ true → IsNode c v
rule-node c set (OfNet n) rule = at (slice_get c.nets n) refl rule
  where
    at : (o : Option Wire) → slice_get c.nets n ≡ o → net_rule c set o ≡ true → n < length c.nets
    at None e rule = cc
    at (Some w) e rule = slice_get_within c.nets n w e
rule-node c set (OfRegister k) rule = at (slice_get c.registers k) refl rule
  where
    at : (o : Option Register) → slice_get c.registers k ≡ o → register_rule set o ≡ true → k < length c.registers
    at None e rule = cc
    at (Some r) e rule = slice_get_within c.registers k r e

-- each pure node that is neither 0 nor 1 reads another one
odd-next : (c : Circuit) (stored inputs : List Level) (l : Levels) (set : Read → Bool) → IsGiven c stored inputs l → IsPureSet c set →
    (v : Read) → is_odd_in set l v ≡ true → (w : Read) × Among w (node_reads c v) × (is_odd_in set l w ≡ true)
odd-next c stored inputs l set g pure v odd = at (search-odd set l (node_reads c v))
  where
    at : ((w : Read) × Among w (node_reads c v) × (is_odd_in set l w ≡ true)) ⊎ AllByRecursion (IsBitIn set l) (node_reads c v) →
        (w : Read) × Among w (node_reads c v) × (is_odd_in set l w ≡ true)
    at (inl found) = found
    at (inr none) =
        let parts = and_parts (set v) (is_odd (node_level l v)) odd in
        absurd (bit-not-odd (node_level l v) (node-bit c stored inputs l set g pure v parts.0 none) parts.1)

-- settled levels of an accepted board
pub settled-pure : (c : Circuit) (stored inputs : List Level) (l : Levels) → IsAccepted c → DriversAreUnits c → HasPureStored c stored → IsLawful c inputs →
    IsSettled c stored inputs l → HasPureLevels c l
settled-pure c stored inputs l accepted units stored_levels lawful settled v pure = at (is_odd (node_level l v)) refl
  where
    given : IsGiven c stored inputs l
    given = record { accepted = accepted; units = units; stored_levels = stored_levels; lawful = lawful; settled = settled }

    at : (odd : Bool) → is_odd (node_level l v) ≡ odd → IsBit (node_level l v)
    at false e = odd-or-bit (node_level l v) e
    at true e =
        let loop = nodes-loop c (λ (w : Read). is_odd_in pure.0 l w ≡ true)
        (λ w odd. rule-node c pure.0 w (pure.1 w (and_parts (pure.0 w) (is_odd (node_level l w)) odd).0))
        (odd-next c stored inputs l pure.0 given pure.1) v (and_from (pure.0 v) (is_odd (node_level l v)) pure.2 e) in
        absurd (accepted.no_loop loop.0 loop.1 loop.2)

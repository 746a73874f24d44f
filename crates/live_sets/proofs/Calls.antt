-- Which units a set of live units calls for: those behind shown ports, and those behind what its units read.
use Rattle.std.proofs.Common.{ℕ, ◌≡◌, Bool, true, false, ◌&&◌, ◌||◌, Option, Some, None, length, refl, sym, subst}
use Rattle.std.specs.Prelude.{slice_get, ◌==◌, nat_lt}
use Rattle.std.specs.List.{list_any}
use Rattle.std.proofs.lemmas.Bool.{eqb-true, eq-eqb, ltb-true, lt-ltb, and_parts}
use Rattle.mig_base.specs.declared.circuit.Read.{Read}
use Rattle.mig_base.specs.declared.circuit.Read.TheVariants.{OfNet, OfRegister}
use Rattle.mig_base.specs.declared.circuit.Gives.{Gives}
use Rattle.mig_base.specs.declared.circuit.Gives.TheVariants.{Sum, Visible}
use Rattle.mig_base.specs.declared.circuit.Driver.{Driver}
use Rattle.mig_base.specs.declared.circuit.NetKind.{NetKind}
use Rattle.mig_base.specs.declared.circuit.NetKind.TheVariants.{Ground, Power, Handed, Shared, Inner}
use Rattle.mig_base.specs.declared.circuit.Wire.{Wire}
use Rattle.mig_base.specs.declared.circuit.Circuit.{Circuit}
use Rattle.mig_base.specs.Among.{Among}
use Rattle.mig_base.specs.First.{made_from}
use Rattle.mig_base.proofs.Amongs.{any-among, among-any}
use Rattle.structure.specs.Live.{unit_reads, DrivesWire, GivesQ, HasRegister, StandsBehind, NotHanded, WireNotHanded}

-- a set of units
abbrev pub Set : Type 0
Set = ℕ → Bool

abbrev pub drives_wire : ℕ → Option Wire → Bool
drives_wire u None = false
drives_wire u (Some w) = list_any (λ x. u == x) w.drivers

abbrev pub gives_q : ℕ → Gives → Bool
gives_q k (Visible j) = j == k
gives_q k (Sum terms) = false

abbrev pub has_register : ℕ → Option Driver → Bool
has_register k None = false
has_register k (Some d) = gives_q k d.gives

abbrev pub stands_behind : Circuit → ℕ → Read → Bool
stands_behind c u (OfNet n) = drives_wire u (slice_get c.nets n)
stands_behind c u (OfRegister k) = nat_lt k (length c.registers) && has_register k (slice_get c.units u)

abbrev pub not_handed : NetKind → Bool
not_handed (Handed place) = false
not_handed _ = true

abbrev pub wire_not_handed : Option Wire → Bool
wire_not_handed None = false
wire_not_handed (Some w) = not_handed w.kind

-- a unit drives this port, which is shown
abbrev pub drives_port : Circuit → ℕ → ℕ → Bool
drives_port c w n = wire_not_handed (slice_get c.nets n) && stands_behind c w (OfNet n)

-- a unit of the set reads what this unit stands behind
abbrev pub is_read_by : Circuit → Set → ℕ → ℕ → Bool
is_read_by c set w u = set u && list_any (stands_behind c w) (unit_reads c u)

-- a unit stands behind a shown port, or behind what a unit of the set reads
abbrev pub calls : Circuit → Set → ℕ → Bool
calls c set w = list_any (drives_port c w) c.ports || list_any (is_read_by c set w) (made_from (λ n. n) 0 (length c.units))

wire-drives : (u : ℕ) (o : Option Wire) → drives_wire u o ≡ true → DrivesWire u o
wire-drives u None e = cc
wire-drives u (Some w) e =
    let found = any-among (λ x. u == x) w.drivers e in
    subst (λ (x : ℕ). Among x w.drivers) (sym (eqb-true u found.0 found.2)) found.1

drives-wire : (u : ℕ) (o : Option Wire) → DrivesWire u o → drives_wire u o ≡ true
drives-wire u None p = absurd p
drives-wire u (Some w) p = among-any (λ x. u == x) u w.drivers p (eq-eqb u u refl)

q-given : (k : ℕ) (g : Gives) → gives_q k g ≡ true → GivesQ k g
q-given k (Visible j) e = eqb-true j k e
q-given k (Sum terms) e = cc

given-q : (k : ℕ) (g : Gives) → GivesQ k g → gives_q k g ≡ true
given-q k (Visible j) p = eq-eqb j k p
given-q k (Sum terms) p = absurd p

register-had : (k : ℕ) (o : Option Driver) → has_register k o ≡ true → HasRegister k o
register-had k None e = cc
register-had k (Some d) e = q-given k d.gives e

had-register : (k : ℕ) (o : Option Driver) → HasRegister k o → has_register k o ≡ true
had-register k None p = absurd p
had-register k (Some d) p = given-q k d.gives p

pub behind-stands : (c : Circuit) (u : ℕ) (v : Read) → stands_behind c u v ≡ true → StandsBehind c u v
behind-stands c u (OfNet n) e = wire-drives u (slice_get c.nets n) e
behind-stands c u (OfRegister k) e =
    let both = and_parts (nat_lt k (length c.registers)) (has_register k (slice_get c.units u)) e in
    (ltb-true k (length c.registers) both.0, register-had k (slice_get c.units u) both.1)

pub stands-behind : (c : Circuit) (u : ℕ) (v : Read) → StandsBehind c u v → stands_behind c u v ≡ true
stands-behind c u (OfNet n) p = drives-wire u (slice_get c.nets n) p
stands-behind c u (OfRegister k) p = rw (lt-ltb k (length c.registers) p.0, had-register k (slice_get c.units u) p.1) refl

kind-shown : (k : NetKind) → not_handed k ≡ true → NotHanded k
kind-shown (Handed place) e = cc
kind-shown Ground e = tt
kind-shown Power e = tt
kind-shown (Shared place) e = tt
kind-shown Inner e = tt

shown-kind : (k : NetKind) → NotHanded k → not_handed k ≡ true
shown-kind (Handed place) p = absurd p
shown-kind Ground p = refl
shown-kind Power p = refl
shown-kind (Shared place) p = refl
shown-kind Inner p = refl

pub wire-shown : (o : Option Wire) → wire_not_handed o ≡ true → WireNotHanded o
wire-shown None e = cc
wire-shown (Some w) e = kind-shown w.kind e

pub shown-wire : (o : Option Wire) → WireNotHanded o → wire_not_handed o ≡ true
shown-wire None p = absurd p
shown-wire (Some w) p = shown-kind w.kind p

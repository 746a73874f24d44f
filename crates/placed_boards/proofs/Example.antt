-- A small board that places the units of another with one absorbed: the definitions can be met.
use Rattle.std.proofs.Common.{ℕ, zero, suc, ◌≡◌, Bool, true, false, [], ◌∷◌, Some, refl, sym, ap, ◌∙◌, subst, inl, inr, arith}
use Rattle.std.specs.List.{slice_get}
use Rattle.std.proofs.lemmas.Option.{same_Some}
use Rattle.mig_base.specs.declared.levels.Level.{Level}
use Rattle.mig_base.specs.declared.levels.Level.TheVariants.{Zero, One, Z, X}
use Rattle.mig_base.specs.declared.nets.Pull.TheVariants.{Free}
use Rattle.mig_base.specs.declared.circuit.Read.{Read}
use Rattle.mig_base.specs.declared.circuit.Read.TheVariants.{OfNet, OfRegister}
use Rattle.mig_base.specs.declared.circuit.Gate.TheVariants.{Product}
use Rattle.mig_base.specs.declared.circuit.Gives.TheVariants.{Sum}
use Rattle.mig_base.specs.declared.circuit.Driver.{Driver}
use Rattle.mig_base.specs.declared.circuit.NetKind.TheVariants.{Ground, Power, Handed, Inner}
use Rattle.mig_base.specs.declared.circuit.Wire.{Wire}
use Rattle.mig_base.specs.declared.circuit.Circuit.{Circuit}
use Rattle.mig_base.specs.Among.{Among}
use Rattle.mig_base.specs.Levels.{not3, and3, or3}
use Rattle.mig_base.specs.Reads.{node_reads}
use Rattle.structure.specs.Absorbable.{IsAbsorbable}
use Rattle.fitting_levels.specs.NodeValues.{logic_by}
use Rattle.fitting_levels.specs.Fitting.{IsAbsorbed}
use Rattle.carried_boards.specs.Carries.{Numbers, old_node, variable_at}
use Rattle.placed_boards.specs.Places.{Named, IsPart, IsPlacedUnit, IsPlacedNet, IsSeen, Places}
use Rattle.placed_boards.specs.Places.Named.{itself, behind}

-- W is NOT A, and Y is W
abbrev inverter : Driver
inverter = record { enable = Product []; gives = Sum ((record { source = OfNet 2; high = true } ∷ []) ∷ []); low = true }

abbrev follower : Driver
follower = record { enable = Product []; gives = Sum ((record { source = OfNet 3; high = true } ∷ []) ∷ []); low = false }

abbrev old_board : Circuit
old_board = record {
  nets = record { kind = Ground; pull = Free; drivers = [] } ∷ record { kind = Power; pull = Free; drivers = [] } ∷ record { kind = Handed 0; pull = Free; drivers = [] }
      ∷ record { kind = Inner; pull = Free; drivers = 0 ∷ [] } ∷ record { kind = Inner; pull = Free; drivers = 1 ∷ [] } ∷ [];
  units = inverter ∷ follower ∷ [];
  registers = [];
  ports = 2 ∷ 4 ∷ [];
}

-- Y is NOT A
abbrev joined_unit : Driver
joined_unit = record { enable = Product []; gives = Sum ((record { source = OfNet 2; high = false } ∷ []) ∷ []); low = false }

abbrev new_board : Circuit
new_board = record {
  nets = record { kind = Ground; pull = Free; drivers = [] } ∷ record { kind = Power; pull = Free; drivers = [] } ∷ record { kind = Handed 0; pull = Free; drivers = [] }
      ∷ record { kind = Inner; pull = Free; drivers = 0 ∷ [] } ∷ [];
  units = joined_unit ∷ [];
  registers = [];
  ports = 2 ∷ 3 ∷ [];
}

abbrev old_number : ℕ → ℕ
old_number zero = 0
old_number (suc zero) = 1
old_number (suc (suc zero)) = 2
old_number (suc (suc (suc n))) = 4

abbrev numbers : Numbers
numbers = record { net = old_number; unit = λ v. 1; register = λ k. k }

abbrev seen : ℕ → Bool
seen zero = true
seen (suc zero) = true
seen (suc (suc zero)) = true
seen (suc (suc (suc zero))) = true
seen (suc (suc (suc (suc n)))) = false

absorbable : (u : ℕ) → Among u (0 ∷ []) → IsAbsorbable old_board u
absorbable u (inl e) = subst (IsAbsorbable old_board) (sym e) (
  3,
  record {
    wire = record { kind = Inner; pull = Free; drivers = 0 ∷ [] };
    on = refl;
    alone = refl;
    no_port = λ a. elim a [ inl e ↦ omega arith | inr b ↦ elim b [ inl e ↦ omega arith | inr none ↦ none ] ];
    plain = refl;
  },
)
absorbable u (inr none) = absurd none

taken : IsAbsorbed old_board (0 ∷ []) 3 0
taken = record { wire = record { kind = Inner; pull = Free; drivers = 0 ∷ [] }; on = refl; alone = refl; listed = inl refl }

inverts : (x : Level) → or3 (and3 (not3 (or3 (and3 x One) Zero)) One) Zero ≡ or3 (and3 (not3 x) One) Zero
inverts Zero = refl
inverts One = refl
inverts Z = refl
inverts X = refl

logic : IsPart old_board (0 ∷ []) numbers (λ f. logic_by f follower) (OfNet 3 ∷ []) (λ f. logic_by f joined_unit) (OfNet 2 ∷ [])
logic = record {
  same = λ f fit. ap (λ (x : Level). or3 (and3 x One) Zero) (fit.absorbs 3 0 taken) ∙ inverts (f (OfNet 2));
  named = named;
}
  where
    named : (w : Read) → Among w (OfNet 2 ∷ []) → Named old_board (0 ∷ []) (variable_at old_board (old_node numbers w)) (OfNet 3 ∷ [])
    named w (inl e) = subst (λ (x : Read). Named old_board (0 ∷ []) (variable_at old_board (old_node numbers x)) (OfNet 3 ∷ [])) (sym e) (behind 3 0 (inl refl) taken (itself (OfNet 2) (inl refl) refl))
    named w (inr none) = absurd none

unit : (v : ℕ) (new : Driver) → slice_get new_board.units v ≡ Some new → IsPlacedUnit old_board (0 ∷ []) numbers v new
unit zero new e = subst (IsPlacedUnit old_board (0 ∷ []) numbers zero) (same_Some joined_unit new e)
    (record { driver = follower; found = refl; enable = record { same = λ f fit. refl; named = λ w none. absurd none }; gives = logic })
unit (suc v) new e = cc

net : (m : ℕ) → seen m ≡ true → IsPlacedNet old_board new_board (0 ∷ []) (λ u. true) numbers m
net zero e = record { wire = record { kind = Ground; pull = Free; drivers = [] }; new = record { kind = Ground; pull = Free; drivers = [] }; found = refl; new_found = refl; kind = refl; pull = refl; every = λ u none on. absurd none; only = λ v none. absurd none }
net (suc zero) e = record { wire = record { kind = Power; pull = Free; drivers = [] }; new = record { kind = Power; pull = Free; drivers = [] }; found = refl; new_found = refl; kind = refl; pull = refl; every = λ u none on. absurd none; only = λ v none. absurd none }
net (suc (suc zero)) e = record { wire = record { kind = Handed 0; pull = Free; drivers = [] }; new = record { kind = Handed 0; pull = Free; drivers = [] }; found = refl; new_found = refl; kind = refl; pull = refl; every = λ u none on. absurd none; only = λ v none. absurd none }
net (suc (suc (suc zero))) e = record {
  wire = record { kind = Inner; pull = Free; drivers = 1 ∷ [] };
  new = record { kind = Inner; pull = Free; drivers = 0 ∷ [] };
  found = refl;
  new_found = refl;
  kind = refl;
  pull = refl;
  every = λ u a on. elim a [ inl is ↦ inr (0, inl refl, sym is) | inr none ↦ absurd none ];
  only = λ v a. inl refl;
}
net (suc (suc (suc (suc m)))) e = cc

other : (m : ℕ) (w : Wire) → slice_get new_board.nets m ≡ Some w → seen m ≡ false → (w.kind ≡ Inner) × (w.drivers ≡ [])
other zero w e s = cc
other (suc zero) w e s = cc
other (suc (suc zero)) w e s = cc
other (suc (suc (suc zero))) w e s = cc
other (suc (suc (suc (suc m)))) w e s = cc

reads : (v w : Read) → Among w (node_reads new_board v) → IsSeen new_board seen w
reads (OfNet zero) w a = absurd a
reads (OfNet (suc zero)) w a = absurd a
reads (OfNet (suc (suc zero))) w a = absurd a
reads (OfNet (suc (suc (suc zero)))) w (inl e) = subst (IsSeen new_board seen) (sym e) refl
reads (OfNet (suc (suc (suc zero)))) w (inr none) = absurd none
reads (OfNet (suc (suc (suc (suc m))))) w a = absurd a
reads (OfRegister k) w a = absurd a

shown : (m : ℕ) → Among m new_board.ports → seen m ≡ true
shown m (inl e) = subst (λ (n : ℕ). seen n ≡ true) (sym e) refl
shown m (inr (inl e)) = subst (λ (n : ℕ). seen n ≡ true) (sym e) refl
shown m (inr (inr none)) = absurd none

pub example : Places old_board new_board (0 ∷ []) (λ u. true) (λ k. 0) numbers seen
example = record {
  absorbable = absorbable;
  live_set = record { ports = λ n u p s. refl; reads = λ u v w on a s. refl };
  owners = λ k h. absurd (omega arith);
  nets = net;
  others = other;
  units = unit;
  registers = λ k new e. cc;
  reads = reads;
  edges = λ k r w e a. cc;
  ports = refl;
  shown = shown;
}

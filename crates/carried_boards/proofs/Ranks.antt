-- A board that carries an accepted one with ranks has ranks, and is accepted.
use Rattle.std.proofs.Common.{ℕ, zero, suc, ◌≡◌, ◌⊎◌, ◌<◌, ◌+◌, Bool, true, false, List, [], ◌∷◌, Option, Some, None, refl, sym, ap, ◌∙◌, subst, inl, inr, arith}
use Rattle.std.specs.List.{AllByRecursion, slice_get}
use Rattle.mig_base.specs.declared.levels.Level.{Level}
use Rattle.mig_base.specs.declared.circuit.Read.{Read}
use Rattle.mig_base.specs.declared.circuit.Read.TheVariants.{OfNet, OfRegister}
use Rattle.mig_base.specs.declared.circuit.NetKind.{NetKind}
use Rattle.mig_base.specs.declared.circuit.NetKind.TheVariants.{Inner}
use Rattle.mig_base.specs.declared.circuit.Wire.{Wire}
use Rattle.mig_base.specs.declared.circuit.Circuit.{Circuit}
use Rattle.mig_base.specs.Accepted.{Walk, IsAccepted, is_fixed}
use Rattle.mig_base.specs.Among.{Among}
use Rattle.mig_base.specs.Reads.{node_reads}
use Rattle.mig_base.specs.Structure.{alias_of, or_alias}
use Rattle.level_laws.specs.SameBehaviour.{IsLawful, IsLawfulAt}
use Rattle.mig_base.specs.Ranked.{Ranked}
use Rattle.mig_base.proofs.Amongs.{among-all, all-among}
use Rattle.mig_base.proofs.ListLaws.{all-get}
use Rattle.std.proofs.lemmas.Option.{same_Some}
use Rattle.ranks.proofs.NoLoops.{no-loop}
use Rattle.structure.specs.Live.{DrivesWire}
use Rattle.fitting_levels.specs.Fitting.{net_kind, wire_kind}
use Rattle.carried_boards.specs.Carries.{Numbers, old_node, variable_at, IsBelow, Kept, Carries}

walk-falls : (c : Circuit) (rank : Read → ℕ) (top : ℕ) → Ranked c rank top → (n : ℕ) (v w : Read) → Walk c n v w → rank w < rank v
walk-falls c rank top ranked zero v w walk = among-all (λ q. rank q < rank v) w (node_reads c v) (ranked.falls v) walk
walk-falls c rank top ranked (suc n) v w walk =
    let first : rank walk.0 < rank v = among-all (λ q. rank q < rank v) walk.0 (node_reads c v) (ranked.falls v) walk.1 in
    let rest : rank w < rank walk.0 = walk-falls c rank top ranked n walk.0 w walk.2 in
    omega arith

-- an alias net stands right above its register
abbrev step_of : Option (ℕ × Bool) → ℕ
step_of None = 0
step_of (Some x) = 1

abbrev step_at : Circuit → Read → ℕ
step_at c (OfNet n) = step_of (alias_of c n)
step_at c (OfRegister k) = 0

-- twice the rank of the variable, and one more for an alias net
abbrev variable_rank : Circuit → (Read → ℕ) → Read → ℕ
variable_rank c rank v = rank (variable_at c v) + rank (variable_at c v) + step_at c v

step-most : (c : Circuit) (v : Read) → step_at c v < 2
step-most c (OfRegister k) = omega arith
step-most c (OfNet n) = at (alias_of c n)
  where
    at : (o : Option (ℕ × Bool)) → step_of o < 2
    at None = omega arith
    at (Some x) = omega arith

alias-step : (c : Circuit) (n k : ℕ) → variable_at c (OfNet n) ≡ OfRegister k → step_at c (OfNet n) ≡ 1
alias-step c n k e = at (alias_of c n) refl e
  where
    at : (o : Option (ℕ × Bool)) → alias_of c n ≡ o → (or_alias o (record { source = OfNet n; high = true })).source ≡ OfRegister k → step_of o ≡ 1
    at None is e = cc
    at (Some x) is e = refl

below-falls : (c : Circuit) (rank : Read → ℕ) (top : ℕ) → Ranked c rank top → (v w : Read) → IsBelow c v w → variable_rank c rank w < variable_rank c rank v
below-falls c rank top ranked v w (inr (n, walk)) =
    let low : rank (variable_at c w) < rank (variable_at c v) = walk-falls c rank top ranked n (variable_at c v) (variable_at c w) walk in
    let most : step_at c w < 2 = step-most c w in
    omega arith
below-falls c rank top ranked (OfNet n) (OfRegister k) (inl is) =
    let same : rank (variable_at c (OfNet n)) ≡ rank (OfRegister k) = ap rank is in
    let one : step_at c (OfNet n) ≡ 1 = alias-step c n k is in
    omega arith
below-falls c rank top ranked (OfNet n) (OfNet m) (inl is) = absurd is
below-falls c rank top ranked (OfRegister k) w (inl is) = absurd is

all-places : {T : Type 0} (P : T → Type 0) (xs : List T) → ((k : ℕ) (x : T) → slice_get xs k ≡ Some x → P x) → AllByRecursion P xs
all-places P [] f = tt
all-places P (y ∷ ys) f = (f zero y refl, all-places P ys (λ k x e. f (suc k) x e))

-- the wire of a net of this kind
pub wire-of : (c : Circuit) (n : ℕ) (k : NetKind) → net_kind c n ≡ Some k → (w : Wire) × (slice_get c.nets n ≡ Some w) × (w.kind ≡ k)
wire-of c n k e = at (slice_get c.nets n) refl e
  where
    at : (o : Option Wire) → slice_get c.nets n ≡ o → wire_kind o ≡ Some k → (w : Wire) × (slice_get c.nets n ≡ Some w) × (w.kind ≡ k)
    at None is e = cc
    at (Some w) is e = (w, is, same_Some w.kind k e)

module _ (a b : Circuit) (absorbed : List ℕ) (old : Numbers) (kept : Kept) (c : Carries a b absorbed old kept) where
  abbrev pub carried_rank : (Read → ℕ) → Read → ℕ
  carried_rank rank v = variable_rank a rank (old_node old v)

  pub carries-ranked : (rank : Read → ℕ) (top : ℕ) → Ranked a rank top → Ranked b (carried_rank rank) (top + top)
  carries-ranked rank top ranked = record {
    falls = λ v. all-among (λ w. carried_rank rank w < carried_rank rank v) (node_reads b v)
        (λ w r. below-falls a rank top ranked (old_node old v) (old_node old w) (c.falls v w r));
    below = λ v.
        let low : rank (variable_at a (old_node old v)) < top = ranked.below (variable_at a (old_node old v)) in
        let most : step_at a (old_node old v) < 2 = step-most a (old_node old v) in
        omega arith;
  }

  undriven : IsAccepted a → (m : ℕ) (w : Wire) → slice_get b.nets m ≡ Some w → is_fixed w.kind ≡ true → w.drivers ≡ []
  undriven accepted m w e fixed = at w.drivers refl
    where
      old_driven : (v : ℕ) → DrivesWire v (Some w) → (u : ℕ) × DrivesWire u (slice_get a.nets (old.net m))
      old_driven v d = c.driven m v (subst (DrivesWire v) (sym e) d)

      none : (u : ℕ) (x : Wire) → slice_get a.nets (old.net m) ≡ Some x → DrivesWire u (slice_get a.nets (old.net m)) → x.drivers ≡ [] → ⊥
      none u x is d empty = subst (Among u) empty (subst (DrivesWire u) is d)

      at : (ds : List ℕ) → w.drivers ≡ ds → w.drivers ≡ []
      at [] is = is
      at (v ∷ vs) is = by (c.kinds m w e)
        where
          by : (w.kind ≡ Inner) ⊎ (net_kind a (old.net m) ≡ Some w.kind) → w.drivers ≡ []
          by (inl inner) = let wrong : false ≡ true = sym (ap is_fixed inner) ∙ fixed in cc
          by (inr kind) =
              let x = wire-of a (old.net m) w.kind kind in
              let d = old_driven v (subst (Among v) (sym is) (inl refl)) in
              absurd (none d.0 x.0 x.1 d.1 (accepted.driven (old.net m) x.0 x.1 (ap is_fixed x.2 ∙ fixed)))

  pub carries-accepted : (rank : Read → ℕ) (top : ℕ) → IsAccepted a → Ranked a rank top → IsAccepted b
  carries-accepted rank top accepted ranked = record {
    driven = undriven accepted;
    clocks = c.clocks;
    no_loop = no-loop b (carried_rank rank) (top + top) (carries-ranked rank top ranked);
  }

  -- what is lawful on the old board is lawful on the new one
  pub carries-lawful : (inputs : List Level) → IsLawful a inputs → IsLawful b inputs
  carries-lawful inputs lawful = all-places (λ (w : Wire). IsLawfulAt inputs w.kind) b.nets by
    where
      by : (m : ℕ) (w : Wire) → slice_get b.nets m ≡ Some w → IsLawfulAt inputs w.kind
      by m w e = at (c.kinds m w e)
        where
          at : (w.kind ≡ Inner) ⊎ (net_kind a (old.net m) ≡ Some w.kind) → IsLawfulAt inputs w.kind
          at (inl inner) = subst (IsLawfulAt inputs) (sym inner) tt
          at (inr kind) =
              let x = wire-of a (old.net m) w.kind kind in
              subst (IsLawfulAt inputs) x.2 (all-get (λ (w : Wire). IsLawfulAt inputs w.kind) a.nets (old.net m) x.0 lawful x.1)

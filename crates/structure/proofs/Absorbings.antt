-- Absorbable units are found net by net.
use Rattle.std.proofs.Common.{ℕ, zero, suc, ◌≡◌, ◌⊎◌, ◌<◌, ◌≤◌, ◌+◌, Bool, true, false, List, [], ◌∷◌, length, Some, sym, ap, ◌∙◌, subst, arith, below_more, inl, inr}
use Rattle.std.specs.Prelude.{slice_get}
use Rattle.std.proofs.Math.ListN.{get_or, set}
use Rattle.std.proofs.lemmas.List.{length-set, get_or-set_same}
use Rattle.std.proofs.lemmas.Option.{slice_get_within}
use Rattle.mig_base.specs.declared.circuit.Driver.{Driver}
use Rattle.mig_base.specs.declared.circuit.Wire.{Wire}
use Rattle.mig_base.specs.declared.circuit.Circuit.{Circuit}
use Rattle.structure.specs.Absorbable.{is_plain, AbsorbsAt, IsAbsorbable, AreAbsorbable}
use Rattle.structure.proofs.NeededNodes.{flag-kept, flag-raised}

-- the units that can be absorbed at the first nets are marked, and no others
pub record AreFound (c : Circuit) (marks : List Bool) (n : ℕ) : Type 0 where
  pub units : length marks ≡ length c.units
  pub sound : (u : ℕ) → get_or marks u false ≡ true → IsAbsorbable c u
  pub every : (m : ℕ) → m < n → (u : ℕ) → AbsorbsAt c m u → get_or marks u false ≡ true

plain-within : (us : List Driver) (u : ℕ) → is_plain (slice_get us u) ≡ true → u < length us
plain-within [] u e = cc
plain-within (d ∷ ds) zero e = omega arith
plain-within (d ∷ ds) (suc u) e = omega (arith, plain-within ds u e)

-- one net has one such unit at most
one-absorbed : (c : Circuit) (n u w : ℕ) → AbsorbsAt c n u → AbsorbsAt c n w → w ≡ u
one-absorbed c n u w a b =
    let wires : Some a.wire ≡ Some b.wire = sym a.on ∙ b.on in
    let same : a.wire ≡ b.wire = cc in
    let both : u ∷ [] ≡ w ∷ [] = sym a.alone ∙ ap (λ (x : Wire). x.drivers) same ∙ b.alone in
    cc

pub found-next : (c : Circuit) (marks new : List Bool) (n u : ℕ) → AreFound c marks n → AbsorbsAt c n u → new ≡ set marks u true → AreFound c new (n + 1)
found-next c marks new n u found absorbs is = record {
  units = ap length is ∙ length-set marks u true ∙ found.units;
  sound = sound;
  every = below_more (λ m. (w : ℕ) → AbsorbsAt c m w → get_or new w false ≡ true) n before here;
}
  where
    at-new : (w : ℕ) → get_or (set marks u true) w false ≡ true → get_or new w false ≡ true
    at-new w e = ap (λ (bs : List Bool). get_or bs w false) is ∙ e

    sound : (w : ℕ) → get_or new w false ≡ true → IsAbsorbable c w
    sound w e = at (flag-raised marks u w (ap (λ (bs : List Bool). get_or bs w false) (sym is) ∙ e))
      where
        at : (get_or marks w false ≡ true) ⊎ (w ≡ u) → IsAbsorbable c w
        at (inl h) = found.sound w h
        at (inr same) = subst (IsAbsorbable c) (sym same) (n, absorbs)

    before : (m : ℕ) → m < n → (w : ℕ) → AbsorbsAt c m w → get_or new w false ≡ true
    before m h w a = at-new w (flag-kept marks u w (found.every m h w a))

    here : (w : ℕ) → AbsorbsAt c n w → get_or new w false ≡ true
    here w a = at-new w (subst (λ (x : ℕ). get_or (set marks u true) x false ≡ true) (sym (one-absorbed c n u w absorbs a))
        (get_or-set_same marks u true false (omega (arith, found.units, plain-within c.units u absorbs.plain))))

pub found-skip : (c : Circuit) (marks : List Bool) (n : ℕ) → AreFound c marks n → ((u : ℕ) → AbsorbsAt c n u → ⊥) → AreFound c marks (n + 1)
found-skip c marks n found none = record {
  units = found.units;
  sound = found.sound;
  every = below_more (λ m. (w : ℕ) → AbsorbsAt c m w → get_or marks w false ≡ true) n found.every (λ w a. absurd (none w a));
}

pub found-all : (c : Circuit) (marks : List Bool) (n : ℕ) → AreFound c marks n → length c.nets ≤ n → AreAbsorbable c marks
found-all c marks n found end = record {
  units = found.units;
  sound = found.sound;
  every = λ u a. found.every a.0 (omega (arith, end, slice_get_within c.nets a.0 a.1.wire a.1.on)) u a.1;
}

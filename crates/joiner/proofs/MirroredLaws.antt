-- Literals at the mirrored point.
use Rattle.std.proofs.Common.{◌≡◌, ℕ, ◌+◌, ◌-◌, Bool, true, false, not, ◌&&◌, ◌||◌, cond, refl, sym, ◌∙◌, ap, subst, arith, List, [], ◌∷◌, slice_get, Some, suc, add-zero}
use Rattle.std.specs.List.{list_any}
use Rattle.bdd.specs.Tree.{Point}
use Rattle.mig_base.specs.Bools.{same_bool}
use Rattle.mig_base.specs.declared.nets.Var.{Var}
use Rattle.mig_base.specs.declared.nets.VarLit.{VarLit}
use Rattle.rails.specs.declared.Side.TheVariants.{Pure, High, Low}
use Rattle.rails.specs.declared.Rail.{Rail}
use Rattle.rails.specs.Variables.{rails_from, all_rails, same_var}
use Rattle.rails.specs.Points.{literal_in, literal_holds, opposite, mirror, mirror_at, IsListed}

abbrev complement : VarLit → VarLit
complement x = record { var = x.var; high = not x.high }

-- whether the literal x holds at q, and its complement at p
abbrev reads_at : ℕ → ℕ → List (Var × Bool) → VarLit → Point → Bool
reads_at k m vs x p = literal_in m (rails_from k vs) x p

-- the point q is the mirrored p, where the Booleans begin at the place m
abbrev Mirrors : ℕ → ℕ → List (Var × Bool) → Point → Point → Type 0
Mirrors k m vs p q = (n : ℕ) (r : Rail) → slice_get (rails_from k vs) n ≡ Some r → q (m + n) ≡ opposite r.side p (m + n)

same_not : (a b : Bool) → same_bool a b ≡ not (same_bool (not a) b)
same_not true true = refl
same_not true false = refl
same_not false true = refl
same_not false false = refl

abbrev IsTurned : ℕ → ℕ → List (Var × Bool) → VarLit → Point → Point → Type 0
IsTurned k m vs x p q = reads_at k m vs x q ≡ not (reads_at k m vs (complement x) p)

listed_on : (v : Var) (pure : Bool) (vs : List (Var × Bool)) (w : Var) → same_var v w ≡ false → IsListed ((v, pure) ∷ vs) w → IsListed vs w
listed_on v pure vs w e l = sym (ap (λ c. c || list_any (λ (u : Var × Bool). same_var u.0 w) vs) e) ∙ l

module _ (k m : ℕ) (v : Var) (vs : List (Var × Bool)) (x : VarLit) (p q : Point) where
  pure_step : q m ≡ p m → (b : Bool) → same_var v x.var ≡ b → (IsListed vs x.var → IsTurned (k + 1) (m + 1) vs x p q)
      → IsListed ((v, true) ∷ vs) x.var → IsTurned k m ((v, true) ∷ vs) x p q
  pure_step at true e rest l =
      ap (λ b. cond (b && true) (same_bool x.high (q m)) (reads_at (k + 1) (m + 1) vs x q)) e
      ∙ ap (same_bool x.high) at ∙ same_not x.high (p m)
      ∙ sym (ap (λ b. not (cond (b && true) (same_bool (not x.high) (p m)) (reads_at (k + 1) (m + 1) vs (complement x) p))) e)
  pure_step at false e rest l =
      ap (λ b. cond (b && true) (same_bool x.high (q m)) (reads_at (k + 1) (m + 1) vs x q)) e
      ∙ rest (listed_on v true vs x.var e l)
      ∙ sym (ap (λ b. not (cond (b && true) (same_bool (not x.high) (p m)) (reads_at (k + 1) (m + 1) vs (complement x) p))) e)

  abbrev true_side : Bool → Bool → Bool
  true_side b high = cond (b && high) (q m) (cond (b && not high) (q (m + 1)) (reads_at (k + 1) (m + 1 + 1) vs x q))

  abbrev complement_side : Bool → Bool → Bool
  complement_side b high = not (cond (b && not high) (p m) (cond (b && not (not high)) (p (m + 1)) (reads_at (k + 1) (m + 1 + 1) vs (complement x) p)))

  impure_step : q m ≡ not (p (m + 1)) → q (m + 1) ≡ not (p m) → (b : Bool) → same_var v x.var ≡ b → (high : Bool) → x.high ≡ high
      → (IsListed vs x.var → IsTurned (k + 1) (m + 1 + 1) vs x p q) → IsListed ((v, false) ∷ vs) x.var → IsTurned k m ((v, false) ∷ vs) x p q
  impure_step first second true e true f rest l = (λ i. true_side (e i) (f i)) ∙ first ∙ sym (λ i. complement_side (e i) (f i))
  impure_step first second true e false f rest l = (λ i. true_side (e i) (f i)) ∙ second ∙ sym (λ i. complement_side (e i) (f i))
  impure_step first second false e high f rest l =
      ap (λ b. true_side b x.high) e ∙ rest (listed_on v false vs x.var e l) ∙ sym (ap (λ b. complement_side b x.high) e)

at_first : (m : ℕ) (p q : Point) → q (m + 0) ≡ p (m + 0) → q m ≡ p m
at_first m p q e = subst (λ j. q j ≡ p j) (add-zero m) e

turned_from : (k m : ℕ) (vs : List (Var × Bool)) (x : VarLit) (p q : Point) → Mirrors k m vs p q → IsListed vs x.var → IsTurned k m vs x p q
turned_from k m [] x p q h l = cc
turned_from k m ((v, true) ∷ vs) x p q h l =
    pure_step k m v vs x p q (at_first m p q (h 0 (record { var = v; variable = k; side = Pure }) refl)) (same_var v x.var) refl
    (turned_from (k + 1) (m + 1) vs x p q (λ n r e. subst (λ j. q j ≡ opposite r.side p j) (omega arith) (h (suc n) r e))) l
turned_from k m ((v, false) ∷ vs) x p q h l =
    let first : q m ≡ not (p (m + 1)) = subst (λ j. q j ≡ not (p (j + 1))) (add-zero m) (h 0 (record { var = v; variable = k; side = High }) refl) in
    let back : m + 1 - 1 ≡ m = omega arith in
    let second : q (m + 1) ≡ not (p m) = h 1 (record { var = v; variable = k; side = Low }) refl ∙ ap (λ j. not (p j)) back in
    impure_step k m v vs x p q first second (same_var v x.var) refl x.high refl
    (turned_from (k + 1) (m + 1 + 1) vs x p q (λ n r e. subst (λ j. q j ≡ opposite r.side p j) (omega arith) (h (suc (suc n)) r e))) l

-- a literal holds at the mirrored point where its complement does not
pub literal_mirrored : (vs : List (Var × Bool)) (x : VarLit) (p : Point) → IsListed vs x.var
    → literal_holds (all_rails vs) x (mirror (all_rails vs) p) ≡ not (literal_holds (all_rails vs) (record { var = x.var; high = not x.high }) p)
literal_mirrored vs x p l =
    turned_from 0 0 vs x p (mirror (all_rails vs) p)
    (λ n r e. subst (λ j. mirror (all_rails vs) p j ≡ opposite r.side p j) (omega arith) (ap (λ o. mirror_at o p n) e)) l

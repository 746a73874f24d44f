-- What is read off pairs, over a graph that grows.
use Rattle.std.proofs.Common.{◌≡◌, ◌<◌, ℕ, zero, suc, Bool, true, false, ◌&&◌, ◌||◌, refl, sym, ◌∙◌, ap, subst, List, [], ◌∷◌, length, get_or, arith, Option, None, Some, IfSome, inl, inr, Result, Ok, Err, IfOk}
use Rattle.std.specs.List.{list_all}
use Rattle.std.proofs.lemmas.Bool.{eqb-true}
use Rattle.bdd.specs.Tree.{Point}
use Rattle.bdd.specs.Diagram.{Diagram, function_of, Keeps, IsConjunction, IsDisjunction}
use Rattle.bdd.specs.declared.Ref.{Ref}
use Rattle.mig_base.specs.Among.{Among}
use Rattle.mig_base.specs.declared.nets.Var.{Var}
use Rattle.mig_base.specs.declared.nets.Var.TheVariants.{Net, Reg}
use Rattle.mig_base.specs.declared.nets.VarLit.{VarLit}
use Rattle.rails.specs.declared.Rail.{Rail}
use Rattle.rails.specs.Variables.{Held, IsFit, all_rails, same_var}
use Rattle.rails.specs.Points.{row_holds, literal_holds, IsMonotone, IsProper, Is}
use Rattle.rails.proofs.ComposeLemmas.{function_kept}
use Rattle.rails.proofs.ValueLemmas.{and_rises, or_rises, monotone_same}
use Rattle.joiner.specs.Joined.{Reading, literal_read}
use Rattle.joiner.specs.Pairs.{pair_at, pair_named, is_pair, is_listed, is_known, literal_by, IsProperPair, AreProper, ReadsPair, IsReading, Reads}
use Rattle.joiner.specs.declared.pairs.Pair.{Pair}

pub same_exact : (v w : Var) → same_var v w ≡ true → v ≡ w
same_exact (Net n) (Net m) e = ap Net (eqb-true n m e)
same_exact (Net n) (Reg k) e = cc
same_exact (Reg k) (Net n) e = cc
same_exact (Reg k) (Reg j) e = ap Reg (eqb-true k j e)

-- a listed variable is one of the list
pub listed_among : (vs : List (Var × Bool)) (v : Var) → is_listed vs v ≡ true → (w : Var × Bool) × Among w vs × (w.0 ≡ v)
listed_among [] v e = cc
listed_among (w ∷ ws) v e = by (same_var w.0 v) refl e (listed_among ws v)
  where
    by : (b : Bool) → same_var w.0 v ≡ b → (b || is_listed ws v) ≡ true → (is_listed ws v ≡ true → (u : Var × Bool) × Among u ws × (u.0 ≡ v)) → (u : Var × Bool) × Among u (w ∷ ws) × (u.0 ≡ v)
    by true is e rest = (w, inl refl, same_exact w.0 v is)
    by false is e rest = let h = rest e in (h.0, inr h.1, h.2)

-- what holds of all literals holds of each
pub each_passes : {T : Type 0} (test : T → Bool) (xs : List T) (i : ℕ) (d : T) → i < length xs → list_all test xs ≡ true → test (get_or xs i d) ≡ true
each_passes test [] i d l e = absurd (omega arith)
each_passes test (x ∷ xs) zero d l e = first (test x) e
  where
    first : (b : Bool) → (b && list_all test xs) ≡ true → b ≡ true
    first true e = refl
    first false e = cc
each_passes test (x ∷ xs) (suc i) d l e = each_passes test xs i d (omega arith) (rest (test x) e)
  where
    rest : (b : Bool) → (b && list_all test xs) ≡ true → list_all test xs ≡ true
    rest true e = e
    rest false e = cc

pub proper_kept : (rs : List Rail) (a b : Diagram) (f : Ref) → Keeps a b → IsProper rs a f → IsProper rs b f
proper_kept rs a b f k h = record {
  valid = k.valid f h.valid;
  monotone = monotone_same rs (function_of b f) (function_of a f) (λ p. function_kept a b f k h.valid p) h.monotone;
}

pub pairs_kept : (vars : List (Var × Bool)) (a b : Diagram) (pairs : List (Option Pair)) → Keeps a b → AreProper vars a pairs → AreProper vars b pairs
pairs_kept vars a b pairs k h = record { each = λ n. by (pair_at pairs n) (h.each n) }
  where
    by : (o : Option Pair) → IfSome o (IsProperPair vars a) → IfSome o (IsProperPair vars b)
    by None h = tt
    by (Some q) h = λ side. proper_kept (all_rails vars) a b (literal_by side q) k (h side)

module _ (vars : List (Var × Bool)) (a b : Diagram) (pairs : List (Option Pair)) (k : Keeps a b) (proper : AreProper vars a pairs) where
  -- a reading over the grown graph is one over the old graph, and the other way round
  pub reading_before : (p : Point) (r : Reading) → IsReading vars b pairs p r → IsReading vars a pairs p r
  reading_before p r h = record { variables = h.variables; nets = λ n. by n (pair_at pairs n) (proper.each n) (h.nets n) }
    where
      by : (n : ℕ) (o : Option Pair) → IfSome o (IsProperPair vars a) → IfSome o (ReadsPair b p r n) → IfSome o (ReadsPair a p r n)
      by n None v e = tt
      by n (Some q) v e = λ side. e side ∙ function_kept a b (literal_by side q) k (v side).valid p

  pub reading_after : (p : Point) (r : Reading) → IsReading vars a pairs p r → IsReading vars b pairs p r
  reading_after p r h = record { variables = h.variables; nets = λ n. by n (pair_at pairs n) (proper.each n) (h.nets n) }
    where
      by : (n : ℕ) (o : Option Pair) → IfSome o (IsProperPair vars a) → IfSome o (ReadsPair a p r n) → IfSome o (ReadsPair b p r n)
      by n None v e = tt
      by n (Some q) v e = λ side. e side ∙ sym (function_kept a b (literal_by side q) k (v side).valid p)

  pub reads_kept : (g : Reading → Bool) (f : Ref) → Reads vars a pairs g f → Reads vars b pairs g f
  reads_kept g f h = record {
    proper = proper_kept (all_rails vars) a b f k h.proper;
    means = λ p r is. function_kept a b f k h.proper.valid p ∙ h.means p r (reading_before p r is);
  }

  pub reads_both : (g h both : Reading → Bool) (f x r : Ref) → Reads vars a pairs g f → Reads vars a pairs h x → IsConjunction a b f x r
      → ((q : Reading) → both q ≡ (g q && h q)) → Reads vars b pairs both r
  reads_both g h both f x r rf rx made e = record {
    proper = record {
      valid = made.valid;
      monotone = monotone_same (all_rails vars) (function_of b r) (λ p. function_of a f p && function_of a x p) made.means
          (record { rises = λ p q below. and_rises (function_of a f p) (function_of a f q) (function_of a x p) (function_of a x q) (rf.proper.monotone.rises p q below) (rx.proper.monotone.rises p q below) });
    };
    means = λ p q is. made.means p ∙ (λ i. rf.means p q (reading_before p q is) i && rx.means p q (reading_before p q is) i) ∙ sym (e q);
  }

  pub reads_either : (g h either : Reading → Bool) (f x r : Ref) → Reads vars a pairs g f → Reads vars a pairs h x → IsDisjunction a b f x r
      → ((q : Reading) → either q ≡ (g q || h q)) → Reads vars b pairs either r
  reads_either g h either f x r rf rx made e = record {
    proper = record {
      valid = made.valid;
      monotone = monotone_same (all_rails vars) (function_of b r) (λ p. function_of a f p || function_of a x p) made.means
          (record { rises = λ p q below. or_rises (function_of a f p) (function_of a f q) (function_of a x p) (function_of a x q) (rf.proper.monotone.rises p q below) (rx.proper.monotone.rises p q below) });
    };
    means = λ p q is. made.means p ∙ (λ i. rf.means p q (reading_before p q is) i || rx.means p q (reading_before p q is) i) ∙ sym (e q);
  }

-- a constant reads itself
pub reads_constant : (vars : List (Var × Bool)) (d : Diagram) (pairs : List (Option Pair)) (value : Bool) (holds : Point → Bool) (f : Ref)
    → ((p : Point) → holds p ≡ value) → Is d holds f → IsMonotone (all_rails vars) (function_of d f) → Reads vars d pairs (λ r. value) f
reads_constant vars d pairs value holds f e is m = record { proper = record { valid = is.valid; monotone = m }; means = λ p r h. is.means p ∙ e p }

and_true : (b : Bool) → (b && true) ≡ b
and_true true = refl
and_true false = refl

module _ (vars : List (Var × Bool)) (d : Diagram) (pairs : List (Option Pair)) (x : VarLit) where
  abbrev means : Reading → Bool
  means r = literal_read r true x

  -- a literal of a listed variable
  pub reads_listed : (f : Ref) → is_listed vars x.var ≡ true → Is d (row_holds (all_rails vars) (x ∷ [])) f → IsMonotone (all_rails vars) (function_of d f) → Reads vars d pairs means f
  reads_listed f listed is m = record { proper = record { valid = is.valid; monotone = m }; means = λ p r h. is.means p ∙ and_true (literal_holds (all_rails vars) x p) ∙ by (listed_among vars x.var listed) p r h }
    where
      by : (w : Var × Bool) × Among w vars × (w.0 ≡ x.var) → (p : Point) (r : Reading) → IsReading vars d pairs p r → literal_holds (all_rails vars) x p ≡ r x.var x.high
      by (w, a, e) p r h = sym (subst (λ v. r v x.high ≡ literal_holds (all_rails vars) (record { var = v; high = x.high }) p) e (h.variables.each w a x.high))

  -- a literal of a joined net
  pub reads_paired : (q : Pair) → pair_named pairs x.var ≡ Some q → AreProper vars d pairs → Reads vars d pairs means (literal_by x.high q)
  reads_paired q = by x.var refl
    where
      by : (v : Var) → x.var ≡ v → pair_named pairs v ≡ Some q → AreProper vars d pairs → Reads vars d pairs means (literal_by x.high q)
      by (Reg u) is e proper = cc
      by (Net n) is e proper = record {
        proper = subst (λ o. IfSome o (IsProperPair vars d)) e (proper.each n) x.high;
        means = λ p r h. sym (ap (λ v. r v x.high) is ∙ subst (λ o. IfSome o (ReadsPair d p r n)) e (h.nets n) x.high);
      }

-- a known variable that is no joined net is listed
pub known_listed : (vars : List (Var × Bool)) (pairs : List (Option Pair)) (v : Var) → is_known vars pairs v ≡ true → None ≡ pair_named pairs v → is_listed vars v ≡ true
known_listed vars pairs v known e = ap (λ o. is_pair o || is_listed vars v) e ∙ known

pub reads_listed_ok : {E : Type 0} (vars : List (Var × Bool)) (d : Diagram) (pairs : List (Option Pair)) (x : VarLit) (o : Result Ref E) → is_listed vars x.var ≡ true
    → IfOk o (Is d (row_holds (all_rails vars) (x ∷ []))) → IfOk o (λ f. IsMonotone (all_rails vars) (function_of d f)) → IfOk o (Reads vars d pairs (λ r. literal_read r true x))
reads_listed_ok vars d pairs x (Ok f) listed is m = reads_listed vars d pairs x f listed is m
reads_listed_ok vars d pairs x (Err e) listed is m = tt

-- over a graph that was kept all is as it was
pub fit_kept : (a b : Held) → b.vars ≡ a.vars → Keeps a.graph b.graph → IsFit a → IsFit b
fit_kept a b e k fit = k.vars ∙ fit ∙ sym (ap (λ vs. length (all_rails vs)) e)

pub pairs_kept_in : (a b : Held) (pairs : List (Option Pair)) → b.vars ≡ a.vars → Keeps a.graph b.graph → AreProper a.vars a.graph pairs → AreProper b.vars b.graph pairs
pairs_kept_in a b pairs e k proper = subst (λ vs. AreProper vs b.graph pairs) (sym e) (pairs_kept a.vars a.graph b.graph pairs k proper)

-- The triple of a variable, and the triples of all.
use Rattle.std.proofs.Common.{ℕ, zero, suc, ◌≡◌, ◌+◌, ◌<◌, ◌&&◌, ◌||◌, not, Bool, true, false, List, [], ◌∷◌, ◌++◌, take, drop, length, get_or, refl, sym, ap, ◌∙◌, subst}
use Rattle.std.proofs.lemmas.List.{take_more}
use Rattle.bdd.specs.Diagram.{Diagram, IsValid, Keeps, function_of}
use Rattle.bdd.specs.declared.Ref.{Ref}
use Rattle.mig_base.specs.declared.levels.Level.{Level}
use Rattle.mig_base.specs.declared.levels.Level.TheVariants.{Zero, One, Z, X}
use Rattle.mig_base.specs.declared.nets.Var.{Var}
use Rattle.mig_base.specs.declared.nets.Var.TheVariants.{Net, Reg}
use Rattle.mig_base.specs.Levels.{and3, level_at, not3, read_level, same_level}
use Rattle.rails.specs.Variables.{all_rails}
use Rattle.rails.specs.Levels.{AreLevels, level_between, level_of, point_under, row_level, value_under}
use Rattle.reckoning.specs.declared.triples.Three.{Three}
use Rattle.reckoning.specs.Triples.{AreTriples, PlaceSays}
use Rattle.reckoning.proofs.Kept.{function_kept, says_kept, triple_kept}
use Rattle.reckoned.specs.Variables.{AllFit, FitsVariable, may_float}
use Rattle.reckoned.specs.VariableTriples.{AreTriplesOf, IsFloat, IsTripleOf}
use Rattle.reckoned.proofs.LevelLists.{LevelsAre}

-- where a function of one literal holds
one-holds : (low high : Bool) (y : Level) → level_between low high ≡ and3 y One → low ≡ same_level y One
one-holds true high Zero e = cc
one-holds true high One e = refl
one-holds true high Z e = cc
one-holds true high X e = cc
one-holds false true Zero e = refl
one-holds false true One e = cc
one-holds false true Z e = refl
one-holds false true X e = refl
one-holds false false Zero e = refl
one-holds false false One e = cc
one-holds false false Z e = refl
one-holds false false X e = refl

read-one : (x : Level) → same_level (read_level x) One ≡ same_level x One
read-one Zero = refl
read-one One = refl
read-one Z = refl
read-one X = refl

read-zero : (x : Level) → same_level (not3 (read_level x)) One ≡ same_level x Zero
read-zero Zero = refl
read-zero One = refl
read-zero Z = refl
read-zero X = refl

float-is : (v : Var) (pure : Bool) (x : Level) → FitsVariable (v, pure) x → (may_float (v, pure) && not (same_level x One || same_level x Zero)) ≡ same_level x Z
float-is (Net n) true Zero h = refl
float-is (Net n) true One h = refl
float-is (Net n) true Z h = absurd h
float-is (Net n) true X h = absurd h
float-is (Net n) false Zero h = refl
float-is (Net n) false One h = refl
float-is (Net n) false Z h = refl
float-is (Net n) false X h = absurd h
float-is (Reg u) true Zero h = refl
float-is (Reg u) true One h = refl
float-is (Reg u) true Z h = absurd h
float-is (Reg u) true X h = absurd h
float-is (Reg u) false Zero h = refl
float-is (Reg u) false One h = refl
float-is (Reg u) false Z h = absurd (h refl)
float-is (Reg u) false X h = refl

-- graphs after the true literal, after the complement one and after where the variable floats
pub triple-made : (a b c : Diagram) (vars : List (Var × Bool)) (v : Var) (pure : Bool) (f g float : Ref) → Keeps a b → Keeps b c → IsValid a f → IsValid b g →
    ((levels : List Level) → AreLevels vars levels → value_under (all_rails vars) (function_of a f) levels ≡ row_level vars levels (record { var = v; high = true } ∷ [])) →
    ((levels : List Level) → AreLevels vars levels → value_under (all_rails vars) (function_of b g) levels ≡ row_level vars levels (record { var = v; high = false } ∷ [])) →
    IsFloat b c (may_float (v, pure)) f g float → IsTripleOf c vars (v, pure) (record { one = f; zero = g; float = float })
triple-made a b c vars v pure f g float ab bc valid_one valid_zero is_one is_zero is_float = record {
  valid = record { one = bc.valid f (ab.valid f valid_one); zero = bc.valid g valid_zero; float = is_float.valid };
  says = λ levels x are level fits.
      let p = point_under false (all_rails vars) levels in
      let q = point_under true (all_rails vars) levels in
      let here_one : function_of a f p ≡ same_level x One =
      one-holds (function_of a f p) (function_of a f q) (level_of vars levels v) (is_one levels are) ∙ ap (λ (y : Level). same_level y One) level ∙ read-one x in
      let here_zero : function_of b g p ≡ same_level x Zero =
      one-holds (function_of b g p) (function_of b g q) (not3 (level_of vars levels v)) (is_zero levels are) ∙ ap (λ (y : Level). same_level (not3 y) One) level ∙ read-zero x in
      let later_one : function_of b f p ≡ same_level x One = function_kept a b f ab valid_one p ∙ here_one in
      record {
        one = function_kept b c f bc (ab.valid f valid_one) p ∙ later_one;
        zero = function_kept b c g bc valid_zero p ∙ here_zero;
        float = is_float.means p ∙ (λ i. may_float (v, pure) && not (later_one i || here_zero i)) ∙ float-is v pure x fits;
      };
}

-- the same, where the second literal is read over a list that is the first one's, and the last graph begins as the second ends
pub triple-after : (a b lent c : Diagram) (vars later : List (Var × Bool)) (v : Var) (pure floats : Bool) (f g float : Ref) → later ≡ vars → lent ≡ b → floats ≡ may_float (v, pure) →
    Keeps a b → Keeps lent c → IsValid a f → IsValid b g →
    ((levels : List Level) → AreLevels vars levels → value_under (all_rails vars) (function_of a f) levels ≡ row_level vars levels (record { var = v; high = true } ∷ [])) →
    ((levels : List Level) → AreLevels later levels → value_under (all_rails later) (function_of b g) levels ≡ row_level later levels (record { var = v; high = false } ∷ [])) →
    IsFloat lent c floats f g float → IsTripleOf c vars (v, pure) (record { one = f; zero = g; float = float })
triple-after a b lent c vars later v pure floats f g float same loan choice ab bc valid_one valid_zero is_one is_zero is_float =
    triple-made a b c vars v pure f g float ab (subst (λ (d : Diagram). Keeps d c) loan bc) valid_one valid_zero is_one
    (subst (λ (vs : List (Var × Bool)). (levels : List Level) → AreLevels vs levels → value_under (all_rails vs) (function_of b g) levels ≡ row_level vs levels (record { var = v; high = false } ∷ [])) same is_zero)
    (subst (λ (d : Diagram). IsFloat d c (may_float (v, pure)) f g float) loan (subst (λ (q : Bool). IsFloat lent c q f g float) choice is_float))

of-kept : (a b : Diagram) (vars : List (Var × Bool)) (v : Var × Bool) (t : Three) → Keeps a b → IsTripleOf a vars v t → IsTripleOf b vars v t
of-kept a b vars v t k is = record {
  valid = triple_kept a b t k is.valid;
  says = λ levels x are level fits. says_kept a b t (point_under false (all_rails vars) levels) x k is.valid (is.says levels x are level fits);
}

of-push : (a b : Diagram) (vars vs : List (Var × Bool)) (v : Var × Bool) (ts : List Three) (t : Three) → Keeps a b → AreTriplesOf a vars vs ts → IsTripleOf b vars v t →
    AreTriplesOf b vars (vs ++ v ∷ []) (ts ++ t ∷ [])
of-push a b vars [] v [] t k are is = (is, tt)
of-push a b vars [] v (s ∷ ts) t k are is = absurd are
of-push a b vars (w ∷ vs) v [] t k are is = absurd are
of-push a b vars (w ∷ vs) v (s ∷ ts) t k are is = (of-kept a b vars w s k are.0, of-push a b vars vs v ts t k are.1 is)

pub of-more : (a b : Diagram) (vars : List (Var × Bool)) (i : ℕ) (d : Var × Bool) (ts new : List Three) (t : Three) → i < length vars → Keeps a b → new ≡ ts ++ t ∷ [] →
    AreTriplesOf a vars (take i vars) ts → IsTripleOf b vars (get_or vars i d) t → AreTriplesOf b vars (take (i + 1) vars) new
of-more a b vars i d ts new t lt k e are is =
    subst (AreTriplesOf b vars (take (i + 1) vars)) (sym e)
    (subst (λ (vs : List (Var × Bool)). AreTriplesOf b vars vs (ts ++ t ∷ [])) (sym (take_more vars i d lt)) (of-push a b vars (take i vars) (get_or vars i d) ts t k are is))

-- the same, where the variables are read off a list that is the first one
pub of-next : (a b : Diagram) (vars now read : List (Var × Bool)) (i : ℕ) (d : Var × Bool) (ts new : List Three) (t : Three) → now ≡ vars → read ≡ now → i < length vars → Keeps a b → new ≡ ts ++ t ∷ [] →
    AreTriplesOf a vars (take i vars) ts → IsTripleOf b now (get_or read i d) t → AreTriplesOf b vars (take (i + 1) vars) new
of-next a b vars now read i d ts new t same seen lt k e are is =
    of-more a b vars i d ts new t lt k e are
    (subst (λ (vs : List (Var × Bool)). IsTripleOf b vs (get_or vs i d) t) same (subst (λ (vs : List (Var × Bool)). IsTripleOf b now (get_or vs i d) t) seen is))

pub of-left : (d : Diagram) (vars vs ws : List (Var × Bool)) (ts : List Three) → AreTriplesOf d vars (vs ++ ws) ts → AreTriplesOf d vars vs (take (length vs) ts)
of-left d vars [] ws ts are = tt
of-left d vars (v ∷ vs) ws [] are = absurd are
of-left d vars (v ∷ vs) ws (t ∷ ts) are = (are.0, of-left d vars vs ws ts are.1)

pub of-right : (d : Diagram) (vars vs ws : List (Var × Bool)) (ts : List Three) → AreTriplesOf d vars (vs ++ ws) ts → AreTriplesOf d vars ws (drop (length vs) ts)
of-right d vars [] ws ts are = are
of-right d vars (v ∷ vs) ws [] are = absurd are
of-right d vars (v ∷ vs) ws (t ∷ ts) are = of-right d vars vs ws ts are.1

pub of-valid : (d : Diagram) (vars vs : List (Var × Bool)) (ts : List Three) → AreTriplesOf d vars vs ts → AreTriples d ts
of-valid d vars [] [] are n = tt
of-valid d vars [] (t ∷ ts) are n = absurd are
of-valid d vars (v ∷ vs) [] are n = absurd are
of-valid d vars (v ∷ vs) (t ∷ ts) are zero = are.0.valid
of-valid d vars (v ∷ vs) (t ∷ ts) are (suc n) = of-valid d vars vs ts are.1 n

-- at the point of levels each triple says its variable's level
pub each-says : (d : Diagram) (vars : List (Var × Bool)) (levels : List Level) (vs : List (Var × Bool)) (xs : List Level) (ts : List Three) → AreLevels vars levels → AreTriplesOf d vars vs ts →
    AllFit vs xs → LevelsAre vars levels vs xs → (i : ℕ) → PlaceSays d ts i (point_under false (all_rails vars) levels) (level_at xs i)
each-says d vars levels [] [] [] all are fit is i = refl
each-says d vars levels [] [] (t ∷ ts) all are fit is i = absurd are
each-says d vars levels [] (x ∷ xs) ts all are fit is i = absurd fit
each-says d vars levels (v ∷ vs) [] ts all are fit is i = absurd fit
each-says d vars levels (v ∷ vs) (x ∷ xs) [] all are fit is i = absurd are
each-says d vars levels (v ∷ vs) (x ∷ xs) (t ∷ ts) all are fit is zero = are.0.says levels x all is.0 fit.0
each-says d vars levels (v ∷ vs) (x ∷ xs) (t ∷ ts) all are fit is (suc i) = each-says d vars levels vs xs ts all are.1 fit.1 is.1 i

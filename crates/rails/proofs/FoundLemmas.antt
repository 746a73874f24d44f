-- Each literal of a listed variable has its Boolean.
use Rattle.std.proofs.Common.{◌≡◌, ℕ, ◌+◌, Bool, true, false, not, ◌&&◌, ◌||◌, cond, refl, sym, ◌∙◌, ap, arith, List, [], ◌∷◌, slice_get, Some, suc, add-zero}
use Rattle.std.specs.List.{list_any}
use Rattle.bdd.specs.Tree.{Point}
use Rattle.mig_base.specs.Levels.{level_at}
use Rattle.mig_base.specs.declared.levels.Level.{Level}
use Rattle.mig_base.specs.declared.nets.Var.{Var}
use Rattle.mig_base.specs.declared.nets.VarLit.{VarLit}
use Rattle.rails.specs.declared.Side.TheVariants.{Pure, High, Low}
use Rattle.rails.specs.declared.Rail.{Rail}
use Rattle.rails.specs.Variables.{rails_from, same_var}
use Rattle.rails.specs.Points.{has_literal, carries, read_off, literal_in, IsListed}
use Rattle.rails.specs.Steps.{IsCarried}
use Rattle.rails.specs.Levels.{AreLevels, level_of}

-- the first Boolean that carries the literal x, and the number of its variable
pub record FoundAt (k : ℕ) (vs : List (Var × Bool)) (x : VarLit) : Type 0 where
  pub place : ℕ
  pub rail : Rail
  pub at : slice_get (rails_from k vs) place ≡ Some rail
  pub has : has_literal rail.side x.high ≡ true
  pub reads : (m : ℕ) (p : Point) → literal_in m (rails_from k vs) x p ≡ read_off rail.side x.high (p (m + place))
  pub carried : IsCarried (rails_from k vs) x
  pub index : ℕ
  pub number : rail.variable ≡ k + index
  pub level : (ls : List Level) → AreLevels vs ls → level_of vs ls x.var ≡ level_at ls index

module _ (k : ℕ) (v : Var) (pure : Bool) (vs : List (Var × Bool)) (x : VarLit) where
  -- the level of the first variable
  first_level : same_var v x.var ≡ true → (ls : List Level) → AreLevels ((v, pure) ∷ vs) ls → level_of ((v, pure) ∷ vs) ls x.var ≡ level_at ls 0
  first_level e [] h = absurd h
  first_level e (l ∷ ls) h = ap (λ b. cond b l (level_of vs ls x.var)) e

  later_level : same_var v x.var ≡ false → (j : ℕ) → ((ls : List Level) → AreLevels vs ls → level_of vs ls x.var ≡ level_at ls j)
      → (ls : List Level) → AreLevels ((v, pure) ∷ vs) ls → level_of ((v, pure) ∷ vs) ls x.var ≡ level_at ls (suc j)
  later_level e j f [] h = absurd h
  later_level e j f (l ∷ ls) h = ap (λ b. cond b l (level_of vs ls x.var)) e ∙ f ls h.1

here_pure : (k : ℕ) (v : Var) (vs : List (Var × Bool)) (x : VarLit) → same_var v x.var ≡ true → FoundAt k ((v, true) ∷ vs) x
here_pure k v vs x e = record {
  place = 0;
  rail = record { var = v; variable = k; side = Pure };
  at = refl;
  has = refl;
  reads = λ m p. ap (λ b. cond (b && true) (read_off Pure x.high (p m)) (literal_in (m + 1) (rails_from (k + 1) vs) x p)) e ∙ ap (λ j. read_off Pure x.high (p j)) (sym (add-zero m));
  carried = ap (λ b. (b && true) || list_any (carries x) (rails_from (k + 1) vs)) e;
  index = 0;
  number = omega arith;
  level = first_level k v true vs x e;
}

here_impure : (k : ℕ) (v : Var) (vs : List (Var × Bool)) (x : VarLit) → same_var v x.var ≡ true → (high : Bool) → x.high ≡ high → FoundAt k ((v, false) ∷ vs) x
here_impure k v vs x e true f = record {
  place = 0;
  rail = record { var = v; variable = k; side = High };
  at = refl;
  has = f;
  reads = λ m p. (λ i. cond (e i && f i) (p m) (literal_in (m + 1) (record { var = v; variable = k; side = Low } ∷ rails_from (k + 1) vs) x p)) ∙ ap p (sym (add-zero m));
  carried = (λ i. (e i && f i) || list_any (carries x) (record { var = v; variable = k; side = Low } ∷ rails_from (k + 1) vs));
  index = 0;
  number = omega arith;
  level = first_level k v false vs x e;
}
here_impure k v vs x e false f = record {
  place = 1;
  rail = record { var = v; variable = k; side = Low };
  at = refl;
  has = ap not f;
  reads = λ m p i. cond (e i && f i) (p m) (cond (e i && not (f i)) (p (m + 1)) (literal_in (m + 1 + 1) (rails_from (k + 1) vs) x p));
  carried = (λ i. (e i && f i) || ((e i && not (f i)) || list_any (carries x) (rails_from (k + 1) vs)));
  index = 0;
  number = omega arith;
  level = first_level k v false vs x e;
}

later : (k : ℕ) (v : Var) (pure : Bool) (vs : List (Var × Bool)) (x : VarLit) → same_var v x.var ≡ false → FoundAt (k + 1) vs x → FoundAt k ((v, pure) ∷ vs) x
later k v true vs x e f = record {
  place = suc f.place;
  rail = f.rail;
  at = f.at;
  has = f.has;
  reads = λ m p. ap (λ b. cond (b && true) (read_off Pure x.high (p m)) (literal_in (m + 1) (rails_from (k + 1) vs) x p)) e
      ∙ f.reads (m + 1) p ∙ ap (λ j. read_off f.rail.side x.high (p j)) (omega arith);
  carried = ap (λ b. (b && true) || list_any (carries x) (rails_from (k + 1) vs)) e ∙ f.carried;
  index = suc f.index;
  number = omega (arith, f.number);
  level = later_level k v true vs x e f.index f.level;
}
later k v false vs x e f = record {
  place = suc (suc f.place);
  rail = f.rail;
  at = f.at;
  has = f.has;
  reads = λ m p. ap (λ b. cond (b && x.high) (p m) (cond (b && not x.high) (p (m + 1)) (literal_in (m + 1 + 1) (rails_from (k + 1) vs) x p))) e
      ∙ f.reads (m + 1 + 1) p ∙ ap (λ j. read_off f.rail.side x.high (p j)) (omega arith);
  carried = ap (λ b. (b && x.high) || ((b && not x.high) || list_any (carries x) (rails_from (k + 1) vs))) e ∙ f.carried;
  index = suc f.index;
  number = omega (arith, f.number);
  level = later_level k v false vs x e f.index f.level;
}

pub found_from : (k : ℕ) (vs : List (Var × Bool)) (x : VarLit) → IsListed vs x.var → FoundAt k vs x
found_from k [] x h = cc
found_from k ((v, pure) ∷ vs) x h = by (same_var v x.var) refl (found_from (k + 1) vs x)
  where
    by : (b : Bool) → same_var v x.var ≡ b → (IsListed vs x.var → FoundAt (k + 1) vs x) → FoundAt k ((v, pure) ∷ vs) x
    by true e rest = first pure
      where
        first : (pure : Bool) → FoundAt k ((v, pure) ∷ vs) x
        first true = here_pure k v vs x e
        first false = here_impure k v vs x e x.high refl
    by false e rest = later k v pure vs x e (rest (sym (ap (λ c. c || list_any (λ (w : Var × Bool). same_var w.0 x.var) vs) e) ∙ h))

pub found : (vs : List (Var × Bool)) (x : VarLit) → IsListed vs x.var → FoundAt 0 vs x
found vs x h = found_from 0 vs x h

-- The list of the Booleans of some variables.
use Rattle.std.proofs.Common.{◌≡◌, ℕ, ◌+◌, ◌-◌, ◌*◌, ◌<◌, ◌≤◌, Bool, true, false, refl, sym, ◌∙◌, ap, subst, arith, List, [], ◌∷◌, ◌++◌, length, length-append, append_assoc, slice_get, Option, None, Some, IfSome, zero, suc, append-nil}
use Rattle.std.proofs.lemmas.Option.{slice_get_within, same_Some}
use Rattle.mig_base.specs.declared.nets.Var.{Var}
use Rattle.rails.specs.declared.Side.{Side}
use Rattle.rails.specs.declared.Side.TheVariants.{Pure, High, Low}
use Rattle.rails.specs.declared.Rail.{Rail}
use Rattle.rails.specs.Variables.{rails_of, rails_from, all_rails}
use Rattle.rails.specs.Steps.{IsPairedBy, ArePaired, AreNumbered}

-- the Booleans of one more variable come last
pub rails_push : (k : ℕ) (vs : List (Var × Bool)) (w : Var × Bool) → rails_from k (vs ++ w ∷ []) ≡ rails_from k vs ++ rails_of (k + length vs) w
rails_push k [] w = append-nil (rails_of k w) ∙ ap (λ j. rails_of j w) (omega arith)
rails_push k (v ∷ vs) w =
    ap (λ rs. rails_of k v ++ rs) (rails_push (k + 1) vs w)
    ∙ ap (λ j. rails_of k v ++ (rails_from (k + 1) vs ++ rails_of j w)) (omega arith)
    ∙ sym (append_assoc (rails_of k v) (rails_from (k + 1) vs) (rails_of (k + length (v ∷ vs)) w))

-- a variable has one Boolean or two
of_one : (k : ℕ) (v : Var × Bool) → length (rails_of k v) ≤ 2
of_one k (v, true) = omega arith
of_one k (v, false) = omega arith

pub rails_few : (k : ℕ) (vs : List (Var × Bool)) → length (rails_from k vs) ≤ 2 * length vs
rails_few k [] = omega arith
rails_few k (v ∷ vs) = omega (arith, length-append (rails_of k v) (rails_from (k + 1) vs), of_one k v, rails_few (k + 1) vs)

-- what stands at a place of a list stands one place on behind one more item
shift : (x : Rail) (rs : List Rail) (n : ℕ) (r : Rail) (s : Side) → IsPairedBy rs n r s → IsPairedBy (x ∷ rs) (suc n) r s
shift x rs n r Pure h = tt
shift x rs n r High h = subst (λ m. slice_get (x ∷ rs) m ≡ Some (record { var = r.var; variable = r.variable; side = Low })) (ahead n) h
  where
    ahead : (n : ℕ) → suc (n + 1) ≡ suc n + 1
    ahead n = omega arith
shift x rs n r Low h = (omega arith, subst (λ m. slice_get (x ∷ rs) m ≡ Some (record { var = r.var; variable = r.variable; side = High })) (back n h.0) h.1)
  where
    back : (n : ℕ) → 1 ≤ n → suc (n - 1) ≡ suc n - 1
    back n l = omega arith

abbrev Each : List Rail → ℕ → Type 0
Each rs n = IfSome (slice_get rs n) (λ r. IsPairedBy rs n r r.side)

each_shift : (x : Rail) (rs : List Rail) (n : ℕ) → Each rs n → Each (x ∷ rs) (suc n)
each_shift x rs n h = by (slice_get rs n) h
  where
    by : (o : Option Rail) → IfSome o (λ r. IsPairedBy rs n r r.side) → IfSome o (λ r. IsPairedBy (x ∷ rs) (suc n) r r.side)
    by None h = tt
    by (Some r) h = shift x rs n r r.side h

pub paired_from : (k : ℕ) (vs : List (Var × Bool)) (n : ℕ) → Each (rails_from k vs) n
paired_from k [] n = tt
paired_from k ((v, true) ∷ vs) zero = tt
paired_from k ((v, true) ∷ vs) (suc n) = each_shift (record { var = v; variable = k; side = Pure }) (rails_from (k + 1) vs) n (paired_from (k + 1) vs n)
paired_from k ((v, false) ∷ vs) zero = refl
paired_from k ((v, false) ∷ vs) (suc zero) = (omega arith, refl)
paired_from k ((v, false) ∷ vs) (suc (suc n)) =
    each_shift (record { var = v; variable = k; side = High }) (record { var = v; variable = k; side = Low } ∷ rails_from (k + 1) vs) (suc n)
    (each_shift (record { var = v; variable = k; side = Low }) (rails_from (k + 1) vs) n (paired_from (k + 1) vs n))

pub all_paired : (vs : List (Var × Bool)) → ArePaired (all_rails vs)
all_paired vs = record { each = paired_from 0 vs }

-- whether a side is that of a pure variable
abbrev pub is_pure : Side → Bool
is_pure Pure = true
is_pure High = false
is_pure Low = false

-- the variable that a Boolean stands for, in a list whose first variable is number k
pub record Origin (k : ℕ) (vs : List (Var × Bool)) (r : Rail) : Type 0 where
  pub index : ℕ
  pub number : r.variable ≡ k + index
  pub named : slice_get vs index ≡ Some (r.var, is_pure r.side)

origin_shift : (k : ℕ) (v : Var × Bool) (vs : List (Var × Bool)) (r : Rail) → Origin (k + 1) vs r → Origin k (v ∷ vs) r
origin_shift k v vs r h = record { index = suc h.index; number = omega (arith, h.number); named = h.named }

origin_here : (k : ℕ) (v : Var) (vs : List (Var × Bool)) (s : Side) (r : Rail) → record { var = v; variable = k; side = s } ≡ r → Origin k ((v, is_pure s) ∷ vs) r
origin_here k v vs s r e = subst (λ q. Origin k ((v, is_pure s) ∷ vs) q) e (record { index = 0; number = omega arith; named = refl })

pub origin : (k : ℕ) (vs : List (Var × Bool)) (n : ℕ) (r : Rail) → slice_get (rails_from k vs) n ≡ Some r → Origin k vs r
origin k [] n r e = cc
origin k ((v, true) ∷ vs) zero r e = origin_here k v vs Pure r (same_Some (record { var = v; variable = k; side = Pure }) r e)
origin k ((v, true) ∷ vs) (suc n) r e = origin_shift k (v, true) vs r (origin (k + 1) vs n r e)
origin k ((v, false) ∷ vs) zero r e = origin_here k v vs High r (same_Some (record { var = v; variable = k; side = High }) r e)
origin k ((v, false) ∷ vs) (suc zero) r e = origin_here k v vs Low r (same_Some (record { var = v; variable = k; side = Low }) r e)
origin k ((v, false) ∷ vs) (suc (suc n)) r e = origin_shift k (v, false) vs r (origin (k + 1) vs n r e)

pub all_numbered : (vs : List (Var × Bool)) (n : ℕ) → length vs ≤ n → AreNumbered n (all_rails vs)
all_numbered vs n l = record { each = λ i. by i (slice_get (all_rails vs) i) refl }
  where
    by : (i : ℕ) (o : Option Rail) → slice_get (all_rails vs) i ≡ o → IfSome o (λ r. r.variable < n)
    by i None e = tt
    by i (Some r) e = let h = origin 0 vs i r e in let w = slice_get_within vs h.index (r.var, is_pure r.side) h.named in omega (arith, h.number)

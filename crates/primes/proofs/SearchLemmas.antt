-- The steps of the search over a graph that grows.
use Rattle.std.proofs.Common.{◌≡◌, ℕ, ◌+◌, ◌-◌, ◌<◌, Bool, true, false, cond, refl, sym, ◌∙◌, ap, subst, arith, List, [], ◌∷◌, length, Option, Some, None, IfSome, inl, inr, Result, Ok, Err, true≢false}
use Rattle.std.specs.Prelude.{IsErrAnd, IfErr, IsTrue, ◌↔◌}
use Rattle.std.specs.HashMap.{HashMap, get, Updates}
use Rattle.std.specs.Map.{lookup}
use Rattle.bdd.specs.Tree.{Tree, Leaf, Branch, holds, IsFrom, first_variable, Point}
use Rattle.bdd.specs.Diagram.{Diagram, IsValid, tree, function_of, IsCanonical, Keeps, IsConstant, IsBranch, IsConjunction}
use Rattle.bdd.specs.declared.Ref.{Ref}
use Rattle.bdd.specs.contracts.RefPartialEq.TheImpl as ref_eq
use Rattle.bdd.proofs.Equality.{ref_exact}
use Rattle.bdd.proofs.TreeLemmas.{with_var, with_var_other, holds_agree, normal_from}
use Rattle.primes.specs.Prime.{Product, Function, IsPrime}
use Rattle.primes.specs.Steps.{In, here, AreAllPrimes, AreMorePrimes, AreFound, IsGivenUp, combined}
use Rattle.primes.specs.declared.PrimeError.{PrimeError}
use Rattle.primes.specs.declared.PrimeError.TheVariants.{Over, Memory}
use Rattle.primes.specs.Memo.{IsKnown, AreKnown}
use Rattle.primes.proofs.PrimeLemmas.{IsFreeOf, no_prime_of_false, prime_of_true, true_prime}
use Rattle.primes.proofs.ListLemmas.{of_cons}
use Rattle.primes.proofs.ChoiceLemmas.{IsChoiceOf, combined_all, more_shared, more_low, more_high}

abbrev same_ref : Ref → Ref → Bool
same_ref = (ref_eq.ghosts).eq

-- the constants
pub true_primes : AreAllPrimes (λ _. true) ([] ∷ [])
true_primes = record {
  some = record {
    distinct = ((λ h. elim h [ ]), tt);
    sound = λ t h. elim (of_cons t [] [] h) [ inl e ↦ subst (IsPrime (λ _. true)) e true_prime | inr k ↦ elim k [ ] ];
  };
  complete = λ t h. subst (λ u. In u ([] ∷ [])) (sym (prime_of_true t h)) here;
  covers = λ p m. refl;
}

pub false_primes : AreAllPrimes (λ _. false) []
false_primes = record { some = record { distinct = tt; sound = λ t h. elim h [ ] }; complete = λ t h. absurd (no_prime_of_false t h); covers = λ p m. absurd (true≢false (sym m)) }

-- a ref has its function in a graph that keeps it
pub found_kept : (d e : Diagram) (f : Ref) (n : ℕ) (ts : List Product) → Keeps d e → IsValid d f → AreFound (function_of d f) n ts → AreFound (function_of e f) n ts
found_kept d e f n ts k v h = subst (λ t. AreFound (λ p. holds t p) n ts) (sym (k.tree f v)) h

pub found_back : (d e : Diagram) (f : Ref) (n : ℕ) (ts : List Product) → Keeps d e → IsValid d f → AreFound (function_of e f) n ts → AreFound (function_of d f) n ts
found_back d e f n ts k v h = subst (λ t. AreFound (λ p. holds t p) n ts) (k.tree f v) h

pub more_back : (d e : Diagram) (f : Ref) (n : ℕ) → Keeps d e → IsValid d f → AreMorePrimes (function_of e f) n → AreMorePrimes (function_of d f) n
more_back d e f n k v h = subst (λ t. AreMorePrimes (λ p. holds t p) n) (k.tree f v) h

-- the memo
pub known_kept : {V S : Type 0} (items : V → List Product) (d e : Diagram) (n : ℕ) (m : HashMap Ref V S) → Keeps d e → AreKnown items d n m → AreKnown items e n m
known_kept {V} items d e n m k h = record { each = λ f. by f (get same_ref m f) (h.each f) }
  where
    by : (f : Ref) (o : Option V) → IfSome o (λ v. IsKnown d n f (items v)) → IfSome o (λ v. IsKnown e n f (items v))
    by f None h = tt
    by f (Some v) h = record { valid = k.valid f h.valid; found = found_kept d e f n (items v) k h.valid h.found }

pub known_grown : {V S : Type 0} (items : V → List Product) (d : Diagram) (n : ℕ) (m o : HashMap Ref V S) (f : Ref) (v : V) → Updates same_ref m o f (Some v) → AreKnown items d n m → IsKnown d n f (items v) → AreKnown items d n o
known_grown items d n m o f v u h k = record { each = λ q. subst (λ x. IfSome x (λ w. IsKnown d n q (items w))) (sym (u.0 q)) (by q (same_ref f q) refl) }
  where
    by : (q : Ref) (b : Bool) → same_ref f q ≡ b → IfSome (cond b (Some v) (get same_ref m q)) (λ w. IsKnown d n q (items w))
    by q true e = subst (λ x. IsKnown d n x (items v)) (ref_exact f q e) k
    by q false e = h.each q

pub known_none : {V S : Type 0} (items : V → List Product) (d : Diagram) (n : ℕ) (m : HashMap Ref V S) → m.entries ≡ [] → AreKnown items d n m
known_none items d n m h = record { each = λ f. subst (λ es. IfSome (lookup (same_ref f) es) (λ v. IsKnown d n f (items v))) (sym h) tt }

-- a function from v + 1 on is free of the places before
pub free_before : (d : Diagram) (f : Ref) (v : ℕ) → IsCanonical d → IsValid d f → IsFrom (v + 1) (tree d f) → (w : ℕ) → w < v + 1 → IsFreeOf (function_of d f) w
free_before d f v c l h w lt b p =
    holds_agree (tree d f) d.vars (v + 1) p (with_var p w b) (normal_from (tree d f) d.vars 0 (v + 1) (c.normal f l) h)
    (λ u le. with_var_other p w b u (omega arith))

-- a split ref chooses between its sides
pub is_choice : (d e : Diagram) (f low high both : Ref) (v : ℕ) → IsCanonical d → IsBranch d f v low high → IsConjunction d e low high both
    → IsChoiceOf v (function_of d low) (function_of d high) (function_of e both) (function_of d f)
is_choice d e f low high both v c s k = record {
  is = λ p. ap (λ t. holds t p) s.tree;
  shares = k.means;
  low_free = free_before d low v c s.low_valid s.low_from;
  high_free = free_before d high v c s.high_valid s.high_from;
}

-- the measure falls
fewer : (n v : ℕ) (t : Tree) → IsFrom (v + 1) t → v < n → n - first_variable n t < n - v
fewer n v (Leaf b) f l = omega arith
fewer n v (Branch w low high) f l = omega arith

pub falls : (d e : Diagram) (f g low high : Ref) (v : ℕ) → IsBranch d f v low high → Keeps d e → IsFrom (v + 1) (tree e g)
    → e.vars - first_variable e.vars (tree e g) < d.vars - first_variable d.vars (tree d f)
falls d e f g low high v s k from =
    let a = fewer d.vars v (tree e g) from s.var in
    let b = ap (first_variable d.vars) s.tree in
    let c = ap (λ n. n - first_variable n (tree e g)) k.vars in
    omega arith

pub true_more : (b : Bool) (n : ℕ) → b ≡ true → n ≡ 0 → AreMorePrimes (λ _. b) n
true_more true n e z = record { primes = [] ∷ []; some = true_primes.some; more = omega arith }
true_more false n e z = cc

pub true_found : (b : Bool) (n : ℕ) (ts : List Product) → b ≡ true → ts ≡ [] ∷ [] → 0 < n → AreFound (λ _. b) n ts
true_found true n ts e h l = record { all = subst (AreAllPrimes (λ _. true)) (sym h) true_primes; few = omega (arith, ap length h) }
true_found false n ts e h l = cc

pub false_found : (b : Bool) (n : ℕ) (ts : List Product) → b ≡ false → ts ≡ [] → AreFound (λ _. b) n ts
false_found true n ts e h = cc
false_found false n ts e h = record { all = subst (AreAllPrimes (λ _. false)) (sym h) false_primes; few = omega (arith, ap length h) }

-- where a part with more primes gives the whole more, the part's refusal is the whole's
pub given_up_lifts : {T : Type 0} (r : Result T PrimeError) (e : PrimeError) (f g : Function) (n : ℕ) → IsErrAnd r (λ x. x ≡ e) → (AreMorePrimes g n → AreMorePrimes f n) → IsGivenUp g n e → IfErr r (IsGivenUp f n)
given_up_lifts (Ok x) e f g n h lift k = tt
given_up_lifts (Err (Over m)) (Over k) f g n h lift s = (cc, lift s.1)
given_up_lifts (Err (Over m)) Memory f g n h lift s = cc
given_up_lifts (Err Memory) e f g n h lift s = tt

-- a constant ref, told by whether it is the constant 1
pub constant_is : (d : Diagram) (f one : Ref) (b : Bool) → (IsTrue b ↔ ((p : Point) → function_of d f p ≡ function_of d one p)) → IsConstant d true one → (c : Bool) → tree d f ≡ Leaf c → (p : Point) → b ≡ function_of d f p
constant_is d f one true same is true h p = sym (ap (λ t. holds t p) h)
constant_is d f one true same is false h p = absurd (true≢false (sym (ap (λ t. holds t p) is.tree) ∙ sym (same.0 refl p) ∙ ap (λ t. holds t p) h))
constant_is d f one false same is true h p = let no : IsTrue false = same.1 (λ q. ap (λ t. holds t q) h ∙ sym (ap (λ t. holds t q) is.tree)) in absurd (true≢false (sym no))
constant_is d f one false same is false h p = sym (ap (λ t. holds t p) h)

-- a split ref, and what it gives where its sides and what they share are searched one after another
module _ (d e : Diagram) (f low high both : Ref) (v n : ℕ) (c : IsCanonical d) (s : IsBranch d f v low high) (k : Keeps d e) (j : IsConjunction d e low high both) where
  abbrev chooses : IsChoiceOf v (function_of d low) (function_of d high) (function_of e both) (function_of d f)
  chooses = is_choice d e f low high both v c s j

  pub more_if_shared : AreMorePrimes (function_of e both) n → AreMorePrimes (function_of d f) n
  more_if_shared m = more_shared v (function_of d low) (function_of d high) (function_of e both) (function_of d f) chooses n m

  module _ (ss : List Product) (shared : AreFound (function_of e both) n ss) where
    pub more_if_low : (a : Diagram) → Keeps d a → AreMorePrimes (function_of a low) n → AreMorePrimes (function_of d f) n
    more_if_low a l m = more_low v (function_of d low) (function_of d high) (function_of e both) (function_of d f) chooses ss shared.all n (more_back d a low n l s.low_valid m)

    pub more_if_high : (a : Diagram) → Keeps d a → AreMorePrimes (function_of a high) n → AreMorePrimes (function_of d f) n
    more_if_high a l m = more_high v (function_of d low) (function_of d high) (function_of e both) (function_of d f) chooses ss shared.all n (more_back d a high n l s.high_valid m)

    pub all_if : (a b : Diagram) → Keeps d a → Keeps d b → (ls hs : List Product) → AreFound (function_of a low) n ls → AreFound (function_of b high) n hs
        → AreAllPrimes (function_of d f) (combined v ss ls hs)
    all_if a b ka kb ls hs l h =
        combined_all v (function_of d low) (function_of d high) (function_of e both) (function_of d f) chooses ss ls hs shared.all
        (found_back d a low n ls ka s.low_valid l).all (found_back d b high n hs kb s.high_valid h).all

-- The products of a cover are rows over the variables, with the same function.
use Rattle.std.proofs.Common.{ℕ, zero, suc, ◌≡◌, ◌⊎◌, ◌<◌, ◌≤◌, ◌+◌, Bool, true, false, cond, ◌&&◌, ◌||◌, List, [], ◌∷◌, map, length, eqb, Option, Some, None, refl, sym, ap, ◌∙◌, subst, inl, inr, All, arith, eq-eqb, ne_eqb}
use Rattle.std.specs.Prelude.{IfSome}
use Rattle.std.specs.List.{AllByRecursion, list_any, remove, slice_get}
use Rattle.std.proofs.lemmas.Bool.{and_from, cases_eq}
use Rattle.std.proofs.lemmas.List.Elements.{All-nil, All-cons}
use Rattle.std.proofs.lemmas.Option.{same_Some, slice_get_within}
use Rattle.bdd.specs.Tree.{Point}
use Rattle.mig_base.specs.Among.{Among}
use Rattle.mig_base.specs.Bools.{same_bool}
use Rattle.mig_base.specs.declared.nets.Var.{Var}
use Rattle.mig_base.specs.declared.nets.VarLit.{VarLit}
use Rattle.primes.specs.Prime.{Function, Literal, Product, suits, lies_in, in_some, IsRising, IsImplicant, IsPrime}
use Rattle.rails.specs.declared.Side.{Side}
use Rattle.rails.specs.declared.Side.TheVariants.{Pure, High, Low}
use Rattle.rails.specs.declared.Rail.{Rail}
use Rattle.rails.specs.Variables.{all_rails, same_var, AreRising}
use Rattle.rails.specs.Points.{literal_holds, row_holds, sum_holds, MayStand, IsListed, IsKept, IsBelow, IsMonotone}
use Rattle.rails.proofs.RailLemmas.{origin, is_pure}
use Rattle.rails.proofs.LiteralLemmas.{literal_means, same_self}
use Rattle.rails.proofs.ValueLemmas.{AllListed}
use Rattle.joined_rows.specs.Terms.{literal_or_none, literal_at, term_row}
use Rattle.mig_base.proofs.ListLaws.{item-at}

-- a product without one of its literals

abbrev Avoids : ℕ → Product → Type 0
Avoids n t = AllByRecursion (λ l. l.0 ≡ n → ⊥) t

rising-least : (k : ℕ) (t : Product) (i : ℕ) (l : Literal) → IsRising k t → slice_get t i ≡ Some l → k ≤ l.0
rising-least k [] i l h e = cc
rising-least k (x ∷ xs) zero l h e = subst (λ (y : Literal). k ≤ y.0) (same_Some x l e) h.0
rising-least k (x ∷ xs) (suc i) l h e = let low : x.0 + 1 ≤ l.0 = rising-least (x.0 + 1) xs i l h.1 e in let here : k ≤ x.0 = h.0 in omega arith

rising-past : (k n : ℕ) (t : Product) → n < k → IsRising k t → Avoids n t
rising-past k n [] low h = tt
rising-past k n (x ∷ xs) low h = ((λ e. let here : k ≤ x.0 = h.0 in omega arith), rising-past (x.0 + 1) n xs (let here : k ≤ x.0 = h.0 in omega arith) h.1)

rising-avoids : (k : ℕ) (t : Product) (i : ℕ) (l : Literal) → IsRising k t → slice_get t i ≡ Some l → Avoids l.0 (remove t i)
rising-avoids k [] i l h e = cc
rising-avoids k (x ∷ xs) zero l h e = subst (λ (y : Literal). Avoids y.0 xs) (same_Some x l e) (rising-past (x.0 + 1) x.0 xs (omega arith) h.1)
rising-avoids k (x ∷ xs) (suc i) l h e =
    ((λ is. let low : x.0 + 1 ≤ l.0 = rising-least (x.0 + 1) xs i l h.1 e in omega arith), rising-avoids (x.0 + 1) xs i l h.1 e)

and-swap : (a b c : Bool) → (a && (b && c)) ≡ (b && (a && c))
and-swap true true c = refl
and-swap true false c = refl
and-swap false true c = refl
and-swap false false c = refl

lies-split : (t : Product) (i : ℕ) (l : Literal) (p : Point) → slice_get t i ≡ Some l → lies_in t p ≡ (suits (p l.0) l.1 && lies_in (remove t i) p)
lies-split [] i l p e = cc
lies-split (x ∷ xs) zero l p e = ap (λ (y : Literal). suits (p y.0) y.1 && lies_in xs p) (same_Some x l e)
lies-split (x ∷ xs) (suc i) l p e =
    ap (λ (q : Bool). suits (p x.0) x.1 && q) (lies-split xs i l p e) ∙ and-swap (suits (p x.0) x.1) (suits (p l.0) l.1) (lies_in (remove xs i) p)

-- a point with a place at false
abbrev cleared : Point → ℕ → Point
cleared p n m = cond (eqb m n) false (p m)

cleared-other : (p : Point) (n m : ℕ) → (m ≡ n → ⊥) → cleared p n m ≡ p m
cleared-other p n m h = ap (λ (q : Bool). cond q false (p m)) (ne_eqb m n h)

cleared-here : (p : Point) (n : ℕ) → cleared p n n ≡ false
cleared-here p n = ap (λ (q : Bool). cond q false (p n)) (eq-eqb n n refl)

lies-cleared : (t : Product) (n : ℕ) (p : Point) → Avoids n t → lies_in t p ≡ lies_in t (cleared p n)
lies-cleared [] n p h = refl
lies-cleared (x ∷ xs) n p h = (λ i. suits (sym (cleared-other p n x.0 h.0) i) x.1 && lies-cleared xs n p h.1 i)

module _ (rs : List Rail) (f : Function) (monotone : IsMonotone rs f) where
  below : (p : Point) (n : ℕ) (r : Rail) → slice_get rs n ≡ Some r → (r.side ≡ Pure → ⊥) → IsBelow rs (cleared p n) p
  below p n r e impure = record { each = λ m. at m (slice_get rs m) refl }
    where
      kept : (s : Side) (b : Bool) → IsKept s b b
      kept Pure b = refl
      kept High b = λ h. h
      kept Low b = λ h. h

      raised : (s : Side) (b : Bool) → (s ≡ Pure → ⊥) → IsKept s false b
      raised Pure b h = absurd (h refl)
      raised High b h = λ e. cc
      raised Low b h = λ e. cc

      at : (m : ℕ) (o : Option Rail) → slice_get rs m ≡ o → IfSome o (λ q. IsKept q.side (cleared p n m) (p m))
      at m None is = tt
      at m (Some q) is = by (cases_eq m n)
        where
          by : (m ≡ n) ⊎ (m ≡ n → ⊥) → IsKept q.side (cleared p n m) (p m)
          by (inl same) =
              let rail : r ≡ q = same_Some r q (sym e ∙ ap (slice_get rs) (sym same) ∙ is) in
              subst (λ (b : Bool). IsKept q.side b (p m)) (sym (ap (cleared p n) same ∙ cleared-here p n))
              (raised q.side (p m) (subst (λ (x : Rail). x.side ≡ Pure → ⊥) rail impure))
          by (inr other) = subst (λ (b : Bool). IsKept q.side b (p m)) (sym (cleared-other p n m other)) (kept q.side (p m))

  -- a prime has no negated literal of an impure variable's Boolean
  pub prime-stands : (t : Product) → IsPrime f t → (i : ℕ) (l : Literal) (r : Rail) → slice_get t i ≡ Some l → slice_get rs l.0 ≡ Some r → MayStand r.side l.1
  prime-stands t prime i l r at is = by r.side refl l.1 refl
    where
      smaller : l.1 ≡ false → (r.side ≡ Pure → ⊥) → IsImplicant f (remove t i)
      smaller negated impure p lies = monotone.rises (cleared p l.0) p (below p l.0 r is impure)
          (prime.implicant (cleared p l.0)
          (lies-split t i l (cleared p l.0) at
          ∙ and_from (suits (cleared p l.0 l.0) l.1) (lies_in (remove t i) (cleared p l.0))
          ((λ j. suits (cleared-here p l.0 j) (negated j)))
          (sym (lies-cleared (remove t i) l.0 p (rising-avoids 0 t i l prime.rising at)) ∙ lies)))

      never : l.1 ≡ false → (r.side ≡ Pure → ⊥) → ⊥
      never negated impure = prime.largest i (slice_get_within t i l at) (smaller negated impure)

      by : (s : Side) → r.side ≡ s → (plain : Bool) → l.1 ≡ plain → MayStand s l.1
      by Pure e plain h = tt
      by High e true h = h
      by High e false h = absurd (never h (λ p. let wrong : Pure ≡ High = sym p ∙ e in cc))
      by Low e true h = h
      by Low e false h = absurd (never h (λ p. let wrong : Pure ≡ Low = sym p ∙ e in cc))

-- the rows of terms

module _ (vs : List (Var × Bool)) (rising : AreRising vs) where
  abbrev rails : List Rail
  rails = all_rails vs

  -- each literal has a Boolean, and may stand there
  abbrev pub IsTerm : Product → Type 0
  IsTerm t = (i : ℕ) (l : Literal) → slice_get t i ≡ Some l → (r : Rail) × (slice_get rails l.0 ≡ Some r) × MayStand r.side l.1

  suits-same : (b plain : Bool) → suits b plain ≡ same_bool plain b
  suits-same b true = refl
  suits-same b false = refl

  literal-same : (l : Literal) (r : Rail) → slice_get rails l.0 ≡ Some r → MayStand r.side l.1 → (p : Point) → suits (p l.0) l.1 ≡ literal_holds rails (literal_at rails l) p
  literal-same l r e m p =
      suits-same (p l.0) l.1 ∙ sym (literal_means vs l.0 r l.1 rising e m p) ∙ ap (λ (o : Option Rail). literal_holds rails (literal_or_none o l.1) p) (sym e)

  term-holds : (t : Product) → IsTerm t → (p : Point) → lies_in t p ≡ row_holds rails (term_row rails t).lits p
  term-holds [] h p = refl
  term-holds (l ∷ t) h p =
      let r = h zero l refl in
      (λ i. literal-same l r.0 r.1 r.2 p i && term-holds t (λ j x e. h (suc j) x e) p i)

  pub terms-hold : (ts : List Product) → ((t : Product) → Among t ts → IsTerm t) → (p : Point) → in_some ts p ≡ sum_holds rails (map (term_row rails) ts) p
  terms-hold [] h p = refl
  terms-hold (t ∷ ts) h p = (λ i. term-holds t (h t (inl refl)) p i || terms-hold ts (λ u a. h u (inr a)) p i)

  listed : (ws : List (Var × Bool)) (i : ℕ) (v : Var) (pure : Bool) → slice_get ws i ≡ Some (v, pure) → IsListed ws v
  listed [] i v pure e = cc
  listed (w ∷ ws) zero v pure e =
      ap (λ (x : Var × Bool). same_var x.0 v || list_any (λ (y : Var × Bool). same_var y.0 v) ws) (same_Some w (v, pure) e)
      ∙ ap (λ (q : Bool). q || list_any (λ (y : Var × Bool). same_var y.0 v) ws) (same_self v)
  listed (w ∷ ws) (suc i) v pure e = at (same_var w.0 v) (listed ws i v pure e)
    where
      at : (q : Bool) → list_any (λ (y : Var × Bool). same_var y.0 v) ws ≡ true → (q || list_any (λ (y : Var × Bool). same_var y.0 v) ws) ≡ true
      at true h = refl
      at false h = h

  literal-listed : (l : Literal) (r : Rail) → slice_get rails l.0 ≡ Some r → IsListed vs (literal_at rails l).var
  literal-listed l r e =
      let o = origin 0 vs l.0 r e in
      subst (λ (x : Option Rail). IsListed vs (literal_or_none x l.1).var) (sym e) (listed vs o.index r.var (is_pure r.side) o.named)

  term-listed : (t : Product) → IsTerm t → AllListed vs (term_row rails t)
  term-listed [] h = All-nil (λ (x : VarLit). IsListed vs x.var)
  term-listed (l ∷ t) h =
      let r = h zero l refl in
      All-cons (λ (x : VarLit). IsListed vs x.var) (literal_at rails l) (map (literal_at rails) t) (literal-listed l r.0 r.1) (term-listed t (λ j x e. h (suc j) x e))

  pub terms-listed : (ts : List Product) → ((t : Product) → Among t ts → IsTerm t) → All (AllListed vs) (map (term_row rails) ts)
  terms-listed [] h = All-nil (AllListed vs)
  terms-listed (t ∷ ts) h = All-cons (AllListed vs) (term_row rails t) (map (term_row rails) ts) (term-listed t (h t (inl refl))) (terms-listed ts (λ u a. h u (inr a)))

  -- the cover of a function that rises with impure Booleans
  pub cover-rows : (f : Function) (ts : List Product) → IsMonotone rails f → ((t : Product) → Among t ts → IsPrime f t) →
      ((t : Product) (i : ℕ) (l : Literal) → Among t ts → slice_get t i ≡ Some l → l.0 < length rails) → ((p : Point) → f p ≡ in_some ts p) →
      All (AllListed vs) (map (term_row rails) ts) × ((p : Point) → f p ≡ sum_holds rails (map (term_row rails) ts) p)
  cover-rows f ts monotone primes within same = (terms-listed ts terms, λ p. same p ∙ terms-hold ts terms p)
    where
      terms : (t : Product) → Among t ts → IsTerm t
      terms t a i l e =
          let r = item-at rails l.0 (within t i l a e) in
          (r.0, r.1, prime-stands rails f monotone t (primes t a) i l r.0 e r.1)

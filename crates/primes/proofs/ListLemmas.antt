-- The list of the primes of a choice has every prime once, and nothing else.
use Rattle.std.proofs.Common.{◌≡◌, ℕ, suc, ◌+◌, ◌≤◌, Bool, true, false, ◌||◌, cond, refl, sym, ◌∙◌, ap, subst, arith, ◌⊎◌, inl, inr, List, [], ◌∷◌, ◌++◌, length, true≢false}
use Rattle.std.specs.declared.cmp.Ordering.{Ordering}
use Rattle.std.specs.declared.cmp.Ordering.TheVariants.{Less, Equal, Greater}
use Rattle.std.specs.Ordering.{nat_cmp, bool_cmp, ordering_then, is_eq}
use Rattle.std.specs.Cmp.{IsTotalOrder, bool_cmp_total}
use Rattle.std.specs.Cmp.Lexicographic.{slice_cmp}
use Rattle.std.proofs.lemmas.Cmp.{then_total, on_total, back_total, lists_total, nat_cmp_total, tied_itself, ranked}
use Rattle.bdd.specs.Tree.{Point}
use Rattle.primes.specs.Prime.{Literal, Product, Function, IsPrime, literal_cmp, product_cmp, lies_in, in_some}
use Rattle.primes.specs.Steps.{has, apart, prefixed, In, here, there, AreDistinct, AreSomePrimes, AreAllPrimes}

-- membership
pub in_left : (t : Product) (xs ys : List Product) → In t xs → In t (xs ++ ys)
in_left t [] ys h = elim h [ ]
in_left t (x ∷ xs) ys here = here
in_left t (x ∷ xs) ys (there h) = there (in_left t xs ys h)

pub in_right : (t : Product) (xs ys : List Product) → In t ys → In t (xs ++ ys)
in_right t [] ys h = h
in_right t (x ∷ xs) ys h = there (in_right t xs ys h)

pub in_append : (t : Product) (xs ys : List Product) → In t (xs ++ ys) → In t xs ⊎ In t ys
in_append t [] ys h = inr h
in_append t (x ∷ xs) ys here = inl here
in_append t (x ∷ xs) ys (there h) = elim (in_append t xs ys h) [ inl k ↦ inl (there k) | inr k ↦ inr k ]

pub in_prefixed : (l : Literal) (t : Product) (xs : List Product) → In t xs → In (l ∷ t) (prefixed l xs)
in_prefixed l t [] h = elim h [ ]
in_prefixed l t (x ∷ xs) here = here
in_prefixed l t (x ∷ xs) (there h) = there (in_prefixed l t xs h)

pub record Comes (l : Literal) (xs : List Product) (u : Product) : Type 0 where
  pub rest : Product
  pub is : u ≡ l ∷ rest
  pub there_is : In rest xs

pub of_prefixed : (l : Literal) (u : Product) (xs : List Product) → In u (prefixed l xs) → Comes l xs u
of_prefixed l u [] h = elim h [ ]
of_prefixed l u (x ∷ xs) here = record { rest = x; is = refl; there_is = here }
of_prefixed l u (x ∷ xs) (there h) = let c = of_prefixed l u xs h in record { rest = c.rest; is = c.is; there_is = there c.there_is }

-- the order of products tells equal ones
literal_same : (k l : Literal) → literal_cmp k l ≡ Equal → k ≡ l
literal_same k l h = by k l (nat_cmp k.0 l.0) refl h
  where
    by : (k l : Literal) (o : Ordering) → nat_cmp k.0 l.0 ≡ o → ordering_then o (bool_cmp l.1 k.1) ≡ Equal → k ≡ l
    by k l Less e h = cc
    by (v, true) (w, true) Equal e h = ap (λ (n : ℕ). let r : Literal = (n, true) in r) (ranked v w Equal (sym e))
    by (v, false) (w, false) Equal e h = ap (λ (n : ℕ). let r : Literal = (n, false) in r) (ranked v w Equal (sym e))
    by (v, true) (w, false) Equal e h = cc
    by (v, false) (w, true) Equal e h = cc
    by k l Greater e h = cc

products_same : (t u : Product) → slice_cmp literal_cmp t u ≡ Equal → t ≡ u
products_same [] [] h = refl
products_same [] (l ∷ u) h = cc
products_same (k ∷ t) [] h = cc
products_same (k ∷ t) (l ∷ u) h = by (literal_cmp k l) refl h (products_same t u)
  where
    by : (o : Ordering) → literal_cmp k l ≡ o → ordering_then o (slice_cmp literal_cmp t u) ≡ Equal → (slice_cmp literal_cmp t u ≡ Equal → t ≡ u) → (k ∷ t) ≡ (l ∷ u)
    by Less e h rest = cc
    by Equal e h rest = (λ i. literal_same k l e i ∷ rest h i)
    by Greater e h rest = cc

pub product_same : (t u : Product) → product_cmp t u ≡ Equal → t ≡ u
product_same t u h = by (nat_cmp (length t) (length u)) h
  where
    by : (o : Ordering) → ordering_then o (slice_cmp literal_cmp t u) ≡ Equal → t ≡ u
    by Less h = cc
    by Equal h = products_same t u h
    by Greater h = cc

pub product_cmp-total : IsTotalOrder product_cmp
product_cmp-total = then_total (on_total length nat_cmp_total) (lists_total (then_total (on_total (λ (l : Literal). l.0) nat_cmp_total) (back_total (on_total (λ (l : Literal). l.1) bool_cmp_total))))

pub has_in : (us : List Product) (t : Product) → has us t ≡ true → In t us
has_in [] t h = absurd (true≢false (sym h))
has_in (u ∷ us) t h = by (product_cmp u t) refl h (has_in us t)
  where
    by : (o : Ordering) → product_cmp u t ≡ o → (is_eq o || has us t) ≡ true → (has us t ≡ true → In t us) → In t (u ∷ us)
    by Less e k rest = there (rest k)
    by Equal e k rest = subst (λ x. In t (x ∷ us)) (sym (product_same u t e)) here
    by Greater e k rest = there (rest k)

pub in_has : (us : List Product) (t : Product) → In t us → has us t ≡ true
in_has [] t h = elim h [ ]
in_has (u ∷ us) t here = ap (λ o. is_eq o || has us t) (tied_itself product_cmp-total t)
in_has (u ∷ us) t (there h) = by (is_eq (product_cmp u t)) (in_has us t h)
  where
    by : (b : Bool) → has us t ≡ true → (b || has us t) ≡ true
    by true e = refl
    by false e = e

pub in_apart : (us ts : List Product) (t : Product) → In t ts → (In t us → ⊥) → In t (apart us ts)
in_apart us [] t h not_in = elim h [ ]
in_apart us (x ∷ ts) t here not_in = by (has us t) refl
  where
    by : (b : Bool) → has us t ≡ b → In t (cond b (apart us ts) (t ∷ apart us ts))
    by true e = absurd (not_in (has_in us t e))
    by false e = here
in_apart us (x ∷ ts) t (there h) not_in = by (has us x) (in_apart us ts t h not_in)
  where
    by : (b : Bool) → In t (apart us ts) → In t (cond b (apart us ts) (x ∷ apart us ts))
    by true k = k
    by false k = there k

pub of_cons : (t u : Product) (us : List Product) → In t (u ∷ us) → (u ≡ t) ⊎ In t us
of_cons t u us here = inl refl
of_cons t u us (there h) = inr h

pub of_apart : (us ts : List Product) (t : Product) → In t (apart us ts) → In t ts × (In t us → ⊥)
of_apart us [] t h = elim h [ ]
of_apart us (x ∷ ts) t h = by (has us x) refl h (of_apart us ts t)
  where
    by : (b : Bool) → has us x ≡ b → In t (cond b (apart us ts) (x ∷ apart us ts)) → (In t (apart us ts) → In t ts × (In t us → ⊥)) → In t (x ∷ ts) × (In t us → ⊥)
    by true e k rest = let r = rest k in (there r.0, r.1)
    by false e k rest = elim (of_cons t x (apart us ts) k) [
      | inl q ↦ (subst (λ y. In y (x ∷ ts)) q here, (λ i. true≢false (sym (in_has us t i) ∙ ap (has us) (sym q) ∙ e)))
      | inr m ↦ (let r = rest m in (there r.0, r.1))
    ]

pub prime_ext : (f g : Function) (t : Product) → ((p : Point) → f p ≡ g p) → IsPrime f t → IsPrime g t
prime_ext f g t e h = record {
  rising = h.rising;
  implicant = λ p m. sym (e p) ∙ h.implicant p m;
  largest = λ i l k. h.largest i l (λ p m. e p ∙ k p m);
}

-- lists without equal products
pub distinct_append : (xs ys : List Product) → AreDistinct xs → AreDistinct ys → ((t : Product) → In t xs → In t ys → ⊥) → AreDistinct (xs ++ ys)
distinct_append [] ys a b no_both = b
distinct_append (x ∷ xs) ys a b no_both = (
  (λ h. elim (in_append x xs ys h) [ inl l ↦ a.0 l | inr r ↦ no_both x here r ]),
  distinct_append xs ys a.1 b (λ t l r. no_both t (there l) r),
)

pub distinct_apart : (us ts : List Product) → AreDistinct ts → AreDistinct (apart us ts)
distinct_apart us [] a = tt
distinct_apart us (t ∷ ts) a = by (has us t) (distinct_apart us ts a.1)
  where
    by : (b : Bool) → AreDistinct (apart us ts) → AreDistinct (cond b (apart us ts) (t ∷ apart us ts))
    by true r = r
    by false r = ((λ h. a.0 (of_apart us ts t h).0), r)

pub distinct_prefixed : (l : Literal) (ts : List Product) → AreDistinct ts → AreDistinct (prefixed l ts)
distinct_prefixed l [] a = tt
distinct_prefixed l (t ∷ ts) a = (
  (λ h. let c = of_prefixed l (l ∷ t) ts h in let e : t ≡ c.rest = cc in a.0 (subst (λ x. In x ts) (sym e) c.there_is)),
  distinct_prefixed l ts a.1,
)

-- a product apart from one list of primes more
apart_none : (u : Product) (us ts : List Product) → (In u ts → ⊥) → apart (u ∷ us) ts ≡ apart us ts
apart_none u us [] no_u = refl
apart_none u us (t ∷ ts) no_u = by (product_cmp u t) refl (apart_none u us ts (λ h. no_u (there h)))
  where
    by : (o : Ordering) → product_cmp u t ≡ o → apart (u ∷ us) ts ≡ apart us ts
        → cond (is_eq o || has us t) (apart (u ∷ us) ts) (t ∷ apart (u ∷ us) ts) ≡ cond (has us t) (apart us ts) (t ∷ apart us ts)
    by Less e r = (λ i. cond (has us t) (r i) (t ∷ r i))
    by Equal e r = absurd (no_u (subst (λ x. In x (t ∷ ts)) (sym (product_same u t e)) here))
    by Greater e r = (λ i. cond (has us t) (r i) (t ∷ r i))

apart_one : (u : Product) (us ts : List Product) → AreDistinct ts → length (apart us ts) ≤ length (apart (u ∷ us) ts) + 1
apart_one u us [] a = omega arith
apart_one u us (t ∷ ts) a = by (product_cmp u t) refl (has us t) (apart_one u us ts a.1)
  where
    by : (o : Ordering) → product_cmp u t ≡ o → (b : Bool) → length (apart us ts) ≤ length (apart (u ∷ us) ts) + 1
        → length (cond b (apart us ts) (t ∷ apart us ts)) ≤ length (cond (is_eq o || b) (apart (u ∷ us) ts) (t ∷ apart (u ∷ us) ts)) + 1
    by Less e true r = r
    by Less e false r = omega arith
    by Equal e true r = r
    by Equal e false r =
        let n = ap length (apart_none u us ts (subst (λ x. In x ts → ⊥) (sym (product_same u t e)) a.0)) in
        omega arith
    by Greater e true r = r
    by Greater e false r = omega arith

apart_nothing : (ts : List Product) → apart [] ts ≡ ts
apart_nothing [] = refl
apart_nothing (t ∷ ts) = ap (λ (us : List Product). t ∷ us) (apart_nothing ts)

-- of a list without equal products, at most as many as us has are in us
pub apart_length : (us ts : List Product) → AreDistinct ts → length ts ≤ length (apart us ts) + length us
apart_length [] ts a = omega (arith, ap length (apart_nothing ts))
apart_length (u ∷ us) ts a =
    let h = apart_length us ts a in
    let k = apart_one u us ts a in
    omega arith

apart_all : (us ts : List Product) → ((t : Product) → In t ts → In t us) → apart us ts ≡ []
apart_all us [] h = refl
apart_all us (t ∷ ts) h = ap (λ b. cond b (apart us ts) (t ∷ apart us ts)) (in_has us t (h t here)) ∙ apart_all us ts (λ u k. h u (there k))

-- no list of some primes, each once, is longer than a list of all
pub some_at_most : (f : Function) (all some : List Product) → AreAllPrimes f all → AreSomePrimes f some → length some ≤ length all
some_at_most f all some a s =
    let h = apart_length all some s.distinct in
    let e = ap length (apart_all all some (λ t k. a.complete t (s.sound t k))) in
    omega arith

pub length_prefixed : (l : Literal) (ts : List Product) → length (prefixed l ts) ≡ length ts
length_prefixed l [] = refl
length_prefixed l (t ∷ ts) = ap suc (length_prefixed l ts)

-- a point in some product of a list
pub in_some_in : (ts : List Product) (t : Product) (p : Point) → In t ts → lies_in t p ≡ true → in_some ts p ≡ true
in_some_in [] t p h l = elim h [ ]
in_some_in (u ∷ ts) t p here l = ap (λ b. b || in_some ts p) l
in_some_in (u ∷ ts) t p (there h) l = by (lies_in u p) (in_some_in ts t p h l)
  where
    by : (b : Bool) → in_some ts p ≡ true → (b || in_some ts p) ≡ true
    by true e = refl
    by false e = e

pub some_in : (ts : List Product) (p : Point) → in_some ts p ≡ true → (t : Product) × In t ts × (lies_in t p ≡ true)
some_in [] p h = absurd (true≢false (sym h))
some_in (u ∷ ts) p h = by (lies_in u p) refl h (some_in ts p)
  where
    by : (b : Bool) → lies_in u p ≡ b → (b || in_some ts p) ≡ true → (in_some ts p ≡ true → (t : Product) × In t ts × (lies_in t p ≡ true)) → (t : Product) × In t (u ∷ ts) × (lies_in t p ≡ true)
    by true e k rest = (u, here, e)
    by false e k rest = let r = rest k in (r.0, there r.1, r.2)

-- A function has one list of primes.
use Rattle.std.proofs.Common.{◌≡◌, suc, refl, sym, ◌∙◌, ap, subst, arith, inl, inr, List, [], ◌∷◌}
use Rattle.std.specs.declared.cmp.Ordering.TheVariants.{Less, Greater}
use Rattle.std.specs.Ordering.{ordering_reverse}
use Rattle.std.specs.List.{AllPairs}
use Rattle.primes.specs.Prime.{Product, Function, product_cmp, IsPrimeList}
use Rattle.primes.specs.Steps.{In, here, there}
use Rattle.primes.proofs.ListLemmas.{of_cons, product_cmp-total}
use Rattle.primes.proofs.ResultLemmas.{in_contains, contains_in}

-- each product of a list is before the later ones
abbrev IsOrdered : List Product → Type 0
IsOrdered ts = AllPairs (λ t u. product_cmp t u ≡ Less) ts

not_greater : Less ≡ Greater → ⊥
not_greater e = cc

not_both : (t u : Product) → product_cmp t u ≡ Less → product_cmp u t ≡ Less → ⊥
not_both t u a b = not_greater (sym a ∙ product_cmp-total.antisymm t u ∙ ap ordering_reverse b)

before_rest : (x : Product) (xs : List Product) → IsOrdered (x ∷ xs) → (t : Product) → In t xs → product_cmp x t ≡ Less
before_rest x xs p t h = let c = in_contains t xs h in subst (λ u. product_cmp x u ≡ Less) c.2 (p 0 (suc c.0) t (omega arith) (omega arith))

rest_ordered : (x : Product) (xs : List Product) → IsOrdered (x ∷ xs) → IsOrdered xs
rest_ordered x xs p i j d l m = p (suc i) (suc j) d (omega arith) (omega arith)

first_same : (x y : Product) (xs ys : List Product) → IsOrdered (x ∷ xs) → IsOrdered (y ∷ ys) → In x (y ∷ ys) → In y (x ∷ xs) → x ≡ y
first_same x y xs ys p q a b =
    elim (of_cons x y ys a) [
      | inl e ↦ sym e
      | inr k ↦ elim (of_cons y x xs b) [
        | inl e ↦ e
        | inr l ↦ absurd (not_both x y (before_rest x xs p y l) (before_rest y ys q x k))
      ]
    ]

in_rest : (x y : Product) (xs ys : List Product) → IsOrdered (x ∷ xs) → x ≡ y → ((t : Product) → In t (x ∷ xs) → In t (y ∷ ys)) → (t : Product) → In t xs → In t ys
in_rest x y xs ys p e put t h =
    elim (of_cons t y ys (put t (there h))) [
      | inl k ↦ (let less : product_cmp x x ≡ Less = subst (λ u. product_cmp x u ≡ Less) (sym (e ∙ k)) (before_rest x xs p t h) in absurd (not_both x x less less))
      | inr m ↦ m
    ]

-- two lists in order that have the same products are the same
ordered_same : (xs ys : List Product) → IsOrdered xs → IsOrdered ys → ((t : Product) → In t xs → In t ys) → ((t : Product) → In t ys → In t xs) → xs ≡ ys
ordered_same [] [] p q put back = refl
ordered_same [] (y ∷ ys) p q put back = elim (back y here) [ ]
ordered_same (x ∷ xs) [] p q put back = elim (put x here) [ ]
ordered_same (x ∷ xs) (y ∷ ys) p q put back =
    let e = first_same x y xs ys p q (put x here) (back y here) in
    let r = ordered_same xs ys (rest_ordered x xs p) (rest_ordered y ys q) (in_rest x y xs ys p e put) (in_rest y x ys xs q (sym e) back) in
    (λ i. e i ∷ r i)

pub primes_unique : (f : Function) (ts us : List Product) → IsPrimeList f ts → IsPrimeList f us → ts ≡ us
primes_unique f ts us a b =
    ordered_same ts us a.ordered b.ordered
    (λ t h. contains_in t us ((b.exact t).1 ((a.exact t).0 (in_contains t ts h))))
    (λ t h. contains_in t ts ((a.exact t).1 ((b.exact t).0 (in_contains t us h))))

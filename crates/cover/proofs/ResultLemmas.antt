-- From the primes to the cover.
use Rattle.std.proofs.Common.{◌≡◌, ℕ, ◌<◌, List, [], length, get_or, subst, sym}
use Rattle.std.specs.List.{All, remove}
use Rattle.std.proofs.lemmas.List.Elements.{Contains-get_or, recursion_from_All}
use Rattle.bdd.specs.Tree.{holds, Point}
use Rattle.bdd.specs.Diagram.{Diagram, IsValid, function_of, IsCanonical, Keeps}
use Rattle.bdd.specs.declared.Ref.{Ref}
use Rattle.primes.specs.Prime.{Function, Product, IsImplicant, IsPrimeList, in_some, Covers}
use Rattle.cover.specs.Cover.{IsLeft, IsCover}
use Rattle.cover.specs.Sums.{IsWithin}
use Rattle.cover.proofs.CoverLemmas.{left_covers, left_needed, left_each, sum_is}
use Rattle.cover.proofs.SumLemmas.{prime_within, free_above}

module _ (d e : Diagram) (f : Ref) (ts : List Product) (k : Keeps d e) (v : IsValid d f) (h : IsPrimeList (function_of d f) ts) where
  here : IsPrimeList (function_of e f) ts
  here = subst (λ t. IsPrimeList (λ p. holds t p) ts) (sym (k.tree f v)) h

  pub primes_within : IsCanonical e → All (IsWithin e.vars) ts
  primes_within c i x l = prime_within (function_of e f) e.vars (get_or ts i x) (free_above e f c (k.valid f v)) ((here.exact (get_or ts i x)).0 (Contains-get_or ts i x l))

  pub primes_inside : All (IsImplicant (function_of e f)) ts
  primes_inside i x l = ((here.exact (get_or ts i x)).0 (Contains-get_or ts i x l)).implicant

  module _ (left : List Product) (is : IsLeft (function_of e f) [] ts left) where
    back : IsLeft (function_of d f) [] ts left
    back = subst (λ t. IsLeft (λ p. holds t p) [] ts left) (k.tree f v) is

    pub is_cover : IsCover (function_of d f) left
    is_cover = record { primes = ts; all = h; left = back }

    pub cover_same : Covers (function_of d f) ts → (p : Point) → function_of d f p ≡ in_some left p
    cover_same c =
        sum_is (function_of d f) left
        (left_each (IsImplicant (function_of d f)) (function_of d f) [] ts left back (recursion_from_All (IsImplicant (function_of d f)) ts (λ i x l. ((h.exact (get_or ts i x)).0 (Contains-get_or ts i x l)).implicant)))
        (left_covers (function_of d f) [] ts left back c)

pub cover_irredundant : (f : Function) (left : List Product) → IsCover f left → (i : ℕ) → i < length left → Covers f (remove left i) → ⊥
cover_irredundant f left c i l k = left_needed f [] c.primes left c.left i l k

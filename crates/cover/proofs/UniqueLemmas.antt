-- A function has one cover.
use Rattle.std.proofs.Common.{◌≡◌, sym, ◌∙◌, subst, inl, inr, List, [], ◌∷◌, ◌++◌}
use Rattle.primes.specs.Prime.{Function, Product}
use Rattle.primes.proofs.UniqueLemmas.{primes_unique}
use Rattle.cover.specs.Cover.{IsDecided, IsLeft, IsCover}

decided_unique : (f : Function) (before : List Product) (t : Product) (rest a b : List Product) → IsDecided f before t rest a → IsDecided f before t rest b → a ≡ b
decided_unique f before t rest a b h k =
    elim h [
      | inl x ↦ elim k [ inl y ↦ x.1 ∙ sym y.1 | inr y ↦ absurd (y.0 x.0) ]
      | inr x ↦ elim k [ inl y ↦ absurd (x.0 y.0) | inr y ↦ x.1 ∙ sym y.1 ]
    ]

left_unique : (f : Function) (before ts a b : List Product) → IsLeft f before ts a → IsLeft f before ts b → a ≡ b
left_unique f before [] a b h k = h ∙ sym k
left_unique f before (t ∷ ts) a b h k =
    let e = left_unique f (before ++ t ∷ []) ts h.0 k.0 h.1 k.1 in
    decided_unique f before t h.0 a b h.2 (subst (λ rest. IsDecided f before t rest b) (sym e) k.2)

pub cover_unique : (f : Function) (ts us : List Product) → IsCover f ts → IsCover f us → ts ≡ us
cover_unique f ts us a b =
    left_unique f [] a.primes ts us a.left (subst (λ primes. IsLeft f [] primes us) (sym (primes_unique f a.primes b.primes a.all b.all)) b.left)

-- One step of the deletion.
use Rattle.std.proofs.Common.{◌≡◌, ℕ, ◌+◌, ◌<◌, ◌||◌, refl, sym, ◌∙◌, subst, inl, inr, List, ◌∷◌, ◌++◌, length, get_or, take, drop}
use Rattle.std.specs.List.{All, AllByRecursion}
use Rattle.std.proofs.lemmas.List.{take_more, drop_more}
use Rattle.std.proofs.lemmas.List.Elements.{recursion_from_All, All-take, All-drop, All-append, All-from_recursion}
use Rattle.bdd.specs.Diagram.{Diagram, function_of, ref_at, IsDisjunction}
use Rattle.bdd.specs.Tree.{Point}
use Rattle.bdd.specs.declared.Ref.{Ref}
use Rattle.cover.specs.Sums.{IsSumRef, AreSumsBefore}
use Rattle.primes.specs.Prime.{Function, Product, IsImplicant, in_some}
use Rattle.cover.specs.Cover.{IsDecided, IsLeft}
use Rattle.cover.proofs.CoverLemmas.{in_some_append, left_each, sum_is}

module _ (f : Function) (ts rest : List Product) (i : ℕ) (d : Product) (lt : i < length ts) (imp : All (IsImplicant f) ts)
    (h : IsLeft f (take (i + 1) ts) (drop (i + 1) ts) rest) where
  decided : (left : List Product) → IsDecided f (take i ts) (get_or ts i d) rest left → IsLeft f (take i ts) (drop i ts) left
  decided left k =
      subst (λ xs. IsLeft f (take i ts) xs left) (sym (drop_more ts i d lt))
      (rest, subst (λ xs. IsLeft f xs (drop (i + 1) ts) rest) (take_more ts i d lt) h, k)

  inside : AllByRecursion (IsImplicant f) (take i ts ++ rest)
  inside =
      recursion_from_All (IsImplicant f) (take i ts ++ rest) (All-append (IsImplicant f) (take i ts) rest (All-take (IsImplicant f) i ts imp)
      (All-from_recursion (IsImplicant f) rest (left_each (IsImplicant f) f (take (i + 1) ts) (drop (i + 1) ts) rest h
      (recursion_from_All (IsImplicant f) (drop (i + 1) ts) (All-drop (IsImplicant f) (i + 1) ts imp)))))

  module _ (g : Function) (means : (p : Point) → g p ≡ (in_some (take i ts) p || in_some rest p)) where
    -- the others cover f
    pub dropped : ((p : Point) → g p ≡ f p) → IsLeft f (take i ts) (drop i ts) rest
    dropped e = decided rest (inl ((λ p m. in_some_append (take i ts) rest p ∙ sym (means p) ∙ e p ∙ m), refl))

    -- the others do not
    pub kept : (((p : Point) → g p ≡ f p) → ⊥) → IsLeft f (take i ts) (drop i ts) (get_or ts i d ∷ rest)
    kept differ = decided (get_or ts i d ∷ rest)
        (inr ((λ c. differ (λ p. means p ∙ sym (in_some_append (take i ts) rest p) ∙ sym (sum_is f (take i ts ++ rest) inside c p))), refl))

-- the others of the product at a place: those before it, and what is left behind it
pub others_mean : (d a : Diagram) (ts rest : List Product) (i n : ℕ) (rs : List Ref) (x r u : Ref) → i < n → x ≡ ref_at rs i → AreSumsBefore d ts n rs → IsSumRef d rest r → IsDisjunction d a x r u
    → (p : Point) → function_of a u p ≡ (in_some (take i ts) p || in_some rest p)
others_mean d a ts rest i n rs x r u lt e s h c p =
    c.means p ∙ (λ j. ((λ k. function_of d (e k) p) ∙ (s.each i lt).means p) j || h.means p j)

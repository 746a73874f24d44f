-- Whether all reads of products, sums and rows pass a test.
use Rattle.std.proofs.Common.{◌≡◌, Bool, true, false, ◌&&◌, List, [], ◌∷◌, ◌++◌, refl, sym, ap, ◌∙◌}
use Rattle.std.specs.List.{list_all}
use Rattle.std.proofs.lemmas.Bool.{and_parts, and_from}
use Rattle.std.proofs.lemmas.List.Folds.{list_all-append}

-- a test of one list and then of another
pub both-pass : {T : Type 0} (p : T → Bool) (xs ys : List T) (b : Bool) → list_all p xs ≡ true → b ≡ list_all p ys → b ≡ list_all p (xs ++ ys)
both-pass p xs ys b first then = then ∙ sym (list_all-append p xs ys ∙ ap (λ (a : Bool). a && list_all p ys) first)

pub first-fails : {T : Type 0} (p : T → Bool) (xs ys : List T) (b : Bool) → list_all p xs ≡ false → b ≡ false → b ≡ list_all p (xs ++ ys)
first-fails p xs ys b first is = is ∙ sym (list_all-append p xs ys ∙ ap (λ (a : Bool). a && list_all p ys) first)

-- what passes one test passes a weaker one
pub all-weaker : {T : Type 0} (p q : T → Bool) → ((x : T) → p x ≡ true → q x ≡ true) → (xs : List T) → list_all p xs ≡ true → list_all q xs ≡ true
all-weaker p q h [] e = refl
all-weaker p q h (x ∷ xs) e =
    let parts = and_parts (p x) (list_all p xs) e in
    and_from (q x) (list_all q xs) (h x parts.0) (all-weaker p q h xs parts.1)

-- The value of a product depends on the values of its literals alone, not on their order and number.
use Rattle.std.proofs.Common.{◌≡◌, Bool, true, false, ◌&&◌, ◌||◌, List, [], ◌∷◌, refl, sym, ap, ◌∙◌}
use Rattle.std.specs.List.{list_any, list_all}
use Rattle.mig_base.specs.declared.levels.Level.{Level}
use Rattle.mig_base.specs.declared.levels.Level.TheVariants.{Zero, One, Z, X}
use Rattle.mig_base.specs.declared.circuit.Literal.{Literal}
use Rattle.mig_base.specs.declared.circuit.Levels.{Levels}
use Rattle.mig_base.specs.Levels.{and3}
use Rattle.mig_base.specs.Values.{literal_value, product_value}
use Rattle.mig_base.specs.Among.{Among}
use Rattle.mig_base.proofs.ListLaws.{both-ways}
use Rattle.mig_base.proofs.Amongs.{any-among, among-any, pass-all}
use Rattle.mig_base.proofs.LevelFacts.{is_zero, is_one, by_tests, and-tests}
use Rattle.new_board.proofs.Items.{all-pass}

product-tests : (l : Levels) (xs : List Literal) →
    product_value l xs ≡ by_tests (list_any (λ x. is_zero (literal_value l x)) xs) (list_all (λ x. is_one (literal_value l x)) xs)
product-tests l [] = refl
product-tests l (x ∷ xs) =
    ap (and3 (literal_value l x)) (product-tests l xs)
    ∙ and-tests (literal_value l x) (list_any (λ x. is_zero (literal_value l x)) xs) (list_all (λ x. is_one (literal_value l x)) xs)

-- each literal of the one product has a literal of the same value in the other
pub record Covers (l m : Levels) (xs ys : List Literal) : Type 0 where
  pub each : (x : Literal) → Among x xs → (y : Literal) × Among y ys × (literal_value l x ≡ literal_value m y)

some-test : (test : Level → Bool) (l m : Levels) (xs ys : List Literal) → Covers l m xs ys →
    list_any (λ x. test (literal_value l x)) xs ≡ true → list_any (λ y. test (literal_value m y)) ys ≡ true
some-test test l m xs ys c e =
    let found = any-among (λ x. test (literal_value l x)) xs e in
    let other = c.each found.0 found.1 in
    among-any (λ y. test (literal_value m y)) other.0 ys other.1 (ap test (sym other.2) ∙ found.2)

all-test : (test : Level → Bool) (l m : Levels) (xs ys : List Literal) → Covers l m xs ys →
    list_all (λ y. test (literal_value m y)) ys ≡ true → list_all (λ x. test (literal_value l x)) xs ≡ true
all-test test l m xs ys c e = pass-all (λ x. test (literal_value l x)) xs
    (λ x a. let other = c.each x a in ap test other.2 ∙ all-pass (λ y. test (literal_value m y)) other.0 ys e other.1)

-- products whose literals have the same values have the same value
pub product-same : (l m : Levels) (xs ys : List Literal) → Covers l m xs ys → Covers m l ys xs → product_value l xs ≡ product_value m ys
product-same l m xs ys c d =
    product-tests l xs
    ∙ ap (λ q. by_tests q (list_all (λ x. is_one (literal_value l x)) xs)) (both-ways _ _ (some-test is_zero l m xs ys c) (some-test is_zero m l ys xs d))
    ∙ ap (λ q. by_tests (list_any (λ y. is_zero (literal_value m y)) ys) q) (both-ways _ _ (all-test is_one m l ys xs d) (all-test is_one l m xs ys c))
    ∙ sym (product-tests m ys)

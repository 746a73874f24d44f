-- The level of a product depends on which levels its literals have.
use Rattle.std.proofs.Common.{◌≡◌, Bool, true, false, ◌&&◌, ◌||◌, List, [], ◌∷◌, map, refl, sym, ap, ◌∙◌, inl, inr}
use Rattle.std.specs.List.{list_any, list_all}
use Rattle.std.proofs.lemmas.Bool.{and_parts}
use Rattle.mig_base.specs.declared.levels.Level.{Level}
use Rattle.mig_base.specs.declared.levels.Level.TheVariants.{Zero, One, Z, X}
use Rattle.mig_base.specs.declared.circuit.Literal.{Literal}
use Rattle.mig_base.specs.declared.circuit.Levels.{Levels}
use Rattle.mig_base.specs.declared.nets.VarLit.{VarLit}
use Rattle.mig_base.specs.Among.{Among}
use Rattle.mig_base.specs.Levels.{and3}
use Rattle.mig_base.specs.Values.{literal_value, product_value}
use Rattle.mig_base.proofs.ListLaws.{both-ways}
use Rattle.mig_base.proofs.Amongs.{any-among, among-any}
use Rattle.level_laws.specs.VariableLevels.{Levelling, literal_level, product_level}

-- the AND of these levels
abbrev pub and_all : List Level → Level
and_all [] = One
and_all (x ∷ xs) = and3 x (and_all xs)

pub product-all : (l : Levels) (lits : List Literal) → product_value l lits ≡ and_all (map (literal_value l) lits)
product-all l [] = refl
product-all l (x ∷ xs) = ap (and3 (literal_value l x)) (product-all l xs)

pub level-all : (f : Levelling) (lits : List VarLit) → product_level f lits ≡ and_all (map (literal_level f) lits)
level-all f [] = refl
level-all f (x ∷ xs) = ap (and3 (literal_level f x)) (level-all f xs)

is_zero : Level → Bool
is_zero Zero = true
is_zero One = false
is_zero Z = false
is_zero X = false

is_one : Level → Bool
is_one Zero = false
is_one One = true
is_one Z = false
is_one X = false

-- 0 where one is 0, 1 where all are 1, else X
by_tests : Bool → Bool → Level
by_tests true all = Zero
by_tests false true = One
by_tests false false = X

and-tests : (a : Level) (any all : Bool) → and3 a (by_tests any all) ≡ by_tests (is_zero a || any) (is_one a && all)
unfolding is_zero is_one by_tests
and-tests Zero any all = refl
and-tests One true all = refl
and-tests One false true = refl
and-tests One false false = refl
and-tests Z true all = refl
and-tests Z false true = refl
and-tests Z false false = refl
and-tests X true all = refl
and-tests X false true = refl
and-tests X false false = refl

and_all-tests : (xs : List Level) → and_all xs ≡ by_tests (list_any is_zero xs) (list_all is_one xs)
unfolding by_tests
and_all-tests [] = refl
and_all-tests (x ∷ xs) = ap (and3 x) (and_all-tests xs) ∙ and-tests x (list_any is_zero xs) (list_all is_one xs)

-- each level of the one list is among the others
abbrev pub AreIn : List Level → List Level → Type 0
AreIn xs ys = (x : Level) → Among x xs → Among x ys

all-pass : (test : Level → Bool) (x : Level) (xs : List Level) → list_all test xs ≡ true → Among x xs → test x ≡ true
all-pass test x [] e a = absurd a
all-pass test x (y ∷ ys) e (inl same) = ap test same ∙ (and_parts (test y) (list_all test ys) e).0
all-pass test x (y ∷ ys) e (inr a) = all-pass test x ys (and_parts (test y) (list_all test ys) e).1 a

pass-all : (test : Level → Bool) (xs : List Level) → ((x : Level) → Among x xs → test x ≡ true) → list_all test xs ≡ true
pass-all test [] f = refl
pass-all test (y ∷ ys) f = ap (λ (q : Bool). q && list_all test ys) (f y (inl refl)) ∙ pass-all test ys (λ x a. f x (inr a))

some-test : (test : Level → Bool) (xs ys : List Level) → AreIn xs ys → list_any test xs ≡ true → list_any test ys ≡ true
some-test test xs ys within e = let found = any-among test xs e in among-any test found.0 ys (within found.0 found.1) found.2

all-test : (test : Level → Bool) (xs ys : List Level) → AreIn xs ys → list_all test ys ≡ true → list_all test xs ≡ true
all-test test xs ys within e = pass-all test xs (λ x a. all-pass test x ys e (within x a))

-- products with the same levels are equal
pub and_all-same : (xs ys : List Level) → AreIn xs ys → AreIn ys xs → and_all xs ≡ and_all ys
and_all-same xs ys there back =
    and_all-tests xs
    ∙ ap (λ q. by_tests q (list_all is_one xs)) (both-ways _ _ (some-test is_zero xs ys there) (some-test is_zero ys xs back))
    ∙ ap (λ q. by_tests (list_any is_zero ys) q) (both-ways _ _ (all-test is_one ys xs back) (all-test is_one xs ys there))
    ∙ sym (and_all-tests ys)

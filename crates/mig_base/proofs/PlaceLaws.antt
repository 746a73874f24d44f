-- Places of the items that pass a test, and kinds of nets, counted from a first number.
use Rattle.std.proofs.Common.{ℕ, zero, suc, ◌≡◌, ◌+◌, ◌<◌, Bool, true, false, cond, not, List, [], ◌∷◌, ◌++◌, length, Option, Some, refl, ap, ◌∙◌, arith, inl, inr}
use Rattle.std.specs.List.{slice_get}
use Rattle.mig_base.specs.declared.nets.NetLine.{NetLine}
use Rattle.mig_base.specs.Among.{Among}
use Rattle.mig_base.specs.Boards.{is_handed, kinds_from, places_from}

-- a place among those that pass
pub record Passes {T : Type 0} (test : T → Bool) (i : ℕ) (xs : List T) (u : ℕ) : Type 0 where
  pub place : ℕ
  pub number : u ≡ i + place
  pub item : T
  pub is : slice_get xs place ≡ Some item
  pub passes : test item ≡ true

pub passes-at : {T : Type 0} (test : T → Bool) (i : ℕ) (xs : List T) (u : ℕ) → Among u (places_from test i xs) → Passes test i xs u
passes-at test i [] u a = absurd a
passes-at {T} test i (x ∷ xs) u a = at (test x) refl a (passes-at test (i + 1) xs u)
  where
    at : (q : Bool) → test x ≡ q → Among u (cond q (i ∷ []) [] ++ places_from test (i + 1) xs) → (Among u (places_from test (i + 1) xs) → Passes test (i + 1) xs u) → Passes test i (x ∷ xs) u
    at true is (inl e) later = record { place = 0; number = let n : i ≡ i + 0 = omega arith in e ∙ n; item = x; is = refl; passes = is }
    at true is (inr m) later = let r = later m in record { place = suc r.place; number = let n : i + 1 + r.place ≡ i + suc r.place = omega arith in r.number ∙ n; item = r.item; is = r.is; passes = r.passes }
    at false is m later = let r = later m in record { place = suc r.place; number = let n : i + 1 + r.place ≡ i + suc r.place = omega arith in r.number ∙ n; item = r.item; is = r.is; passes = r.passes }

pub places-within : {T : Type 0} (test : T → Bool) (i : ℕ) (xs : List T) (u : ℕ) → Among u (places_from test i xs) → u < i + length xs
places-within test i [] u a = absurd a
places-within {T} test i (x ∷ xs) u a = at (test x) a (places-within test (i + 1) xs u)
  where
    at : (q : Bool) → Among u (cond q (i ∷ []) [] ++ places_from test (i + 1) xs) → (Among u (places_from test (i + 1) xs) → u < i + 1 + length xs) → u < i + length (x ∷ xs)
    at true (inl e) rest = omega (arith, e)
    at true (inr b) rest = let h = rest b in omega arith
    at false b rest = let h = rest b in omega arith

-- the items that pass and the others are all
pub places-count : {T : Type 0} (test : T → Bool) (start : ℕ) (xs : List T) → length (places_from test start xs) + length (places_from (λ x. not (test x)) start xs) ≡ length xs
places-count test start [] = refl
places-count test start (x ∷ xs) = at (test x) (places-count test (start + 1) xs)
  where
    at : (q : Bool) → length (places_from test (start + 1) xs) + length (places_from (λ x. not (test x)) (start + 1) xs) ≡ length xs →
        length (cond q (start ∷ []) [] ++ places_from test (start + 1) xs) + length (cond (not q) (start ∷ []) [] ++ places_from (λ x. not (test x)) (start + 1) xs) ≡ suc (length xs)
    at true rest = omega arith
    at false rest = omega arith

pub length-kinds_from : (place : ℕ) (ls : List NetLine) → length (kinds_from place ls) ≡ length ls
length-kinds_from place [] = refl
length-kinds_from place (l ∷ ls) = ap suc (length-kinds_from (cond (is_handed l.port) (place + 1) place) ls)

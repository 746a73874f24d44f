-- The place of a name among others, name by name.
use Rattle.std.proofs.Common.{ℕ, ◌≡◌, ◌+◌, ◌<◌, ◌≤◌, Bool, true, false, cond, ◌||◌, List, [], ◌∷◌, length, drop, get_or, Option, Some, None, refl, ap, ◌∙◌, arith}
use Rattle.std.specs.Prelude.{is_some}
use Rattle.std.specs.List.{list_any}
use Rattle.std.specs.Option.{option_map}
use Rattle.std.specs.Str.{bytes_eq}
use Rattle.std.proofs.lemmas.List.{drop_more, drop_all}
use Rattle.mig_base.specs.BoardText.{place_named}

-- the place counted from an index on
abbrev pub from_index : ℕ → Option ℕ → Option ℕ
from_index k o = option_map (λ j. j + k) o

pub index-zero : (o : Option ℕ) → from_index 0 o ≡ o
index-zero None = refl
index-zero (Some j) = let e : j + 0 ≡ j = omega arith in ap (λ (i : ℕ). Some i) e

index-more : (k : ℕ) (o : Option ℕ) → from_index k (option_map (λ j. j + 1) o) ≡ from_index (k + 1) o
index-more k None = refl
index-more k (Some j) = let e : j + 1 + k ≡ j + (k + 1) = omega arith in ap (λ (i : ℕ). Some i) e

pub place-here : (name : List ℕ) (names : List (List ℕ)) (k : ℕ) (d : List ℕ) → k < length names → bytes_eq name (get_or names k d) ≡ true → from_index k (place_named name (drop k names)) ≡ Some k
place-here name names k d lt h =
    ap (λ (ns : List (List ℕ)). from_index k (place_named name ns)) (drop_more names k d lt)
    ∙ ap (λ (t : Bool). from_index k (cond t (Some 0) (option_map (λ j. j + 1) (place_named name (drop (k + 1) names))))) h
    ∙ (let e : 0 + k ≡ k = omega arith in ap (λ (i : ℕ). Some i) e)

pub place-next : (name : List ℕ) (names : List (List ℕ)) (k : ℕ) (d : List ℕ) → k < length names → bytes_eq name (get_or names k d) ≡ false →
    from_index k (place_named name (drop k names)) ≡ from_index (k + 1) (place_named name (drop (k + 1) names))
place-next name names k d lt h =
    ap (λ (ns : List (List ℕ)). from_index k (place_named name ns)) (drop_more names k d lt)
    ∙ ap (λ (t : Bool). from_index k (cond t (Some 0) (option_map (λ j. j + 1) (place_named name (drop (k + 1) names))))) h
    ∙ index-more k (place_named name (drop (k + 1) names))

pub place-past : (name : List ℕ) (names : List (List ℕ)) (k : ℕ) → length names ≤ k → from_index k (place_named name (drop k names)) ≡ None
place-past name names k h = ap (λ (ns : List (List ℕ)). from_index k (place_named name ns)) (drop_all k names h)

-- a name is found exactly where it is among the names
pub known-any : (name : List ℕ) (names : List (List ℕ)) → is_some (place_named name names) ≡ list_any (bytes_eq name) names
known-any name [] = refl
known-any name (n ∷ names) = at (bytes_eq name n) (known-any name names)
  where
    some : (o : Option ℕ) → is_some (option_map (λ j. j + 1) o) ≡ is_some o
    some None = refl
    some (Some j) = refl

    at : (t : Bool) → is_some (place_named name names) ≡ list_any (bytes_eq name) names →
        is_some (cond t (Some 0) (option_map (λ j. j + 1) (place_named name names))) ≡ (t || list_any (bytes_eq name) names)
    at true e = refl
    at false e = some (place_named name names) ∙ e

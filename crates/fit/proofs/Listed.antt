-- The first item that gives something, where items give the same by two rules.
use Rattle.std.proofs.Common.{◌≡◌, List, [], ◌∷◌, map, Option, Some, None, refl, sym, inl, inr}
use Rattle.std.specs.List.{AllByRecursion}
use Rattle.std.specs.Option.{option_map}
use Rattle.std.proofs.lemmas.Option.{same_Some}
use Rattle.plans.specs.FirstOf.{FirstOf, NoneOf}

-- items that give the same under a condition that all of them meet
pub first-same : {T E : Type 0} (P : T → Type 0) (g h : T → E → Type 0) → ((t : T) → P t → (x : E) → g t x → h t x) → ((t : T) → P t → (x : E) → h t x → g t x) →
    (ts : List T) → AllByRecursion P ts → (x : E) → FirstOf g ts x → FirstOf h ts x
first-same P g h to from [] all x k = absurd k
first-same P g h to from (t ∷ ts) all x (inl k) = inl (to t all.0 x k)
first-same P g h to from (t ∷ ts) all x (inr k) = inr ((λ y q. k.0 y (from t all.0 y q)), first-same P g h to from ts all.1 x k.1)

pub none-same : {T E : Type 0} (P : T → Type 0) (g h : T → E → Type 0) → ((t : T) → P t → (x : E) → g t x → h t x) → ((t : T) → P t → (x : E) → h t x → g t x) →
    (ts : List T) → AllByRecursion P ts → NoneOf g ts → NoneOf h ts
none-same P g h to from ts all none x k = none x (first-same P h g from to ts all x k)

-- items that stand for others
pub first-through : {S T E : Type 0} (f : S → T) (g : T → E → Type 0) (h : S → E → Type 0) → ((s : S) (x : E) → g (f s) x → h s x) → ((s : S) (x : E) → h s x → g (f s) x) →
    (ss : List S) (x : E) → FirstOf g (map f ss) x → FirstOf h ss x
first-through f g h to from [] x k = absurd k
first-through f g h to from (s ∷ ss) x (inl k) = inl (to s x k)
first-through f g h to from (s ∷ ss) x (inr k) = inr ((λ y q. k.0 y (from s y q)), first-through f g h to from ss x k.1)

first-back : {S T E : Type 0} (f : S → T) (g : T → E → Type 0) (h : S → E → Type 0) → ((s : S) (x : E) → g (f s) x → h s x) → ((s : S) (x : E) → h s x → g (f s) x) →
    (ss : List S) (x : E) → FirstOf h ss x → FirstOf g (map f ss) x
first-back f g h to from [] x k = absurd k
first-back f g h to from (s ∷ ss) x (inl k) = inl (from s x k)
first-back f g h to from (s ∷ ss) x (inr k) = inr ((λ y q. k.0 y (to s y q)), first-back f g h to from ss x k.1)

pub none-through : {S T E : Type 0} (f : S → T) (g : T → E → Type 0) (h : S → E → Type 0) → ((s : S) (x : E) → g (f s) x → h s x) → ((s : S) (x : E) → h s x → g (f s) x) →
    (ss : List S) → NoneOf g (map f ss) → NoneOf h ss
none-through f g h to from ss none x k = none x (first-back f g h to from ss x k)

-- what stands behind a value that a function gave
pub mapped-from : {T U : Type 0} (f : T → U) (o : Option T) (y : U) → option_map f o ≡ Some y → (x : T) × (o ≡ Some x) × (y ≡ f x)
mapped-from f None y e = cc
mapped-from f (Some x) y e = (x, refl, sym (same_Some (f x) y e))

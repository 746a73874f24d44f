-- The first item that gives something gives one thing.
use Rattle.std.proofs.Common.{◌≡◌, List, [], ◌∷◌, Option, Some, None, refl, sym, ◌∙◌, subst, inl, inr}
use Rattle.std.proofs.lemmas.Option.{same_Some}
use Rattle.mig_base.specs.Among.{Among}
use Rattle.plans.specs.FirstOf.{FirstOf, NoneOf, Says, AreEach}

abbrev or_this : {T : Type 0} → T → Option T → T
or_this x None = x
or_this x (Some y) = y

-- items give one thing each
abbrev pub GivesOne : {T E : Type 0} → (T → E → Type 0) → Type 0
GivesOne {T} {E} gives = (t : T) (x y : E) → gives t x → gives t y → x ≡ y

pub first-one : {T E : Type 0} (gives : T → E → Type 0) → GivesOne gives → (ts : List T) (x y : E) → FirstOf gives ts x → FirstOf gives ts y → x ≡ y
first-one gives one [] x y h k = absurd h
first-one gives one (t ∷ ts) x y (inl h) (inl k) = one t x y h k
first-one gives one (t ∷ ts) x y (inl h) (inr k) = absurd (k.0 x h)
first-one gives one (t ∷ ts) x y (inr h) (inl k) = absurd (h.0 y k)
first-one gives one (t ∷ ts) x y (inr h) (inr k) = first-one gives one ts x y h.1 k.1

-- what a test says is one thing
pub says-one : {T E : Type 0} (test : T → Option E) → GivesOne (Says test)
says-one test t x y h k = same_Some x y (sym h ∙ k)

-- there is no first exactly where no item gives anything
pub none-first : {T E : Type 0} (gives : T → E → Type 0) (ts : List T) → ((t : T) (x : E) → gives t x → ⊥) → NoneOf gives ts
none-first gives [] none x h = h
none-first gives (t ∷ ts) none x (inl h) = none t x h
none-first gives (t ∷ ts) none x (inr h) = none-first gives ts none x h.1

pub none-each : {T E : Type 0} (gives : T → E → Type 0) (ts : List T) → NoneOf gives ts → (t : T) → Among t ts → (x : E) → gives t x → ⊥
none-each gives [] none t a x h = a
none-each {T} gives (s ∷ ts) none t (inl e) x h = none x (inl (subst (λ (r : T). gives r x) e h))
none-each gives (s ∷ ts) none t (inr a) x h = none-each gives ts (λ y k. none y (inr (λ z g. none z (inl g), k))) t a x h

-- lists that belong item by item to one list are the same
pub each-one : {T U : Type 0} (is : T → U → Type 0) → ((t : T) (x y : U) → is t x → is t y → x ≡ y) → (ts : List T) (xs ys : List U) → AreEach is ts xs → AreEach is ts ys → xs ≡ ys
each-one is one [] [] [] h k = refl
each-one is one [] [] (y ∷ ys) h k = absurd k
each-one is one [] (x ∷ xs) ys h k = absurd h
each-one is one (t ∷ ts) [] ys h k = absurd h
each-one is one (t ∷ ts) (x ∷ xs) [] h k = absurd k
each-one is one (t ∷ ts) (x ∷ xs) (y ∷ ys) h k =
    let e = one t x y h.0 k.0 in
    let r = each-one is one ts xs ys h.1 k.1 in
    (λ i. e i ∷ r i)

-- The first item of a list that gives something, where what an item gives is a relation.
use Rattle.std.specs.Prelude.{◌≡◌, ◌⊎◌, List, [], ◌∷◌, ◌++◌, Option, Some, None}

-- x is what the first item that gives something gives
abbrev pub FirstOf : {T E : Type 0} → (T → E → Type 0) → List T → E → Type 0
FirstOf gives [] x = ⊥
FirstOf {T} {E} gives (t ∷ ts) x = gives t x ⊎ (((y : E) → gives t y → ⊥) × FirstOf gives ts x)

-- there is no first item that gives something
abbrev pub NoneOf : {T E : Type 0} → (T → E → Type 0) → List T → Type 0
NoneOf {T} {E} gives ts = (x : E) → FirstOf gives ts x → ⊥

-- an item gives this, or nothing
abbrev pub Gives : {T E : Type 0} → (T → E → Type 0) → T → Option E → Type 0
Gives {T} {E} gives t None = (x : E) → gives t x → ⊥
Gives gives t (Some x) = gives t x

-- the first item that gives something gives this, or there is none
abbrev pub GivesFirst : {T E : Type 0} → (T → E → Type 0) → List T → Option E → Type 0
GivesFirst gives ts None = NoneOf gives ts
GivesFirst gives ts (Some x) = FirstOf gives ts x

-- what a test says of an item
abbrev pub Says : {T E : Type 0} → (T → Option E) → T → E → Type 0
Says test t x = test t ≡ Some x

-- each item with those before it, behind these
abbrev pub behind : {T : Type 0} → List T → List T → List (List T × T)
behind before [] = []
behind before (x ∷ xs) = (before, x) ∷ behind (before ++ x ∷ []) xs

-- two lists item by item
abbrev pub AreEach : {T U : Type 0} → (T → U → Type 0) → List T → List U → Type 0
AreEach is [] [] = Unit {0}
AreEach is [] (y ∷ ys) = ⊥
AreEach is (x ∷ xs) [] = ⊥
AreEach is (x ∷ xs) (y ∷ ys) = is x y × AreEach is xs ys

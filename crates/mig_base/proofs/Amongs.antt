-- Items of lists, and the nodes of a board.
use Rattle.std.proofs.Common.{ℕ, zero, suc, ◌≡◌, ◌⊎◌, ◌<◌, ◌≤◌, ◌+◌, Bool, true, false, cond, ◌||◌, ◌&&◌, Option, Some, List, [], ◌∷◌, ◌++◌, map, filter, length, refl, sym, ap, ◌∙◌, subst, arith, inl, inr}
use Rattle.std.proofs.lemmas.Bool.{cases_eq, or_right, and_from}
use Rattle.std.specs.List.{AllByRecursion, flat_map, list_any, list_all, slice_get}
use Rattle.mig_base.specs.declared.circuit.Read.{Read}
use Rattle.mig_base.specs.declared.circuit.Read.TheVariants.{OfNet, OfRegister}
use Rattle.mig_base.specs.declared.circuit.Literal.{Literal}
use Rattle.mig_base.specs.declared.circuit.Circuit.{Circuit}
use Rattle.mig_base.specs.First.{made_from}
use Rattle.mig_base.specs.Among.{Among, IsApart}
use Rattle.mig_base.specs.Structure.{all_variables, both_literals, same_literal, variable_literal, variable_product}
use Rattle.mig_base.specs.Reads.{IsNode}
use Rattle.mig_base.proofs.ReadLaws.{literal-same}

pub among-left : {T : Type 0} (x : T) (xs ys : List T) → Among x xs → Among x (xs ++ ys)
among-left x [] ys a = absurd a
among-left x (z ∷ xs) ys (inl e) = inl e
among-left x (z ∷ xs) ys (inr a) = inr (among-left x xs ys a)

pub among-right : {T : Type 0} (x : T) (xs ys : List T) → Among x ys → Among x (xs ++ ys)
among-right x [] ys a = a
among-right x (z ∷ xs) ys a = inr (among-right x xs ys a)

pub among-split : {T : Type 0} (x : T) (xs ys : List T) → Among x (xs ++ ys) → Among x xs ⊎ Among x ys
among-split x [] ys a = inr a
among-split x (z ∷ xs) ys (inl e) = inl (inl e)
among-split x (z ∷ xs) ys (inr a) = at (among-split x xs ys a)
  where
    at : Among x xs ⊎ Among x ys → Among x (z ∷ xs) ⊎ Among x ys
    at (inl b) = inl (inr b)
    at (inr b) = inr b

pub among-all : {T : Type 0} (P : T → Type 0) (x : T) (xs : List T) → AllByRecursion P xs → Among x xs → P x
among-all P x [] h a = absurd a
among-all P x (y ∷ ys) h (inl e) = subst P (sym e) h.0
among-all P x (y ∷ ys) h (inr a) = among-all P x ys h.1 a

pub all-among : {T : Type 0} (P : T → Type 0) (xs : List T) → ((x : T) → Among x xs → P x) → AllByRecursion P xs
all-among P [] h = tt
all-among P (x ∷ xs) h = (h x (inl refl), all-among P xs (λ y a. h y (inr a)))

pub filter-among : {T : Type 0} (p : T → Bool) (x : T) (xs : List T) → p x ≡ true → Among x xs → Among x (filter p xs)
filter-among p x [] h a = absurd a
filter-among p x (y ∷ ys) h (inl e) = rw (ap p (sym e) ∙ h) (inl e)
filter-among p x (y ∷ ys) h (inr a) = at (p y) (filter-among p x ys h a)
  where
    at : (b : Bool) → Among x (filter p ys) → Among x (cond b (y ∷ filter p ys) (filter p ys))
    at true m = inr m
    at false m = m

pub among-filter : {T : Type 0} (p : T → Bool) (x : T) (xs : List T) → Among x (filter p xs) → (p x ≡ true) × Among x xs
among-filter p x [] a = absurd a
among-filter p x (y ∷ ys) a = at (p y) refl a (λ m. more (among-filter p x ys m))
  where
    more : (p x ≡ true) × Among x ys → (p x ≡ true) × Among x (y ∷ ys)
    more h = (h.0, inr h.1)

    at : (b : Bool) → p y ≡ b → Among x (cond b (y ∷ filter p ys) (filter p ys)) → (Among x (filter p ys) → (p x ≡ true) × Among x (y ∷ ys)) → (p x ≡ true) × Among x (y ∷ ys)
    at true h (inl e) rest = (ap p e ∙ h, inl e)
    at true h (inr m) rest = rest m
    at false h m rest = rest m

pub apart-append : {T : Type 0} (xs ys : List T) → IsApart xs → IsApart ys → ((x : T) → Among x xs → Among x ys → ⊥) → IsApart (xs ++ ys)
apart-append [] ys hx hy none = hy
apart-append {T = T} (x ∷ xs) ys hx hy none = (new, apart-append xs ys hx.1 hy (λ z a b. none z (inr a) b))
  where
    new : Among x (xs ++ ys) → ⊥
    new a = at (among-split x xs ys a)
      where
        at : Among x xs ⊎ Among x ys → ⊥
        at (inl b) = hx.0 b
        at (inr b) = none x (inl refl) b

abbrev net-of : Read → ℕ
net-of (OfNet n) = n
net-of (OfRegister k) = k

-- the items of nodes made from numbers
pub made-nets : (v : Read) (first n : ℕ) → Among v (made_from OfNet first n) → (m : ℕ) × (v ≡ OfNet m) × (first ≤ m) × (m < first + n)
made-nets v first zero a = absurd a
made-nets v first (suc n) (inl e) = (first, e, omega arith, omega arith)
made-nets v first (suc n) (inr a) = let h : (m : ℕ) × (v ≡ OfNet m) × (first + 1 ≤ m) × (m < first + 1 + n) = made-nets v (first + 1) n a in
    (h.0, h.1, omega (arith, h.2), omega (arith, h.3))

pub made-registers : (v : Read) (first n : ℕ) → Among v (made_from OfRegister first n) → (m : ℕ) × (v ≡ OfRegister m) × (first ≤ m) × (m < first + n)
made-registers v first zero a = absurd a
made-registers v first (suc n) (inl e) = (first, e, omega arith, omega arith)
made-registers v first (suc n) (inr a) = let h : (m : ℕ) × (v ≡ OfRegister m) × (first + 1 ≤ m) × (m < first + 1 + n) = made-registers v (first + 1) n a in
    (h.0, h.1, omega (arith, h.2), omega (arith, h.3))

pub made-among : {T : Type 0} (f : ℕ → T) (m first n : ℕ) → first ≤ m → m < first + n → Among (f m) (made_from f first n)
made-among f m first zero low high = absurd (omega arith)
made-among {T = T} f m first (suc n) low high = at (cases_eq first m) (λ ne. made-among f m (first + 1) n (omega arith) (omega arith))
  where
    at : (first ≡ m) ⊎ (first ≡ m → ⊥) → ((first ≡ m → ⊥) → Among (f m) (made_from f (first + 1) n)) → Among (f m) (made_from f first (suc n))
    at (inl e) rest = inl (ap f (sym e))
    at (inr ne) rest = inr (rest ne)

made-apart : {T : Type 0} (f : ℕ → T) (number : T → ℕ) → ((n : ℕ) → number (f n) ≡ n) → (first n : ℕ) → IsApart (made_from f first n)
made-apart f number inverse first zero = tt
made-apart {T = T} f number inverse first (suc n) = (λ a. later (f first) (first + 1) n (omega (arith, inverse first)) a, made-apart f number inverse (first + 1) n)
  where
    later : (x : T) (start n : ℕ) → number x < start → Among x (made_from f start n) → ⊥
    later x start zero low a = absurd a
    later x start (suc n) low (inl e) = omega (arith, ap number e, inverse start)
    later x start (suc n) low (inr a) = later x (start + 1) n (omega arith) a

pub among-node : (c : Circuit) (v : Read) → Among v (all_variables c) → IsNode c v
among-node c v a = at (among-split v (made_from OfNet 0 (length c.nets)) (made_from OfRegister 0 (length c.registers)) a)
  where
    at : Among v (made_from OfNet 0 (length c.nets)) ⊎ Among v (made_from OfRegister 0 (length c.registers)) → IsNode c v
    at (inl b) = let h = made-nets v 0 (length c.nets) b in subst (IsNode c) (sym h.1) (omega (arith, h.3))
    at (inr b) = let h = made-registers v 0 (length c.registers) b in subst (IsNode c) (sym h.1) (omega (arith, h.3))

pub node-among : (c : Circuit) (v : Read) → IsNode c v → Among v (all_variables c)
node-among c (OfNet n) is = among-left (OfNet n) (made_from OfNet 0 (length c.nets)) (made_from OfRegister 0 (length c.registers)) (made-among OfNet n 0 (length c.nets) (omega arith) (omega (arith, is)))
node-among c (OfRegister k) is =
    among-right (OfRegister k) (made_from OfNet 0 (length c.nets)) (made_from OfRegister 0 (length c.registers)) (made-among OfRegister k 0 (length c.registers) (omega arith) (omega (arith, is)))

pub apart-nodes : (c : Circuit) → IsApart (all_variables c)
apart-nodes c =
    apart-append (made_from OfNet 0 (length c.nets)) (made_from OfRegister 0 (length c.registers)) (made-apart OfNet net-of (λ n. refl) 0 (length c.nets)) (made-apart OfRegister net-of (λ n. refl) 0 (length c.registers)) none
  where
    none : (v : Read) → Among v (made_from OfNet 0 (length c.nets)) → Among v (made_from OfRegister 0 (length c.registers)) → ⊥
    none v a b = let h = made-nets v 0 (length c.nets) a in let k = made-registers v 0 (length c.registers) b in let wrong : OfNet h.0 ≡ OfRegister k.0 = sym h.1 ∙ k.1 in cc

pub among-map : {T S : Type 0} (f : T → S) (y : S) (xs : List T) → Among y (map f xs) → (x : T) × Among x xs × (y ≡ f x)
among-map f y [] a = absurd a
among-map f y (x ∷ xs) (inl e) = (x, inl refl, e)
among-map f y (x ∷ xs) (inr a) = let h = among-map f y xs a in (h.0, inr h.1, h.2)

pub map-among : {T S : Type 0} (f : T → S) (x : T) (xs : List T) → Among x xs → Among (f x) (map f xs)
map-among f x [] a = absurd a
map-among f x (y ∷ ys) (inl e) = inl (ap f e)
map-among f x (y ∷ ys) (inr a) = inr (map-among f x ys a)

-- an item that passes, and a list that has one

pub any-among : {T : Type 0} (test : T → Bool) (xs : List T) → list_any test xs ≡ true → (x : T) × Among x xs × (test x ≡ true)
any-among test [] e = cc
any-among {T} test (y ∷ ys) e = at (test y) refl e (any-among test ys)
  where
    at : (q : Bool) → test y ≡ q → (q || list_any test ys) ≡ true → (list_any test ys ≡ true → (x : T) × Among x ys × (test x ≡ true)) → (x : T) × Among x (y ∷ ys) × (test x ≡ true)
    at true is e rest = (y, inl refl, is)
    at false is e rest = let r = rest e in (r.0, inr r.1, r.2)

pub among-any : {T : Type 0} (test : T → Bool) (x : T) (xs : List T) → Among x xs → test x ≡ true → list_any test xs ≡ true
among-any test x [] a e = absurd a
among-any test x (y ∷ ys) (inl same) e = ap (λ (q : Bool). q || list_any test ys) (ap test (sym same) ∙ e)
among-any test x (y ∷ ys) (inr a) e = or_right (test y) (list_any test ys) (among-any test x ys a e)

pub pass-all : {T : Type 0} (test : T → Bool) (xs : List T) → ((x : T) → Among x xs → test x ≡ true) → list_all test xs ≡ true
pass-all test [] f = refl
pass-all test (y ∷ ys) f = and_from (test y) (list_all test ys) (f y (inl refl)) (pass-all test ys (λ x a. f x (inr a)))

pub among-get : {T : Type 0} (xs : List T) (i : ℕ) (x : T) → slice_get xs i ≡ Some x → Among x xs
among-get [] i x e = cc
among-get (y ∷ ys) zero x e = inl cc
among-get (y ∷ ys) (suc i) x e = inr (among-get ys i x e)

pub among-flat_map : {T S : Type 0} (f : T → List S) (x : T) (y : S) (xs : List T) → Among x xs → Among y (f x) → Among y (flat_map f xs)
among-flat_map f x y [] a b = absurd a
among-flat_map f x y (z ∷ zs) (inl e) b = among-left y (f z) (flat_map f zs) (subst (λ q. Among y (f q)) e b)
among-flat_map f x y (z ∷ zs) (inr a) b = among-right y (f z) (flat_map f zs) (among-flat_map f x y zs a b)

-- an item that is neither among a list nor the one pushed to it
pub apart-push : (n other : ℕ) (before : List ℕ) → (Among n before → ⊥) → (other ≡ n → ⊥) → Among n (before ++ other ∷ []) → ⊥
apart-push n other before new ne a = at (among-split n before (other ∷ []) a)
  where
    at : Among n before ⊎ Among n (other ∷ []) → ⊥
    at (inl b) = new b
    at (inr (inl e)) = ne (sym e)
    at (inr (inr none)) = absurd none

-- each literal of both signs of some nodes reads one of them
pub both-among : (y : Literal) (vs : List Read) → Among y (flat_map both_literals vs) → Among y.source vs
both-among y [] a = absurd a
both-among y (v ∷ vs) (inl e) = inl (ap (λ (x : Literal). x.source) e)
both-among y (v ∷ vs) (inr (inl e)) = inl (ap (λ (x : Literal). x.source) e)
both-among y (v ∷ vs) (inr (inr a)) = inr (both-among y vs a)

-- each literal of a product over variables stands for one of the product
pub product-among : (c : Circuit) (y : Literal) (lits : List Literal) → Among y (variable_product c lits) → (x : Literal) × Among x lits × (y ≡ variable_literal c x)
product-among c y lits a =
    let kept = (among-filter (λ z. list_any (same_literal z) (map (variable_literal c) lits)) y (flat_map both_literals (all_variables c)) a).0 in
    let found = any-among (same_literal y) (map (variable_literal c) lits) kept in
    let old = among-map (variable_literal c) found.0 lits found.1 in
    (old.0, old.1, literal-same y found.0 found.2 ∙ old.2)

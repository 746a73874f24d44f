-- Two lists item by item.
use Rattle.std.proofs.Common.{ℕ, zero, suc, ◌≡◌, ◌+◌, ◌<◌, List, [], ◌∷◌, ◌++◌, length, map, take, get_or, Some, refl, sym, ap, subst, inl, inr, arith}
use Rattle.std.proofs.lemmas.List.{take_more}
use Rattle.std.proofs.lemmas.Option.{same_Some}
use Rattle.std.specs.List.{slice_get}
use Rattle.mig_base.specs.Among.{Among}
use Rattle.plans.specs.FirstOf.{AreEach}

module _ {T U : Type 0} (is : T → U → Type 0) where
  pub each-long : (xs : List T) (ys : List U) → AreEach is xs ys → length xs ≡ length ys
  each-long [] [] h = refl
  each-long [] (y ∷ ys) h = absurd h
  each-long (x ∷ xs) [] h = absurd h
  each-long (x ∷ xs) (y ∷ ys) h = ap suc (each-long xs ys h.1)

  pub each-at : (xs : List T) (ys : List U) (i : ℕ) (d : T) (e : U) → AreEach is xs ys → i < length xs → is (get_or xs i d) (get_or ys i e)
  each-at [] ys i d e h lt = absurd (omega arith)
  each-at (x ∷ xs) [] i d e h lt = absurd h
  each-at (x ∷ xs) (y ∷ ys) zero d e h lt = h.0
  each-at (x ∷ xs) (y ∷ ys) (suc i) d e h lt = each-at xs ys i d e h.1 (omega arith)

  pub each-get : (xs : List T) (ys : List U) (i : ℕ) (x : T) (y : U) → AreEach is xs ys → slice_get xs i ≡ Some x → slice_get ys i ≡ Some y → is x y
  each-get [] ys i x y h e k = let wrong = e in cc
  each-get (z ∷ zs) [] i x y h e k = absurd h
  each-get (z ∷ zs) (w ∷ ws) zero x y h e k = subst (λ (u : U). is x u) (same_Some w y k) (subst (λ (t : T). is t w) (same_Some z x e) h.0)
  each-get (z ∷ zs) (w ∷ ws) (suc i) x y h e k = each-get zs ws i x y h.1 e k

  pub each-some : (xs : List T) (ys : List U) (x : T) → AreEach is xs ys → Among x xs → (y : U) × is x y
  each-some [] ys x h a = absurd a
  each-some (z ∷ zs) [] x h a = absurd h
  each-some (z ∷ zs) (y ∷ ys) x h (inl e) = (y, subst (λ (t : T). is t y) (sym e) h.0)
  each-some (z ∷ zs) (y ∷ ys) x h (inr a) = each-some zs ys x h.1 a

  each-append : (xs : List T) (ys : List U) (x : T) (y : U) → AreEach is xs ys → is x y → AreEach is (xs ++ x ∷ []) (ys ++ y ∷ [])
  each-append [] [] x y h k = (k, tt)
  each-append [] (w ∷ ws) x y h k = absurd h
  each-append (z ∷ zs) [] x y h k = absurd h
  each-append (z ∷ zs) (w ∷ ws) x y h k = (h.0, each-append zs ws x y h.1 k)

  pub each-push : (xs : List T) (ys : List U) (i : ℕ) (d : T) (y : U) → i < length xs → AreEach is (take i xs) ys → is (get_or xs i d) y → AreEach is (take (i + 1) xs) (ys ++ y ∷ [])
  each-push xs ys i d y lt h k = subst (λ (ts : List T). AreEach is ts (ys ++ y ∷ [])) (sym (take_more xs i d lt)) (each-append (take i xs) ys (get_or xs i d) y h k)

-- a list and what a function gives of it
pub each-map : {T U : Type 0} (is : T → U → Type 0) (f : T → U) → ((x : T) → is x (f x)) → (xs : List T) → AreEach is xs (map f xs)
each-map is f h [] = tt
each-map is f h (x ∷ xs) = (h x, each-map is f h xs)

-- an item is that at its place
pub item-get : {T : Type 0} (xs : List T) (i : ℕ) (d : T) → i < length xs → slice_get xs i ≡ Some (get_or xs i d)
item-get [] i d lt = absurd (omega arith)
item-get (x ∷ xs) zero d lt = refl
item-get (x ∷ xs) (suc i) d lt = item-get xs i d (omega arith)

pub get-among : {T : Type 0} (xs : List T) (i : ℕ) (x : T) → slice_get xs i ≡ Some x → Among x xs
get-among [] i x e = let wrong = e in cc
get-among (y ∷ ys) zero x e = inl (sym (same_Some y x e))
get-among (y ∷ ys) (suc i) x e = inr (get-among ys i x e)

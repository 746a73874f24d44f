-- Tests and lists: pieces of one width, what holds at each place, filters of images.
use Rattle.std.proofs.Common.{ℕ, zero, suc, ◌≡◌, ◌+◌, ◌-◌, ◌*◌, ◌<◌, ◌≤◌, Bool, true, false, not, Option, Some, None, ◌||◌, ◌&&◌, if◌then◌else◌, filter, reverse, List, [], ◌∷◌, ◌++◌, map, take, drop, length, get_or, refl, sym, ap, ◌∙◌, subst, arith, add-zero}
use Rattle.std.specs.List.{AllByRecursion, flat_map, slice_get}
use Rattle.std.proofs.lemmas.List.{append_assoc, take_at, drop_at, drop-drop, drop_more, length-append, length-map}
use Rattle.mig_base.specs.First.{made_from}
use Rattle.std.proofs.Math.Seq.{take-length}
use Rattle.std.proofs.lemmas.Option.{same_Some}
use Rattle.std.proofs.lemmas.List.{length-drop, length-append, length-map, length-reverse, get_or_append_left, get_or-append-add, get_or-map, get_or-reverse}

pub or-false : (a b : Bool) → (a || b) ≡ false → b ≡ false
or-false true b e = cc
or-false false b e = e

pub or-left : (a b : Bool) → b ≡ false → (a || b) ≡ true → a ≡ true
or-left true b f e = refl
or-left false b f e = cc

pub length-pieces : {A B : Type 0} (g : A → List B) (w : ℕ) (xs : List A) → AllByRecursion (λ (x : A). length (g x) ≡ w) xs → length (flat_map g xs) ≡ w * length xs
length-pieces g w [] h = omega arith
length-pieces g w (x ∷ xs) h =
    let here : length (g x) ≡ w = h.0 in
    let rest : length (flat_map g xs) ≡ w * length xs = length-pieces g w xs h.1 in
    length-append (g x) (flat_map g xs) ∙ omega arith

-- piece r begins at place w times r
pub piece-at : {A B : Type 0} (g : A → List B) (w : ℕ) (xs : List A) (rest : List B) (r : ℕ) (d : A) → AllByRecursion (λ (x : A). length (g x) ≡ w) xs → r < length xs →
    take w (drop (w * r) (flat_map g xs ++ rest)) ≡ g (get_or xs r d)
piece-at g w [] rest r d h n = absurd (omega arith)
piece-at g w (x ∷ xs) rest zero d h n =
    let start : w * 0 ≡ 0 = omega arith in
    ap (λ (k : ℕ). take w (drop k ((g x ++ flat_map g xs) ++ rest))) start ∙ ap (take w) (append_assoc (g x) (flat_map g xs) rest) ∙ take_at (g x) (flat_map g xs ++ rest) w h.0
piece-at g w (x ∷ xs) rest (suc r) d h n =
    let next : w * suc r ≡ w + w * r = omega arith in
    ap (λ (k : ℕ). take w (drop k ((g x ++ flat_map g xs) ++ rest))) next
    ∙ ap (take w) (sym (drop-drop (w * r) w ((g x ++ flat_map g xs) ++ rest))
    ∙ ap (drop (w * r)) (ap (drop w) (append_assoc (g x) (flat_map g xs) rest) ∙ drop_at (g x) (flat_map g xs ++ rest) w h.0))
    ∙ piece-at g w xs rest r d h.1 (omega arith)

-- f at each number from a first one on, where it gives the items of a list
pub made_from-items : {T : Type 0} (f : ℕ → T) (xs : List T) (d : T) (first n : ℕ) → ((r : ℕ) → r < length xs → f r ≡ get_or xs r d) → first + n ≤ length xs →
    made_from f first n ≡ take n (drop first xs)
made_from-items f xs d first zero h room = refl
made_from-items {T = T} f xs d first (suc n) h room =
    let within : first < length xs = omega arith in
    ap (λ (x : T). x ∷ made_from f (first + 1) n) (h first within)
    ∙ ap (λ (rest : List T). get_or xs first d ∷ rest) (made_from-items f xs d (first + 1) n h (omega arith))
    ∙ sym (ap (take (suc n)) (drop_more xs first d within))

pub all-at : {A : Type 0} (P : A → Type 0) (xs : List A) (i : ℕ) (d : A) → AllByRecursion P xs → i < length xs → P (get_or xs i d)
all-at P [] i d h n = absurd (omega arith)
all-at P (x ∷ xs) zero d h n = h.0
all-at P (x ∷ xs) (suc i) d h n = all-at P xs i d h.1 (omega arith)

pub at-all : {A : Type 0} (P : A → Type 0) (xs : List A) (d : A) → ((i : ℕ) → i < length xs → P (get_or xs i d)) → AllByRecursion P xs
at-all P [] d h = tt
at-all P (x ∷ xs) d h = (h 0 (omega arith), at-all P xs d (λ i n. h (suc i) (omega arith)))

pub all-append : {A : Type 0} (P : A → Type 0) (xs ys : List A) → AllByRecursion P xs → AllByRecursion P ys → AllByRecursion P (xs ++ ys)
all-append P [] ys h k = k
all-append P (x ∷ xs) ys h k = (h.0, all-append P xs ys h.1 k)

pub all-flat : {A B : Type 0} (P : B → Type 0) (g : A → List B) (xs : List A) → AllByRecursion (λ (x : A). AllByRecursion P (g x)) xs → AllByRecursion P (flat_map g xs)
all-flat P g [] h = tt
all-flat P g (x ∷ xs) h = all-append P (g x) (flat_map g xs) h.0 (all-flat P g xs h.1)

pub all-map : {A : Type 0} (P Q : A → Type 0) (xs : List A) → AllByRecursion P xs → ((x : A) → P x → Q x) → AllByRecursion Q xs
all-map P Q [] h f = tt
all-map P Q (x ∷ xs) h f = (f x h.0, all-map P Q xs h.1 f)

pub all-reverse : {A : Type 0} (P : A → Type 0) (xs : List A) (d : A) → AllByRecursion P xs → AllByRecursion P (reverse xs)
all-reverse P xs d h = at-all P (reverse xs) d (λ i n.
    let long : length (reverse xs) ≡ length xs = length-reverse xs in
    subst P (sym (get_or-reverse xs i d (omega arith))) (all-at P xs (length xs - 1 - i) d h (omega arith)))

pub all-both : {A : Type 0} (P Q R : A → Type 0) (xs : List A) → AllByRecursion P xs → AllByRecursion Q xs → ((x : A) → P x → Q x → R x) → AllByRecursion R xs
all-both P Q R [] h k f = tt
all-both P Q R (x ∷ xs) h k f = (f x h.0 k.0, all-both P Q R xs h.1 k.1 f)

pub skip : {A : Type 0} (xs ys : List A) (a n : ℕ) (d : A) → length xs ≡ a → get_or (xs ++ ys) (a + n) d ≡ get_or ys n d
skip xs ys a n d e = ap (λ (k : ℕ). get_or (xs ++ ys) (k + n) d) (sym e) ∙ get_or-append-add xs ys n d

pub first-of : {A B : Type 0} (f : A → B) (xs : List A) (ys : List B) (n : ℕ) (d : A) (e : B) → n < length xs → get_or (map f xs ++ ys) n e ≡ f (get_or xs n d)
first-of f xs ys n d e h = get_or_append_left (map f xs) ys e n (let long : length (map f xs) ≡ length xs = length-map xs f in omega arith) ∙ get_or-map f xs n d e h

pub get_or-made_from : {T : Type 0} (f : ℕ → T) (first n i : ℕ) (d : T) → i < n → get_or (made_from f first n) i d ≡ f (first + i)
get_or-made_from f first zero i d h = absurd (omega arith)
get_or-made_from f first (suc n) zero d h = ap f (omega arith)
get_or-made_from f first (suc n) (suc i) d h = get_or-made_from f (first + 1) n i d (omega arith) ∙ ap f (omega arith)

pub filter-at : {A B : Type 0} (f : A → B) (a b : Bool) → a ≡ b → (x : A) (ys : List B) (xs : List A) → ys ≡ map f xs →
    (if a then f x ∷ ys else ys) ≡ map f (if b then x ∷ xs else xs)
filter-at f true true e x ys xs h = ap (λ rest. f x ∷ rest) h
filter-at f false false e x ys xs h = h
filter-at f true false e x ys xs h = cc
filter-at f false true e x ys xs h = cc

pub filter-map : {A B : Type 0} (f : A → B) (p : B → Bool) (q : A → Bool) (xs : List A) → AllByRecursion (λ (x : A). p (f x) ≡ q x) xs → filter p (map f xs) ≡ map f (filter q xs)
filter-map f p q [] h = refl
filter-map f p q (x ∷ xs) h = filter-at f (p (f x)) (q x) h.0 x (filter p (map f xs)) (filter q xs) (filter-map f p q xs h.1)

pub filter-none : {A : Type 0} (q : A → Bool) (xs : List A) → AllByRecursion (λ (x : A). q x ≡ false) xs → filter q xs ≡ []
filter-none q [] h = refl
filter-none q (x ∷ xs) h = ap (λ (b : Bool). if b then x ∷ filter q xs else filter q xs) h.0 ∙ filter-none q xs h.1

-- lists of numbers made one by one

pub made_from-more : {T : Type 0} (f : ℕ → T) (first n m : ℕ) → m ≡ n + 1 → made_from f first m ≡ made_from f first n ++ f (first + n) ∷ []
made_from-more f first zero m e = ap (made_from f first) e ∙ ap (λ k. f k ∷ []) (sym (add-zero first))
made_from-more f first (suc n) m e =
    let k : m ≡ suc (n + 1) = omega arith in
    let s : first + 1 + n ≡ first + suc n = omega arith in
    ap (made_from f first) k ∙ ap (λ rest. f first ∷ rest) (made_from-more f (first + 1) n (n + 1) refl ∙ ap (λ j. made_from f (first + 1) n ++ f j ∷ []) s)

-- one more item of a made list
pub made-push : {T : Type 0} (f : ℕ → T) (before now done : List T) (n : ℕ) → now ≡ before ++ f n ∷ [] → before ≡ done ++ made_from f 0 n → now ≡ done ++ made_from f 0 (n + 1)
made-push f before now done n e h =
    e ∙ ap (λ xs. xs ++ f n ∷ []) h ∙ append_assoc done (made_from f 0 n) (f n ∷ [])
    ∙ ap (λ xs. done ++ xs) (sym (made_from-more f 0 n (n + 1) refl ∙ ap (λ (k : ℕ). made_from f 0 n ++ f k ∷ []) (omega arith)))

pub length-made_from : {T : Type 0} (f : ℕ → T) (first n : ℕ) → length (made_from f first n) ≡ n
length-made_from f first zero = refl
length-made_from f first (suc n) = ap suc (length-made_from f (first + 1) n)

pub all-each : {A : Type 0} (P Q : A → Type 0) (xs : List A) → ((x : A) → P x → Q x) → AllByRecursion P xs → AllByRecursion Q xs
all-each P Q xs f h = all-map P Q xs h f

pub all-get : {A : Type 0} (P : A → Type 0) (xs : List A) (i : ℕ) (x : A) → AllByRecursion P xs → slice_get xs i ≡ Some x → P x
all-get P [] i x h e = cc
all-get P (y ∷ ys) zero x h e = subst P (same_Some y x e) h.0
all-get P (y ∷ ys) (suc i) x h e = all-get P ys i x h.1 e

-- an index within a list, and one past its end

pub item-at : {A : Type 0} (xs : List A) (i : ℕ) → i < length xs → (x : A) × (slice_get xs i ≡ Some x)
item-at [] i h = absurd (omega arith)
item-at (x ∷ xs) zero h = (x, refl)
item-at (x ∷ xs) (suc i) h = item-at xs i (omega arith)

pub get-past : {A : Type 0} (xs : List A) (i : ℕ) → slice_get xs i ≡ None → length xs ≤ i
get-past [] i e = omega arith
get-past (x ∷ xs) zero e = cc
get-past (x ∷ xs) (suc i) e = omega (arith, get-past xs i e)

pub rest-of : (xs : List ℕ) (k : ℕ) → take (length xs - k) (drop k xs) ≡ drop k xs
rest-of xs k = let e : length xs - k ≡ length (drop k xs) = omega (arith, length-drop k xs) in ap (λ (n : ℕ). take n (drop k xs)) e ∙ take-length (drop k xs)

-- two tests that each follow from the other
pub both-ways : (p q : Bool) → (p ≡ true → q ≡ true) → (q ≡ true → p ≡ true) → p ≡ q
both-ways true q f g = sym (f refl)
both-ways false true f g = g refl
both-ways false false f g = refl

-- Items of lists: what is among a list that is filtered, mapped, joined or searched.
use Rattle.std.proofs.Common.{ℕ, zero, suc, ◌≡◌, Bool, true, false, cond, ◌&&◌, List, [], ◌∷◌, map, Option, Some, None, refl, sym, ap, ◌∙◌, subst, inl, inr, ◌⊎◌}
use Rattle.std.specs.List.{filter, list_all, AllByRecursion, slice_get, flat_map, filter_map, cons_option}
use Rattle.mig_base.specs.Among.{Among}
use Rattle.mig_base.proofs.Amongs.{among-split}

pub among-or_less : {T : Type 0} (q : Bool) (x y : T) (ys : List T) → Among x ys → Among x (cond q (y ∷ ys) ys)
among-or_less true x y ys a = inr a
among-or_less false x y ys a = a

pub among-filter : {T : Type 0} (test : T → Bool) (x : T) (xs : List T) → Among x xs → test x ≡ true → Among x (filter test xs)
among-filter test x [] a e = absurd a
among-filter test x (y ∷ ys) (inl same) e =
    subst (λ (q : Bool). Among x (cond q (y ∷ filter test ys) (filter test ys))) (sym (ap test (sym same) ∙ e)) (inl same)
among-filter test x (y ∷ ys) (inr a) e = among-or_less (test y) x y (filter test ys) (among-filter test x ys a e)

among-cond : {T : Type 0} (q : Bool) (x y : T) (ys : List T) → Among x (cond q (y ∷ ys) ys) → ((q ≡ true) × (x ≡ y)) ⊎ Among x ys
among-cond true x y ys (inl e) = inl (refl, e)
among-cond true x y ys (inr a) = inr a
among-cond false x y ys a = inr a

pub among-unfilter : {T : Type 0} (test : T → Bool) (x : T) (xs : List T) → Among x (filter test xs) → Among x xs × (test x ≡ true)
among-unfilter test x [] a = absurd a
among-unfilter test x (y ∷ ys) a = at (among-cond (test y) x y (filter test ys) a) (among-unfilter test x ys)
  where
    at : ((test y ≡ true) × (x ≡ y)) ⊎ Among x (filter test ys) → (Among x (filter test ys) → Among x ys × (test x ≡ true)) → Among x (y ∷ ys) × (test x ≡ true)
    at (inl h) rest = (inl h.1, ap test h.1 ∙ h.0)
    at (inr h) rest = (inr (rest h).0, (rest h).1)

pub all-pass : {T : Type 0} (test : T → Bool) (x : T) (xs : List T) → list_all test xs ≡ true → Among x xs → test x ≡ true
all-pass test x [] e a = absurd a
all-pass test x (y ∷ ys) e (inl same) = ap test same ∙ at (test y) e
  where
    at : (q : Bool) → (q && list_all test ys) ≡ true → q ≡ true
    at true h = refl
    at false h = h
all-pass test x (y ∷ ys) e (inr a) = all-pass test x ys (at (test y) e) a
  where
    at : (q : Bool) → (q && list_all test ys) ≡ true → list_all test ys ≡ true
    at true h = h
    at false h = cc

pub get-among : {T : Type 0} (x : T) (xs : List T) → Among x xs → (i : ℕ) × (slice_get xs i ≡ Some x)
get-among x [] a = absurd a
get-among x (y ∷ ys) (inl e) = (zero, ap (λ q. Some q) (sym e))
get-among x (y ∷ ys) (inr a) = let r = get-among x ys a in (suc r.0, r.1)

pub among-unflat_map : {T S : Type 0} (f : T → List S) (y : S) (xs : List T) → Among y (flat_map f xs) → (x : T) × Among x xs × Among y (f x)
among-unflat_map f y [] a = absurd a
among-unflat_map {T} f y (z ∷ zs) a = at (among-split y (f z) (flat_map f zs) a) (among-unflat_map f y zs)
  where
    at : Among y (f z) ⊎ Among y (flat_map f zs) → (Among y (flat_map f zs) → (x : T) × Among x zs × Among y (f x)) → (x : T) × Among x (z ∷ zs) × Among y (f x)
    at (inl h) rest = (z, inl refl, h)
    at (inr h) rest = let r = rest h in (r.0, inr r.1, r.2)

pub among-filter_map : {T S : Type 0} (f : T → Option S) (x : T) (y : S) (xs : List T) → Among x xs → f x ≡ Some y → Among y (filter_map f xs)
among-filter_map f x y [] a e = absurd a
among-filter_map f x y (z ∷ zs) (inl same) e =
    subst (λ q. Among y (cons_option q (filter_map f zs))) (sym (ap f (sym same) ∙ e)) (inl refl)
among-filter_map {S = S} f x y (z ∷ zs) (inr a) e = at (f z) (among-filter_map f x y zs a e)
  where
    at : (o : Option S) → Among y (filter_map f zs) → Among y (cons_option o (filter_map f zs))
    at None h = h
    at (Some s) h = inr h

pub among-unfilter_map : {T S : Type 0} (f : T → Option S) (y : S) (xs : List T) → Among y (filter_map f xs) → (x : T) × Among x xs × (f x ≡ Some y)
among-unfilter_map f y [] a = absurd a
among-unfilter_map {T} {S} f y (z ∷ zs) a = at (f z) refl a (among-unfilter_map f y zs)
  where
    at : (o : Option S) → f z ≡ o → Among y (cons_option o (filter_map f zs)) → (Among y (filter_map f zs) → (x : T) × Among x zs × (f x ≡ Some y)) →
        (x : T) × Among x (z ∷ zs) × (f x ≡ Some y)
    at None is h rest = let r = rest h in (r.0, inr r.1, r.2)
    at (Some s) is (inl same) rest = (z, inl refl, is ∙ ap (λ q. Some q) (sym same))
    at (Some s) is (inr h) rest = let r = rest h in (r.0, inr r.1, r.2)

pub filter-none : {T : Type 0} (test : T → Bool) (xs : List T) → ((x : T) → Among x xs → test x ≡ false) → filter test xs ≡ []
filter-none test [] h = refl
filter-none test (x ∷ xs) h = ap (λ (q : Bool). cond q (x ∷ filter test xs) (filter test xs)) (h x (inl refl)) ∙ filter-none test xs (λ y a. h y (inr a))

pub filter-all : {T : Type 0} (test : T → Bool) (xs : List T) → ((x : T) → Among x xs → test x ≡ true) → filter test xs ≡ xs
filter-all test [] h = refl
filter-all {T} test (x ∷ xs) h =
    ap (λ (q : Bool). cond q (x ∷ filter test xs) (filter test xs)) (h x (inl refl)) ∙ ap (λ (rest : List T). x ∷ rest) (filter-all test xs (λ y a. h y (inr a)))

pub filter-map : {T S : Type 0} (test : S → Bool) (other : T → Bool) (f : T → S) (xs : List T) → ((x : T) → Among x xs → test (f x) ≡ other x) → filter test (map f xs) ≡ map f (filter other xs)
filter-map test other f [] h = refl
filter-map {T} {S} test other f (x ∷ xs) h =
    ap (λ (q : Bool). cond q (f x ∷ filter test (map f xs)) (filter test (map f xs))) (h x (inl refl))
    ∙ ap (λ (rest : List S). cond (other x) (f x ∷ rest) rest) (filter-map test other f xs (λ y a. h y (inr a)))
    ∙ at (other x)
  where
    at : (q : Bool) → cond q (f x ∷ map f (filter other xs)) (map f (filter other xs)) ≡ map f (cond q (x ∷ filter other xs) (filter other xs))
    at true = refl
    at false = refl

pub map-twice : {T S R : Type 0} (f : S → R) (g : T → S) (xs : List T) → map f (map g xs) ≡ map (λ x. f (g x)) xs
map-twice f g [] = refl
map-twice {R = R} f g (x ∷ xs) = ap (λ (rest : List R). f (g x) ∷ rest) (map-twice f g xs)

pub all-filter : {T : Type 0} (P : T → Type 0) (test : T → Bool) (xs : List T) → AllByRecursion P xs → AllByRecursion P (filter test xs)
all-filter P test [] h = tt
all-filter P test (x ∷ xs) h = at (test x) (all-filter P test xs h.1)
  where
    at : (q : Bool) → AllByRecursion P (filter test xs) → AllByRecursion P (cond q (x ∷ filter test xs) (filter test xs))
    at true rest = (h.0, rest)
    at false rest = rest

-- One more item of a list that is judged or kept.
use Rattle.std.proofs.Common.{ℕ, ◌≡◌, ◌+◌, ◌<◌, ◌≤◌, Bool, false, ◌&&◌, ◌||◌, List, [], ◌∷◌, ◌++◌, map, length, take, drop, get_or, Option, Some, None, Result, Ok, Err, Bor, refl, sym, ap, ◌∙◌}
use Rattle.std.specs.Prelude.{is_err, OnOk}
use Rattle.std.specs.List.{list_any, list_all, filter_map, cons_option}
use Rattle.std.proofs.lemmas.List.{take_more, drop_more, drop_all, map_more}
use Rattle.std.proofs.lemmas.List.Elements.{filter_map-append}
use Rattle.mig_base.specs.First.{or_else, first_refusal}

pub all_now : (p : List ℕ → Bool) (ws : List (Bor (List ℕ))) → list_all p (map (λ w. w.now) ws) ≡ list_all (λ w. p w.now) ws
all_now p [] = refl
all_now p (w ∷ ws) = ap (λ (t : Bool). p w.now && t) (all_now p ws)

pub any_now : (p : List ℕ → Bool) (ws : List (Bor (List ℕ))) → list_any p (map (λ w. w.now) ws) ≡ list_any (λ w. p w.now) ws
any_now p [] = refl
any_now p (w ∷ ws) = ap (λ (t : Bool). p w.now || t) (any_now p ws)

pub where-ok : {T E : Type 0} (r : Result T E) (P : Type 0) → is_err r ≡ false → OnOk r P → P
where-ok (Ok x) P h p = p
where-ok (Err e) P h p = absurd (let no : ⊥ = cc in no)

-- the item at an index, and those behind it
judged-at : {S T E : Type 0} (f : S → T) (judge : List T → T → Option E) (xs : List S) (i : ℕ) (d : S) → i < length xs →
    first_refusal judge (map f (take i xs)) (map f (drop i xs)) ≡ or_else (judge (map f (take i xs)) (f (get_or xs i d))) (first_refusal judge (map f (take (i + 1) xs)) (map f (drop (i + 1) xs)))
judged-at {S} {T} {E} f judge xs i d lt =
    ap (λ (ys : List S). first_refusal judge (map f (take i xs)) (map f ys)) (drop_more xs i d lt)
    ∙ ap (λ (ys : List T). or_else (judge (map f (take i xs)) (f (get_or xs i d))) (first_refusal judge ys (map f (drop (i + 1) xs)))) (sym (map_more f xs i d lt))

-- an item that passes
pub judged-more : {S T E : Type 0} (f : S → T) (judge : List T → T → Option E) (xs : List S) (i : ℕ) (d : S) (all : Option E) → i < length xs → judge (map f (take i xs)) (f (get_or xs i d)) ≡ None →
    first_refusal judge (map f (take i xs)) (map f (drop i xs)) ≡ all → first_refusal judge (map f (take (i + 1) xs)) (map f (drop (i + 1) xs)) ≡ all
judged-more {E = E} f judge xs i d all lt none h =
    ap (λ (o : Option E). or_else o (first_refusal judge (map f (take (i + 1) xs)) (map f (drop (i + 1) xs)))) (sym none) ∙ sym (judged-at f judge xs i d lt) ∙ h

-- one that is refused
pub judged-here : {S T E : Type 0} (f : S → T) (judge : List T → T → Option E) (xs : List S) (i : ℕ) (d : S) (all : Option E) (e : E) → i < length xs → judge (map f (take i xs)) (f (get_or xs i d)) ≡ Some e →
    first_refusal judge (map f (take i xs)) (map f (drop i xs)) ≡ all → all ≡ Some e
judged-here {E = E} f judge xs i d all e lt some h =
    sym h ∙ judged-at f judge xs i d lt ∙ ap (λ (o : Option E). or_else o (first_refusal judge (map f (take (i + 1) xs)) (map f (drop (i + 1) xs)))) some

pub judged-all : {S T E : Type 0} (f : S → T) (judge : List T → T → Option E) (xs : List S) (i : ℕ) (all : Option E) → length xs ≤ i →
    first_refusal judge (map f (take i xs)) (map f (drop i xs)) ≡ all → all ≡ None
judged-all {S} f judge xs i all done h = sym h ∙ ap (λ (ys : List S). first_refusal judge (map f (take i xs)) (map f ys)) (drop_all i xs done)

-- one more item that may be kept
pub kept-more : {S T : Type 0} (f : S → Option T) (xs : List S) (i : ℕ) (d : S) (o : Option T) (kept after : List T) → i < length xs → o ≡ f (get_or xs i d) → kept ≡ filter_map f (take i xs) → after ≡ kept ++ cons_option o [] →
    after ≡ filter_map f (take (i + 1) xs)
kept-more {S} {T} f xs i d o kept after lt e h k =
    k ∙ ap (λ (p : Option T). kept ++ cons_option p []) e ∙ ap (λ (ys : List T). ys ++ cons_option (f (get_or xs i d)) []) h
    ∙ sym (filter_map-append f (take i xs) (get_or xs i d ∷ [])) ∙ ap (filter_map f) (sym (take_more xs i d lt))

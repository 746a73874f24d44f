-- The first item that gives something, item by item.
use Rattle.std.proofs.Common.{ℕ, zero, suc, arith, ◌≡◌, ◌+◌, ◌<◌, ◌≤◌, List, [], ◌∷◌, ◌++◌, map, length, take, drop, get_or, Option, Some, None, refl, sym, ap, ◌∙◌, subst, inl, inr}
use Rattle.std.proofs.lemmas.List.{take_more, drop_more, drop_all}
use Rattle.plans.specs.FirstOf.{FirstOf, Gives, GivesFirst, Says, behind}

-- an item that gives nothing, and one that gives something
pub first-next : {T E : Type 0} (gives : T → E → Type 0) (t : T) (ts : List T) → Gives gives t None → (o : Option E) → GivesFirst gives ts o → GivesFirst gives (t ∷ ts) o
first-next gives t ts none None h = λ x k. next x k
  where
    next : (x : _) → FirstOf gives (t ∷ ts) x → ⊥
    next x (inl g) = none x g
    next x (inr g) = h x g.1
first-next gives t ts none (Some x) h = inr (none, h)

pub first-here : {T E : Type 0} (gives : T → E → Type 0) (t : T) (ts : List T) (x : E) → Gives gives t (Some x) → GivesFirst gives (t ∷ ts) (Some x)
first-here gives t ts x h = inl h

-- what a test says
pub said-gives : {T E : Type 0} (test : T → Option E) (t : T) (o : Option E) → o ≡ test t → Gives (Says test) t o
said-gives test t None e = λ x h. let wrong = e ∙ h in cc
said-gives test t (Some x) e = sym e

-- lists one behind the other
pub first-append : {T E : Type 0} (gives : T → E → Type 0) (xs ys : List T) → GivesFirst gives xs None → (o : Option E) → GivesFirst gives ys o → GivesFirst gives (xs ++ ys) o
first-append gives [] ys none o h = h
first-append gives (x ∷ xs) ys none o h =
    first-next gives x (xs ++ ys) (λ y k. none y (inl k)) o (first-append gives xs ys (λ y k. none y (inr ((λ z g. none z (inl g)), k))) o h)

pub first-of-front : {T E : Type 0} (gives : T → E → Type 0) (xs ys : List T) (x : E) → FirstOf gives xs x → FirstOf gives (xs ++ ys) x
first-of-front gives [] ys x h = absurd h
first-of-front gives (t ∷ xs) ys x (inl h) = inl h
first-of-front gives (t ∷ xs) ys x (inr h) = inr (h.0, first-of-front gives xs ys x h.1)

-- items that stand for others
pub first-map : {S T E : Type 0} (f : S → T) (gives : T → E → Type 0) (ss : List S) (x : E) → FirstOf (λ s y. gives (f s) y) ss x → FirstOf gives (map f ss) x
first-map f gives [] x h = absurd h
first-map f gives (s ∷ ss) x (inl h) = inl h
first-map f gives (s ∷ ss) x (inr h) = inr (h.0, first-map f gives ss x h.1)

pub first-unmap : {S T E : Type 0} (f : S → T) (gives : T → E → Type 0) (ss : List S) (x : E) → FirstOf gives (map f ss) x → FirstOf (λ s y. gives (f s) y) ss x
first-unmap f gives [] x h = absurd h
first-unmap f gives (s ∷ ss) x (inl h) = inl h
first-unmap f gives (s ∷ ss) x (inr h) = inr (h.0, first-unmap f gives ss x h.1)

pub gives-map : {S T E : Type 0} (f : S → T) (gives : T → E → Type 0) (ss : List S) (o : Option E) → GivesFirst (λ s y. gives (f s) y) ss o → GivesFirst gives (map f ss) o
gives-map f gives ss None h = λ x k. h x (first-unmap f gives ss x k)
gives-map f gives ss (Some x) h = first-map f gives ss x h

-- items judged by those before them, where these don't matter
pub behind-alone : {T : Type 0} (before ts : List T) → map (λ (q : List T × T). q.1) (behind before ts) ≡ ts
behind-alone before [] = refl
behind-alone {T} before (t ∷ ts) = ap (λ (us : List T). t ∷ us) (behind-alone (before ++ t ∷ []) ts)

pub gives-alone : {T E : Type 0} (gives : T → E → Type 0) (ts : List T) (o : Option E) → GivesFirst (λ (q : List T × T) y. gives q.1 y) (behind [] ts) o → GivesFirst gives ts o
gives-alone {T} gives ts o h = subst (λ (us : List T). GivesFirst gives us o) (behind-alone [] ts) (gives-map (λ (q : List T × T). q.1) gives (behind [] ts) o h)

-- what is still to be shown at an index: from there on to the whole
abbrev pub FromIndex : {T E : Type 0} → (T → E → Type 0) → List T → ℕ → Type 0
FromIndex {T} {E} gives ts i = (o : Option E) → GivesFirst gives (drop i ts) o → GivesFirst gives ts o

pub from-next : {T E : Type 0} (gives : T → E → Type 0) (ts : List T) (i : ℕ) (t : T) → i < length ts → t ≡ get_or ts i t → Gives gives t None → FromIndex gives ts i → FromIndex gives ts (i + 1)
from-next {T} gives ts i t lt is none go = λ o h. go o (subst (λ (us : List T). GivesFirst gives us o) (sym (drop_more ts i t lt))
    (first-next gives (get_or ts i t) (drop (i + 1) ts) (subst (λ (u : T). Gives gives u None) is none) o h))

pub from-here : {T E : Type 0} (gives : T → E → Type 0) (ts : List T) (i : ℕ) (t : T) (x : E) → i < length ts → t ≡ get_or ts i t → Gives gives t (Some x) → FromIndex gives ts i → GivesFirst gives ts (Some x)
from-here {T} gives ts i t x lt is some go = go (Some x) (subst (λ (us : List T). GivesFirst gives us (Some x)) (sym (drop_more ts i t lt))
    (first-here gives (get_or ts i t) (drop (i + 1) ts) x (subst (λ (u : T). Gives gives u (Some x)) is some)))

pub from-end : {T E : Type 0} (gives : T → E → Type 0) (ts : List T) (i : ℕ) → length ts ≤ i → FromIndex gives ts i → GivesFirst gives ts None
from-end {T} gives ts i done go = go None (subst (λ (us : List T). GivesFirst gives us None) (sym (drop_all i ts done)) (λ x h. h))

-- an item within a list is the same, whatever stands for those behind it
pub same-item : {T : Type 0} (ts : List T) (i : ℕ) (d e : T) → i < length ts → get_or ts i d ≡ get_or ts i e
same-item [] i d e lt = absurd (omega arith)
same-item (t ∷ ts) zero d e lt = refl
same-item (t ∷ ts) (suc i) d e lt = same-item ts i d e (omega arith)

-- the same where items are judged by those before them
abbrev pub FromBehind : {T E : Type 0} → (List T × T → E → Type 0) → List T → ℕ → Type 0
FromBehind {T} {E} gives ts i = (o : Option E) → GivesFirst gives (behind (take i ts) (drop i ts)) o → GivesFirst gives (behind [] ts) o

split-at : {T : Type 0} (ts : List T) (i : ℕ) (t : T) → i < length ts → t ≡ get_or ts i t → behind (take i ts) (drop i ts) ≡ (take i ts, t) ∷ behind (take (i + 1) ts) (drop (i + 1) ts)
split-at {T} ts i t lt is =
    ap (behind (take i ts)) (drop_more ts i t lt)
    ∙ ap (λ (u : T). (take i ts, u) ∷ behind (take i ts ++ u ∷ []) (drop (i + 1) ts)) (sym is)
    ∙ ap (λ (us : List T). (take i ts, t) ∷ behind us (drop (i + 1) ts)) (ap (λ (u : T). take i ts ++ u ∷ []) is ∙ sym (take_more ts i t lt))

pub behind-next : {T E : Type 0} (gives : List T × T → E → Type 0) (ts : List T) (i : ℕ) (t : T) → i < length ts → t ≡ get_or ts i t → Gives gives (take i ts, t) None → FromBehind gives ts i → FromBehind gives ts (i + 1)
behind-next {T} gives ts i t lt is none go = λ o h. go o (subst (λ (us : List (List T × T)). GivesFirst gives us o) (sym (split-at ts i t lt is))
    (first-next gives (take i ts, t) (behind (take (i + 1) ts) (drop (i + 1) ts)) none o h))

pub behind-here : {T E : Type 0} (gives : List T × T → E → Type 0) (ts : List T) (i : ℕ) (t : T) (x : E) → i < length ts → t ≡ get_or ts i t → Gives gives (take i ts, t) (Some x) → FromBehind gives ts i → GivesFirst gives (behind [] ts) (Some x)
behind-here {T} gives ts i t x lt is some go = go (Some x) (subst (λ (us : List (List T × T)). GivesFirst gives us (Some x)) (sym (split-at ts i t lt is))
    (first-here gives (take i ts, t) (behind (take (i + 1) ts) (drop (i + 1) ts)) x some))

pub behind-end : {T E : Type 0} (gives : List T × T → E → Type 0) (ts : List T) (i : ℕ) → length ts ≤ i → FromBehind gives ts i → GivesFirst gives (behind [] ts) None
behind-end {T} gives ts i done go = go None (subst (λ (us : List T). GivesFirst gives (behind (take i ts) us) None) (sym (drop_all i ts done)) (λ x h. h))

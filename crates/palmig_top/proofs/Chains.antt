-- Steps one behind another.
use Rattle.std.proofs.Common.{ℕ, ◌≡◌, ◌≤◌, List, Option, Some, None, Result, Ok, Err, refl, ap, ◌∙◌, subst, sym, inl, inr, arith}
use Rattle.std.specs.Prelude.{IfSome}
use Rattle.mig_io.specs.Counts.{Counts, NoneFell, Rose}
use Rattle.mig_io.specs.Holding.{Held}
use Rattle.answers.specs.declared.exit.Exit.{Exit}
use Rattle.answers.specs.declared.exit.Exit.TheVariants.{Memory}
use Rattle.answers.specs.Exits.{Class, class_of}
use Rattle.answers.specs.Exits.Class.{Worded, Judged, Missed, Unread, Unsaved, Unsent, Wanting}
use Rattle.verdicts.specs.Outcomes.{◌>>=◌, Then}
use Rattle.palmig_top.specs.Steps.{Step, Gives, FailsAs, Finds, RefusesAs}

pub fell-on : (a b c : Counts) → NoneFell a b → NoneFell b c → NoneFell a c
fell-on a b c p q = record { read_faults = omega arith; save_faults = omega arith; misses = omega arith }

pub none-fell : (a : Counts) → NoneFell a a
none-fell a = record { read_faults = omega arith; save_faults = omega arith; misses = omega arith }

pub rose-before : (a b c : ℕ) → a ≤ b → Rose b c → Rose a c
rose-before a b c p q = omega arith

-- where files are told

pub always : (P : Held → Type 0) (o : Option Held) → ((h : Held) → P h) → IfSome o P
always P None f = tt
always P (Some h) f = f h

pub some-map : (P Q : Held → Type 0) (o : Option Held) → ((h : Held) → P h → Q h) → IfSome o P → IfSome o Q
some-map P Q None f p = tt
some-map P Q (Some h) f p = f h p

pub some-both : (P Q R : Held → Type 0) (o : Option Held) → ((h : Held) → P h → Q h → R h) → IfSome o P → IfSome o Q → IfSome o R
some-both P Q R None f p q = tt
some-both P Q R (Some h) f p q = f h p q

-- a failure of one step is one of another, where its refusals are this one's and so are its files
pub fails-on : {Y Z : Type 0} (c : Class) (judge : Held → Result Y Exit → Type 0) (whole : Held → Result Z Exit → Type 0) (loads all : Held → List ℕ → Type 0)
    (held : Option Held) (start before now : Counts) (e : Exit) → NoneFell start before → IfSome held (λ h. judge h (Err e) → whole h (Err e)) → IfSome held (λ h. (f : List ℕ) → loads h f → all h f) →
    FailsAs c judge loads held before now e → FailsAs c whole all held start now e
fails-on Judged judge whole loads all held start before now e fell told widen p =
    (p.0, some-both (λ h. judge h (Err e) → whole h (Err e)) (λ h. judge h (Err e)) (λ h. whole h (Err e)) held (λ h f q. f q) told p.1)
fails-on (Missed f) judge whole loads all held start before now e fell told widen p = (
  rose-before start.misses before.misses now.misses fell.misses p.0,
  some-both (λ h. judge h (Err e) → whole h (Err e)) (λ h. judge h (Err e)) (λ h. whole h (Err e)) held (λ h f q. f q) told p.1,
)
fails-on (Unread f) judge whole loads all held start before now e fell told widen p = (
  rose-before start.read_faults before.read_faults now.read_faults fell.read_faults p.0,
  some-both (λ h. (g : List ℕ) → loads h g → all h g) (λ h. loads h f) (λ h. all h f) held (λ h g q. g f q) widen p.1,
)
fails-on Wanting judge whole loads all held start before now e fell told widen p = tt
fails-on Worded judge whole loads all held start before now e fell told widen p = p
fails-on (Unsaved f) judge whole loads all held start before now e fell told widen p = p
fails-on Unsent judge whole loads all held start before now e fell told widen p = p

-- the first step failed, and so did both
pub broken : {X Y Z W : Type 0} (view : X → Y) (last : W → Z) (judge : Held → Result Y Exit → Type 0) (next : Held → Y → Result Z Exit → Type 0) (whole : Held → Result Z Exit → Type 0) (first both : Held → List ℕ → Type 0)
    (held after : Option Held) (before now : Counts) (e : Exit) → ((h : Held) (q : Result Z Exit) → Then (judge h) (next h) q → whole h q) → ((h : Held) (f : List ℕ) → first h f → both h f) →
    Step view judge first held after before now (Err e) → Step last whole both held after before now (Err e)
broken view last judge next whole first both held after before now e rule widen p = record {
  same = p.same;
  later = p.later;
  gives = fails-on (class_of e) judge whole first both held before before now e (none-fell before)
      (always (λ h. judge h (Err e) → whole h (Err e)) held (λ h j. rule h (Err e) (inr (e, j, refl)))) (always (λ h. (f : List ℕ) → first h f → both h f) held widen) p.gives;
}

-- the second step, behind a first one that went well
pub chained : {X Y Z W : Type 0} (view : X → Y) (last : W → Z) (judge : Held → Result Y Exit → Type 0) (next : Held → Y → Result Z Exit → Type 0) (whole : Held → Result Z Exit → Type 0) (first second both : Held → List ℕ → Type 0)
    (held mid after : Option Held) (before between now : Counts) (x : X) (r : Result W Exit) → ((h : Held) (q : Result Z Exit) → Then (judge h) (next h) q → whole h q) →
    ((h : Held) (f : List ℕ) → judge h (Ok (view x)) → second h f → both h f) →
    Step view judge first held mid before between (Ok x) → Step last (λ h. next h (view x)) second mid after between now r → Step last whole both held after before now r
chained view last judge next whole first second both held mid after before between now x r rule widen p q = record {
  same = q.same ∙ p.same;
  later = fell-on before between now p.later q.later;
  gives = at r (subst (λ (o : Option Held). Gives last (λ h. next h (view x)) second o between now r) p.same q.gives);
}
  where
    at : (s : Result _ Exit) → Gives last (λ h. next h (view x)) second held between now s → Gives last whole both held before now s
    at (Ok w) g = some-both (λ h. judge h (Ok (view x))) (λ h. next h (view x) (Ok (last w))) (λ h. whole h (Ok (last w))) held (λ h j n. rule h (Ok (last w)) (inl (view x, j, n))) p.gives g
    at (Err e) g = fails-on (class_of e) (λ h. next h (view x)) whole second both held before between now e p.later
        (some-map (λ h. judge h (Ok (view x))) (λ h. next h (view x) (Err e) → whole h (Err e)) held (λ h j n. rule h (Err e) (inl (view x, j, n))) p.gives)
        (some-map (λ h. judge h (Ok (view x))) (λ h. (f : List ℕ) → second h f → both h f) held (λ h j f s. widen h f j s) p.gives) g

refuses-fails : {Y : Type 0} (c : Class) (judge : Result Y Exit → Type 0) (loads : Held → List ℕ → Type 0) (held : Option Held) (before now : Counts) (e : Exit) →
    RefusesAs c judge e → FailsAs c (λ h. judge) loads held before now e
refuses-fails Judged judge loads held before now e p = (p.0, always (λ h. judge (Err e)) held (λ h. p.1))
refuses-fails Wanting judge loads held before now e p = tt
refuses-fails (Missed f) judge loads held before now e p = absurd p
refuses-fails (Unread f) judge loads held before now e p = absurd p
refuses-fails Worded judge loads held before now e p = p
refuses-fails (Unsaved f) judge loads held before now e p = p
refuses-fails Unsent judge loads held before now e p = p

-- a step that needs no file
pub found : {X Y : Type 0} (view : X → Y) (judge : Result Y Exit → Type 0) (loads : Held → List ℕ → Type 0) (held : Option Held) (before : Counts) (r : Result X Exit) →
    Finds view judge r → Step view (λ h. judge) loads held held before before r
found view judge loads held before r p = record { same = refl; later = none-fell before; gives = at r p }
  where
    at : (s : Result _ Exit) → Finds view judge s → Gives view (λ h. judge) loads held before before s
    at (Ok x) q = always (λ h. judge (Ok (view x))) held (λ h. q)
    at (Err e) q = refuses-fails (class_of e) judge loads held before before e q

-- a step behind the files of another, which needs none
pub then-found : {X Y Z W : Type 0} (view : X → Y) (last : W → Z) (judge : Held → Result Y Exit → Type 0) (next : Y → Result Z Exit → Type 0) (whole : Held → Result Z Exit → Type 0) (loads : Held → List ℕ → Type 0)
    (held after : Option Held) (before now : Counts) (x : X) (r : Result W Exit) → ((h : Held) (q : Result Z Exit) → Then (judge h) next q → whole h q) →
    Step view judge loads held after before now (Ok x) → Finds last (next (view x)) r → Step last whole loads held after before now r
then-found view last judge next whole loads held after before now x r rule p s =
    chained view last judge (λ h. next) whole loads loads loads held after after before now now x r rule (λ h f j l. l) p (found last (next (view x)) loads after now r s)

-- a chain of functions is one of relations
pub bound : {Y Z : Type 0} (first : Result Y Exit) (next : Y → Result Z Exit) (q : Result Z Exit) → Then (λ r. first ≡ r) (λ y r. next y ≡ r) q → (first >>= next) ≡ q
bound first next q (inl p) = ap (λ r. r >>= next) p.1 ∙ p.2
bound first next q (inr p) = ap (λ r. r >>= next) p.1 ∙ sym p.2

-- memory was wanting
pub wanted : {X Y : Type 0} (view : X → Y) (judge : Held → Result Y Exit → Type 0) (loads : Held → List ℕ → Type 0) (held after : Option Held) (before now : Counts) →
    after ≡ held → NoneFell before now → Step view judge loads held after before now (Err Memory)
wanted view judge loads held after before now same later = record { same = same; later = later; gives = tt }

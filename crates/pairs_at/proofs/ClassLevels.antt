-- The leaves of the registers at a point: registers of one class have one level.
use Rattle.std.proofs.Common.{ℕ, zero, suc, ◌≡◌, ◌⊎◌, ◌+◌, ◌<◌, ◌≤◌, Bool, true, false, cond, List, [], ◌∷◌, ◌++◌, length, refl, sym, ap, ◌∙◌, subst, arith, inl, inr}
use Rattle.std.proofs.lemmas.Bool.{cases_lt, eq-eqb, ne_eqb}
use Rattle.std.proofs.lemmas.List.{append_assoc, get_or-append-add, get_or_append_left, length-append, length-map, map-append}
use Rattle.bdd.specs.Tree.{Point}
use Rattle.mig_base.specs.declared.levels.Level.{Level}
use Rattle.mig_base.specs.declared.levels.Level.TheVariants.{X}
use Rattle.mig_base.specs.Levels.{level_at}
use Rattle.matchings.specs.Pairs.{AreEqualInClasses, class_at}
use Rattle.leaves.specs.declared.Leaf.{Leaf}
use Rattle.leaves.specs.Leaves.{Fits, leaf_level, leaf_levels, level_by}
use Rattle.leaves.specs.Spread.{AreTied}
use Rattle.class_leaves.specs.Pures.{AreLed, flag_at}
use Rattle.class_leaves.specs.ClassLeaves.{class_leaves, class_range, leaf_at, new_leaf, next_leaf, next_place}

pub class-long : (bits : List Bool) (place : ℕ) (done : List Leaf) (cs : List ℕ) → length (class_leaves bits place done cs) ≡ length cs
class-long bits place done [] = refl
class-long bits place done (c ∷ cs) = ap suc (class-long bits (next_place bits place done c) (done ++ next_leaf bits place done c ∷ []) cs)

pub level-at-leaf : (p : Point) (fs : List Leaf) (i : ℕ) → i < length fs → level_at (leaf_levels p fs) i ≡ leaf_level (leaf_at fs i) p
level-at-leaf p [] i lt = absurd (omega arith)
level-at-leaf p (f ∷ fs) zero lt = refl
level-at-leaf p (f ∷ fs) (suc i) lt = level-at-leaf p fs i (omega arith)

pub levels-push : (p : Point) (fs : List Leaf) (f : Leaf) → leaf_levels p (fs ++ f ∷ []) ≡ leaf_levels p fs ++ leaf_level f p ∷ []
levels-push p fs f = map-append (λ (g : Leaf). leaf_level g p) fs (f ∷ [])

pub levels-long : (p : Point) (fs : List Leaf) → length (leaf_levels p fs) ≡ length fs
levels-long p fs = length-map fs (λ (g : Leaf). leaf_level g p)

pub new-next : (bits : List Bool) (place : ℕ) (done : List Leaf) (c : ℕ) → c ≡ length done → next_leaf bits place done c ≡ new_leaf bits place c
new-next bits place done c e = ap (λ (q : Bool). cond q (new_leaf bits place c) (leaf_at done c)) (eq-eqb c (length done) e)

pub old-next : (bits : List Bool) (place : ℕ) (done : List Leaf) (c : ℕ) → c < length done → next_leaf bits place done c ≡ leaf_at done c
old-next bits place done c lt = ap (λ (q : Bool). cond q (new_leaf bits place c) (leaf_at done c)) (ne_eqb c (length done) (λ e. absurd (omega arith)))

-- each class number is that of a register that is no later
abbrev pub Within : ℕ → List ℕ → Type 0
Within i [] = Unit {0}
Within i (c ∷ cs) = (c ≤ i) × Within (i + 1) cs

no_later : (c i : ℕ) → c ≤ i → (c ≡ i) ⊎ (c < i)
no_later c i h = at (cases_lt c i)
  where
    at : (c < i) ⊎ (i ≤ c) → (c ≡ i) ⊎ (c < i)
    at (inl l) = inr l
    at (inr l) = inl (omega arith)

longer : (done : List Leaf) (f : Leaf) → length (done ++ f ∷ []) ≡ length done + 1
longer done f = length-append done (f ∷ [])

longer_levels : (before : List Level) (x : Level) → length (before ++ x ∷ []) ≡ length before + 1
longer_levels before x = length-append before (x ∷ [])

-- the levels of the leaves are tied
pub leaves-tied : (p : Point) (bits : List Bool) (place : ℕ) (done : List Leaf) (cs : List ℕ) → Within (length done) cs → AreTied (leaf_levels p done) cs (leaf_levels p (class_leaves bits place done cs))
leaves-tied p bits place done [] h = tt
leaves-tied p bits place done (c ∷ cs) h =
    let f = next_leaf bits place done c in (
      at (no_later c (length done) h.0),
      subst (λ (before : List Level). AreTied before cs (leaf_levels p (class_leaves bits (next_place bits place done c) (done ++ f ∷ []) cs))) (levels-push p done f)
          (leaves-tied p bits (next_place bits place done c) (done ++ f ∷ []) cs (subst (λ (n : ℕ). Within n cs) (sym (longer done f)) h.1)),
    )
  where
    at : (c ≡ length done) ⊎ (c < length done) → (c ≡ length (leaf_levels p done)) ⊎ ((c < length (leaf_levels p done)) × (leaf_level (next_leaf bits place done c) p ≡ level_at (leaf_levels p done) c))
    at (inl e) = inl (e ∙ sym (levels-long p done))
    at (inr lt) = inr (subst (λ (n : ℕ). c < n) (sym (levels-long p done)) lt, ap (λ (f : Leaf). leaf_level f p) (old-next bits place done c lt) ∙ sym (level-at-leaf p done c lt))

here : (before : List Level) (x : Level) (rest : List Level) → level_at (before ++ x ∷ rest) (length before) ≡ x
here before x rest =
    ap (λ (n : ℕ). level_at (before ++ x ∷ rest) n) (let e : length before ≡ length before + 0 = omega arith in e) ∙ get_or-append-add before (x ∷ rest) 0 X

-- tied registers have the level of the first of their class
pub tied-first : (before : List Level) (cs : List ℕ) (xs : List Level) → AreTied before cs xs → (k : ℕ) → k < length cs → level_at xs k ≡ level_at (before ++ xs) (class_at cs k)
tied-first before [] xs tied k lt = absurd (omega arith)
tied-first before (c ∷ cs) [] tied k lt = absurd tied
tied-first before (c ∷ cs) (x ∷ xs) tied zero lt = at tied.0
  where
    at : (c ≡ length before) ⊎ ((c < length before) × (x ≡ level_at before c)) → x ≡ level_at (before ++ x ∷ xs) c
    at (inl e) = sym (here before x xs) ∙ ap (level_at (before ++ x ∷ xs)) (sym e)
    at (inr h) = h.1 ∙ sym (get_or_append_left before (x ∷ xs) X c h.0)
tied-first before (c ∷ cs) (x ∷ xs) tied (suc k) lt =
    tied-first (before ++ x ∷ []) cs xs tied.1 k (omega arith) ∙ ap (λ (ls : List Level). level_at ls (class_at cs k)) (append_assoc before (x ∷ []) xs)

pub tied-long : (before : List Level) (cs : List ℕ) (xs : List Level) → AreTied before cs xs → length xs ≡ length cs
tied-long before [] [] tied = refl
tied-long before [] (x ∷ xs) tied = absurd tied
tied-long before (c ∷ cs) [] tied = absurd tied
tied-long before (c ∷ cs) (x ∷ xs) tied = ap suc (tied-long (before ++ x ∷ []) cs xs tied.1)

pub tied-equal : (cs : List ℕ) (xs : List Level) → AreTied [] cs xs → AreEqualInClasses cs xs
tied-equal cs xs tied i j li lj together =
    let long : length xs ≡ length cs = tied-long [] cs xs tied in
    tied-first [] cs xs tied i (omega arith) ∙ ap (level_at xs) together ∙ sym (tied-first [] cs xs tied j (omega arith))

-- and registers that have it are tied
pub first-tied : (before : List Level) (cs : List ℕ) (xs : List Level) → length xs ≡ length cs → Within (length before) cs →
    ((k : ℕ) → k < length cs → level_at xs k ≡ level_at (before ++ xs) (class_at cs k)) → AreTied before cs xs
first-tied before [] [] long within same = tt
first-tied before [] (x ∷ xs) long within same = absurd (omega arith)
first-tied before (c ∷ cs) [] long within same = absurd (omega arith)
first-tied before (c ∷ cs) (x ∷ xs) long within same = (
  at (no_later c (length before) within.0),
  first-tied (before ++ x ∷ []) cs xs (omega arith) (subst (λ (n : ℕ). Within n cs) (sym (longer_levels before x)) within.1)
      (λ k lt. same (suc k) (omega arith) ∙ ap (λ (ls : List Level). level_at ls (class_at cs k)) (sym (append_assoc before (x ∷ []) xs))),
)
  where
    at : (c ≡ length before) ⊎ (c < length before) → (c ≡ length before) ⊎ ((c < length before) × (x ≡ level_at before c))
    at (inl e) = inl e
    at (inr lt) = inr (lt, same 0 (omega arith) ∙ get_or_append_left before (x ∷ xs) X c lt)

within-from : (i : ℕ) (cs : List ℕ) → ((k : ℕ) → k < length cs → class_at cs k ≤ i + k) → Within i cs
within-from i [] h = tt
within-from i (c ∷ cs) h = (
  let first : c ≤ i + 0 = h 0 (omega arith) in omega arith,
  within-from (i + 1) cs (λ k lt. let later : class_at cs k ≤ i + suc k = h (suc k) (omega arith) in omega arith),
)

pub led-within : (classes : List ℕ) → AreLed classes → Within 0 classes
led-within classes led = within-from 0 classes (λ k lt. let h : class_at classes k ≤ k = led.within k lt in omega arith)

pub equal-tied : (classes : List ℕ) (xs : List Level) → AreLed classes → length xs ≡ length classes → AreEqualInClasses classes xs → AreTied [] classes xs
equal-tied classes xs led long equal = first-tied [] classes xs long (led-within classes led)
    (λ k lt. let low : class_at classes k ≤ k = led.within k lt in equal k (class_at classes k) (omega arith) (omega arith) (sym (led.led k lt)))

-- the first of a class has a level of its range
range-fits : (b x y : Bool) → Fits (class_range b) (level_by (class_range b) x y)
range-fits true true y = tt
range-fits true false y = tt
range-fits false true y = tt
range-fits false false true = tt
range-fits false false false = tt

pub leader-fits : (p : Point) (bits : List Bool) (place : ℕ) (done : List Leaf) (cs : List ℕ) (k : ℕ) → k < length cs → class_at cs k ≡ length done + k →
    Fits (class_range (flag_at bits (class_at cs k))) (level_at (leaf_levels p (class_leaves bits place done cs)) k)
leader-fits p bits place done [] k lt e = absurd (omega arith)
leader-fits p bits place done (c ∷ cs) zero lt e =
    subst (λ (f : Leaf). Fits (class_range (flag_at bits c)) (leaf_level f p)) (sym (new-next bits place done c (let f : c ≡ length done + 0 = e in omega arith)))
    (range-fits (flag_at bits c) (p place) (p (place + 1)))
leader-fits p bits place done (c ∷ cs) (suc k) lt e =
    let f = next_leaf bits place done c in
    leader-fits p bits (next_place bits place done c) (done ++ f ∷ []) cs k (omega arith) (let long = longer done f in let g : class_at cs k ≡ length done + suc k = e in omega arith)

-- so has each register of the class
pub register-fits : (p : Point) (bits : List Bool) (classes : List ℕ) → AreLed classes → (i : ℕ) → i < length classes →
    Fits (class_range (flag_at bits (class_at classes i))) (level_at (leaf_levels p (class_leaves bits 0 [] classes)) i)
register-fits p bits classes led i lt =
    let xs = leaf_levels p (class_leaves bits 0 [] classes) in
    let c = class_at classes i in
    let low : c ≤ i = led.within i lt in
    let same : level_at xs i ≡ level_at xs c = tied-first [] classes xs (leaves-tied p bits 0 [] classes (led-within classes led)) i lt in
    let self : class_at classes c ≡ c = led.led i lt in
    subst (Fits (class_range (flag_at bits c))) (sym same)
    (subst (λ (n : ℕ). Fits (class_range (flag_at bits n)) (level_at xs c)) self (leader-fits p bits 0 [] classes c (omega arith) (let e : class_at classes c ≡ 0 + c = omega arith in e)))

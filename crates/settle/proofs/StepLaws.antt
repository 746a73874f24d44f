-- Lists that are filled place by place, and what registers store next.
use Rattle.std.proofs.Common.{ℕ, zero, suc, ◌≡◌, ◌<◌, ◌≤◌, ◌+◌, ◌⊎◌, List, [], ◌∷◌, ◌++◌, length, get_or, drop, Option, Some, refl, sym, ap, ◌∙◌, subst, arith, inl, inr}
use Rattle.std.specs.Prelude.{slice_set}
use Rattle.std.proofs.lemmas.List.{get_or-set_same, get_or-set_other, ext_get_or, drop_more, drop_all, append_assoc, append-nil}
use Rattle.mig_base.specs.declared.levels.Level.{Level}
use Rattle.mig_base.specs.declared.levels.Level.TheVariants.{X}
use Rattle.mig_base.specs.declared.circuit.Register.{Register}
use Rattle.mig_base.specs.declared.circuit.Circuit.{Circuit}
use Rattle.mig_base.specs.declared.circuit.Levels.{Levels}
use Rattle.mig_base.specs.Levels.{level_at}
use Rattle.level_laws.specs.Settled.{IsSettled}
use Rattle.level_laws.specs.Runs.{next_stored, IsStep, IsRunFrom, IsRun, shown_levels}
use Rattle.settle.specs.Edges.{next_level}

-- one place more is the same
pub same-below : (xs ys : List Level) (i : ℕ) (x : Level) → i < length xs → ((j : ℕ) → j < i → level_at xs j ≡ level_at ys j) → x ≡ level_at ys i →
    (j : ℕ) → j < i + 1 → level_at (slice_set xs i x) j ≡ level_at ys j
same-below xs ys i x lt before here j below = by (split i j below)
  where
    split : (i j : ℕ) → j < i + 1 → (j < i) ⊎ (j ≡ i)
    split zero zero h = inr refl
    split zero (suc j) h = absurd (omega arith)
    split (suc i) zero h = inl (omega arith)
    split (suc i) (suc j) h = up (split i j (omega arith))
      where
        up : (j < i) ⊎ (j ≡ i) → (suc j < suc i) ⊎ (suc j ≡ suc i)
        up (inl a) = inl (omega arith)
        up (inr e) = inr (ap suc e)

    by : (j < i) ⊎ (j ≡ i) → level_at (slice_set xs i x) j ≡ level_at ys j
    by (inl less) = get_or-set_other xs i j x X (omega arith) ∙ before j less
    by (inr e) = subst (λ (k : ℕ). level_at (slice_set xs i x) k ≡ level_at ys k) (sym e) (get_or-set_same xs i x X lt ∙ here)

-- lists that are the same at every place
pub same-all : (xs ys : List Level) (i : ℕ) → length xs ≡ length ys → length xs ≤ i → ((j : ℕ) → j < i → level_at xs j ≡ level_at ys j) → xs ≡ ys
same-all xs ys i long all h = ext_get_or X xs ys long (λ j lt. h j (omega arith))

pub next-length : (c : Circuit) (l : Levels) (before now : List Level) (rs : List Register) (qs : List Level) → length qs ≡ length rs →
    length (next_stored c l before now rs qs) ≡ length rs
next-length c l before now [] qs e = refl
next-length c l before now (r ∷ rs) [] e = absurd (omega arith)
next-length c l before now (r ∷ rs) (q ∷ qs) e =
    let rest : length (next_stored c l before now rs qs) ≡ length rs = next-length c l before now rs qs (omega arith) in omega arith

pub next-at : (c : Circuit) (l : Levels) (before now : List Level) (rs : List Register) (qs : List Level) (k : ℕ) (d : Register) (s : Level) → k < length rs → k < length qs →
    level_at (next_stored c l before now rs qs) k ≡ next_level c l before now (get_or rs k d) (get_or qs k s)
next-at c l before now [] qs k d s lt within = absurd (omega arith)
next-at c l before now (r ∷ rs) [] k d s lt within = absurd (omega arith)
next-at c l before now (r ∷ rs) (q ∷ qs) zero d s lt within = refl
next-at c l before now (r ∷ rs) (q ∷ qs) (suc k) d s lt within = next-at c l before now rs qs k d s (omega arith) (omega arith)

-- what a register stores next stands at its place
pub next-here : (c : Circuit) (l : Levels) (before now : List Level) (items : List Register) (qs visible : List Level) (k : ℕ) (r : Register) (x s : Level) →
    items ≡ c.registers → qs ≡ visible → length visible ≡ length c.registers → k < length items → r ≡ get_or items k r →
    x ≡ next_level c l before now r (get_or qs k s) → x ≡ level_at (next_stored c l before now c.registers visible) k
next-here c l before now items qs visible k r x s same seen long lt item made =
    let within : k < length c.registers = omega (arith, ap length same) in
    let here : r ≡ get_or c.registers k r = item ∙ ap (λ (rs : List Register). get_or rs k r) same in
    made ∙ ap (λ (q : Register). next_level c l before now q (get_or qs k s)) here
    ∙ ap (λ (vs : List Level). next_level c l before now (get_or c.registers k r) (get_or vs k s)) seen
    ∙ sym (next-at c l before now c.registers visible k r s within (omega arith))

-- a run goes on by a step
pub run-more : (c : Circuit) (inputs : List (List Level)) (i : ℕ) (given : List Level) (stored : List Level) (last : Option (List Level)) (now : List Level) (after : Option (List Level))
    (l : Levels) (shown : List Level) (showns : List (List Level)) → i < length inputs → given ≡ get_or inputs i given →
    IsStep c stored last given now → after ≡ Some given → IsSettled c now given l → shown ≡ shown_levels c l →
    ((rest : List (List Level)) → IsRunFrom c stored last (drop i inputs) rest → IsRun c inputs (showns ++ rest)) →
    (rest : List (List Level)) → IsRunFrom c now after (drop (i + 1) inputs) rest → IsRun c inputs ((showns ++ shown ∷ []) ++ rest)
run-more c inputs i given stored last now after l shown showns lt item step kept settled shows before rest tail =
    let on : drop i inputs ≡ given ∷ drop (i + 1) inputs = drop_more inputs i given lt ∙ ap (λ (g : List Level). g ∷ drop (i + 1) inputs) (sym item) in
    let whole : IsRunFrom c stored last (given ∷ drop (i + 1) inputs) (shown ∷ rest) =
    (now, l, step, settled, shows, subst (λ (o : Option (List Level)). IsRunFrom c now o (drop (i + 1) inputs) rest) kept tail) in
    subst (IsRun c inputs) (sym (append_assoc showns (shown ∷ []) rest))
    (before (shown ∷ rest) (subst (λ (is : List (List Level)). IsRunFrom c stored last is (shown ∷ rest)) (sym on) whole))

-- a run ends with its inputs
pub run-ends : (c : Circuit) (inputs : List (List Level)) (n : ℕ) (stored : List Level) (last : Option (List Level)) (showns : List (List Level)) → length inputs ≤ n →
    ((rest : List (List Level)) → IsRunFrom c stored last (drop n inputs) rest → IsRun c inputs (showns ++ rest)) → IsRun c inputs showns
run-ends c inputs n stored last showns all so_far =
    subst (IsRun c inputs) (append-nil showns)
    (so_far [] (subst (λ (is : List (List Level)). IsRunFrom c stored last is []) (sym (drop_all n inputs all)) tt))

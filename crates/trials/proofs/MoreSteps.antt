-- One more step of a trial, and one more level that is handed over.
use Rattle.std.proofs.Common.{ℕ, suc, ◌≡◌, ◌+◌, ◌-◌, ◌<◌, ◌≤◌, List, [], ◌∷◌, ◌++◌, length, map, Option, refl, sym, ap, ◌∙◌, arith, append_assoc}
use Rattle.std.specs.Prelude.{slice_index_or, slice_set}
use Rattle.std.proofs.lemmas.List.{get_or-map, length-map, map-append}
use Rattle.mig_base.specs.declared.levels.Level.{Level}
use Rattle.mig_base.specs.declared.levels.Level.TheVariants.{X}
use Rattle.mig_base.specs.declared.circuit.Inputs.{Inputs}
use Rattle.mig_base.specs.declared.nets.Port.{Port}
use Rattle.mig_base.specs.First.{made_from}
use Rattle.mig_base.specs.Levels.{level_at, or_x}
use Rattle.mig_base.proofs.ListLaws.{made_from-more}
use Rattle.settle.proofs.StepLaws.{same-all, same-below}
use Rattle.trials.specs.Places.{level_by_place}
use Rattle.trials.specs.Trials.{drawn_step, drawn_steps, stirred}

abbrev levels_of : List Inputs → List (List Level)
levels_of steps = map (λ (given : Inputs). given.levels) steps

pub drawn-more : (ps : List Port) (steps after : List Inputs) (given : Inputs) (count i number next : ℕ) (all : List (List Level)) → i < count → after ≡ steps ++ given ∷ [] →
    given.levels ≡ drawn_step ps number → next ≡ stirred ps number → map (λ given. given.levels) steps ++ drawn_steps (count - i) ps number ≡ all →
    map (λ given. given.levels) after ++ drawn_steps (count - (i + 1)) ps next ≡ all
drawn-more ps steps after given count i number next all lt pushed drawn moved so_far =
    let one : count - i ≡ suc (count - (i + 1)) = omega arith in
    ap (λ (xs : List Inputs). levels_of xs ++ drawn_steps (count - (i + 1)) ps next) pushed
    ∙ ap (λ (xs : List (List Level)). xs ++ drawn_steps (count - (i + 1)) ps next) (map-append (λ (g : Inputs). g.levels) steps (given ∷ []))
    ∙ append_assoc (levels_of steps) (given.levels ∷ []) (drawn_steps (count - (i + 1)) ps next)
    ∙ ap (λ (x : List Level). levels_of steps ++ x ∷ drawn_steps (count - (i + 1)) ps next) drawn
    ∙ ap (λ (n : ℕ). levels_of steps ++ drawn_step ps number ∷ drawn_steps (count - (i + 1)) ps n) moved
    ∙ ap (λ (n : ℕ). levels_of steps ++ drawn_steps n ps number) (sym one) ∙ so_far

-- one more step that counts
pub counted-more : (f : ℕ → List Level) (steps after : List Inputs) (given : Inputs) (i : ℕ) → after ≡ steps ++ given ∷ [] → given.levels ≡ f i → map (λ given. given.levels) steps ≡ made_from f 0 i →
    map (λ given. given.levels) after ≡ made_from f 0 (i + 1)
counted-more f steps after given i pushed made so_far =
    ap levels_of pushed ∙ map-append (λ (g : Inputs). g.levels) steps (given ∷ [])
    ∙ ap (λ (xs : List (List Level)). xs ++ given.levels ∷ []) so_far ∙ ap (λ (x : List Level). made_from f 0 i ++ x ∷ []) (made ∙ ap f (let e : i ≡ 0 + i = omega arith in e))
    ∙ sym (made_from-more f 0 i (i + 1) refl)

abbrev level_or_x : Option Level → Level
level_or_x o = or_x (λ (level : Level). level) o

-- one more level that is handed over
pub over-more : (places : List (Option ℕ)) (levels to after : List Level) (k : ℕ) (x : Level) (d : Option ℕ) → k < length places → length to ≡ length places → after ≡ slice_set to k x →
    x ≡ or_x (λ (level : Level). level) (level_by_place levels (slice_index_or places k d)) →
    ((j : ℕ) → j < k → level_at to j ≡ level_at (map (λ place. or_x (λ (level : Level). level) (level_by_place levels place)) places) j) →
    (j : ℕ) → j < k + 1 → level_at after j ≡ level_at (map (λ place. or_x (λ (level : Level). level) (level_by_place levels place)) places) j
over-more places levels to after k x d lt long set here before j below =
    ap (λ (xs : List Level). level_at xs j) set
    ∙ same-below to (map (λ place. level_or_x (level_by_place levels place)) places) k x (omega arith) before
    (here ∙ sym (get_or-map (λ (place : Option ℕ). level_or_x (level_by_place levels place)) places k d X lt)) j below

-- all is handed over
pub over-all : (places : List (Option ℕ)) (levels to : List Level) (k : ℕ) → length places ≤ k → length to ≡ length places →
    ((j : ℕ) → j < k → level_at to j ≡ level_at (map (λ place. or_x (λ (level : Level). level) (level_by_place levels place)) places) j) →
    to ≡ map (λ place. or_x (λ (level : Level). level) (level_by_place levels place)) places
over-all places levels to k done long so_far =
    same-all to (map (λ place. level_or_x (level_by_place levels place)) places) k (long ∙ sym (length-map places (λ (place : Option ℕ). level_or_x (level_by_place levels place)))) (omega arith) so_far

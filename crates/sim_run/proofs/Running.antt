-- Runs of a script, step by step.
use Rattle.std.proofs.Common.{ℕ, ◌≡◌, ◌<◌, ◌≤◌, List, map, length, get_or, sym, ap, ◌∙◌, arith}
use Rattle.std.proofs.lemmas.List.{get_or-map, length-map}
use Rattle.mig_base.specs.declared.levels.Level.{Level}
use Rattle.sim_run.specs.declared.shows.Shown.{Shown}
use Rattle.mig_base.specs.declared.circuit.Inputs.{Inputs}

-- the levels of each step
abbrev pub levels_of : List Inputs → List (List Level)
levels_of steps = map (λ (given : Inputs). given.levels) steps

-- the levels of a step stand in its place
pub levels-at : (steps : List Inputs) (i : ℕ) (given : Inputs) → i < length steps → given ≡ get_or steps i given →
    given.levels ≡ get_or (levels_of steps) i given.levels
levels-at steps i given lt item = ap (λ (g : Inputs). g.levels) item ∙ sym (get_or-map (λ (g : Inputs). g.levels) steps i given given.levels lt)

pub levels-long : (steps : List Inputs) (i : ℕ) → i < length steps → i < length (levels_of steps)
levels-long steps i lt = let long : length (levels_of steps) ≡ length steps = length-map steps (λ (given : Inputs). given.levels) in omega arith

pub levels-short : (steps : List Inputs) (i : ℕ) → length steps ≤ i → length (levels_of steps) ≤ i
levels-short steps i all = let long : length (levels_of steps) ≡ length steps = length-map steps (λ (given : Inputs). given.levels) in omega arith

-- what is shown after each step
abbrev pub shown_of : List Shown → List (List Level)
shown_of showns = map (λ (shown : Shown). shown.levels) showns

-- Two boards that have made some steps, and what they have shown so far.
use Rattle.std.proofs.Common.{ℕ, ◌≡◌, ◌+◌, ◌<◌, List, [], ◌∷◌, ◌++◌, map, drop, length, get_or, Option, None, refl, sym, ap, ◌∙◌, subst, arith}
use Rattle.std.specs.Prelude.{slice_index_or}
use Rattle.std.proofs.lemmas.List.{get_or-map, get_or_append_left, get_or-append-add, length-append, length-map}
use Rattle.mig_base.specs.declared.levels.Level.{Level}
use Rattle.mig_base.specs.declared.circuit.Circuit.{Circuit}
use Rattle.mig_base.specs.declared.circuit.Inputs.{Inputs}
use Rattle.mig_base.specs.Accepted.{IsAccepted}
use Rattle.level_laws.specs.Runs.{IsRun, IsRunFrom, power_up}
use Rattle.level_laws.proofs.RanksExist.{accepted-runs, accepted-runs-once}
use Rattle.settle.specs.declared.config.Config.{Config}
use Rattle.settle.specs.Configs.{last_of}
use Rattle.settle.proofs.StepLaws.{run-more}
use Rattle.trials.specs.Stepping.{IsStarted, IsStepped}

-- a board has made so many steps under these inputs and shown these levels
pub record IsOnRun (c : Circuit) (inputs : List (List Level)) (m : ℕ) (stored : List Level) (last : Option (List Level)) (seen : List (List Level)) : Type 0 where
  pub long : length seen ≡ m
  pub so_far : (rest : List (List Level)) → IsRunFrom c stored last (drop m inputs) rest → IsRun c inputs (seen ++ rest)

pub run-begins : (c : Circuit) (inputs : List (List Level)) (config : Config) → IsStarted c config → IsOnRun c inputs 0 config.stored (last_of config) []
run-begins c inputs config s = record { long = refl; so_far = begun }
  where
    all : (xs : List (List Level)) → drop 0 xs ≡ xs
    all [] = refl
    all (x ∷ xs) = refl

    begun : (rest : List (List Level)) → IsRunFrom c config.stored (last_of config) (drop 0 inputs) rest → IsRun c inputs rest
    begun rest run = subst (λ (is : List (List Level)). IsRunFrom c (power_up c) None is rest) (all inputs)
        (subst (λ (q : List Level). IsRunFrom c q None (drop 0 inputs) rest) s.stored
        (subst (λ (o : Option (List Level)). IsRunFrom c config.stored o (drop 0 inputs) rest) s.last run))

pub run-stepped : (c : Circuit) (inputs : List (List Level)) (i : ℕ) (given : List Level) (before after : Config) (shown : List Level) (seen : List (List Level)) →
    i < length inputs → given ≡ get_or inputs i given → IsStepped c given before after shown → IsOnRun c inputs i before.stored (last_of before) seen →
    IsOnRun c inputs (i + 1) after.stored (last_of after) (seen ++ shown ∷ [])
run-stepped c inputs i given before after shown seen lt item s w = record {
  long = length-append seen (shown ∷ []) ∙ (let e : length seen ≡ i = w.long in omega arith);
  so_far = run-more c inputs i given before.stored (last_of before) after.stored (last_of after) after.levels shown seen lt item s.step s.last s.settled s.shown w.so_far;
}

-- what comes behind is shown by some run
pub run-whole : (c : Circuit) (inputs : List (List Level)) (m : ℕ) (stored : List Level) (last : Option (List Level)) (seen : List (List Level)) → IsAccepted c → IsOnRun c inputs m stored last seen →
    (rest : List (List Level)) × IsRun c inputs (seen ++ rest)
run-whole c inputs m stored last seen accepted w = let r = accepted-runs c accepted (drop m inputs) stored last in (r.0, w.so_far r.0 r.1)

-- each run shows what was seen
pub run-only : (c : Circuit) (inputs : List (List Level)) (m : ℕ) (stored : List Level) (last : Option (List Level)) (seen others : List (List Level)) (n : ℕ) → IsAccepted c →
    IsOnRun c inputs m stored last seen → IsRun c inputs others → n < m → slice_index_or others n [] ≡ slice_index_or seen n []
run-only c inputs m stored last seen others n accepted w run lt =
    let whole = run-whole c inputs m stored last seen accepted w in
    ap (λ (xs : List (List Level)). slice_index_or xs n []) (accepted-runs-once c accepted inputs others (seen ++ whole.0) run whole.1)
    ∙ get_or_append_left seen whole.0 [] n (let e : length seen ≡ m = w.long in omega arith)

-- what is shown first of a longer list
pub seen-before : (seen : List (List Level)) (shown : List Level) (n : ℕ) → n < length seen → slice_index_or (seen ++ shown ∷ []) n [] ≡ slice_index_or seen n []
seen-before seen shown n lt = get_or_append_left seen (shown ∷ []) [] n lt

pub seen-last : (seen : List (List Level)) (shown : List Level) (n : ℕ) → n ≡ length seen → slice_index_or (seen ++ shown ∷ []) n [] ≡ shown
seen-last seen shown n e = ap (λ (k : ℕ). slice_index_or (seen ++ shown ∷ []) k []) (let f : n ≡ length seen + 0 = omega arith in f) ∙ get_or-append-add seen (shown ∷ []) 0 []

-- the inputs of a step, by the list of steps as it is lent
pub given-at : (f : List Level → List Level) (steps all : List Inputs) (i : ℕ) (given : Inputs) → steps ≡ all → i < length steps → given ≡ get_or steps i given →
    f given.levels ≡ get_or (map f (map (λ s. s.levels) all)) i (f given.levels)
given-at f steps all i given same lt item =
    let within : i < length all = omega (arith, ap length same) in
    let here : given ≡ get_or all i given = subst (λ (xs : List Inputs). given ≡ get_or xs i given) same item in
    let long : length (map (λ (s : Inputs). s.levels) all) ≡ length all = length-map all (λ (s : Inputs). s.levels) in
    ap (λ (g : Inputs). f g.levels) here ∙ ap f (sym (get_or-map (λ (s : Inputs). s.levels) all i given given.levels within))
    ∙ sym (get_or-map f (map (λ (s : Inputs). s.levels) all) i given.levels (f given.levels) (omega arith))

pub given-within : (f : List Level → List Level) (steps all : List Inputs) (i : ℕ) → steps ≡ all → i < length steps → i < length (map f (map (λ s. s.levels) all))
given-within f steps all i same lt =
    let long : length (map (λ (s : Inputs). s.levels) all) ≡ length all = length-map all (λ (s : Inputs). s.levels) in
    let longer : length (map f (map (λ (s : Inputs). s.levels) all)) ≡ length (map (λ (s : Inputs). s.levels) all) = length-map (map (λ (s : Inputs). s.levels) all) f in
    omega (arith, ap length same)

-- the same where the inputs are those of the board itself
pub own-given-at : (steps all : List Inputs) (i : ℕ) (given : Inputs) → steps ≡ all → i < length steps → given ≡ get_or steps i given → given.levels ≡ get_or (map (λ s. s.levels) all) i given.levels
own-given-at steps all i given same lt item =
    let within : i < length all = omega (arith, ap length same) in
    let here : given ≡ get_or all i given = subst (λ (xs : List Inputs). given ≡ get_or xs i given) same item in
    ap (λ (g : Inputs). g.levels) here ∙ sym (get_or-map (λ (s : Inputs). s.levels) all i given given.levels within)

pub own-given-within : (steps all : List Inputs) (i : ℕ) → steps ≡ all → i < length steps → i < length (map (λ s. s.levels) all)
own-given-within steps all i same lt = let long : length (map (λ (s : Inputs). s.levels) all) ≡ length all = length-map all (λ (s : Inputs). s.levels) in omega (arith, ap length same)

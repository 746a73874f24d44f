-- The levels of a written `step` line are read back.
use Rattle.std.proofs.Common.{ℕ, suc, ◌≡◌, ◌+◌, ◌<◌, Bool, true, false, cond, not, ◌||◌, List, [], ◌∷◌, map, length, Option, Some, None, refl, ap, ◌∙◌, arith}
use Rattle.std.specs.Prelude.{is_none, nat_le}
use Rattle.std.specs.List.{list_any, filter_map, cons_option}
use Rattle.std.specs.Option.{option_map}
use Rattle.std.specs.Str.{bytes_eq}
use Rattle.std.proofs.lemmas.Bool.{and_parts, or_parts, not-true, eq-eqb, lt-leb}
use Rattle.mig_base.specs.declared.levels.Level.{Level}
use Rattle.mig_base.specs.declared.levels.Level.TheVariants.{Zero, One, Z, X}
use Rattle.mig_base.specs.declared.nets.Port.{Port}
use Rattle.mig_base.specs.BoardText.{place_named}
use Rattle.mig_base.specs.First.{or_else}
use Rattle.mig_base.specs.WrittenBoard.{are_distinct}
use Rattle.mig_base.proofs.Distinct.{bytes-equal, same-refl, same-sym}
use Rattle.sim_run.specs.declared.handed.HandedPort.{HandedPort}
use Rattle.mig_base.specs.declared.circuit.Inputs.{Inputs}
use Rattle.mig_base.specs.declared.scripts.ScriptError.{ScriptError}
use Rattle.mig_base.specs.declared.scripts.ScriptError.TheVariants.{Line as BadLine, LevelBad, StepsOver}
use Rattle.sim_run.specs.ScriptText.{level_of, level_at, level_for, levels_on, most_steps, refuse, levels_refusal, step_refusal, inputs_of, is_end}
use Rattle.sim_run.specs.WrittenScript.{step_line, takes, fit}
use Rattle.mig_base.specs.Levels.{level_code}
use Rattle.sim_run.proofs.WrittenPorts.{names_of}

-- the character of a level that a port takes
code-read : (dir : Port) (l : Level) → takes dir l ≡ true → level_of dir (level_code l) ≡ Some l
code-read dir Zero h = refl
code-read dir One h = refl
code-read dir Z h = ap (λ (t : Bool). let o : Option Level = cond t (Some Z) None in o) h
code-read dir X h = cc

-- another port's level stands one place on
level-behind : (name : List ℕ) (names : List (List ℕ)) (b : ℕ) (bs : List ℕ) (p : HandedPort) → bytes_eq p.name name ≡ false → level_for (name ∷ names) (b ∷ bs) p ≡ level_for names bs p
level-behind name names b bs p h =
    ap (λ (t : Bool). level_at (b ∷ bs) p.port (cond t (Some 0) (option_map (λ k. k + 1) (place_named p.name names)))) h ∙ at (place_named p.name names)
  where
    at : (o : Option ℕ) → level_at (b ∷ bs) p.port (option_map (λ k. k + 1) o) ≡ level_at bs p.port o
    at None = refl
    at (Some k) = let e : k + 1 ≡ suc k = omega arith in ap (λ (i : ℕ). level_at (b ∷ bs) p.port (Some i)) e

levels-behind : (name : List ℕ) (names : List (List ℕ)) (b : ℕ) (bs : List ℕ) (ports : List HandedPort) → list_any (bytes_eq name) (names_of ports) ≡ false →
    map (level_for (name ∷ names) (b ∷ bs)) ports ≡ map (level_for names bs) ports
levels-behind name names b bs [] h = refl
levels-behind name names b bs (p ∷ ports) h =
    let parts : (bytes_eq name p.name ≡ false) × (list_any (bytes_eq name) (names_of ports) ≡ false) = or_parts _ _ h in
    ap (λ (o : Option Level). o ∷ map (level_for (name ∷ names) (b ∷ bs)) ports) (level-behind name names b bs p (same-sym bytes-equal p.name name ∙ parts.0))
    ∙ ap (λ (os : List (Option Level)). level_for names bs p ∷ os) (levels-behind name names b bs ports parts.1)

abbrev all_some : List Level → List (Option Level)
all_some levels = map (λ l. Some l) levels

-- each port has its level
levels-read : (ports : List HandedPort) (levels : List Level) → are_distinct bytes_eq (names_of ports) ≡ true → fit ports levels ≡ true →
    map (level_for (names_of ports) (map level_code levels)) ports ≡ all_some levels
levels-read [] [] d h = refl
levels-read [] (l ∷ ls) d h = cc
levels-read (p ∷ ps) [] d h = cc
levels-read (p ∷ ps) (l ∷ ls) d h =
    let both : (takes p.port l ≡ true) × (fit ps ls ≡ true) = and_parts _ _ h in
    let parts : (not (list_any (bytes_eq p.name) (names_of ps)) ≡ true) × (are_distinct bytes_eq (names_of ps) ≡ true) = and_parts _ _ d in
    let codes = map level_code ls in
    let names = names_of ps in
    let here : level_for (p.name ∷ names) (level_code l ∷ codes) p ≡ Some l =
    ap (λ (t : Bool). level_at (level_code l ∷ codes) p.port (cond t (Some 0) (option_map (λ k. k + 1) (place_named p.name names)))) (same-refl bytes-equal p.name) ∙ code-read p.port l both.0 in
    ap (λ (o : Option Level). o ∷ map (level_for (p.name ∷ names) (level_code l ∷ codes)) ps) here
    ∙ ap (λ (os : List (Option Level)). Some l ∷ os) (levels-behind p.name names (level_code l) codes ps (not-true _ parts.0) ∙ levels-read ps ls parts.1 both.1)

head-of : {T : Type 0} (x y : T) (xs ys : List T) → x ∷ xs ≡ y ∷ ys → x ≡ y
head-of x y xs ys h = cc

tail-of : {T : Type 0} (x y : T) (xs ys : List T) → x ∷ xs ≡ y ∷ ys → xs ≡ ys
tail-of x y xs ys h = cc

kept : (f : HandedPort → Option Level) (ports : List HandedPort) (levels : List Level) → map f ports ≡ all_some levels → filter_map f ports ≡ levels
kept f [] [] h = refl
kept f [] (l ∷ ls) h = absurd (let no : ⊥ = cc in no)
kept f (p ∷ ps) [] h = absurd (let no : ⊥ = cc in no)
kept f (p ∷ ps) (l ∷ ls) h =
    ap (λ (o : Option Level). cons_option o (filter_map f ps)) (head-of (f p) (Some l) (map f ps) (all_some ls) h) ∙ ap (λ (ms : List Level). l ∷ ms) (kept f ps ls (tail-of (f p) (Some l) (map f ps) (all_some ls) h))

none-bad : (f : HandedPort → Option Level) (ports : List HandedPort) (levels : List Level) → map f ports ≡ all_some levels → list_any (λ p. is_none (f p)) ports ≡ false
none-bad f [] [] h = refl
none-bad f [] (l ∷ ls) h = absurd (let no : ⊥ = cc in no)
none-bad f (p ∷ ps) [] h = absurd (let no : ⊥ = cc in no)
none-bad f (p ∷ ps) (l ∷ ls) h =
    ap (λ (o : Option Level). is_none o || list_any (λ q. is_none (f q)) ps) (head-of (f p) (Some l) (map f ps) (all_some ls) h) ∙ none-bad f ps ls (tail-of (f p) (Some l) (map f ps) (all_some ls) h)

as-many : (ports : List HandedPort) (levels : List Level) → fit ports levels ≡ true → length (map level_code levels) ≡ length ports
as-many [] [] h = refl
as-many [] (l ∷ ls) h = cc
as-many (p ∷ ps) [] h = cc
as-many (p ∷ ps) (l ∷ ls) h = ap suc (as-many ps ls (and_parts (takes p.port l) _ h).1)

-- the characters of a written line
pub line-levels : (levels : List Level) → levels_on (step_line levels) ≡ Some (map level_code levels)
line-levels [] = refl
line-levels (l ∷ ls) = refl

pub line-goes-on : (levels : List Level) → is_end (step_line levels) ≡ false
line-goes-on [] = refl
line-goes-on (l ∷ ls) = refl

-- a written line is refused by nothing, where there are few before it
pub step-passes : (ports : List HandedPort) → are_distinct bytes_eq (names_of ports) ≡ true → (n count : ℕ) (levels : List Level) → fit ports levels ≡ true → count < most_steps →
    step_refusal ports n (names_of ports) count (step_line levels) ≡ None
step-passes ports d n count levels h few =
    let codes = map level_code levels in
    ap (λ (t : Bool). cond t None (levels_refusal ports n (names_of ports) count (levels_on (step_line levels)))) (line-goes-on levels)
    ∙ ap (levels_refusal ports n (names_of ports) count) (line-levels levels)
    ∙ ap (λ (t : Bool). tests (not t) (list_any (λ p. is_none (level_for (names_of ports) codes p)) ports) (nat_le most_steps count)) (eq-eqb (length codes) (length ports) (as-many ports levels h))
    ∙ ap (λ (t : Bool). tests false t (nat_le most_steps count)) (none-bad (level_for (names_of ports) codes) ports levels (levels-read ports levels d h))
    ∙ ap (tests false false) (lt-leb most_steps count few)
  where
    tests : Bool → Bool → Bool → Option ScriptError
    tests a b c = or_else (refuse a (BadLine n)) (or_else (refuse b (LevelBad n)) (refuse c (StepsOver n)))

pub step-read : (ports : List HandedPort) → are_distinct bytes_eq (names_of ports) ≡ true → (s : Inputs) → fit ports s.levels ≡ true → inputs_of ports (names_of ports) (map level_code s.levels) ≡ s
step-read ports d s h =
    ap (λ (ls : List Level). let i : Inputs = record { levels = ls } in i) (kept (level_for (names_of ports) (map level_code s.levels)) ports s.levels (levels-read ports s.levels d h))

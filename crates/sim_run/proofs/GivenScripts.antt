-- Each script that a text says for a wiring can be written.
use Rattle.std.proofs.Common.{ℕ, ◌≡◌, ◌+◌, ◌<◌, ◌≤◌, Bool, true, false, cond, ◌&&◌, ◌||◌, eqb, List, [], ◌∷◌, ◌++◌, length, Option, Some, None, Result, Ok, refl, sym, ap, ◌∙◌, subst, arith}
use Rattle.std.specs.Prelude.{is_none, slice_get}
use Rattle.std.specs.List.{list_any, list_all, filter_map, cons_option}
use Rattle.std.specs.Option.{option_map}
use Rattle.std.proofs.lemmas.Bool.{and_from, or_parts, leb-false}
use Rattle.std.proofs.lemmas.List.{length-append}
use Rattle.std.proofs.lemmas.List.Folds.{list_any-append}
use Rattle.mig_base.specs.declared.levels.Level.{Level}
use Rattle.mig_base.specs.declared.levels.Level.TheVariants.{Zero, One, Z}
use Rattle.mig_base.specs.declared.nets.Net.{Net}
use Rattle.mig_base.specs.declared.nets.Port.{Port}
use Rattle.mig_base.specs.BoardText.{place_named, is_both}
use Rattle.mig_base.specs.First.{or_else, first_refusal, unless}
use Rattle.mig_base.specs.Lines.{TextLine, text_lines}
use Rattle.mig_base.specs.WrittenBoard.{IsWritable}
use Rattle.sim_run.specs.declared.handed.HandedPort.{HandedPort}
use Rattle.mig_base.specs.declared.circuit.Inputs.{Inputs}
use Rattle.mig_base.specs.declared.scripts.Script.{Script}
use Rattle.mig_base.specs.declared.scripts.ScriptError.{ScriptError}
use Rattle.mig_base.specs.declared.scripts.ScriptError.TheVariants.{Line as BadLine, LevelBad, StepsOver}
use Rattle.sim_run.specs.ScriptText.{ports_of, level_of, level_by, level_at, level_for, most_steps, refuse, levels_on, levels_refusal, is_end, ends, or_no_names, names_on, line_refusal, inputs_of, inputs_on, text_refusal, script_in, script_of_text}
use Rattle.sim_run.specs.WrittenScript.{takes, fit, IsWritableScript}
use Rattle.sim_run.proofs.Tables.{step-no-end}

-- a level that is read is one that the port takes
code-taken : (dir : Port) (b : ℕ) (l : Level) → level_of dir b ≡ Some l → takes dir l ≡ true
code-taken dir b l h = at (eqb b 48) (eqb b 49) (eqb b 90 || eqb b 122) (is_both dir) h refl
  where
    at : (t u v w : Bool) → cond t (Some Zero) (cond u (Some One) (cond (v && w) (Some Z) None)) ≡ Some l → is_both dir ≡ w → takes dir l ≡ true
    at true u v w e k = let same : Zero ≡ l = cc in ap (takes dir) (sym same)
    at false true v w e k = let same : One ≡ l = cc in ap (takes dir) (sym same)
    at false false true true e k = let same : Z ≡ l = cc in ap (takes dir) (sym same) ∙ k
    at false false true false e k = absurd (let no : ⊥ = cc in no)
    at false false false w e k = absurd (let no : ⊥ = cc in no)

level-taken : (names : List (List ℕ)) (levels : List ℕ) (p : HandedPort) (l : Level) → level_for names levels p ≡ Some l → takes p.port l ≡ true
level-taken names levels p l h = at (place_named p.name names) h
  where
    by : (o : Option ℕ) → level_by p.port o ≡ Some l → takes p.port l ≡ true
    by None e = absurd (let no : ⊥ = cc in no)
    by (Some b) e = code-taken p.port b l e

    at : (o : Option ℕ) → level_at levels p.port o ≡ Some l → takes p.port l ≡ true
    at None e = absurd (let no : ⊥ = cc in no)
    at (Some k) e = by (slice_get levels k) e

levels-fit : (names : List (List ℕ)) (levels : List ℕ) (ports : List HandedPort) → list_any (λ p. is_none (level_for names levels p)) ports ≡ false → fit ports (filter_map (level_for names levels) ports) ≡ true
levels-fit names levels [] h = refl
levels-fit names levels (p ∷ ports) h =
    let parts : (is_none (level_for names levels p) ≡ false) × (list_any (λ q. is_none (level_for names levels q)) ports ≡ false) = or_parts _ _ h in
    at (level_for names levels p) refl parts.0 (levels-fit names levels ports parts.1)
  where
    at : (o : Option Level) → level_for names levels p ≡ o → is_none o ≡ false → fit ports (filter_map (level_for names levels) ports) ≡ true →
        fit (p ∷ ports) (cons_option o (filter_map (level_for names levels) ports)) ≡ true
    at None e k rest = cc
    at (Some l) e k rest = and_from _ _ (level-taken names levels p l e) rest

none-of : (a b : Option ScriptError) → or_else a b ≡ None → (a ≡ None) × (b ≡ None)
none-of None b h = (refl, h)
none-of (Some e) b h = absurd (let no : ⊥ = cc in no)

not-refused : (t : Bool) (e : ScriptError) → refuse t e ≡ None → t ≡ false
not-refused true e h = absurd (let no : ⊥ = cc in no)
not-refused false e h = refl

-- what a line that passes gives, and how many stand before it
record Gives (ports : List HandedPort) (names : List (List ℕ)) (count : ℕ) (levels : Option (List ℕ)) : Type 0 where
  few : count < most_steps
  fits : list_all (λ s. fit ports s.levels) (cons_option (option_map (inputs_of ports names) levels) []) ≡ true
  one : length (cons_option (option_map (inputs_of ports names) levels) []) ≡ 1

levels-given : (ports : List HandedPort) (n count : ℕ) (names : List (List ℕ)) (o : Option (List ℕ)) → levels_refusal ports n names count o ≡ None → Gives ports names count o
levels-given ports n count names None h = absurd (let no : ⊥ = cc in no)
levels-given ports n count names (Some levels) h =
    let one = none-of _ _ h in
    let two = none-of _ _ one.1 in
    record {
      few = leb-false most_steps count (not-refused _ (StepsOver n) two.1);
      fits = and_from _ _ (levels-fit names levels ports (not-refused _ (LevelBad n) two.0)) refl;
      one = refl;
    }

-- the steps of lines that pass behind some others
record AreGiven (ports : List HandedPort) (count : ℕ) (steps : List Inputs) : Type 0 where
  few : count + length steps ≤ most_steps
  fits : list_all (λ s. fit ports s.levels) steps ≡ true

steps-given : (ports : List HandedPort) (head named : TextLine) (before lines : List TextLine) → list_any ends before ≡ false → length before ≤ most_steps →
    first_refusal (line_refusal ports) (head ∷ named ∷ before) lines ≡ None → AreGiven ports (length before) (filter_map (inputs_on ports (or_no_names (names_on named.words))) lines)
steps-given ports head named before [] going few h = record { few = omega arith; fits = refl }
steps-given ports head named before (l ∷ lines) going few h =
    let one = none-of _ _ h in
    let two = none-of _ _ one.0 in
    at (is_end l.words) refl two.1 one.1 (λ going_on few_more. steps-given ports head named (before ++ l ∷ []) lines going_on few_more one.1)
  where
    names : List (List ℕ)
    names = or_no_names (names_on named.words)

    rest : List Inputs
    rest = filter_map (inputs_on ports names) lines

    over : (ls : List TextLine) → list_any ends (before ++ l ∷ []) ≡ true → first_refusal (line_refusal ports) (head ∷ named ∷ before ++ l ∷ []) ls ≡ None → ls ≡ []
    over [] e k = refl
    over (m ∷ ms) e k =
        let one = none-of _ _ k in
        let two = none-of _ _ one.0 in
        let off : list_any ends (before ++ l ∷ []) ≡ false = not-refused _ (BadLine m.n) two.0 in
        absurd (let no : ⊥ = cc in no)

    or-true : (a : Bool) → (a || (true || false)) ≡ true
    or-true true = refl
    or-true false = refl

    put : (o : Option Inputs) (xs : List Inputs) → cons_option o xs ≡ cons_option o [] ++ xs
    put None xs = refl
    put (Some x) xs = refl

    more : (xs : List Inputs) → length xs ≡ 1 → list_all (λ s. fit ports s.levels) xs ≡ true → AreGiven ports (length before + 1) rest → AreGiven ports (length before) (xs ++ rest)
    more [] e k g = absurd (let no : ⊥ = cc in no)
    more (x ∷ []) e k g = record { few = let f : length before + 1 + length rest ≤ most_steps = g.few in omega arith; fits = and_from _ _ (front k) g.fits }
      where
        front : list_all (λ s. fit ports s.levels) (x ∷ []) ≡ true → fit ports x.levels ≡ true
        front q = true-front (fit ports x.levels) q
          where
            true-front : (t : Bool) → (t && true) ≡ true → t ≡ true
            true-front true r = refl
            true-front false r = cc
    more (x ∷ y ∷ xs) e k g = absurd (omega arith)

    at : (t : Bool) → is_end l.words ≡ t → cond t None (levels_refusal ports l.n names (length before) (levels_on l.words)) ≡ None →
        first_refusal (line_refusal ports) (head ∷ named ∷ before ++ l ∷ []) lines ≡ None → (list_any ends (before ++ l ∷ []) ≡ false → length (before ++ l ∷ []) ≤ most_steps → AreGiven ports (length (before ++ l ∷ [])) rest) →
        AreGiven ports (length before) (filter_map (inputs_on ports names) (l ∷ lines))
    at true e k later go =
        let none : lines ≡ [] = over lines (list_any-append ends before (l ∷ []) ∙ ap (λ (t : Bool). list_any ends before || (t || false)) e ∙ or-true (list_any ends before)) later in
        let empty : filter_map (inputs_on ports names) (l ∷ lines) ≡ [] =
        ap (λ (o : Option (List ℕ)). cons_option (option_map (inputs_of ports names) o) rest) (step-no-end l.words e) ∙ ap (filter_map (inputs_on ports names)) none in
        subst (AreGiven ports (length before)) (sym empty) (record { few = omega arith; fits = refl })
    at false e k later go =
        let g : Gives ports names (length before) (levels_on l.words) = levels-given ports l.n (length before) names (levels_on l.words) k in
        let long : length (before ++ l ∷ []) ≡ length before + 1 = length-append before (l ∷ []) in
        let few : length before < most_steps = g.few in
        let later_steps : AreGiven ports (length (before ++ l ∷ [])) rest =
        go (list_any-append ends before (l ∷ []) ∙ ap (λ (t : Bool). t || (is_end l.words || false)) going ∙ ap (λ (t : Bool). t || false) e) (omega arith) in
        subst (AreGiven ports (length before)) (sym (put (inputs_on ports names l) rest))
        (more (cons_option (inputs_on ports names l) []) g.one g.fits (subst (λ (k : ℕ). AreGiven ports k rest) long later_steps))

given-by : (o : Option ScriptError) (given script : Script) → unless o (Ok given) ≡ Ok script → (o ≡ None) × (given ≡ script)
given-by None given script h = (refl, same h)
  where
    same : {E : Type 0} → (let r : Result Script E = Ok given in r) ≡ Ok script → given ≡ script
    same k = cc
given-by (Some e) given script h = absurd (let no : ⊥ = cc in no)

none-few : 0 ≤ most_steps
none-few = omega arith

lines-given : (ports : List HandedPort) (lines : List TextLine) → text_refusal ports lines ≡ None → AreGiven ports 0 (script_in ports lines).steps
lines-given ports [] h = record { few = omega arith; fits = refl }
lines-given ports (head ∷ []) h = record { few = omega arith; fits = refl }
lines-given ports (head ∷ named ∷ lines) h =
    let all = none-of _ _ h in
    let first = none-of _ _ all.0 in
    let second = none-of _ _ first.1 in
    steps-given ports head named [] lines refl none-few second.1

-- what a text says for a wiring of a board text
pub script-given : (net : Net) (bytes : List ℕ) (script : Script) → IsWritable net → script_of_text (ports_of net) bytes ≡ Ok script → IsWritableScript net script
script-given net bytes script w h =
    let by = given-by (text_refusal (ports_of net) (text_lines bytes)) (script_in (ports_of net) (text_lines bytes)) script h in
    let g : AreGiven (ports_of net) 0 script.steps = subst (λ (s : Script). AreGiven (ports_of net) 0 s.steps) by.1 (lines-given (ports_of net) (text_lines bytes) by.0) in
    record { board = w; few_steps = (let f : 0 + length script.steps ≤ most_steps = g.few in omega arith); steps_fit = g.fits }

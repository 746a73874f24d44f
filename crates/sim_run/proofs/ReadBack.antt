-- A written script is read back.
use Rattle.std.proofs.Common.{ℕ, ◌≡◌, ◌+◌, ◌≤◌, Bool, true, false, not, ◌||◌, List, [], ◌∷◌, ◌++◌, map, length, Option, None, Result, Ok, refl, ap, ◌∙◌, arith}
use Rattle.std.specs.Prelude.{codes, nat_le}
use Rattle.std.specs.List.{list_any, list_all, filter_map, cons_option}
use Rattle.std.specs.Option.{option_map}
use Rattle.std.proofs.lemmas.Bool.{and_parts, and_from, or_from}
use Rattle.std.proofs.lemmas.List.{length-append}
use Rattle.std.proofs.lemmas.List.Folds.{list_any-append}
use Rattle.mig_base.specs.declared.levels.Level.{Level}
use Rattle.mig_base.specs.declared.levels.Level.TheVariants.{Zero, One, Z, X}
use Rattle.mig_base.specs.declared.nets.Net.{Net}
use Rattle.mig_base.specs.First.{or_else, first_refusal, unless}
use Rattle.mig_base.specs.Lines.{TextLine}
use Rattle.mig_base.specs.Names.{is_name}
use Rattle.text_lines.proofs.WrittenLines.{is_plain_word, is_plain_line, numbered, lines-written}
use Rattle.text_lines.proofs.PlainWords.{name-plain}
use Rattle.sim_run.specs.declared.handed.HandedPort.{HandedPort}
use Rattle.mig_base.specs.declared.circuit.Inputs.{Inputs}
use Rattle.mig_base.specs.declared.scripts.Script.{Script}
use Rattle.mig_base.specs.declared.scripts.ScriptError.{ScriptError}
use Rattle.mig_base.specs.declared.scripts.ScriptError.TheVariants.{Line as BadLine, NoEnd}
use Rattle.sim_run.specs.ScriptText.{ports_of, refuse, ends, is_end, most_steps, names_on, or_no_names, step_refusal, line_refusal, inputs_of, inputs_on, script_of_lines, script_of_text}
use Rattle.sim_run.specs.WrittenScript.{step_line, ports_line, script_lines, written_script, fit, IsWritableScript}
use Rattle.mig_base.specs.Levels.{level_code}
use Rattle.sim_run.proofs.WrittenPorts.{names_of, AreNamed, net-named, line-names, line-passes}
use Rattle.sim_run.proofs.WrittenLevels.{line-levels, line-goes-on, step-passes, step-read}

-- the words of the lines behind the first two
abbrev lines_behind : List Inputs → List (List (List ℕ))
lines_behind steps = map (λ s. step_line s.levels) steps ++ (codes "end" ∷ []) ∷ []

-- written lines are plain

names-plain : (ports : List HandedPort) → list_all (λ p. is_name p.name) ports ≡ true → list_all is_plain_word (names_of ports) ≡ true
names-plain [] h = refl
names-plain (p ∷ ports) h =
    let parts : (is_name p.name ≡ true) × (list_all (λ q. is_name q.name) ports ≡ true) = and_parts _ _ h in and_from _ _ (name-plain p.name parts.0) (names-plain ports parts.1)

codes-plain : (levels : List Level) → list_all (nat_le 33) (map level_code levels) ≡ true
codes-plain [] = refl
codes-plain (l ∷ ls) = and_from _ _ (at l) (codes-plain ls)
  where
    at : (m : Level) → nat_le 33 (level_code m) ≡ true
    at Zero = refl
    at One = refl
    at Z = refl
    at X = refl

step-plain : (levels : List Level) → is_plain_line (step_line levels) ≡ true
step-plain [] = refl
step-plain (l ∷ ls) = and_from _ _ (codes-plain (l ∷ ls)) refl

steps-plain : (steps : List Inputs) → list_all is_plain_line (lines_behind steps) ≡ true
steps-plain [] = refl
steps-plain (s ∷ steps) = and_from _ _ (step-plain s.levels) (steps-plain steps)

lines-plain : (ports : List HandedPort) (script : Script) → AreNamed ports → list_all is_plain_line (script_lines ports script) ≡ true
lines-plain ports script h = and_from _ _ (names-plain ports h.named) (steps-plain script.steps)

-- written lines pass

steps-pass : (ports : List HandedPort) → AreNamed ports → (head named : TextLine) → or_no_names (names_on named.words) ≡ names_of ports → (steps : List Inputs) → list_all (λ s. fit ports s.levels) steps ≡ true →
    (n : ℕ) (before : List TextLine) → list_any ends before ≡ false → length before + length steps ≤ most_steps → first_refusal (line_refusal ports) (head ∷ named ∷ before) (numbered n (lines_behind steps)) ≡ None
steps-pass ports h head named same [] fits n before going few = ap (λ (t : Bool). or_else (or_else (refuse t (BadLine n)) None) None) going
steps-pass ports h head named same (s ∷ steps) fits n before going few =
    let parts : (fit ports s.levels ≡ true) × (list_all (λ i. fit ports i.levels) steps ≡ true) = and_parts _ _ fits in
    let long : length (before ++ line ∷ []) ≡ length before + 1 = length-append before (line ∷ []) in
    ap (λ (t : Bool). or_else (or_else (refuse t (BadLine n)) (step_refusal ports n (or_no_names (names_on named.words)) (length before) line.words)) later) going
    ∙ ap (λ (names : List (List ℕ)). or_else (step_refusal ports n names (length before) line.words) later) same
    ∙ ap (λ (o : Option ScriptError). or_else o later) (step-passes ports h.distinct n (length before) s.levels parts.0 (omega arith))
    ∙ steps-pass ports h head named same steps parts.1 (n + 1) (before ++ line ∷ [])
    (list_any-append ends before (line ∷ []) ∙ or_from _ _ going (or_from _ _ (line-goes-on s.levels) refl)) (omega arith)
  where
    line : TextLine
    line = record { n = n; words = step_line s.levels }

    later : Option ScriptError
    later = first_refusal (line_refusal ports) (head ∷ named ∷ before ++ line ∷ []) (numbered (n + 1) (lines_behind steps))

steps-end : (n : ℕ) (steps : List Inputs) → list_any ends (numbered n (lines_behind steps)) ≡ true
steps-end n [] = refl
steps-end n (s ∷ steps) = ap (λ (t : Bool). t || list_any ends (numbered (n + 1) (lines_behind steps))) (line-goes-on s.levels) ∙ steps-end (n + 1) steps

steps-read : (ports : List HandedPort) → AreNamed ports → (n : ℕ) (steps : List Inputs) → list_all (λ s. fit ports s.levels) steps ≡ true →
    filter_map (inputs_on ports (names_of ports)) (numbered n (lines_behind steps)) ≡ steps
steps-read ports h n [] fits = refl
steps-read ports h n (s ∷ steps) fits =
    let parts : (fit ports s.levels ≡ true) × (list_all (λ i. fit ports i.levels) steps ≡ true) = and_parts _ _ fits in
    let rest = filter_map (inputs_on ports (names_of ports)) (numbered (n + 1) (lines_behind steps)) in
    ap (λ (o : Option (List ℕ)). cons_option (option_map (inputs_of ports (names_of ports)) o) rest) (line-levels s.levels)
    ∙ ap (λ (i : Inputs). i ∷ rest) (step-read ports h.distinct s parts.0) ∙ ap (λ (is : List Inputs). s ∷ is) (steps-read ports h (n + 1) steps parts.1)

named-goes-on : (ports : List HandedPort) → is_end (ports_line ports) ≡ false
named-goes-on [] = refl
named-goes-on (p ∷ ports) = refl

lines-read : (ports : List HandedPort) (script : Script) → AreNamed ports → length script.steps ≤ most_steps → list_all (λ s. fit ports s.levels) script.steps ≡ true →
    script_of_lines ports (numbered 1 (script_lines ports script)) ≡ Ok script
lines-read ports script h few fits =
    ap (λ (o : Option ScriptError). said o (first_refusal (line_refusal ports) (head ∷ named ∷ []) rest) (list_any ends rest) (or_no_names (names_on named.words))) (line-passes ports h 2)
    ∙ ap (λ (o : Option ScriptError). said None o (list_any ends rest) (or_no_names (names_on named.words))) (steps-pass ports h head named names script.steps fits 3 [] refl (omega arith))
    ∙ ap (λ (t : Bool). said None None t (or_no_names (names_on named.words))) (steps-end 3 script.steps)
    ∙ ap (said None None true) names
    ∙ ap (λ (t : Bool). let r : Result Script ScriptError = unless (refuse (not (t || true)) NoEnd) (Ok (record { steps = filter_map (inputs_on ports (names_of ports)) rest })) in r) (named-goes-on ports)
    ∙ ap (λ (is : List Inputs). let r : Result Script ScriptError = Ok (record { steps = is }) in r) (steps-read ports h 3 script.steps fits)
  where
    head : TextLine
    head = record { n = 1; words = codes "script" ∷ codes "1" ∷ [] }

    named : TextLine
    named = record { n = 2; words = ports_line ports }

    rest : List TextLine
    rest = numbered 3 (lines_behind script.steps)

    names : or_no_names (names_on (ports_line ports)) ≡ names_of ports
    names = ap or_no_names (line-names ports h)

    said : Option ScriptError → Option ScriptError → Bool → List (List ℕ) → Result Script ScriptError
    said second later ended ns = unless (or_else (or_else second later) (refuse (not (ends named || ended)) NoEnd)) (Ok (record { steps = filter_map (inputs_on ports ns) rest }))

-- what is written says the script again
pub script-read : (net : Net) (script : Script) → IsWritableScript net script → script_of_text (ports_of net) (written_script net script) ≡ Ok script
script-read net script w =
    let h : AreNamed (ports_of net) = net-named net w.board in
    ap (script_of_lines (ports_of net)) (lines-written (script_lines (ports_of net) script) (lines-plain (ports_of net) script h)) ∙ lines-read (ports_of net) script h w.few_steps w.steps_fit

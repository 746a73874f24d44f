-- The ports, their slots, and what is judged by them.
use Rattle.std.proofs.Common.{ℕ, ◌≡◌, ◌+◌, ◌<◌, ◌≤◌, Bool, true, false, cond, not, ◌&&◌, ◌||◌, eqb, List, [], ◌∷◌, ◌++◌, map, length, take, drop, get_or, Option, Some, None, Result, Ok, Err, refl, sym, ap, ◌∙◌, subst, arith, append_assoc}
use Rattle.std.specs.Prelude.{is_none, nat_le, codes}
use Rattle.std.specs.List.{list_any, list_all, filter_map, cons_option}
use Rattle.std.specs.Option.{option_map}
use Rattle.std.proofs.lemmas.List.{drop_more, drop_all, map_more, append-nil, length-map}
use Rattle.std.specs.Str.{bytes_eq}
use Rattle.mig_base.proofs.Distinct.{bytes-equal, same-is}
use Rattle.mig_base.specs.Names.{is_name}
use Rattle.mig_base.specs.declared.levels.Level.{Level}
use Rattle.mig_base.specs.declared.nets.NetLine.{NetLine}
use Rattle.mig_base.specs.BoardText.{place_named}
use Rattle.mig_base.specs.First.{or_else, first_refusal, unless}
use Rattle.mig_base.specs.Lines.{TextLine}
use Rattle.sim_run.specs.declared.handed.HandedPort.{HandedPort}
use Rattle.sim_run.specs.declared.naming.Slot.{Slot}
use Rattle.mig_base.specs.declared.circuit.Inputs.{Inputs}
use Rattle.mig_base.specs.declared.scripts.Script.{Script}
use Rattle.mig_base.specs.declared.scripts.ScriptError.{ScriptError}
use Rattle.mig_base.specs.declared.scripts.ScriptError.TheVariants.{Line as BadLine, PortUnknown, PortTwice, PortLeft, LevelBad, StepsOver, NoEnd, Memory}
use Rattle.sim_run.specs.ScriptText.{port_on, ports_from, refuse, left_refusal, level_at, level_for, most_steps, levels_refusal, line_refusal, ends, is_end, levels_on, or_no_names, names_on, inputs_of, inputs_on, is_head, names_refusal, script_of_lines}
use Rattle.sim_run.specs.Statements.{UnlessMemory, IsTable, slot_for, slot_level, slots_refusal, slot_inputs, slot_inputs_on, rest_refusal, steps_said}

-- one more net
pub ports-more : (nets : List NetLine) (k : ℕ) (l : NetLine) (o : Option HandedPort) (known after all : List HandedPort) → k < length nets → l ≡ get_or nets k l → o ≡ port_on (k + 2) l → after ≡ known ++ cons_option o [] →
    known ++ ports_from (k + 2) (drop k nets) ≡ all → after ++ ports_from (k + 1 + 2) (drop (k + 1) nets) ≡ all
ports-more nets k l o known after all lt is here h e =
    let rest = ports_from (k + 1 + 2) (drop (k + 1) nets) in
    let next : k + 2 + 1 ≡ k + 1 + 2 = omega arith in
    ap (λ (ps : List HandedPort). ps ++ rest) h ∙ append_assoc known (cons_option o []) rest
    ∙ ap (λ (ps : List HandedPort). known ++ ps) (front o rest
    ∙ ap (λ (p : Option HandedPort). cons_option p rest) (here ∙ ap (port_on (k + 2)) is)
    ∙ ap (λ (n : ℕ). cons_option (port_on (k + 2) (get_or nets k l)) (ports_from n (drop (k + 1) nets))) (sym next)
    ∙ ap (ports_from (k + 2)) (sym (drop_more nets k l lt))) ∙ e
  where
    front : (o : Option HandedPort) (ps : List HandedPort) → cons_option o [] ++ ps ≡ cons_option o ps
    front None ps = refl
    front (Some p) ps = refl

pub ports-done : (nets : List NetLine) (k : ℕ) (known all : List HandedPort) → length nets ≤ k → known ++ ports_from (k + 2) (drop k nets) ≡ all → known ≡ all
ports-done nets k known all h e = sym (append-nil known) ∙ ap (λ (ls : List NetLine). known ++ ports_from (k + 2) ls) (sym (drop_all k nets h)) ∙ e

-- one more port whose name is looked up
left-at : (names : List (List ℕ)) (ports : List HandedPort) (i : ℕ) (d : HandedPort) → i < length ports →
    left_refusal names (drop i ports) ≡ or_else (refuse (is_none (place_named (get_or ports i d).name names)) (PortLeft (get_or ports i d).net)) (left_refusal names (drop (i + 1) ports))
left-at names ports i d lt = ap (left_refusal names) (drop_more ports i d lt)

pub left-here : (names : List (List ℕ)) (ports : List HandedPort) (i : ℕ) (p : HandedPort) (all : Option ScriptError) → i < length ports → p ≡ get_or ports i p → place_named p.name names ≡ None →
    left_refusal names (drop i ports) ≡ all → all ≡ Some (PortLeft p.net)
left-here names ports i p all lt is none h =
    sym h ∙ left-at names ports i p lt
    ∙ ap (λ (q : HandedPort). or_else (refuse (is_none (place_named q.name names)) (PortLeft q.net)) (left_refusal names (drop (i + 1) ports))) (sym is)
    ∙ ap (λ (o : Option ℕ). or_else (refuse (is_none o) (PortLeft p.net)) (left_refusal names (drop (i + 1) ports))) none

pub left-next : (names : List (List ℕ)) (ports : List HandedPort) (i : ℕ) (p : HandedPort) (k : ℕ) (all : Option ScriptError) → i < length ports → p ≡ get_or ports i p → place_named p.name names ≡ Some k →
    left_refusal names (drop i ports) ≡ all → left_refusal names (drop (i + 1) ports) ≡ all
left-next names ports i p k all lt is some h =
    ap (λ (o : Option ℕ). or_else (refuse (is_none o) (PortLeft p.net)) (left_refusal names (drop (i + 1) ports))) (sym some)
    ∙ ap (λ (q : HandedPort). or_else (refuse (is_none (place_named q.name names)) (PortLeft q.net)) (left_refusal names (drop (i + 1) ports))) is
    ∙ sym (left-at names ports i p lt) ∙ h

pub left-done : (names : List (List ℕ)) (ports : List HandedPort) (i : ℕ) (all : Option ScriptError) → length ports ≤ i → left_refusal names (drop i ports) ≡ all → all ≡ None
left-done names ports i all h e = sym e ∙ ap (left_refusal names) (drop_all i ports h)

map-append-one : (slots : List Slot) (s : Slot) → map (λ t. let o : Option Slot = Some t in o) (slots ++ s ∷ []) ≡ map (λ t. let o : Option Slot = Some t in o) slots ++ Some s ∷ []
map-append-one [] s = refl
map-append-one (t ∷ slots) s = ap (λ (os : List (Option Slot)). Some t ∷ os) (map-append-one slots s)

pub table-next : (names : List (List ℕ)) (ports : List HandedPort) (i : ℕ) (p : HandedPort) (k : ℕ) (known after : List Slot) → i < length ports → p ≡ get_or ports i p → place_named p.name names ≡ Some k →
    after ≡ known ++ record { port = p.port; place = k } ∷ [] → IsTable names (take i ports) known → IsTable names (take (i + 1) ports) after
table-next names ports i p k known after lt is some put h =
    map_more (slot_for names) ports i p lt
    ∙ ap (λ (q : HandedPort). map (slot_for names) (take i ports) ++ slot_for names q ∷ []) (sym is)
    ∙ ap (λ (o : Option ℕ). map (slot_for names) (take i ports) ++ option_map (λ j. let s : Slot = record { port = p.port; place = j } in s) o ∷ []) some
    ∙ ap (λ (os : List (Option Slot)). os ++ Some (record { port = p.port; place = k }) ∷ []) h
    ∙ sym (map-append-one known (record { port = p.port; place = k }))
    ∙ ap (map (λ t. let o : Option Slot = Some t in o)) (sym put)

-- what the slots say is what the names say
abbrev level_by_slot : List ℕ → Option Slot → Option Level
level_by_slot levels None = None
level_by_slot levels (Some s) = slot_level levels s

slot-for-level : (names : List (List ℕ)) (levels : List ℕ) (p : HandedPort) → level_by_slot levels (slot_for names p) ≡ level_for names levels p
slot-for-level names levels p = at (place_named p.name names)
  where
    at : (o : Option ℕ) → level_by_slot levels (option_map (λ k. record { port = p.port; place = k }) o) ≡ level_at levels p.port o
    at None = refl
    at (Some k) = refl

head-of : (a b : Option Slot) (xs ys : List (Option Slot)) → a ∷ xs ≡ b ∷ ys → a ≡ b
head-of a b xs ys h = cc

tail-of : (a b : Option Slot) (xs ys : List (Option Slot)) → a ∷ xs ≡ b ∷ ys → xs ≡ ys
tail-of a b xs ys h = cc

level-here : (names : List (List ℕ)) (levels : List ℕ) (p : HandedPort) (s : Slot) → slot_for names p ≡ Some s → level_for names levels p ≡ slot_level levels s
level-here names levels p s h = sym (slot-for-level names levels p) ∙ ap (level_by_slot levels) h

pub table-bad : (names : List (List ℕ)) (levels : List ℕ) (ports : List HandedPort) (slots : List Slot) → IsTable names ports slots →
    list_any (λ p. is_none (level_for names levels p)) ports ≡ list_any (λ s. is_none (slot_level levels s)) slots
table-bad names levels [] [] h = refl
table-bad names levels [] (s ∷ slots) h = absurd (let no : ⊥ = cc in no)
table-bad names levels (p ∷ ports) [] h = absurd (let no : ⊥ = cc in no)
table-bad names levels (p ∷ ports) (s ∷ slots) h =
    ap (λ (o : Option Level). is_none o || list_any (λ q. is_none (level_for names levels q)) ports) (level-here names levels p s (head-of _ _ _ _ h))
    ∙ ap (λ (t : Bool). is_none (slot_level levels s) || t) (table-bad names levels ports slots (tail-of _ _ _ _ h))

pub table-levels : (names : List (List ℕ)) (levels : List ℕ) (ports : List HandedPort) (slots : List Slot) → IsTable names ports slots →
    filter_map (level_for names levels) ports ≡ filter_map (slot_level levels) slots
table-levels names levels [] [] h = refl
table-levels names levels [] (s ∷ slots) h = absurd (let no : ⊥ = cc in no)
table-levels names levels (p ∷ ports) [] h = absurd (let no : ⊥ = cc in no)
table-levels names levels (p ∷ ports) (s ∷ slots) h =
    ap (λ (o : Option Level). cons_option o (filter_map (level_for names levels) ports)) (level-here names levels p s (head-of _ _ _ _ h))
    ∙ ap (λ (ls : List Level). cons_option (slot_level levels s) ls) (table-levels names levels ports slots (tail-of _ _ _ _ h))

pub table-length : (names : List (List ℕ)) (ports : List HandedPort) (slots : List Slot) → IsTable names ports slots → length ports ≡ length slots
table-length names ports slots h = sym (length-map ports (slot_for names)) ∙ ap length h ∙ length-map slots (λ s. Some s)

step-by : (names : List (List ℕ)) (ports : List HandedPort) (slots : List Slot) → IsTable names ports slots → (n count : ℕ) (o : Option (List ℕ)) → levels_refusal ports n names count o ≡ slots_refusal slots n count o
step-by names ports slots h n count None = refl
step-by names ports slots h n count (Some levels) =
    ap (λ (k : ℕ). or_else (refuse (not (eqb (length levels) k)) (BadLine n)) (or_else (refuse (list_any (λ p. is_none (level_for names levels p)) ports) (LevelBad n)) (refuse (nat_le most_steps count) (StepsOver n)))) (table-length names ports slots h)
    ∙ ap (λ (t : Bool). or_else (refuse (not (eqb (length levels) (length slots))) (BadLine n)) (or_else (refuse t (LevelBad n)) (refuse (nat_le most_steps count) (StepsOver n)))) (table-bad names levels ports slots h)

line-by : (ports : List HandedPort) (slots : List Slot) (head named : TextLine) → IsTable (or_no_names (names_on named.words)) ports slots → (before : List TextLine) (l : TextLine) →
    line_refusal ports (head ∷ named ∷ before) l ≡ rest_refusal slots before l
line-by ports slots head named h before l =
    ap (λ (o : Option ScriptError). or_else (refuse (list_any ends before) (BadLine l.n)) (cond (is_end l.words) None o)) (step-by (or_no_names (names_on named.words)) ports slots h l.n (length before) (levels_on l.words))

pub lines-by : (ports : List HandedPort) (slots : List Slot) (head named : TextLine) → IsTable (or_no_names (names_on named.words)) ports slots → (before lines : List TextLine) →
    first_refusal (line_refusal ports) (head ∷ named ∷ before) lines ≡ first_refusal (rest_refusal slots) before lines
lines-by ports slots head named h before [] = refl
lines-by ports slots head named h before (l ∷ lines) =
    ap (λ (o : Option ScriptError). or_else o (first_refusal (line_refusal ports) (head ∷ named ∷ before ++ l ∷ []) lines)) (line-by ports slots head named h before l)
    ∙ ap (λ (o : Option ScriptError). or_else (rest_refusal slots before l) o) (lines-by ports slots head named h (before ++ l ∷ []) lines)

inputs-by : (names : List (List ℕ)) (ports : List HandedPort) (slots : List Slot) → IsTable names ports slots → (lines : List TextLine) → filter_map (inputs_on ports names) lines ≡ filter_map (slot_inputs_on slots) lines
inputs-by names ports slots h [] = refl
inputs-by names ports slots h (l ∷ lines) =
    ap (λ (o : Option Inputs). cons_option o (filter_map (inputs_on ports names) lines)) (at (levels_on l.words))
    ∙ ap (λ (is : List Inputs). cons_option (slot_inputs_on slots l) is) (inputs-by names ports slots h lines)
  where
    at : (o : Option (List ℕ)) → option_map (inputs_of ports names) o ≡ option_map (slot_inputs slots) o
    at None = refl
    at (Some levels) = ap (λ (ls : List Level). let i : Inputs = record { levels = ls } in Some i) (table-levels names levels ports slots h)

abbrev pub wrapped : Result (List Inputs) ScriptError → Result Script ScriptError
wrapped (Ok steps) = Ok (record { steps = steps })
wrapped (Err e) = Err e

-- a line of one form has no other
pub head-no-end : (ws : List (List ℕ)) → is_head ws ≡ true → is_end ws ≡ false
head-no-end [] h = refl
head-no-end (a ∷ []) h = cc
head-no-end (a ∷ b ∷ ws) h = refl

pub names-no-end : (ports : List HandedPort) (n : ℕ) (ws : List (List ℕ)) → names_refusal ports n (names_on ws) ≡ None → is_end ws ≡ false
names-no-end ports n [] h = refl
names-no-end ports n (w ∷ []) h = at (bytes_eq w (codes "ports")) refl h
  where
    at : (t : Bool) → bytes_eq w (codes "ports") ≡ t → names_refusal ports n (cond (t && list_all is_name []) (Some []) None) ≡ None → is_end (w ∷ []) ≡ false
    at true e k = ap (λ (v : List ℕ). bytes_eq v (codes "end")) (same-is bytes-equal w (codes "ports") e)
    at false e k = cc
names-no-end ports n (w ∷ v ∷ ws) h = refl

pub step-no-end : (ws : List (List ℕ)) → is_end ws ≡ true → levels_on ws ≡ None
step-no-end [] h = cc
step-no-end (w ∷ []) h = ap (λ (v : List ℕ). levels_on (v ∷ [])) (same-is bytes-equal w (codes "end") h)
step-no-end (w ∷ v ∷ ws) h = cc

-- the whole script by its first two lines
abbrev whole : ℕ → Bool → Option ScriptError → Option ScriptError → Bool → List Inputs → Result Script ScriptError
whole n first second rest ended steps = unless (or_else (or_else (refuse (not first) (BadLine n)) (or_else second rest)) (refuse (not ended) NoEnd)) (Ok (record { steps = steps }))

pub script-by : (ports : List HandedPort) (slots : List Slot) (head named : TextLine) (lines : List TextLine) → is_head head.words ≡ true → names_refusal ports named.n (names_on named.words) ≡ None →
    IsTable (or_no_names (names_on named.words)) ports slots → script_of_lines ports (head ∷ named ∷ lines) ≡ wrapped (steps_said slots lines)
script-by ports slots head named lines first second table =
    ap (λ (t : Bool). whole head.n t (names_refusal ports named.n (names_on named.words)) judged (is_end head.words || (is_end named.words || list_any ends lines)) given) first
    ∙ ap (λ (o : Option ScriptError). whole head.n true o judged (is_end head.words || (is_end named.words || list_any ends lines)) given) second
    ∙ ap (λ (o : Option ScriptError). whole head.n true None o (is_end head.words || (is_end named.words || list_any ends lines)) given) (lines-by ports slots head named table [] lines)
    ∙ ap (λ (t : Bool). whole head.n true None judging (t || (is_end named.words || list_any ends lines)) given) (head-no-end head.words first)
    ∙ ap (λ (t : Bool). whole head.n true None judging (t || list_any ends lines) given) (names-no-end ports named.n named.words second)
    ∙ ap (whole head.n true None judging (list_any ends lines)) (inputs-by (or_no_names (names_on named.words)) ports slots table lines)
    ∙ at (or_else judging (refuse (not (list_any ends lines)) NoEnd))
  where
    judged : Option ScriptError
    judged = first_refusal (line_refusal ports) (head ∷ named ∷ []) lines

    judging : Option ScriptError
    judging = first_refusal (rest_refusal slots) [] lines

    given : List Inputs
    given = filter_map (inputs_on ports (or_no_names (names_on named.words))) lines

    at : (o : Option ScriptError) → unless o (Ok (record { steps = filter_map (slot_inputs_on slots) lines })) ≡ wrapped (unless o (Ok (filter_map (slot_inputs_on slots) lines)))
    at None = refl
    at (Some e) = refl

pub unless-more : (e : ScriptError) (P Q : Type 0) → (P → Q) → UnlessMemory e P → UnlessMemory e Q
unless-more (BadLine n) P Q f p = f p
unless-more (PortUnknown n) P Q f p = f p
unless-more (PortTwice n) P Q f p = f p
unless-more (PortLeft n) P Q f p = f p
unless-more (LevelBad n) P Q f p = f p
unless-more (StepsOver n) P Q f p = f p
unless-more NoEnd P Q f p = f p
unless-more Memory P Q f p = tt

-- all lines, by what those behind the first two say
pub lines-said : (ports : List HandedPort) (made slots : List Slot) (all left rest : List TextLine) (head named : TextLine) → all ≡ head ∷ left → left ≡ named ∷ rest → slots ≡ made → is_head head.words ≡ true →
    names_refusal ports named.n (names_on named.words) ≡ None → IsTable (or_no_names (names_on named.words)) ports made → script_of_lines ports all ≡ wrapped (steps_said slots rest)
lines-said ports made slots all left rest head named first second same h k table =
    ap (script_of_lines ports) (first ∙ ap (λ (ls : List TextLine). head ∷ ls) second)
    ∙ script-by ports slots head named rest h k (subst (IsTable (or_no_names (names_on named.words)) ports) (sym same) table)

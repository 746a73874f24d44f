-- The lines of a script text as the reader holds them, and the table of its ports.
use Rattle.std.specs.Prelude.{ℕ, ◌≡◌, true, not, List, [], ◌∷◌, length, map, if◌then◌else◌, ◌==◌, nat_le, Option, Some, None, is_none, slice_get, Result, Ok, Err}
use Rattle.std.specs.List.{list_any, filter_map}
use Rattle.std.specs.Option.{option_map}
use Rattle.mig_base.specs.First.{or_else, first_refusal, unless}
use Rattle.mig_base.specs.BoardText.{place_named}
use Rattle.mig_base.specs.Lines.{TextLine, words_of}
use Rattle.mig_base.specs.declared.levels.Level.{Level}
use Rattle.sim_run.specs.declared.handed.HandedPort.{HandedPort}
use Rattle.text_lines.specs.declared.lines.Line.{Line}
use Rattle.text_lines.specs.Statements.{text_line}
use Rattle.sim_run.specs.declared.naming.Slot.{Slot}
use Rattle.mig_base.specs.declared.circuit.Inputs.{Inputs}
use Rattle.mig_base.specs.declared.scripts.ScriptError.{ScriptError}
use Rattle.mig_base.specs.declared.scripts.ScriptError.TheVariants.{Memory, Line as BadLine, LevelBad, StepsOver, NoEnd}
use Rattle.sim_run.specs.ScriptText.{is_head, is_end, names_on, levels_on, or_no_names, refuse, names_refusal, left_refusal, level_by, most_steps, ends}

-- where memory doesn't run out
abbrev pub UnlessMemory : ScriptError → Type 0 → Type 0
UnlessMemory Memory P = Unit {0}
UnlessMemory _ P = P

-- the answer is this one
abbrev pub Answers : {T : Type 0} → Result T ScriptError → Result T ScriptError → Type 0
Answers said (Ok value) = said ≡ Ok value
Answers said (Err e) = UnlessMemory e (said ≡ Err e)

-- the first line is the head
abbrev pub Heads : Line → Result (Unit {0}) ScriptError → Type 0
Heads l (Ok _) = is_head (words_of l.text.now) ≡ true
Heads l (Err e) = UnlessMemory e (refuse (not (is_head (words_of l.text.now))) (BadLine l.n) ≡ Some e)

-- the slot of a port, by the place of its name
abbrev pub slot_for : List (List ℕ) → HandedPort → Option Slot
slot_for names p = option_map (λ k. record { port = p.port; place = k }) (place_named p.name names)

-- the slots of all ports
abbrev pub IsTable : List (List ℕ) → List HandedPort → List Slot → Type 0
IsTable names ports slots = map (slot_for names) ports ≡ map (λ s. Some s) slots

-- the slots by these names, or the first port that is left
abbrev pub Tables : {V : Type 0} → (V → List Slot) → List HandedPort → List (List ℕ) → Result V ScriptError → Type 0
Tables items ports names (Ok slots) = (left_refusal names ports ≡ None) × IsTable names ports (items slots)
Tables items ports names (Err e) = UnlessMemory e (left_refusal names ports ≡ Some e)

-- the slots by the names on a line, or its refusal
abbrev pub Names : {V : Type 0} → (V → List Slot) → List HandedPort → Line → Result V ScriptError → Type 0
Names items ports l (Ok slots) = (names_refusal ports l.n (names_on (words_of l.text.now)) ≡ None) × IsTable (or_no_names (names_on (words_of l.text.now))) ports (items slots)
Names items ports l (Err e) = UnlessMemory e (names_refusal ports l.n (names_on (words_of l.text.now)) ≡ Some e)

-- the level of a slot on a `step` line
abbrev pub slot_level : List ℕ → Slot → Option Level
slot_level levels s = level_by s.port (slice_get levels s.place)

-- a `step` line behind so many others, by the slots
abbrev pub slots_refusal : List Slot → ℕ → ℕ → Option (List ℕ) → Option ScriptError
slots_refusal slots n count None = Some (BadLine n)
slots_refusal slots n count (Some levels) =
    or_else (refuse (not (length levels == length slots)) (BadLine n))
    (or_else (refuse (list_any (λ s. is_none (slot_level levels s)) slots) (LevelBad n)) (refuse (nat_le most_steps count) (StepsOver n)))

abbrev pub slot_inputs : List Slot → List ℕ → Inputs
slot_inputs slots levels = record { levels = filter_map (slot_level levels) slots }

abbrev pub slot_inputs_on : List Slot → TextLine → Option Inputs
slot_inputs_on slots l = option_map (slot_inputs slots) (levels_on l.words)

-- a line behind so many steps
abbrev pub after_steps : List Slot → ℕ → TextLine → Option ScriptError
after_steps slots count l = if is_end l.words then None else slots_refusal slots l.n count (levels_on l.words)

-- a line behind these, which follow the `ports` line
abbrev pub rest_refusal : List Slot → List TextLine → TextLine → Option ScriptError
rest_refusal slots before l = or_else (refuse (list_any ends before) (BadLine l.n)) (after_steps slots (length before) l)

-- the steps of the lines that follow the `ports` line, or the first refusal
abbrev pub steps_said : List Slot → List TextLine → Result (List Inputs) ScriptError
steps_said slots lines =
    unless (or_else (first_refusal (rest_refusal slots) [] lines) (refuse (not (list_any ends lines)) NoEnd)) (Ok (filter_map (slot_inputs_on slots) lines))

-- the steps of the lines that follow the `ports` line
abbrev pub Steps : {V : Type 0} → (V → List Inputs) → List Slot → List TextLine → Result V ScriptError → Type 0
Steps items slots lines (Ok steps) = steps_said slots lines ≡ Ok (items steps)
Steps items slots lines (Err e) = UnlessMemory e (steps_said slots lines ≡ Err e)

-- no line is left, or the first one is refused
abbrev pub EndsHere : List TextLine → Result (Unit {0}) ScriptError → Type 0
EndsHere lines (Ok _) = lines ≡ []
EndsHere [] (Err e) = ⊥
EndsHere (l ∷ ls) (Err e) = e ≡ BadLine l.n

-- the inputs of a line behind so many steps; there are none exactly where it is the end
abbrev pub StepGives : List Slot → ℕ → Line → Result (Option Inputs) ScriptError → Type 0
StepGives slots count l (Ok inputs) =
    (after_steps slots count (text_line l) ≡ None) × (slot_inputs_on slots (text_line l) ≡ inputs) × (is_none inputs ≡ ends (text_line l))
StepGives slots count l (Err e) = UnlessMemory e (after_steps slots count (text_line l) ≡ Some e)

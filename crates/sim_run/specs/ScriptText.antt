-- The script that a script text says.
use Rattle.std.specs.Prelude.{ℕ, ◌+◌, Bool, false, not, ◌&&◌, ◌||◌, List, [], ◌∷◌, length, if◌then◌else◌, ◌==◌, nat_le, Option, Some, None, is_none, Result, Ok, codes, slice_get}
use Rattle.std.specs.List.{list_any, list_all, filter_map, cons_option}
use Rattle.std.specs.Str.{bytes_eq}
use Rattle.std.specs.Option.{option_map}
use Rattle.mig_base.specs.declared.levels.Level.{Level}
use Rattle.mig_base.specs.declared.levels.Level.TheVariants.{Zero, One, Z}
use Rattle.mig_base.specs.declared.nets.Net.{Net}
use Rattle.mig_base.specs.declared.nets.NetLine.{NetLine}
use Rattle.mig_base.specs.declared.nets.Port.{Port}
use Rattle.mig_base.specs.declared.nets.Port.TheVariants as port
use Rattle.mig_base.specs.Boards.{is_handed}
use Rattle.mig_base.specs.BoardText.{place_named, is_both}
use Rattle.mig_base.specs.First.{or_else, first_refusal, unless}
use Rattle.mig_base.specs.Lines.{TextLine, text_lines}
use Rattle.mig_base.specs.Names.{is_name}
use Rattle.sim_run.specs.declared.handed.HandedPort.{HandedPort}
use Rattle.mig_base.specs.declared.circuit.Inputs.{Inputs}
use Rattle.mig_base.specs.declared.scripts.Script.{Script}
use Rattle.mig_base.specs.declared.scripts.ScriptError.{ScriptError}
use Rattle.mig_base.specs.declared.scripts.ScriptError.TheVariants.{Line, PortUnknown, PortTwice, PortLeft, LevelBad, StepsOver, NoEnd}

-- the port of a net of number n
abbrev pub port_on : ℕ → NetLine → Option HandedPort
port_on n l = if is_handed l.port then Some (record { name = l.name; port = l.port; net = n }) else None

-- the Input and Both ports, where the first net has number n
abbrev pub ports_from : ℕ → List NetLine → List HandedPort
ports_from n [] = []
ports_from n (l ∷ ls) = cons_option (port_on n l) (ports_from (n + 1) ls)

-- the Input and Both ports of a wiring, in board order; GND and VCC stand before the named nets
abbrev pub ports_of : Net → List HandedPort
ports_of net = ports_from 2 net.nets

-- the words `script 1`
abbrev pub is_head : List (List ℕ) → Bool
is_head (first ∷ version ∷ []) = bytes_eq first (codes "script") && bytes_eq version (codes "1")
is_head _ = false

-- the names behind `ports`
abbrev pub names_on : List (List ℕ) → Option (List (List ℕ))
names_on [] = None
names_on (first ∷ names) = if bytes_eq first (codes "ports") && list_all is_name names then Some names else None

-- the characters behind `step`; there are none in a line of this word alone
abbrev pub levels_on : List (List ℕ) → Option (List ℕ)
levels_on (first ∷ []) = if bytes_eq first (codes "step") then Some [] else None
levels_on (first ∷ levels ∷ []) = if bytes_eq first (codes "step") then Some levels else None
levels_on _ = None

-- the word `end`
abbrev pub is_end : List (List ℕ) → Bool
is_end (first ∷ []) = bytes_eq first (codes "end")
is_end _ = false

abbrev pub refuse : Bool → ScriptError → Option ScriptError
refuse b e = if b then Some e else None

-- a name behind these on a `ports` line
abbrev pub name_refusal : List HandedPort → ℕ → List (List ℕ) → List ℕ → Option ScriptError
name_refusal ports n before name =
    or_else (refuse (not (list_any (λ p. bytes_eq name p.name) ports)) (PortUnknown n)) (refuse (list_any (bytes_eq name) before) (PortTwice n))

-- the first port that isn't named
abbrev pub left_refusal : List (List ℕ) → List HandedPort → Option ScriptError
left_refusal names [] = None
left_refusal names (p ∷ ps) = or_else (refuse (is_none (place_named p.name names)) (PortLeft p.net)) (left_refusal names ps)

-- the names of a `ports` line from left to right, then the ports that are left
abbrev pub names_refusal : List HandedPort → ℕ → Option (List (List ℕ)) → Option ScriptError
names_refusal ports n None = Some (Line n)
names_refusal ports n (Some names) = or_else (first_refusal (name_refusal ports n) [] names) (left_refusal names ports)

-- the level of a character, for a port of this direction; an Input port takes no Z
abbrev pub level_of : Port → ℕ → Option Level
level_of dir b =
    if b == 48 then Some Zero
    else (if b == 49 then Some One
    else (if ((b == 90) || (b == 122)) && is_both dir then Some Z else None))

abbrev pub level_by : Port → Option ℕ → Option Level
level_by dir None = None
level_by dir (Some b) = level_of dir b

abbrev pub level_at : List ℕ → Port → Option ℕ → Option Level
level_at levels dir None = None
level_at levels dir (Some k) = level_by dir (slice_get levels k)

-- the level of a port on a `step` line, by the place of its name on the `ports` line
abbrev pub level_for : List (List ℕ) → List ℕ → HandedPort → Option Level
level_for names levels p = level_at levels p.port (place_named p.name names)

-- the most steps of a script
abbrev pub most_steps : ℕ
most_steps = 100000

-- a `step` line behind so many others
abbrev pub levels_refusal : List HandedPort → ℕ → List (List ℕ) → ℕ → Option (List ℕ) → Option ScriptError
levels_refusal ports n names count None = Some (Line n)
levels_refusal ports n names count (Some levels) =
    or_else (refuse (not (length levels == length ports)) (Line n))
    (or_else (refuse (list_any (λ p. is_none (level_for names levels p)) ports) (LevelBad n)) (refuse (nat_le most_steps count) (StepsOver n)))

-- a line behind the `ports` line with these names and so many steps
abbrev pub step_refusal : List HandedPort → ℕ → List (List ℕ) → ℕ → List (List ℕ) → Option ScriptError
step_refusal ports n names count words = if is_end words then None else levels_refusal ports n names count (levels_on words)

abbrev pub or_no_names : Option (List (List ℕ)) → List (List ℕ)
or_no_names None = []
or_no_names (Some names) = names

abbrev pub ends : TextLine → Bool
ends l = is_end l.words

-- the first line is the head, the second names the ports, the others are steps up to the end, and none stands behind it
abbrev pub line_refusal : List HandedPort → List TextLine → TextLine → Option ScriptError
line_refusal ports [] l = refuse (not (is_head l.words)) (Line l.n)
line_refusal ports (head ∷ []) l = names_refusal ports l.n (names_on l.words)
line_refusal ports (head ∷ named ∷ steps) l =
    or_else (refuse (list_any ends steps) (Line l.n)) (step_refusal ports l.n (or_no_names (names_on named.words)) (length steps) l.words)

-- the first line that is wrong, else whether the end is missing
abbrev pub text_refusal : List HandedPort → List TextLine → Option ScriptError
text_refusal ports lines = or_else (first_refusal (line_refusal ports) [] lines) (refuse (not (list_any ends lines)) NoEnd)

-- the levels of the ports in board order, by the names of the `ports` line
abbrev pub inputs_of : List HandedPort → List (List ℕ) → List ℕ → Inputs
inputs_of ports names levels = record { levels = filter_map (level_for names levels) ports }

-- the inputs of a `step` line
abbrev pub inputs_on : List HandedPort → List (List ℕ) → TextLine → Option Inputs
inputs_on ports names l = option_map (inputs_of ports names) (levels_on l.words)

-- the steps behind the first two lines
abbrev pub script_in : List HandedPort → List TextLine → Script
script_in ports (head ∷ named ∷ steps) = record { steps = filter_map (inputs_on ports (or_no_names (names_on named.words))) steps }
script_in ports _ = record { steps = [] }

-- the script that lines say for these ports, or the first refusal
abbrev pub script_of_lines : List HandedPort → List TextLine → Result Script ScriptError
script_of_lines ports lines = unless (text_refusal ports lines) (Ok (script_in ports lines))

-- the script that a text says for these ports, or the first refusal
abbrev pub script_of_text : List HandedPort → List ℕ → Result Script ScriptError
script_of_text ports bytes = script_of_lines ports (text_lines bytes)

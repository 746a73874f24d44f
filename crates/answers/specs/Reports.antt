-- The reports of answers.
use Rattle.std.specs.Prelude.{ℕ, None, List, [], ◌∷◌, ◌++◌, map, filter, codes}
use Rattle.std.specs.List.{flat_map}
use Rattle.std.specs.Fmt.{decimal}
use Rattle.mig_base.specs.declared.nets.NetLine.{NetLine}
use Rattle.mig_base.specs.declared.levels.Level.{Level}
use Rattle.mig_base.specs.Boards.{is_port}
use Rattle.mig_base.specs.WrittenBoard.{written_line}
use Rattle.mig_base.specs.Levels.{level_code}
use Rattle.answers.specs.declared.exit.Exit.{Exit}
use Rattle.answers.specs.declared.exit.Exit.TheVariants.{Done, Usage, Refused, Breached, Missing, ReadFault, SaveFault, OutFault, Memory}
use Rattle.answers.specs.declared.exit.Refusal.{Refusal}
use Rattle.answers.specs.declared.exit.Refusal.TheVariants.{Clash, Later, TooLong, Jed, Chip, Net, Board, Script, PlanText}
use Rattle.answers.specs.Reasons.{reason_words, jed_reason, chip_reason, net_reason, board_reason, script_reason, plan_reason}
use Rattle.answers.specs.BreachLines.{breached_line}

-- the usage line
abbrev pub usage : List ℕ
usage = codes "usage: palmig migrate OLD NEW [PLAN] | compare A B | sim BOARD SCRIPT | list FILE KIND | check BOARD | make N NEW\n"

-- refused, what was read, the file, why it was refused; nets are printed by these names
abbrev pub refusal_words : List NetLine → Refusal → List (List ℕ)
refusal_words nets Clash = codes "refused" ∷ codes "clash" ∷ []
refusal_words nets (Later f) = codes "refused" ∷ codes "later" ∷ f ∷ []
refusal_words nets (TooLong f) = codes "refused" ∷ codes "toolong" ∷ f ∷ []
refusal_words nets (Jed f e) = codes "refused" ∷ codes "jed" ∷ f ∷ reason_words (jed_reason e)
refusal_words nets (Chip f e) = codes "refused" ∷ codes "chip" ∷ f ∷ reason_words (chip_reason e)
refusal_words nets (Net f e) = codes "refused" ∷ codes "net" ∷ f ∷ reason_words (net_reason e)
refusal_words nets (Board f e) = codes "refused" ∷ codes "board" ∷ f ∷ reason_words (board_reason e)
refusal_words nets (Script f e) = codes "refused" ∷ codes "script" ∷ f ∷ reason_words (script_reason nets e)
refusal_words nets (PlanText f e) = codes "refused" ∷ codes "plan" ∷ f ∷ reason_words (plan_reason e)

-- the report of an answer other than Done, where the board that was read has these named nets
abbrev pub answer_report : List NetLine → Exit → List ℕ
answer_report nets Done = []
answer_report nets Usage = usage
answer_report nets (Refused r) = written_line (refusal_words nets r)
answer_report nets (Breached x) = breached_line None x
answer_report nets (Missing f) = written_line (codes "missing" ∷ f ∷ [])
answer_report nets (ReadFault f) = written_line (codes "readfault" ∷ f ∷ [])
answer_report nets (SaveFault f) = written_line (codes "savefault" ∷ f ∷ [])
answer_report nets OutFault = []
answer_report nets Memory = []

-- the numbers of chips, named nets, units and registers of an accepted board, and its rank
abbrev pub accepted_line : ℕ → ℕ → ℕ → ℕ → ℕ → List ℕ
accepted_line chips nets units registers rank = written_line
    (codes "accepted" ∷ codes "chips" ∷ decimal chips ∷ codes "nets" ∷ decimal nets ∷ codes "units" ∷ decimal units
    ∷ codes "registers" ∷ decimal registers ∷ codes "rank" ∷ decimal rank ∷ [])

-- the word `ports` and the names of all ports
abbrev pub ports_line : List NetLine → List ℕ
ports_line nets = written_line (codes "ports" ∷ map (λ l. l.name) (filter is_port nets))

-- the word `show` and a word of the levels; the first alone where there are none
abbrev pub show_words : List Level → List (List ℕ)
show_words [] = codes "show" ∷ []
show_words (l ∷ ls) = codes "show" ∷ map level_code (l ∷ ls) ∷ []

abbrev pub show_line : List Level → List ℕ
show_line levels = written_line (show_words levels)

-- the report of a run: the ports, and a line for each step
abbrev pub run_report : List NetLine → List (List Level) → List ℕ
run_report nets showns = ports_line nets ++ flat_map show_line showns

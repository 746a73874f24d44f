-- migrate: the new board's files, by a handed plan or by the one for one plan.
use Rattle.std.specs.Prelude.{ℕ, ◌≡◌, ◌&&◌, ◌⊎◌, Bool, List, [], ◌∷◌, length, map, Option, Some, None, Result, Ok, codes}
use Rattle.std.specs.Fmt.{decimal}
use Rattle.mig_base.specs.declared.nets.Net.{Net}
use Rattle.mig_base.specs.declared.nets.Node.{Node}
use Rattle.mig_base.specs.declared.plans.Plan.{Plan}
use Rattle.mig_base.specs.declared.plans.Breach.{Breach}
use Rattle.mig_base.specs.declared.plans.Breach.TheVariants as breach
use Rattle.mig_base.specs.Limits.{most_file_bytes}
use Rattle.mig_base.specs.WrittenBoard.{written_line}
use Rattle.mig_io.specs.Holding.{Held}
use Rattle.new_board.specs.declared.types.FittedChip.{FittedChip}
use Rattle.new_board.specs.Files.{files_of, file_under}
use Rattle.new_board.specs.NewFiles.{fitted, new_net}
use Rattle.new_board.specs.OneForOne.{old_board, same_chips, one_for_one}
use Rattle.plan_text.specs.PlanText.{plan_of_text}
use Rattle.plans.specs.Breaches.{IsBreach, HasNoBreach}
use Rattle.plans.specs.Fitting.{AreFitted}
use Rattle.taken_boards.specs.TakenBoards.{is_taken_wiring, is_taken_form}
use Rattle.answers.specs.declared.exit.Exit.{Exit}
use Rattle.answers.specs.declared.exit.Exit.TheVariants.{Refused, Breached}
use Rattle.answers.specs.declared.exit.Refusal.TheVariants.{Later, PlanText}
use Rattle.answers.specs.declared.words.Migration.{Migration}
use Rattle.answers.specs.BreachLines.{breached_line}
use Rattle.board.specs.Joined.{Joined}
use Rattle.board.specs.NodeNames.{node_name}
use Rattle.board.specs.Variables.{read_of}
use Rattle.verdicts.specs.HeldBoard.{net_file, plan_file}
use Rattle.verdicts.specs.Outcomes.{◌>>=◌, File, Outcome, Then, EndsWith, done, only_if, or_refused}
use Rattle.verdicts.specs.JudgedBoard.{JudgesBoard, LoadsBoard, loaded}

-- the new chips of the one for one plan
abbrev pub new_chips : Joined → List FittedChip
new_chips parts = map (fitted (old_board parts.net parts.chips)) (same_chips parts.net parts.chips)

-- the wiring of the new board
abbrev pub new_wiring : Joined → Net
new_wiring parts = new_net parts.net (new_chips parts)

-- the files of the new chips of a plan, under this stem
abbrev pub plan_files : List ℕ → Joined → Plan → List FittedChip → List File
plan_files stem b p chips = map (file_under stem) (files_of b.net p chips)

-- the files of the one for one plan, under this stem
abbrev pub saved_files : List ℕ → Joined → List File
saved_files stem parts = plan_files stem parts (one_for_one parts.net parts.chips) (new_chips parts)

-- the numbers of old and of new chips
abbrev pub done_line : ℕ → ℕ → List ℕ
done_line old new = written_line (codes "done" ∷ codes "old" ∷ decimal old ∷ codes "new" ∷ decimal new ∷ [])

abbrev pub migrated : List ℕ → Joined → Outcome
migrated new parts = done (saved_files new parts) (done_line (length parts.net.chips) (length (new_chips parts)))

-- a board that is migrated so far
abbrev pub is_taken_board : Joined → Bool
is_taken_board parts = is_taken_wiring parts.net && is_taken_form parts.net parts.chips

-- what comes of such a board; every other one is left for later
abbrev pub migrated_or_later : Migration → Joined → Result Outcome Exit
migrated_or_later m parts = only_if (is_taken_board parts) (migrated m.new parts) (Refused (Later (net_file m.old)))

-- the plan that a plan text says
abbrev pub plan_of : List ℕ → List ℕ → Result Plan Exit
plan_of name bytes = or_refused (PlanText name) (plan_of_text bytes)

-- the plan in a file
abbrev pub plan_held : Held → List ℕ → Result Plan Exit
plan_held held name = loaded held most_file_bytes name >>= λ bytes. plan_of name bytes

-- the signal that gets no pin, by its name
abbrev pub lacked : Joined → Breach → Option Node
lacked b (breach.NoInput chip variable) = Some (node_name b.net b.chips (read_of b.chips variable))
lacked b _ = None

-- nothing is saved, and the report is the breach
abbrev pub breached : Joined → Breach → Outcome
breached b x = record { answer = Breached x; saves = []; report = breached_line (lacked b x) x }

-- the files of the new chips, and the numbers of chips
abbrev pub built : List ℕ → Joined → Plan → List FittedChip → Outcome
built new b p chips = done (plan_files new b p chips) (done_line (length b.net.chips) (length chips))

-- a plan with a breach
pub record IsBroken (b : Joined) (p : Plan) (o : Outcome) : Type 0 where
  pub first : Breach
  pub is : IsBreach b p first
  pub comes : o ≡ breached b first

-- a plan without one
pub record IsBuilt (new : List ℕ) (b : Joined) (p : Plan) (o : Outcome) : Type 0 where
  pub free : HasNoBreach b p
  pub chips : List FittedChip
  pub fitted : AreFitted b p chips
  pub comes : o ≡ built new b p chips

-- what comes of a plan: its breach, or its files
abbrev pub PlansTo : List ℕ → Joined → Plan → Result Outcome Exit → Type 0
PlansTo new b p r = (o : Outcome) × (r ≡ Ok o) × (IsBroken b p o ⊎ IsBuilt new b p o)

-- what comes of a board, by the plan that is handed, if one is
abbrev pub MigratesBy : Migration → Option (List ℕ) → Held → Joined → Result Outcome Exit → Type 0
MigratesBy m None held b r = migrated_or_later m b ≡ r
MigratesBy m (Some plan) held b r = Then (λ q. plan_held held (plan_file plan) ≡ q) (PlansTo m.new b) r

-- the board, and then its plan, or whether it is migrated so far
abbrev pub PreparesMigration : Migration → Held → Result Outcome Exit → Type 0
PreparesMigration m held r = Then (JudgesBoard m.old held) (MigratesBy m m.plan held) r

abbrev pub JudgesMigration : Migration → Held → Outcome → Type 0
JudgesMigration m held o = EndsWith (PreparesMigration m held) o

-- the file of a plan that is handed
abbrev pub LoadsPlan : Option (List ℕ) → List ℕ → Type 0
LoadsPlan None f = ⊥
LoadsPlan (Some plan) f = f ≡ plan_file plan

-- the files that are loaded for a migration: each one, where every rule before its load holds
abbrev pub LoadsMigration : Migration → Held → List ℕ → Type 0
LoadsMigration m held f = LoadsBoard held m.old f ⊎ ((b : Joined) × JudgesBoard m.old held (Ok b) × LoadsPlan m.plan f)

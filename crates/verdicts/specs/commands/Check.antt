-- check: what an accepted board counts.
use Rattle.std.specs.Prelude.{ℕ, ◌≡◌, List, [], length, Result, Ok}
use Rattle.mig_io.specs.Holding.{Held}
use Rattle.answers.specs.declared.exit.Exit.{Exit}
use Rattle.answers.specs.Reports.{accepted_line}
use Rattle.board.specs.Joined.{Joined, equations_of, HasRank}
use Rattle.verdicts.specs.Outcomes.{Outcome, Then, EndsWith, done}
use Rattle.verdicts.specs.JudgedBoard.{JudgesBoard, LoadsBoard}

-- nothing is saved, and the report is what the board counts
abbrev pub checked_outcome : Joined → ℕ → Outcome
checked_outcome b rank = done [] (accepted_line (length b.net.chips) (length b.net.nets) (length (equations_of b).units) (length (equations_of b).registers) rank)

abbrev pub Checks : Joined → Result Outcome Exit → Type 0
Checks b r = (rank : ℕ) × HasRank (equations_of b) rank × (r ≡ Ok (checked_outcome b rank))

-- the board, and its rank
abbrev pub PreparesCheck : List ℕ → Held → Result Outcome Exit → Type 0
PreparesCheck stem held r = Then (JudgesBoard stem held) Checks r

abbrev pub JudgesCheck : List ℕ → Held → Outcome → Type 0
JudgesCheck stem held o = EndsWith (PreparesCheck stem held) o

abbrev pub LoadsCheck : List ℕ → Held → List ℕ → Type 0
LoadsCheck stem held f = LoadsBoard held stem f

-- That there is one verdict.
use Rattle.std.specs.Prelude.{ℕ, ◌≡◌, List}
use Rattle.mig_io.specs.Holding.{Held}
use Rattle.verdicts.specs.Outcomes.{Outcome}
use Rattle.verdicts.specs.Verdict.{JudgesWords}

-- two outcomes of the same words and files are equal
abbrev pub VerdictIsOne : Type 0
VerdictIsOne = (words : List (List ℕ)) (held : Held) (o p : Outcome) → JudgesWords words held o → JudgesWords words held p → o ≡ p

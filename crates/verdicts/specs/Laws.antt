-- Laws of verdicts.
use Rattle.std.specs.Prelude.{ℕ, ◌≡◌, ◌≢◌, List, []}
use Rattle.mig_io.specs.Holding.{Held}
use Rattle.answers.specs.declared.exit.Exit.TheVariants.{Done}
use Rattle.verdicts.specs.Outcomes.{Outcome}
use Rattle.verdicts.specs.Verdict.{JudgesWords}

-- only what is done has saves, and so no refusal has any
abbrev pub OnlyDoneSaves : Type 0
OnlyDoneSaves = (words : List (List ℕ)) (held : Held) (o : Outcome) → JudgesWords words held o → o.answer ≢ Done → o.saves ≡ []

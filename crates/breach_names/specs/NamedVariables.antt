-- The variable that a breach names.
use Rattle.mig_base.specs.declared.plans.Breach.{Breach}
use Rattle.mig_base.specs.declared.plans.Breach.TheVariants as breach
use Rattle.board.specs.Joined.{Joined}
use Rattle.board.specs.Variables.{IsVariable}

-- it is one of the board, where the breach names one
abbrev pub NamesVariable : Joined → Breach → Type 0
NamesVariable b (breach.NoInput chip variable) = IsVariable b variable
NamesVariable b _ = Unit {0}

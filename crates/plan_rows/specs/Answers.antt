-- What a plan's refusal names is there.
use Rattle.board.specs.Joined.{Joined}
use Rattle.fit.specs.declared.FitError.{FitError}
use Rattle.fit.specs.declared.FitError.TheVariants as error
use Rattle.breach_names.specs.NamedVariables.{NamesVariable}

-- the variable that the breach names, where it names one, is one of the board
abbrev pub NamesOwn : Joined → FitError → Type 0
NamesOwn b (error.Breach x) = NamesVariable b x
NamesOwn b error.Memory = Unit {0}

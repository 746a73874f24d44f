-- Runs of a script on a board show 0 or 1 at pure ports.
use Rattle.std.proofs.Common.{zero, suc, List, [], ◌∷◌, arith}
use Rattle.std.specs.Prelude.{All}
use Rattle.std.specs.List.{AllByRecursion}
use Rattle.std.proofs.lemmas.List.Elements.{All-from_recursion}
use Rattle.mig_base.specs.declared.circuit.Circuit.{Circuit}
use Rattle.mig_base.specs.declared.circuit.Inputs.{Inputs}
use Rattle.mig_base.specs.Accepted.{IsAccepted}
use Rattle.level_laws.specs.Runs.{IsRun}
use Rattle.level_laws.specs.SameBehaviour.{IsLawful}
use Rattle.level_laws.specs.PureLevels.{ShowsPure}
use Rattle.level_laws.proofs.PureSteps.{runs-pure}
use Rattle.level_laws.proofs.DriverUnits.{drivers-units}
use Rattle.sim_run.specs.declared.shows.Shown.{Shown}
use Rattle.settle.specs.Made.{IsInputFor}
use Rattle.board.specs.Joined.{Joined, equations_of}
use Rattle.sim_run.proofs.Running.{levels_of, shown_of}

lawful-all : (c : Circuit) (steps : List Inputs) → All (λ (given : Inputs). IsInputFor c given.levels) steps → AllByRecursion (IsLawful c) (levels_of steps)
lawful-all c [] h = tt
lawful-all c (s ∷ ss) h = ((h zero s (omega arith)).lawful, lawful-all c ss (λ k d lt. h (suc k) d (omega arith)))

shown-all : (c : Circuit) (showns : List Shown) → AllByRecursion (ShowsPure c) (shown_of showns) → AllByRecursion (λ (s : Shown). ShowsPure c s.levels) showns
shown-all c [] h = tt
shown-all c (s ∷ ss) h = (h.0, shown-all c ss h.1)

-- a run of a script on a board
pub board-runs : (b : Joined) (steps : List Inputs) (showns : List Shown) → IsAccepted (equations_of b) → All (λ (given : Inputs). IsInputFor (equations_of b) given.levels) steps →
    IsRun (equations_of b) (levels_of steps) (shown_of showns) → All (λ (s : Shown). ShowsPure (equations_of b) s.levels) showns
board-runs b steps showns accepted lawful run =
    All-from_recursion (λ (s : Shown). ShowsPure (equations_of b) s.levels) showns
    (shown-all (equations_of b) showns (runs-pure (equations_of b) (levels_of steps) (shown_of showns) accepted (drivers-units b.net b.chips) (lawful-all (equations_of b) steps lawful) run))

-- The levels of a board as functions of its stored and handed levels.
use Rattle.std.specs.Prelude.{Bool, false, List, ◌++◌}
use Rattle.bdd.specs.Tree.{Point}
use Rattle.bdd.specs.Diagram.{Diagram, IsCanonical}
use Rattle.mig_base.specs.declared.levels.Level.{Level}
use Rattle.mig_base.specs.declared.nets.Var.{Var}
use Rattle.mig_base.specs.declared.circuit.Levels.{Levels}
use Rattle.level_laws.specs.Settled.{IsSettled}
use Rattle.level_laws.specs.PureLevels.{HasPureStored}
use Rattle.settle.specs.Made.{IsInputFor, IsStateFor}
use Rattle.board.specs.Joined.{Joined, equations_of}
use Rattle.rails.specs.Variables.{all_rails, IsFit}
use Rattle.rails.specs.Levels.{point_under}
use Rattle.reckoning.specs.declared.triples.Triples.{Triples}
use Rattle.reckoning.specs.Whole.{HasTriples, SayAll}
use Rattle.reckoned.specs.declared.Reckoned.{Reckoned}
use Rattle.reckoned.specs.Variables.{AreVariables}

-- the point of stored and handed levels: a pure variable's Boolean says whether it is 1, and the two of any other one whether
-- it is 1 and whether it is 0, so that both are false at X and at Z
abbrev pub point_of_levels : List (Var × Bool) → List Level → List Level → Point
point_of_levels vars stored inputs = point_under false (all_rails vars) (inputs ++ stored)

-- at the point of each state and lawful inputs the triples say the levels settled under these
abbrev pub SaySettled : Joined → List (Var × Bool) → Diagram → Triples → Type 0
SaySettled b vars d r = (stored inputs : List Level) (l : Levels) → IsStateFor (equations_of b) stored → HasPureStored (equations_of b) stored →
    IsInputFor (equations_of b) inputs → IsSettled (equations_of b) stored inputs l → SayAll d (equations_of b) r (point_of_levels vars stored inputs) l

abbrev pub triples_in : Reckoned → Triples
triples_in r = record { nets = r.nets; drives = r.drives; visible = r.visible; next = r.next }

-- all levels of a board
pub record IsReckonedBoard (b : Joined) (r : Reckoned) : Type 0 where
  pub variables : AreVariables b r.rails.vars
  pub fit : IsFit r.rails
  pub canonical : IsCanonical r.rails.graph
  pub triples : HasTriples r.rails.graph (equations_of b) (triples_in r)
  pub says : SaySettled b r.rails.vars r.rails.graph (triples_in r)

-- The triples of variables.
use Rattle.std.specs.Prelude.{◌≡◌, Bool, false, not, ◌&&◌, ◌||◌, List, [], ◌∷◌}
use Rattle.bdd.specs.Tree.{Point}
use Rattle.bdd.specs.Diagram.{Diagram, IsValid, function_of}
use Rattle.bdd.specs.declared.Ref.{Ref}
use Rattle.mig_base.specs.declared.levels.Level.{Level}
use Rattle.mig_base.specs.declared.nets.Var.{Var}
use Rattle.mig_base.specs.Levels.{read_level}
use Rattle.rails.specs.Variables.{all_rails}
use Rattle.rails.specs.Levels.{AreLevels, level_of, point_under}
use Rattle.reckoning.specs.declared.triples.Three.{Three}
use Rattle.reckoning.specs.Triples.{IsTriple, Says}
use Rattle.reckoned.specs.Variables.{FitsVariable}

-- where both fail, if it may float, and else nowhere
pub record IsFloat (old new : Diagram) (floats : Bool) (one zero r : Ref) : Type 0 where
  pub valid : IsValid new r
  pub means : (p : Point) → function_of new r p ≡ (floats && not (function_of old one p || function_of old zero p))

-- at the point of levels the triple says each level that a pin reads as that of the variable
pub record IsTripleOf (d : Diagram) (vars : List (Var × Bool)) (v : Var × Bool) (t : Three) : Type 0 where
  pub valid : IsTriple d t
  pub says : (levels : List Level) (x : Level) → AreLevels vars levels → level_of vars levels v.0 ≡ read_level x → FitsVariable v x →
      Says d t (point_under false (all_rails vars) levels) x

-- a triple for each of these
abbrev pub AreTriplesOf : Diagram → List (Var × Bool) → List (Var × Bool) → List Three → Type 0
AreTriplesOf d vars [] [] = Unit {0}
AreTriplesOf d vars [] (t ∷ ts) = ⊥
AreTriplesOf d vars (v ∷ vs) [] = ⊥
AreTriplesOf d vars (v ∷ vs) (t ∷ ts) = IsTripleOf d vars v t × AreTriplesOf d vars vs ts

-- The level of a joined part where each variable has a level.
use Rattle.std.specs.Prelude.{◌≡◌, ℕ, Bool, List, if◌then◌else◌}
use Rattle.mig_base.specs.Among.{Among}
use Rattle.mig_base.specs.Levels.{not3}
use Rattle.mig_base.specs.declared.plans.Part.TheVariants.{Logic}
use Rattle.mig_base.specs.declared.levels.Level.{Level}
use Rattle.mig_base.specs.declared.nets.Var.{Var}
use Rattle.mig_base.specs.declared.nets.Var.TheVariants.{Net}
use Rattle.board.specs.Joined.{Joined}
use Rattle.rails.specs.Levels.{level_of}
use Rattle.level_laws.specs.VariableLevels.{Levelling, terms_level}
use Rattle.joiner.specs.Joined.{Inverted, IsAbsorbed, unit_part}

-- the level of a sum that is inverted where it says so
abbrev pub inverted_level : Levelling → Inverted → Level
inverted_level l sum = if sum.low then not3 (terms_level l sum.terms) else terms_level l sum.terms

-- each absorbed net has the level that its unit gives under the same levels: all nets at once, with no order
pub record LevelsAbsorbed (b : Joined) (absorbed : List ℕ) (l : Levelling) : Type 0 where
  pub each : (n u : ℕ) → IsAbsorbed b absorbed n u → l (Net n) ≡ inverted_level l (unit_part b u Logic)

-- the listed variables have these levels
pub record HasLevels (vars : List (Var × Bool)) (levels : List Level) (l : Levelling) : Type 0 where
  pub each : (w : Var × Bool) → Among w vars → l w.0 ≡ level_of vars levels w.0

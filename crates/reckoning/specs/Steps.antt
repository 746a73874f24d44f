-- What single steps make of levels.
use Rattle.bdd.specs.Tree.{Point}
use Rattle.bdd.specs.Diagram.{Diagram}
use Rattle.mig_base.specs.declared.levels.Level.{Level}
use Rattle.mig_base.specs.Levels.{resolve2}
use Rattle.level_laws.specs.Settled.{gated}
use Rattle.reckoning.specs.declared.triples.Three.{Three}
use Rattle.reckoning.specs.declared.triples.Value.{Value}
use Rattle.reckoning.specs.Triples.{IsTriple, IsValue, Says, Means, Allows}

-- what two values make by a table of levels
pub record IsMadeBy (table : Level → Level → Level) (old new : Diagram) (a b r : Value) : Type 0 where
  pub valid : IsValue new r
  pub means : (p : Point) (x y : Level) → Means old a p x → Means old b p y → Means new r p (table x y)

-- a drive behind its enable
pub record IsGated (old new : Diagram) (enable : Value) (given r : Three) : Type 0 where
  pub valid : IsTriple new r
  pub says : (p : Point) (x y : Level) → Means old enable p x → Says old given p y → Says new r p (gated x y)

-- one more driver
pub record IsWired (old new : Diagram) (so_far driver r : Three) : Type 0 where
  pub valid : IsTriple new r
  pub allows : (p : Point) (x y : Level) → Allows old so_far p x → Says old driver p y → Allows new r p (resolve2 x y)

-- Levels as functions of a graph: where a level is 1, where 0 and where Z.
use Rattle.std.specs.Prelude.{ℕ, ◌≡◌, Bool, false, ◌||◌, List, slice_get, MatchOption, IfSome}
use Rattle.bdd.specs.Tree.{Point}
use Rattle.bdd.specs.Diagram.{Diagram, IsConstant, IsValid, function_of}
use Rattle.mig_base.specs.declared.levels.Level.{Level}
use Rattle.mig_base.specs.declared.levels.Level.TheVariants.{Zero, One, Z, X}
use Rattle.mig_base.specs.Levels.{same_level}
use Rattle.reckoning.specs.declared.triples.Three.{Three}
use Rattle.reckoning.specs.declared.triples.Value.{Value}

-- the refs are those of a graph
pub record IsTriple (d : Diagram) (t : Three) : Type 0 where
  pub one : IsValid d t.one
  pub zero : IsValid d t.zero
  pub float : IsValid d t.float

pub record IsValue (d : Diagram) (v : Value) : Type 0 where
  pub one : IsValid d v.one
  pub zero : IsValid d v.zero

-- at a point three functions say this level, each exactly where it is 1, 0 and Z
pub record Says (d : Diagram) (t : Three) (p : Point) (level : Level) : Type 0 where
  pub one : function_of d t.one p ≡ same_level level One
  pub zero : function_of d t.zero p ≡ same_level level Zero
  pub float : function_of d t.float p ≡ same_level level Z

-- two functions say it but for Z, which they don't tell from X
pub record Means (d : Diagram) (v : Value) (p : Point) (level : Level) : Type 0 where
  pub one : function_of d v.one p ≡ same_level level One
  pub zero : function_of d v.zero p ≡ same_level level Zero

-- each of a list
abbrev pub AreTriples : Diagram → List Three → Type 0
AreTriples d ts = (n : ℕ) → IfSome (slice_get ts n) (IsTriple d)

-- the last function of each is the constant 0: none is ever Z
abbrev pub NeverFloat : Diagram → List Three → Type 0
NeverFloat d ts = (n : ℕ) → IfSome (slice_get ts n) (λ t. IsConstant d false t.float)

-- the triple of a list at a place says this level; what the list doesn't have is X
abbrev pub PlaceSays : Diagram → List Three → ℕ → Point → Level → Type 0
PlaceSays d ts n p level = MatchOption (slice_get ts n) (level ≡ X) (λ t. Says d t p level)

-- where a net with this level may still become 1, and 0
abbrev pub allows_one : Level → Bool
allows_one level = same_level level One || same_level level Z

abbrev pub allows_zero : Level → Bool
allows_zero level = same_level level Zero || same_level level Z

-- three functions say what the drivers so far allow: each exactly where the level is 1 or Z, 0 or Z, and Z
pub record Allows (d : Diagram) (t : Three) (p : Point) (level : Level) : Type 0 where
  pub one : function_of d t.one p ≡ allows_one level
  pub zero : function_of d t.zero p ≡ allows_zero level
  pub float : function_of d t.float p ≡ same_level level Z

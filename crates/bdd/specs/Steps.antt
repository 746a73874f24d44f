-- What the private steps of a `Graph` say.
use Rattle.std.specs.Prelude.{◌≡◌, ℕ, ◌+◌, ◌<◌, ◌≤◌, if◌then◌else◌}
use Rattle.bdd.specs.Tree.{Leaf, Point, IsFrom, first_variable}
use Rattle.bdd.specs.Diagram.{Diagram, place, IsValid, tree, function_of, IsBranch, IsIte}
use Rattle.bdd.specs.declared.Ref.{Ref}
use Rattle.bdd.specs.declared.Operands.{Operands}
use Rattle.bdd.specs.declared.Expansion.{Expansion}
use Rattle.bdd.specs.declared.Expansion.TheVariants.{Constant, Decision}

-- f is a constant, or chooses between two nodes that stand before its own
abbrev pub IsExpansion : Diagram → Ref → Expansion → Type 0
IsExpansion d f (Constant b) = tree d f ≡ Leaf b
IsExpansion d f (Decision n) = (place n.low < place f) × (place n.high < place f) × IsBranch d f n.var n.low n.high

-- f where v is false and where v is true, at nodes no later than f's, and before it where v is f's first variable
pub record AreCofactors (d : Diagram) (v : ℕ) (f : Ref) (s : Ref × Ref) : Type 0 where
  pub low_valid : IsValid d s.0
  pub high_valid : IsValid d s.1
  pub means : (p : Point) → function_of d f p ≡ (if p v then function_of d s.1 p else function_of d s.0 p)
  pub low_from : IsFrom (v + 1) (tree d s.0)
  pub high_from : IsFrom (v + 1) (tree d s.1)
  pub low_place : place s.0 ≤ place f
  pub high_place : place s.1 ≤ place f
  pub falls : v ≡ first_variable d.vars (tree d f) → v < d.vars → (place s.0 < place f) × (place s.1 < place f)

-- r is what the memo may tell of the operands
pub record IsTrueMemo (d : Diagram) (q : Operands) (r : Ref) : Type 0 where
  pub valid_f : IsValid d q.f
  pub valid_g : IsValid d q.g
  pub valid_h : IsValid d q.h
  pub ite : IsIte d d q.f q.g q.h r

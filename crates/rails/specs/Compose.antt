-- A function of functions, one for each variable.
use Rattle.std.specs.Prelude.{◌≡◌, ℕ, ◌+◌, Bool, List, slice_get, Option, None, Some, IfSome, max}
use Rattle.std.specs.HashMap.{HashMap, get}
use Rattle.bdd.specs.Tree.{Tree, Leaf, Branch, Point}
use Rattle.bdd.specs.Diagram.{Diagram, IsValid, function_of}
use Rattle.bdd.specs.declared.Ref.{Ref}
use Rattle.bdd.specs.contracts.RefPartialEq.TheImpl as ref_eq
use Rattle.rails.specs.Points.{Is}

-- the most choices that a point meets on its way through a tree
abbrev pub height : Tree → ℕ
height (Leaf b) = 0
height (Branch v low high) = max (height low) (height high) + 1

-- each ref of the list is valid
abbrev pub AllValid : Diagram → List Ref → Type 0
AllValid d rs = (v : ℕ) → IfSome (slice_get rs v) (IsValid d)

-- the value of a variable's image, or of the variable where it has none
abbrev pub value_of : Diagram → Point → ℕ → Option Ref → Bool
value_of d p v None = p v
value_of d p v (Some r) = function_of d r p

-- the point of the images' values
abbrev pub image : Diagram → List Ref → Point → Point
image d rs p v = value_of d p v (slice_get rs v)

-- r is, in the new graph, f of the images in the old one
pub record IsComposed (old new : Diagram) (rs : List Ref) (f r : Ref) : Type 0 where
  pub valid : IsValid new r
  pub means : (p : Point) → function_of new r p ≡ function_of old f (image old rs p)

-- what the memo may tell of f
pub record IsTrueEntry (d : Diagram) (rs : List Ref) (f r : Ref) : Type 0 where
  pub valid : IsValid d f
  pub composed : IsComposed d d rs f r

-- the memo tells of each ref what it is of the images
pub record IsTrueTable {S : Type 0} (d : Diagram) (rs : List Ref) (known : HashMap Ref Ref S) : Type 0 where
  pub each : (f : Ref) → IfSome (get (ref_eq.ghosts).eq known f) (IsTrueEntry d rs f)

-- the image of each place is the value that the point `change p` has there, so far as there are images
pub record AreImages (d : Diagram) (change : Point → Point) (rs : List Ref) : Type 0 where
  pub each : (n : ℕ) → IfSome (slice_get rs n) (Is d (λ p. change p n))

-- Boolean functions as ordered decision trees.
use Rattle.std.specs.Prelude.{◌≡◌, ◌≢◌, ◌⊎◌, ℕ, ◌+◌, ◌<◌, ◌≤◌, Bool, true, false, not, if◌then◌else◌}

-- a constant, or a choice by a variable between the tree where it is false and the tree where it is true
pub data Tree : Type 0 where
  Leaf : Bool → Tree
  Branch : ℕ → Tree → Tree → Tree

-- the values of the variables
abbrev pub Point : Type 0
Point = ℕ → Bool

-- the value of a tree at a point
abbrev pub holds : Tree → Point → Bool
holds (Leaf b) p = b
holds (Branch v low high) p = if p v then holds high p else holds low p

-- reduced and ordered: variables rise from k on and are below n, and the two sides of a choice differ
abbrev pub IsNormal : ℕ → ℕ → Tree → Type 0
IsNormal n k (Leaf b) = Unit {0}
IsNormal n k (Branch v low high) =
    (k ≤ v) × (v < n) × (low ≢ high) × IsNormal n (v + 1) low × IsNormal n (v + 1) high

-- the first variable of the tree, if it has any, is at least k
abbrev pub IsFrom : ℕ → Tree → Type 0
IsFrom k (Leaf b) = Unit {0}
IsFrom k (Branch v low high) = k ≤ v

-- the first variable of the tree, or n where it is constant
abbrev pub first_variable : ℕ → Tree → ℕ
first_variable n (Leaf b) = n
first_variable n (Branch v low high) = v

-- the tree of the negated function
abbrev pub negated : Tree → Tree
negated (Leaf b) = Leaf (not b)
negated (Branch v low high) = Branch v (negated low) (negated high)

-- one of two, and not both
abbrev pub xor : Bool → Bool → Bool
xor true b = not b
xor false b = b

-- the tree, negated where the mark is set
abbrev pub under_mark : Bool → Tree → Tree
under_mark false t = t
under_mark true t = negated t

-- the tree or its negation is u
abbrev pub IsUpToSign : Tree → Tree → Type 0
IsUpToSign t u = (t ≡ u) ⊎ (t ≡ negated u)

-- the tree or its negation stands in u
abbrev pub IsPart : Tree → Tree → Type 0
IsPart t (Leaf b) = IsUpToSign t (Leaf b)
IsPart t (Branch v low high) = IsUpToSign t (Branch v low high) ⊎ (IsPart t low ⊎ IsPart t high)

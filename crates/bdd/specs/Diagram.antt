-- What a contract sees of a `Graph`: the function of each `Ref`, and what a call keeps.
use Rattle.std.specs.Prelude.{◌≡◌, ◌≢◌, ◌⊎◌, ℕ, ◌+◌, ◌<◌, ◌≤◌, ◌/◌, ◌%◌, Bool, true, false, not, ◌&&◌, ◌||◌, if◌then◌else◌, nat_eq, List, length, slice_index_or, refl, Option, MatchOption}
use Rattle.std.specs.Coded.{Coded, code_by, coded_list, coded_ℕ, coded×}
use Rattle.bdd.specs.Tree.{Tree, Leaf, Branch, Point, holds, IsNormal, IsFrom, under_mark, IsUpToSign, IsPart}
use Rattle.bdd.specs.TreeCode.{tree_code}
use Rattle.bdd.specs.declared.Ref.{Ref}

-- the number of variables, and the decision tree of each node
pub record Diagram : Type 0 where
  pub vars : ℕ
  pub trees : List Tree

-- a diagram is stored as the pair of its fields
abbrev pub diagram_code : Coded Diagram
diagram_code =
    code_by (ℕ × List Tree) (coded× coded_ℕ (coded_list tree_code)) (λ d. (d.vars, d.trees)) (λ p. record { vars = p.0; trees = p.1 }) (λ _. refl)

-- the place of a ref's node
abbrev pub place : Ref → ℕ
place f = f.0 / 2

-- whether a ref is the negation of its node
abbrev pub is_marked : Ref → Bool
is_marked f = nat_eq (f.0 % 2) 1

-- the ref names a node of the graph
abbrev pub IsValid : Diagram → Ref → Type 0
IsValid d f = place f < length d.trees

-- the decision tree of a ref
abbrev pub tree : Diagram → Ref → Tree
tree d f = under_mark (is_marked f) (slice_index_or d.trees (place f) (Leaf false))

-- the function of a ref
abbrev pub function_of : Diagram → Ref → Point → Bool
function_of d f p = holds (tree d f) p

-- every function is in normal form, and two refs with one function are equal
pub record IsCanonical (d : Diagram) : Type 0 where
  pub normal : (f : Ref) → IsValid d f → IsNormal d.vars 0 (tree d f)
  pub same : (f g : Ref) → IsValid d f → IsValid d g → ((p : Point) → function_of d f p ≡ function_of d g p) → f ≡ g

-- every ref of the old graph is valid in the new one with its function
pub record Keeps (old new : Diagram) : Type 0 where
  pub vars : new.vars ≡ old.vars
  pub valid : (f : Ref) → IsValid old f → IsValid new f
  pub tree : (f : Ref) → IsValid old f → tree new f ≡ tree old f

-- the new graph has no function that the old one lacks, but r and its negation
abbrev pub AddsOnly : Diagram → Diagram → Ref → Type 0
AddsOnly old new r = (f : Ref) → IsValid new f → IsValid old f ⊎ (place f ≡ place r)

-- f is the constant b
pub record IsConstant (d : Diagram) (b : Bool) (f : Ref) : Type 0 where
  pub valid : IsValid d f
  pub tree : tree d f ≡ Leaf b

-- f is the function of the variable v
pub record IsVariable (d : Diagram) (v : ℕ) (f : Ref) : Type 0 where
  pub valid : IsValid d f
  pub means : (p : Point) → function_of d f p ≡ p v
  pub from : (k : ℕ) → k ≤ v → IsFrom k (tree d f)

-- r is, in the new graph, the choice by v between low and high in the old one
pub record IsChoice (old new : Diagram) (v : ℕ) (low high r : Ref) : Type 0 where
  pub valid : IsValid new r
  pub means : (p : Point) → function_of new r p ≡ (if p v then function_of old high p else function_of old low p)
  pub from : (k : ℕ) → k ≤ v → IsFrom k (tree new r)

-- r is, in the new graph, the function g where f holds in the old one, and h where it does not
pub record IsIte (old new : Diagram) (f g h r : Ref) : Type 0 where
  pub valid : IsValid new r
  pub means : (p : Point) → function_of new r p ≡ (if function_of old f p then function_of old g p else function_of old h p)
  pub from : (k : ℕ) → IsFrom k (tree old f) → IsFrom k (tree old g) → IsFrom k (tree old h) → IsFrom k (tree new r)

-- r is, in the new graph, the conjunction of f and g in the old one
pub record IsConjunction (old new : Diagram) (f g r : Ref) : Type 0 where
  pub valid : IsValid new r
  pub means : (p : Point) → function_of new r p ≡ (function_of old f p && function_of old g p)
  pub from : (k : ℕ) → IsFrom k (tree old f) → IsFrom k (tree old g) → IsFrom k (tree new r)

-- r is, in the new graph, the disjunction of f and g in the old one
pub record IsDisjunction (old new : Diagram) (f g r : Ref) : Type 0 where
  pub valid : IsValid new r
  pub means : (p : Point) → function_of new r p ≡ (function_of old f p || function_of old g p)
  pub from : (k : ℕ) → IsFrom k (tree old f) → IsFrom k (tree old g) → IsFrom k (tree new r)

-- r is, in the new graph, the negation of f in the old one
pub record IsNegation (old new : Diagram) (f r : Ref) : Type 0 where
  pub valid : IsValid new r
  pub means : (p : Point) → function_of new r p ≡ not (function_of old f p)
  pub from : (k : ℕ) → IsFrom k (tree old f) → IsFrom k (tree new r)

-- f chooses by v between two functions of later variables, which differ
pub record IsBranch (d : Diagram) (f : Ref) (v : ℕ) (low high : Ref) : Type 0 where
  pub var : v < d.vars
  pub low_valid : IsValid d low
  pub high_valid : IsValid d high
  pub low_from : IsFrom (v + 1) (tree d low)
  pub high_from : IsFrom (v + 1) (tree d high)
  pub differ : low ≢ high
  pub tree : tree d f ≡ Branch v (tree d low) (tree d high)

-- f is a constant, or chooses by the first variable that it depends on
abbrev pub IsSplit : Diagram → Ref → Option (ℕ × Ref × Ref) → Type 0
IsSplit d f r = MatchOption r ((b : Bool) × (tree d f ≡ Leaf b)) (λ s. IsBranch d f s.0 s.1 s.2)

-- the point that a list of values is, with false for each variable past its end
abbrev pub point_of : List Bool → Point
point_of xs v = slice_index_or xs v false

-- the point p is earlier than q: it has false and q has true at the first variable where they differ
pub record IsEarlier (n : ℕ) (p q : Point) : Type 0 where
  pub var : ℕ
  pub within : var < n
  pub before : (w : ℕ) → w < var → p w ≡ q w
  pub here : p var ≡ false
  pub there : q var ≡ true

-- f holds at the point, and at no earlier one
pub record IsLeastPoint (d : Diagram) (f : Ref) (xs : List Bool) : Type 0 where
  pub count : length xs ≡ d.vars
  pub holds : function_of d f (point_of xs) ≡ true
  pub least : (p : Point) → IsEarlier d.vars p (point_of xs) → function_of d f p ≡ false

-- f holds nowhere
abbrev pub HoldsNowhere : Diagram → Ref → Type 0
HoldsNowhere d f = (p : Point) → function_of d f p ≡ false

-- r has in the new graph the function that f has in the old one
pub record IsCopy (old new : Diagram) (f r : Ref) : Type 0 where
  pub valid : IsValid new r
  pub tree : tree new r ≡ tree old f

-- the ref at a place of a list
abbrev pub ref_at : List Ref → ℕ → Ref
ref_at rs i = slice_index_or rs i (record { 0 = 0 })

-- each ref of the new list has in the new graph the function that the one at its place had
pub record AreMoved (old new : Diagram) (rs ss : List Ref) : Type 0 where
  pub count : length ss ≡ length rs
  pub each : (i : ℕ) → i < length rs → IsCopy old new (ref_at rs i) (ref_at ss i)

-- each function of the graph is constant, or it or its negation is a part of one of the roots
abbrev pub HoldsOnly : Diagram → List Ref → Type 0
HoldsOnly d rs = (f : Ref) → IsValid d f → IsUpToSign (tree d f) (Leaf true) ⊎ ((i : ℕ) × (i < length rs) × IsPart (tree d f) (tree d (ref_at rs i)))

-- The node table of a `Graph`, and the decision trees of its nodes.
use Rattle.std.specs.Prelude.{◌≡◌, ℕ, ◌<◌, ◌≤◌, true, false, List, [], ◌∷◌, ◌++◌, length, slice_index_or}
use Rattle.bdd.specs.Tree.{Tree, Leaf, Branch, Point, holds, IsNormal, under_mark}
use Rattle.bdd.specs.Diagram.{Diagram, place, is_marked}
use Rattle.bdd.specs.declared.Ref.{Ref}
use Rattle.bdd.specs.declared.Entry.{Entry}
use Rattle.bdd.specs.declared.Entry.TheVariants.{One, Decision}

-- the tree at a place
abbrev pub tree_at : List Tree → ℕ → Tree
tree_at ts i = slice_index_or ts i (Leaf false)

-- the tree of a ref, by those of the places
abbrev pub tree_of : List Tree → Ref → Tree
tree_of ts f = under_mark (is_marked f) (tree_at ts (place f))

-- the tree of an entry, by those of the places before it
abbrev pub entry_tree : List Tree → Entry → Tree
entry_tree ts One = Leaf true
entry_tree ts (Decision n) = Branch n.var (tree_of ts n.low) (tree_of ts n.high)

-- the trees so far, and those of the entries that follow
abbrev pub trees_after : List Tree → List Entry → List Tree
trees_after ts [] = ts
trees_after ts (e ∷ es) = trees_after (ts ++ entry_tree ts e ∷ []) es

-- the trees of the entries of a table
unfoldable pub trees : List Entry → List Tree
trees es = trees_after [] es

-- the entry at a place
abbrev pub entry_at : List Entry → ℕ → Entry
entry_at es i = slice_index_or es i One

-- the tree at the place i is that of the entry there, whose children stand before it
abbrev pub Stands : List Tree → ℕ → Entry → Type 0
Stands ts i One = tree_at ts i ≡ Leaf true
Stands ts i (Decision n) =
    (place n.low < i) × (place n.high < i) × (tree_at ts i ≡ Branch n.var (tree_of ts n.low) (tree_of ts n.high))

-- what a contract sees of a table over n variables
abbrev pub diagram : ℕ → List Entry → Diagram
diagram n es = record { vars = n; trees = trees es }

-- the point where each variable is true
abbrev pub all_true : Point
all_true _ = true

-- a table over n variables: the constant 1 first, each tree once, in normal form, and true where all variables are,
-- since no high edge is marked
pub record IsNodeTable (n : ℕ) (es : List Entry) : Type 0 where
  pub one_in : 1 ≤ length es
  pub one : entry_at es 0 ≡ One
  pub stands : (i : ℕ) → i < length es → Stands (trees es) i (entry_at es i)
  pub normal : (i : ℕ) → i < length es → IsNormal n 0 (tree_at (trees es) i)
  pub true_at_ones : (i : ℕ) → i < length es → holds (tree_at (trees es) i) all_true ≡ true
  pub distinct : (i j : ℕ) → i < length es → j < length es → tree_at (trees es) i ≡ tree_at (trees es) j → i ≡ j

-- Decision trees written down as lists of numbers, by which proofs tell them apart.
use Rattle.std.specs.Prelude.{◌≡◌, ℕ, true, false, List, [], ◌∷◌, refl}
use Rattle.std.specs.Coded.{Coded, code_by, coded_list, coded_ℕ}
use Rattle.std.proofs.Common.{◌∙◌, ap, zero, suc}
use Rattle.bdd.specs.Tree.{Tree, Leaf, Branch}

-- a tree written down, a choice before its two sides, ahead of what follows
abbrev pub written : Tree → List ℕ → List ℕ
written (Leaf true) rest = 0 ∷ rest
written (Leaf false) rest = 1 ∷ rest
written (Branch v low high) rest = suc (suc v) ∷ written low (written high rest)

-- a choice by v between the first two trees, ahead of the others
abbrev pub joined : ℕ → List Tree → List Tree
joined v [] = []
joined v (low ∷ []) = []
joined v (low ∷ high ∷ rest) = Branch v low high ∷ rest

-- the trees that a list tells, read from its end
abbrev pub read : List ℕ → List Tree
read [] = []
read (zero ∷ rest) = Leaf true ∷ read rest
read (suc zero ∷ rest) = Leaf false ∷ read rest
read (suc (suc v) ∷ rest) = joined v (read rest)

-- a tree that was written down is read again
pub read-written : (t : Tree) (rest : List ℕ) → read (written t rest) ≡ t ∷ read rest
read-written (Leaf true) rest = refl
read-written (Leaf false) rest = refl
read-written (Branch v low high) rest =
    ap (joined v) (read-written low (written high rest) ∙ ap (λ ts. low ∷ ts) (read-written high rest))

-- the first tree of a list
abbrev pub first_tree : List Tree → Tree
first_tree [] = Leaf false
first_tree (t ∷ ts) = t

-- a tree is stored as the list that tells it
abbrev pub tree_code : Coded Tree
tree_code =
    code_by (List ℕ) (coded_list coded_ℕ) (λ t. written t []) (λ xs. first_tree (read xs)) (λ t. ap first_tree (read-written t []))

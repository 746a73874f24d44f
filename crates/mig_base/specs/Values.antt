-- The values of literals, products, sums and rows under the levels of a board, and what each reads.
use Rattle.std.specs.Prelude.{Bool, true, false, List, [], ◌∷◌, if◌then◌else◌, map}
use Rattle.std.specs.List.{flat_map}
use Rattle.mig_base.specs.declared.levels.Level.{Level}
use Rattle.mig_base.specs.declared.levels.Level.TheVariants.{Zero, One}
use Rattle.mig_base.specs.declared.circuit.Read.{Read}
use Rattle.mig_base.specs.declared.circuit.Literal.{Literal}
use Rattle.mig_base.specs.declared.circuit.Gate.{Gate}
use Rattle.mig_base.specs.declared.circuit.Levels.{Levels}
use Rattle.mig_base.specs.declared.circuit.Read.TheVariants.{OfNet, OfRegister}
use Rattle.mig_base.specs.declared.circuit.Gate.TheVariants.{Never, Product}
use Rattle.mig_base.specs.Levels.{read_level, not3, and3, or3, level_at}

-- what stands at a node
abbrev pub node_level : Levels → Read → Level
node_level l (OfNet n) = level_at l.nets n
node_level l (OfRegister k) = level_at l.visible k

-- what a literal reads there
abbrev pub source_level : Levels → Read → Level
source_level l (OfNet n) = read_level (level_at l.nets n)
source_level l (OfRegister k) = level_at l.visible k

-- NOT where it is low
abbrev pub inverted : Bool → Level → Level
inverted true a = not3 a
inverted false a = a

-- NOT of its source where it is not high
abbrev pub literal_value : Levels → Literal → Level
literal_value l lit = if lit.high then source_level l lit.source else not3 (source_level l lit.source)

-- 1 where there is no literal
abbrev pub product_value : Levels → List Literal → Level
product_value l [] = One
product_value l (lit ∷ lits) = and3 (literal_value l lit) (product_value l lits)

-- 0 where there is no product
abbrev pub sum_value : Levels → List (List Literal) → Level
sum_value l [] = Zero
sum_value l (p ∷ ps) = or3 (product_value l p) (sum_value l ps)

-- a constant 0 row is 0
abbrev pub row_value : Levels → Gate → Level
row_value l Never = Zero
row_value l (Product lits) = product_value l lits

-- what a product, a sum and a row read
abbrev pub product_reads : List Literal → List Read
product_reads lits = map (λ lit. lit.source) lits

abbrev pub sum_reads : List (List Literal) → List Read
sum_reads terms = flat_map product_reads terms

abbrev pub row_reads : Gate → List Read
row_reads Never = []
row_reads (Product lits) = product_reads lits

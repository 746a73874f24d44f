-- The levels of products over variables, where each variable has a level.
use Rattle.std.specs.Prelude.{List, [], ◌∷◌, if◌then◌else◌}
use Rattle.mig_base.specs.Levels.{not3, and3, or3}
use Rattle.mig_base.specs.declared.levels.Level.{Level}
use Rattle.mig_base.specs.declared.levels.Level.TheVariants.{Zero, One}
use Rattle.mig_base.specs.declared.nets.Var.{Var}
use Rattle.mig_base.specs.declared.nets.VarLit.{VarLit}
use Rattle.mig_base.specs.declared.nets.VarProduct.{VarProduct}

-- a level for each variable
abbrev pub Levelling : Type 0
Levelling = Var → Level

-- NOT of its variable where it is not high
abbrev pub literal_level : Levelling → VarLit → Level
literal_level l x = if x.high then l x.var else not3 (l x.var)

-- 1 where there is no literal
abbrev pub product_level : Levelling → List VarLit → Level
product_level l [] = One
product_level l (x ∷ xs) = and3 (literal_level l x) (product_level l xs)

-- 0 where there is no product
abbrev pub terms_level : Levelling → List VarProduct → Level
terms_level l [] = Zero
terms_level l (t ∷ ts) = or3 (product_level l t.lits) (terms_level l ts)

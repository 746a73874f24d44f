-- New rows by the literals of old variables that their literals stand for.
use Rattle.std.specs.Prelude.{ℕ, ◌≡◌, Bool, List, [], ◌∷◌}
use Rattle.mig_base.specs.declared.levels.Level.{Level}
use Rattle.mig_base.specs.declared.circuit.Read.{Read}
use Rattle.mig_base.specs.declared.circuit.Literal.{Literal}
use Rattle.mig_base.specs.declared.circuit.Gate.{Gate}
use Rattle.mig_base.specs.declared.circuit.Gate.TheVariants.{Never, Product}
use Rattle.mig_base.specs.declared.circuit.Circuit.{Circuit}
use Rattle.mig_base.specs.Among.{Among}
use Rattle.mig_base.specs.Structure.{all_variables, variable_literal, variable_product}
use Rattle.mig_base.specs.Values.{inverted, sum_reads}
use Rattle.fitting_levels.specs.NodeValues.{NodeLevels, terms_by}
use Rattle.fitting_levels.specs.Fitting.{AreFitting}
use Rattle.carried_boards.specs.Carries.{Numbers, old_node}
use Rattle.placed_boards.specs.Places.{Named}

-- the literal of an old variable that a new literal stands for
abbrev pub seen_literal : Circuit → Numbers → Literal → Literal
seen_literal a old x = variable_literal a (record { source = old_node old x.source; high = x.high })

-- a new product has these literals of old variables, in whatever order
pub record IsSeenAs (a : Circuit) (old : Numbers) (new lits : List Literal) : Type 0 where
  pub only : (x : Literal) → Among x new → Among (seen_literal a old x) lits
  pub every : (y : Literal) → Among y lits → (x : Literal) × Among x new × (seen_literal a old x ≡ y)

-- new terms, one for each row
abbrev pub AreSeenAs : Circuit → Numbers → List (List Literal) → List (List Literal) → Type 0
AreSeenAs a old [] [] = Unit {0}
AreSeenAs a old (t ∷ ts) (r ∷ rs) = IsSeenAs a old t r × AreSeenAs a old ts rs
AreSeenAs a old [] (r ∷ rs) = ⊥
AreSeenAs a old (t ∷ ts) [] = ⊥

-- a new row: constant 0 for no row
abbrev pub IsGateSeenAs : Circuit → Numbers → Gate → List (List Literal) → Type 0
IsGateSeenAs a old Never [] = Unit {0}
IsGateSeenAs a old Never (r ∷ rs) = ⊥
IsGateSeenAs a old (Product xs) [] = ⊥
IsGateSeenAs a old (Product xs) (r ∷ []) = IsSeenAs a old xs r
IsGateSeenAs a old (Product xs) (r ∷ s ∷ rs) = ⊥

-- rows over old variables that have the level of an old part, and whose variables it names
pub record AreRows (a : Circuit) (absorbed : List ℕ) (level : NodeLevels → Level) (reads : List Read) (rows : List (List Literal)) (low : Bool) : Type 0 where
  pub same : (f : NodeLevels) → AreFitting a absorbed f → level f ≡ inverted low (terms_by f rows)
  pub named : (v : Read) → Among v (sum_reads rows) → Named a absorbed v reads

-- the rows of an old row
abbrev pub gate_rows : Circuit → Gate → List (List Literal)
gate_rows a Never = []
gate_rows a (Product xs) = variable_product a xs ∷ []

abbrev pub gate_terms : Gate → List (List Literal)
gate_terms Never = []
gate_terms (Product xs) = xs ∷ []

-- the variables of these literals are the board's
pub record AreOfBoard (c : Circuit) (terms : List (List Literal)) : Type 0 where
  pub each : (t : List Literal) (x : Literal) → Among t terms → Among x t → Among (variable_literal c x).source (all_variables c)

-- The variables of a function over two rails, and the Booleans that stand for them.
use Rattle.std.specs.Prelude.{◌≡◌, ℕ, ◌+◌, Bool, true, false, ◌==◌, ◌<◌, List, [], ◌∷◌, ◌++◌, length, map, if◌then◌else◌, refl}
use Rattle.std.specs.List.{AllPairs}
use Rattle.std.specs.Coded.{Coded, code_by, coded_list, coded_ℕ, coded_bool, coded×}
use Rattle.bdd.specs.Diagram.{Diagram, diagram_code}
use Rattle.mig_base.specs.declared.nets.Var.{Var}
use Rattle.mig_base.specs.declared.nets.Var.TheVariants.{Net, Reg}
use Rattle.rails.specs.declared.Side.{Side}
use Rattle.rails.specs.declared.Side.TheVariants.{Pure, High, Low}
use Rattle.rails.specs.declared.Rail.{Rail}

-- what a contract sees of a `Rails`: the graph, and the variables with their purity
pub record Held : Type 0 where
  pub graph : Diagram
  pub vars : List (Var × Bool)

-- a variable is stored as its number, and whether it is a net
abbrev pub var_parts : Var → Bool × ℕ
var_parts (Net n) = (true, n)
var_parts (Reg k) = (false, k)

abbrev pub var_made : Bool × ℕ → Var
var_made p = if p.0 then Net p.1 else Reg p.1

abbrev pub var_made_again : (v : Var) → var_made (var_parts v) ≡ v
var_made_again (Net n) = refl
var_made_again (Reg k) = refl

abbrev pub var_code : Coded Var
var_code = code_by (Bool × ℕ) (coded× coded_bool coded_ℕ) var_parts var_made var_made_again

-- and a value as the pair of its fields
abbrev pub held_code : Coded Held
held_code =
    code_by (Diagram × List (Var × Bool)) (coded× diagram_code (coded_list (coded× var_code coded_bool))) (λ h. (h.graph, h.vars)) (λ p. record { graph = p.0; vars = p.1 }) (λ _. refl)

-- a pure variable has one Boolean, any other one has one for its true and then one for its complement literal
abbrev pub sides : Bool → List Side
sides true = Pure ∷ []
sides false = High ∷ Low ∷ []

-- the Booleans of the variable v, which is number i of the list
abbrev pub rails_of : ℕ → Var × Bool → List Rail
rails_of i v = map (λ s. record { var = v.0; variable = i; side = s }) (sides v.1)

-- the Booleans of variables, of which the first is number i
abbrev pub rails_from : ℕ → List (Var × Bool) → List Rail
rails_from i [] = []
rails_from i (v ∷ vs) = rails_of i v ++ rails_from (i + 1) vs

-- all Booleans, by place: those of each variable in turn
abbrev pub all_rails : List (Var × Bool) → List Rail
all_rails vs = rails_from 0 vs

-- the graph has as many variables as there are Booleans
abbrev pub IsFit : Held → Type 0
IsFit h = h.graph.vars ≡ length (all_rails h.vars)

-- whether two variables are the same
abbrev pub same_var : Var → Var → Bool
same_var (Net n) (Net m) = n == m
same_var (Net n) (Reg k) = false
same_var (Reg k) (Net n) = false
same_var (Reg k) (Reg j) = k == j

-- nets by number, and then registers by number
abbrev pub IsBefore : Var → Var → Type 0
IsBefore (Net n) (Net m) = n < m
IsBefore (Net n) (Reg k) = Unit {0}
IsBefore (Reg k) (Net n) = ⊥
IsBefore (Reg k) (Reg j) = k < j

-- each variable stands before all that follow
abbrev pub AreRising : List (Var × Bool) → Type 0
AreRising vs = AllPairs (λ v w. IsBefore v.0 w.0) vs

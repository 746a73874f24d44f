-- Marked variables, and what absorbed nets that are marked mark.
use Rattle.std.specs.Prelude.{◌≡◌, ◌↔◌, ℕ, Bool, true, false, ◌&&◌, List, [], ◌∷◌, ◌++◌, length, map, replicate, Option, Some, None, slice_index_or, slice_set, if◌then◌else◌}
use Rattle.std.specs.List.{flat_map}
use Rattle.mig_base.specs.Among.{Among}
use Rattle.mig_base.specs.First.{made_from}
use Rattle.mig_base.specs.declared.circuit.Read.{Read}
use Rattle.mig_base.specs.declared.nets.Var.{Var}
use Rattle.mig_base.specs.declared.nets.Var.TheVariants.{Net, Reg}
use Rattle.mig_base.specs.declared.nets.VarLit.{VarLit}
use Rattle.mig_base.specs.declared.nets.VarProduct.{VarProduct}
use Rattle.mig_base.specs.declared.plans.Part.TheVariants.{Logic}
use Rattle.ranks.specs.Order.{IsOrder}
use Rattle.structure.specs.Pure.{IsPure}
use Rattle.board.specs.Joined.{Joined, equations_of}
use Rattle.board.specs.UnitLists.{register_units}
use Rattle.board.specs.Variables.{IsVariable, read_of, var_of}
use Rattle.joiner.specs.declared.marks.Marks.{Marks}
use Rattle.joiner.specs.Joined.{IsAbsorbed, Names, StandsIn, unit_part}

-- whether a variable is marked; what the board doesn't have is not
abbrev pub marked : Marks → Var → Bool
marked m (Net n) = slice_index_or m.nets n false
marked m (Reg u) = slice_index_or m.units u false

-- no marks, for so many nets and units
abbrev pub no_marks : ℕ → ℕ → Marks
no_marks nets units = record { nets = replicate nets false; units = replicate units false }

abbrev pub with_var : Marks → Var → Marks
with_var m (Net n) = record { nets = slice_set m.nets n true; units = m.units }
with_var m (Reg u) = record { nets = m.nets; units = slice_set m.units u true }

-- these variables are marked besides
abbrev pub with_vars : Marks → List Var → Marks
with_vars m [] = m
with_vars m (v ∷ vs) = with_vars (with_var m v) vs

abbrev pub vars_of : List VarLit → List Var
vars_of lits = map (λ x. x.var) lits

-- the variables that stand in these products
abbrev pub vars_in : List VarProduct → List Var
vars_in terms = flat_map (λ p. vars_of p.lits) terms

-- the unit of an absorbed net
abbrev pub unit_at : List (Option ℕ) → ℕ → Option ℕ
unit_at nets n = slice_index_or nets n None

-- what an absorbed net's unit gives
abbrev pub terms_behind : Joined → Option ℕ → List VarProduct
terms_behind b None = []
terms_behind b (Some u) = (unit_part b u Logic).terms

-- a net that is marked and absorbed marks what its unit names
abbrev pub after_net : Joined → List (Option ℕ) → Marks → ℕ → Marks
after_net b nets m n = if marked m (Net n) then with_vars m (vars_in (terms_behind b (unit_at nets n))) else m

-- variables in an order of evaluation
abbrev pub AreInOrder : Joined → List Var → Type 0
AreInOrder b vars = (order : List Read) × IsOrder (equations_of b) order × (vars ≡ map (var_of b.chips) order)

abbrev pub after_variable : Joined → List (Option ℕ) → Marks → Var → Marks
after_variable b nets m (Net n) = after_net b nets m n
after_variable b nets m (Reg u) = m

-- variable by variable, from the last one on
abbrev pub after_variables : Joined → List (Option ℕ) → Marks → List Var → Marks
after_variables b nets m [] = m
after_variables b nets m (v ∷ vs) = after_variable b nets (after_variables b nets m vs) v

abbrev pub is_none : Option ℕ → Bool
is_none None = true
is_none (Some u) = false

-- whether a net is not absorbed, which no register is
abbrev pub is_left : List (Option ℕ) → Var → Bool
is_left nets (Net n) = is_none (unit_at nets n)
is_left nets (Reg u) = true

-- whether a variable is marked and not absorbed
abbrev pub is_named : List (Option ℕ) → Marks → Var → Bool
is_named nets m v = marked m v && is_left nets v

-- all variables of a board, in order
abbrev pub all_vars : Joined → List Var
all_vars b = made_from Net 0 (length (equations_of b).nets) ++ map Reg (register_units b.chips)

-- these variables, each with whether it is pure
pub record ArePaired (b : Joined) (vs : List Var) (pairs : List (Var × Bool)) : Type 0 where
  pub variables : map (λ (w : Var × Bool). w.0) pairs ≡ vs
  pub pure : (w : Var × Bool) → Among w pairs → (w.1 ≡ true) ↔ IsPure (equations_of b) (read_of b.chips w.0)

-- the marks of all that products name, and of absorbed nets on the way
pub record AreNameMarks (b : Joined) (absorbed : List ℕ) (terms : List VarProduct) (m : Marks) : Type 0 where
  pub variable : (v : Var) → marked m v ≡ true → IsVariable b v
  pub sound : (v : Var) → marked m v ≡ true → ((n u : ℕ) → v ≡ Net n → IsAbsorbed b absorbed n u → ⊥) → Names b absorbed v terms
  pub every : (v : Var) → Names b absorbed v terms → marked m v ≡ true
  pub here : (x : VarLit) → StandsIn x terms → marked m x.var ≡ true
  pub behind : (n u : ℕ) → IsAbsorbed b absorbed n u → marked m (Net n) ≡ true → (x : VarLit) → StandsIn x (unit_part b u Logic).terms → marked m x.var ≡ true

-- the unit of an absorbed net that is marked
abbrev pub needed_at : List (Option ℕ) → Marks → ℕ → Option ℕ
needed_at nets m n = if marked m (Net n) then unit_at nets n else None

-- one entry a net: the absorbed unit that alone drives it, if one does, and where the net is marked
pub record AreNeededNets (b : Joined) (absorbed : List ℕ) (m : Marks) (nets : List (Option ℕ)) : Type 0 where
  pub sound : (n u : ℕ) → unit_at nets n ≡ Some u → IsAbsorbed b absorbed n u
  pub every : (n u : ℕ) → IsAbsorbed b absorbed n u → marked m (Net n) ≡ true → unit_at nets n ≡ Some u

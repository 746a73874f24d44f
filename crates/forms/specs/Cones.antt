-- A part with absorbed nets replaced, or the number of its variables, and the literals of its Booleans.
use Rattle.std.specs.Prelude.{ℕ, Bool, true, false, List, map, Option, is_some, slice_get, if◌then◌else◌}
use Rattle.std.specs.List.{filter_map, list_any}
use Rattle.std.specs.Option.{option_map}
use Rattle.bdd.specs.Diagram.{IsValid, function_of}
use Rattle.mig_base.specs.Among.{Among}
use Rattle.mig_base.specs.declared.nets.Var.{Var}
use Rattle.mig_base.specs.declared.circuit.Read.{Read}
use Rattle.mig_base.specs.declared.circuit.Read.TheVariants.{OfNet, OfRegister}
use Rattle.mig_base.specs.declared.circuit.Literal.{Literal}
use Rattle.primes.specs.Prime.{Product, Function}
use Rattle.rails.specs.declared.Rail.{Rail}
use Rattle.rails.specs.Variables.{all_rails, rails_of, IsFit}
use Rattle.rails.specs.Points.{inverse, literal_of}
use Rattle.board.specs.Joined.{Joined}
use Rattle.board.specs.Variables.{IsVariable}
use Rattle.joiner.specs.Joined.{Inverted}
use Rattle.joiner.specs.JoinedPart.{IsJoinedPart, IsWide}
use Rattle.joiner.specs.Marked.{unit_at}
use Rattle.joiner.specs.declared.JoinedPart.{JoinedPart}
use Rattle.plans.specs.Forms.{Products, over_board}
use Rattle.forms.specs.declared.absorbing.Cone.{Cone}
use Rattle.forms.specs.declared.absorbing.Cone.TheVariants.{Narrow, Wide}
use Rattle.forms.specs.declared.covers.Literals.{Literals}

-- variables of the board
abbrev pub AreVariables : Joined → List (Var × Bool) → Type 0
AreVariables b vars = (w : Var × Bool) → Among w vars → IsVariable b w.0

-- a joined part that can be covered
pub record IsNarrow (b : Joined) (absorbed : List ℕ) (sum : Inverted) (part : JoinedPart) : Type 0 where
  pub joined : IsJoinedPart b absorbed sum part.rails.vars (function_of part.rails.graph part.f)
  pub valid : IsValid part.rails.graph part.f
  pub fit : IsFit part.rails
  pub known : AreVariables b part.rails.vars

-- a part with at most 32 variables, or the number of them
abbrev pub IsCone : Joined → List ℕ → Inverted → Cone → Type 0
IsCone b absorbed sum (Narrow part) = IsNarrow b absorbed sum part
IsCone b absorbed sum (Wide count) = IsWide b absorbed sum count

-- what is covered: the function, or that of the inverted part
abbrev pub covered_function : Bool → List (Var × Bool) → Function → Function
covered_function inverted vars f = if inverted then inverse (all_rails vars) f else f

-- the literals of a Boolean, plain and negated
abbrev pub literals_of : Joined → Rail → Literals
literals_of b r = record { plain = over_board b (literal_of r true); negated = over_board b (literal_of r false) }

-- those of all Booleans of a variable
abbrev pub literals_at : Joined → Var × Bool → List Literals
literals_at b w = map (literals_of b) (rails_of 0 w)

-- the one that is asked for
abbrev pub chosen : Bool → Literals → Literal
chosen plain x = if plain then x.plain else x.negated

-- the literal of a place, if there is such a place
abbrev pub literal_in : List Literals → ℕ × Bool → Option Literal
literal_in table l = option_map (chosen l.1) (slice_get table l.0)

-- the products of terms, by the literals of the places
abbrev pub products_in : List Literals → List Product → Products
products_in table terms = map (filter_map (literal_in table)) terms

-- whether the table has a unit for what is read
abbrev pub has_unit : List (Option ℕ) → Read → Bool
has_unit nets (OfNet n) = is_some (unit_at nets n)
has_unit nets (OfRegister k) = false

-- whether products read a net of the table
abbrev pub read_in_table : List (Option ℕ) → Products → Bool
read_in_table nets products = list_any (λ lits. list_any (λ x. has_unit nets x.source) lits) products

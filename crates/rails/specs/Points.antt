-- Literals, products and sums at a point of the Booleans, and which functions stay true when a literal's Boolean becomes true.
use Rattle.std.specs.Prelude.{◌≡◌, ℕ, ◌+◌, ◌-◌, Bool, true, false, not, ◌&&◌, List, [], ◌∷◌, slice_get, Option, Some, None, IfSome, if◌then◌else◌}
use Rattle.std.specs.List.{list_any, list_all}
use Rattle.bdd.specs.Tree.{Point}
use Rattle.bdd.specs.Diagram.{Diagram, IsValid, function_of}
use Rattle.bdd.specs.declared.Ref.{Ref}
use Rattle.mig_base.specs.Bools.{same_bool}
use Rattle.mig_base.specs.declared.nets.Var.{Var}
use Rattle.mig_base.specs.declared.nets.VarLit.{VarLit}
use Rattle.mig_base.specs.declared.nets.VarProduct.{VarProduct}
use Rattle.rails.specs.declared.Side.{Side}
use Rattle.rails.specs.declared.Side.TheVariants.{Pure, High, Low}
use Rattle.rails.specs.declared.Rail.{Rail}
use Rattle.rails.specs.Variables.{same_var}

-- whether a Boolean of this side speaks of the true literal, or of the complement literal
abbrev pub has_literal : Side → Bool → Bool
has_literal Pure high = true
has_literal High high = high
has_literal Low high = not high

-- whether the literal x is read off the Boolean r
abbrev pub carries : VarLit → Rail → Bool
carries x r = same_var r.var x.var && has_literal r.side x.high

-- the value of a literal by that of its Boolean: the complement literal of a pure variable negates it
abbrev pub read_off : Side → Bool → Bool → Bool
read_off Pure high b = same_bool high b
read_off High high b = b
read_off Low high b = b

-- the value of a literal among Booleans, of which the first is that of the place n
abbrev pub literal_in : ℕ → List Rail → VarLit → Point → Bool
literal_in n [] x p = false
literal_in n (r ∷ rs) x p = if carries x r then read_off r.side x.high (p n) else literal_in (n + 1) rs x p

-- whether a literal holds at a point
abbrev pub literal_holds : List Rail → VarLit → Point → Bool
literal_holds rs x p = literal_in 0 rs x p

-- whether all literals of a product hold
abbrev pub row_holds : List Rail → List VarLit → Point → Bool
row_holds rs lits p = list_all (λ x. literal_holds rs x p) lits

-- whether one of the products holds
abbrev pub sum_holds : List Rail → List VarProduct → Point → Bool
sum_holds rs rows p = list_any (λ row. row_holds rs row.lits p) rows

-- whether the variable is one of the list
abbrev pub IsListed : List (Var × Bool) → Var → Type 0
IsListed vs v = list_any (λ w. same_var w.0 v) vs ≡ true

-- whether the variable is listed as pure
abbrev pub IsPure : List (Var × Bool) → Var → Type 0
IsPure vs v = list_any (λ w. same_var w.0 v && w.1) vs ≡ true

-- the Booleans of the inverted literals: a pure variable stays, and the two of another one are swapped and negated
abbrev pub opposite : Side → Point → ℕ → Bool
opposite Pure p n = p n
opposite High p n = not (p (n + 1))
opposite Low p n = not (p (n - 1))

abbrev pub mirror_at : Option Rail → Point → ℕ → Bool
mirror_at None p n = p n
mirror_at (Some r) p n = opposite r.side p n

abbrev pub mirror : List Rail → Point → Point
mirror rs p n = mirror_at (slice_get rs n) p n

-- the value of a variable's Boolean where its true literal has the value t and its complement literal c
abbrev pub side_of : Side → Bool → Bool → Bool
side_of Pure t c = t
side_of High t c = t
side_of Low t c = c

abbrev pub put_at : Option Rail → Var → Bool → Bool → Bool → Bool
put_at None v t c b = b
put_at (Some r) v t c b = if same_var r.var v then side_of r.side t c else b

-- the point with these values of the variable v's literals
abbrev pub put : List Rail → Var → Bool → Bool → Point → Point
put rs v t c p n = put_at (slice_get rs n) v t c (p n)

-- a pure variable's Boolean is the same, and another one's is true if it was
abbrev pub IsKept : Side → Bool → Bool → Type 0
IsKept Pure a b = a ≡ b
IsKept High a b = a ≡ true → b ≡ true
IsKept Low a b = a ≡ true → b ≡ true

-- q is p but for Booleans of impure variables that became true
pub record IsBelow (rs : List Rail) (p q : Point) : Type 0 where
  pub each : (n : ℕ) → IfSome (slice_get rs n) (λ r. IsKept r.side (p n) (q n))

-- the function stays true where Booleans of impure variables become true
pub record IsMonotone (rs : List Rail) (f : Point → Bool) : Type 0 where
  pub rises : (p q : Point) → IsBelow rs p q → f p ≡ true → f q ≡ true

abbrev pub IsSameIfPure : Side → Bool → Bool → Type 0
IsSameIfPure Pure a b = a ≡ b
IsSameIfPure High a b = Unit {0}
IsSameIfPure Low a b = Unit {0}

-- p and q have the same Booleans of pure variables
pub record AgreeOnPure (rs : List Rail) (p q : Point) : Type 0 where
  pub each : (n : ℕ) → IfSome (slice_get rs n) (λ r. IsSameIfPure r.side (p n) (q n))

-- the function depends on no Boolean of an impure variable
pub record ReadsPure (rs : List Rail) (f : Point → Bool) : Type 0 where
  pub same : (p q : Point) → AgreeOnPure rs p q → f p ≡ f q

-- r is valid, and its function is g
pub record Is (d : Diagram) (g : Point → Bool) (r : Ref) : Type 0 where
  pub valid : IsValid d r
  pub means : (p : Point) → function_of d r p ≡ g p

-- f is a ref of the graph that may be inverted and put in place of others
pub record IsProper (rs : List Rail) (d : Diagram) (f : Ref) : Type 0 where
  pub valid : IsValid d f
  pub monotone : IsMonotone rs (function_of d f)

-- whether the function g is that of the inverted expression of f: it holds where f fails at the mirrored point
abbrev pub inverse : List Rail → (Point → Bool) → Point → Bool
inverse rs f p = not (f (mirror rs p))

-- f with the literals of v replaced: the true one by g, the complement one by the inverse of g
abbrev pub replacement : List Rail → (Point → Bool) → Var → (Point → Bool) → Point → Bool
replacement rs f v g p = f (put rs v (g p) (inverse rs g p) p)

-- whether the literal of a Boolean is the true one; `plain` chooses where the Boolean is pure
abbrev pub high_of : Side → Bool → Bool
high_of Pure plain = plain
high_of High plain = true
high_of Low plain = false

-- the literal of a Boolean, or its complement where it is pure
abbrev pub literal_of : Rail → Bool → VarLit
literal_of r plain = record { var = r.var; high = high_of r.side plain }

-- only a pure variable's Boolean has a negated literal
abbrev pub MayStand : Side → Bool → Type 0
MayStand Pure plain = Unit {0}
MayStand High plain = plain ≡ true
MayStand Low plain = plain ≡ true

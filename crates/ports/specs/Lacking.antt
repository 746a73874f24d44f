-- Ports that another board hasn't with their directions.
use Rattle.std.specs.Prelude.{ℕ, ◌≡◌, ◌⊎◌, Bool, true, false, not, ◌&&◌, List, ◌∷◌, ◌++◌, map, filter, Option, Some, None}
use Rattle.std.specs.List.{AllByRecursion, list_any}
use Rattle.std.specs.Str.{bytes_eq}
use Rattle.mig_base.specs.declared.nets.Net.{Net}
use Rattle.mig_base.specs.declared.nets.NetLine.{NetLine}
use Rattle.mig_base.specs.declared.nets.Port.{Port}
use Rattle.mig_base.specs.declared.nets.Port.TheVariants.{Inner, Input, Output, Both}
use Rattle.mig_base.specs.Boards.{is_port}
use Rattle.level_laws.specs.SameBehaviour.{HasPort, SamePorts}

abbrev pub is_same_direction : Port → Port → Bool
is_same_direction Inner Inner = true
is_same_direction Input Input = true
is_same_direction Output Output = true
is_same_direction Both Both = true
is_same_direction _ _ = false

abbrev pub is_same_port : NetLine → NetLine → Bool
is_same_port l k = is_same_direction l.port k.port && bytes_eq l.name k.name

-- a port that none of these nets is, with its direction
abbrev pub is_lacking : List NetLine → NetLine → Bool
is_lacking ls l = is_port l && not (list_any (is_same_port l) ls)

-- these nets that are ports, with their directions
abbrev pub directed : List NetLine → List (List ℕ × Port)
directed ls = map (λ l. (l.name, l.port)) (filter is_port ls)

-- the first port of a wiring, in its order, that another one hasn't with its direction
pub record Lacks (of other : Net) (name : List ℕ) : Type 0 where
  pub dir : Port
  pub before : List (List ℕ × Port)
  pub behind : List (List ℕ × Port)
  pub split : directed of.nets ≡ before ++ (name, dir) ∷ behind
  pub earlier : AllByRecursion (λ p. HasPort other p.0 p.1) before
  pub lacking : HasPort other name dir → ⊥

-- a wiring has the port names of another with the same directions
abbrev pub HasPortsOf : Net → Net → Type 0
HasPortsOf other of = (name : List ℕ) (dir : Port) → HasPort of name dir → HasPort other name dir

-- the first port that the other wiring hasn't with its direction, and None where it has them all
abbrev pub IsFirstLacking : Net → Net → Option (List ℕ) → Type 0
IsFirstLacking of other None = HasPortsOf other of
IsFirstLacking of other (Some name) = Lacks of other name

-- None where the ports are the same; else the first port of the first wiring that the second hasn't, else the first one of the
-- second that the first hasn't
abbrev pub IsDifference : Net → Net → Option (List ℕ) → Type 0
IsDifference a b None = SamePorts a b
IsDifference a b (Some name) = Lacks a b name ⊎ (HasPortsOf b a × Lacks b a name)

-- The variables of a board's levels, and the levels that they may have.
use Rattle.std.specs.Prelude.{ℕ, ◌+◌, ◌≡◌, ◌≢◌, ◌↔◌, Bool, true, false, List, [], ◌∷◌, ◌++◌, map, slice_get, IfSome}
use Rattle.mig_base.specs.declared.levels.Level.{Level}
use Rattle.mig_base.specs.declared.levels.Level.TheVariants.{Z}
use Rattle.mig_base.specs.declared.nets.Var.{Var}
use Rattle.mig_base.specs.declared.nets.Var.TheVariants.{Net, Reg}
use Rattle.mig_base.specs.declared.circuit.Read.TheVariants.{OfRegister}
use Rattle.mig_base.specs.declared.circuit.NetKind.{NetKind}
use Rattle.mig_base.specs.declared.circuit.NetKind.TheVariants.{Ground, Power, Handed, Shared, Inner}
use Rattle.mig_base.specs.declared.circuit.Wire.{Wire}
use Rattle.level_laws.specs.SameBehaviour.{IsBit, IsHandable}
use Rattle.structure.specs.Pure.{IsPure}
use Rattle.board.specs.Joined.{Joined, equations_of}
use Rattle.board.specs.UnitLists.{register_units}

-- an Input port is pure, and a Both port is not; no other net is a variable
abbrev pub port_variable : ℕ → NetKind → List (Var × Bool)
port_variable n (Handed place) = (Net n, true) ∷ []
port_variable n (Shared place) = (Net n, false) ∷ []
port_variable n Ground = []
port_variable n Power = []
port_variable n Inner = []

-- the nets of the Input and Both ports, of which the first net has number n
abbrev pub port_variables : ℕ → List Wire → List (Var × Bool)
port_variables n [] = []
port_variables n (w ∷ ws) = port_variable n w.kind ++ port_variables (n + 1) ws

-- the first registers by the numbers of these units, each with whether it is pure
pub record AreRegisters (b : Joined) (units : List ℕ) (rs : List (Var × Bool)) : Type 0 where
  pub variables : map (λ (w : Var × Bool). w.0) rs ≡ map Reg units
  pub pure : (k : ℕ) → IfSome (slice_get rs k) (λ w. (w.1 ≡ true) ↔ IsPure (equations_of b) (OfRegister k))

-- the list with the registers of these units
pub record IsExtended (b : Joined) (units : List ℕ) (old new : List (Var × Bool)) : Type 0 where
  pub registers : List (Var × Bool)
  pub added : new ≡ old ++ registers
  pub each : AreRegisters b units registers

-- the nets of the ports, and then the registers
abbrev pub AreVariables : Joined → List (Var × Bool) → Type 0
AreVariables b vars = IsExtended b (register_units b.chips) (port_variables 0 (equations_of b).nets) vars

-- a Both port may be Z
abbrev pub may_float : Var × Bool → Bool
may_float (Net n, true) = false
may_float (Net n, false) = true
may_float (Reg k, pure) = false

-- 0 or 1 for a pure variable, 0, 1 or Z for a Both port, and 0, 1 or X for a register
abbrev pub FitsVariable : Var × Bool → Level → Type 0
FitsVariable (v, true) level = IsBit level
FitsVariable (Net n, false) level = IsHandable level
FitsVariable (Reg k, false) level = level ≢ Z

abbrev pub AllFit : List (Var × Bool) → List Level → Type 0
AllFit [] [] = Unit {0}
AllFit [] (x ∷ xs) = ⊥
AllFit (v ∷ vs) [] = ⊥
AllFit (v ∷ vs) (x ∷ xs) = FitsVariable v x × AllFit vs xs

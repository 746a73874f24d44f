-- The pure registers of two boards, and the classes that have one.
use Rattle.std.specs.Prelude.{ℕ, ◌≡◌, ◌<◌, ◌≤◌, ◌-◌, nat_lt, Bool, true, false, List, length, slice_index_or}
use Rattle.mig_base.specs.declared.circuit.Read.TheVariants.{OfRegister}
use Rattle.mig_base.specs.declared.circuit.Circuit.{Circuit}
use Rattle.structure.specs.Pure.{IsPure}
use Rattle.board.specs.Joined.{Joined, equations_of}
use Rattle.matchings.specs.Pairs.{class_at, registers_of_both}

abbrev pub flag_at : List Bool → ℕ → Bool
flag_at flags i = slice_index_or flags i false

-- a flag for each register of a board: whether it is pure
pub record ArePuresOf (c : Circuit) (pures : List Bool) : Type 0 where
  pub count : length pures ≡ length c.registers
  pub yes : (k : ℕ) → k < length c.registers → flag_at pures k ≡ true → IsPure c (OfRegister k)
  pub no : (k : ℕ) → k < length c.registers → IsPure c (OfRegister k) → flag_at pures k ≡ true

-- register i of both boards, which is one of the first board or not, is pure
abbrev pub IsPureOf : Joined → Joined → ℕ → Bool → Type 0
IsPureOf a b i true = IsPure (equations_of a) (OfRegister i)
IsPureOf a b i false = IsPure (equations_of b) (OfRegister (i - length (equations_of a).registers))

abbrev pub IsPureRegister : Joined → Joined → ℕ → Type 0
IsPureRegister a b i = IsPureOf a b i (nat_lt i (length (equations_of a).registers))

-- a flag for each register of both boards: whether it is pure
pub record ArePures (a b : Joined) (pures : List Bool) : Type 0 where
  pub count : length pures ≡ registers_of_both a b
  pub yes : (i : ℕ) → i < registers_of_both a b → flag_at pures i ≡ true → IsPureRegister a b i
  pub no : (i : ℕ) → i < registers_of_both a b → IsPureRegister a b i → flag_at pures i ≡ true

-- a flag for each class: whether a register of it is pure
pub record ArePureClasses (pures : List Bool) (classes : List ℕ) (bits : List Bool) : Type 0 where
  pub count : length bits ≡ length classes
  pub yes : (c : ℕ) → flag_at bits c ≡ true → (i : ℕ) × (i < length classes) × (class_at classes i ≡ c) × (flag_at pures i ≡ true)
  pub no : (i : ℕ) → i < length classes → flag_at pures i ≡ true → flag_at bits (class_at classes i) ≡ true

-- each class has the number of its first register
pub record AreLed (classes : List ℕ) : Type 0 where
  pub within : (i : ℕ) → i < length classes → class_at classes i ≤ i
  pub led : (i : ℕ) → i < length classes → class_at classes (class_at classes i) ≡ class_at classes i

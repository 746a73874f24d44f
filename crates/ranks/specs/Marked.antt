-- Numbers of some nodes of a board.
use Rattle.std.specs.Prelude.{ℕ, ◌≡◌, ◌+◌, List, [], ◌∷◌, length, replicate, Option, Some, None, slice_get, slice_set}
use Rattle.mig_base.specs.declared.circuit.Read.{Read}
use Rattle.mig_base.specs.declared.circuit.Read.TheVariants.{OfNet, OfRegister}
use Rattle.mig_base.specs.declared.circuit.Circuit.{Circuit}
use Rattle.ranks.specs.declared.marks.Marks.{Marks}

-- the number of a node, where the board has that node
abbrev pub mark_in : Marks → Read → Option (Option ℕ)
mark_in m (OfNet n) = slice_get m.nets n
mark_in m (OfRegister k) = slice_get m.registers k

-- the number there
abbrev pub mark_of : Option (Option ℕ) → Option ℕ
mark_of None = None
mark_of (Some mark) = mark

-- the number there, and 0 of what is not on the board
abbrev pub ready : Option (Option ℕ) → Option ℕ
ready None = Some 0
ready (Some mark) = mark

-- 0 where there is none
abbrev pub or_none : Option ℕ → ℕ
or_none None = 0
or_none (Some n) = n

abbrev pub number_of : Option (Option ℕ) → ℕ
number_of place = or_none (mark_of place)

-- the number of a node, and 0 where there is none
abbrev pub number_in : Marks → Read → ℕ
number_in m v = number_of (mark_in m v)

-- a node of the board without number
abbrev pub IsWaiting : Marks → Read → Type 0
IsWaiting m v = mark_in m v ≡ Some None

-- the numbers with another one at a node
abbrev pub with_mark : Marks → Read → ℕ → Marks
with_mark m (OfNet n) x = record { nets = slice_set m.nets n (Some x); registers = m.registers }
with_mark m (OfRegister k) x = record { nets = m.nets; registers = slice_set m.registers k (Some x) }

-- no numbers
abbrev pub unmarked_of : Circuit → Marks
unmarked_of c = record { nets = replicate (length c.nets) None; registers = replicate (length c.registers) None }

abbrev pub blank : Option ℕ → ℕ
blank None = 1
blank (Some n) = 0

abbrev pub blanks : List (Option ℕ) → ℕ
blanks [] = 0
blanks (m ∷ ms) = blank m + blanks ms

-- how many nodes have no number
abbrev pub waiting : Marks → ℕ
waiting m = blanks m.nets + blanks m.registers

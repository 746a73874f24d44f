-- The matching of a board and one that carries it.
use Rattle.std.specs.Prelude.{ℕ, ◌+◌, cond, List, ◌++◌, length}
use Rattle.mig_base.specs.declared.circuit.Read.TheVariants.{OfRegister}
use Rattle.mig_base.specs.declared.circuit.Circuit.{Circuit}
use Rattle.mig_base.specs.First.{made_from}
use Rattle.carried_boards.specs.Carries.{Numbers, Kept}

-- the class of a new register: that of its old one where it is kept, else one of its own
abbrev pub carried_class : Circuit → Numbers → Kept → ℕ → ℕ
carried_class a old kept k = cond (kept (OfRegister k)) (old.register k) (length a.registers + k)

-- each old register has a class of its own
abbrev pub carried_classes : Circuit → Circuit → Numbers → Kept → List ℕ
carried_classes a b old kept = made_from (λ k. k) 0 (length a.registers) ++ made_from (carried_class a old kept) 0 (length b.registers)

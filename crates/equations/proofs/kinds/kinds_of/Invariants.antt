use Rattle.std.proofs.Common.{◌≡◌, ◌++◌, ◌∷◌, replicate}
use Rattle.mig_base.specs.Boards.{kinds_from}
use Rattle.mig_base.specs.declared.nets.Pull.TheVariants.{Free}
use Rattle.mig_base.specs.declared.circuit.NetKind.TheVariants.{Ground, Power, Inner}
use Rattle.equations.proofs.kinds.kinds_of.Given as goal

abbrev pub invariant-loop : goal.invariant-loop
invariant-loop l = l.kinds.items ≡ (Ground, Free) ∷ (Power, Free) ∷ kinds_from 0 l.lines ++ replicate l.counter (Inner, Free)

use Rattle.std.proofs.Common.{take}
use Rattle.std.specs.List.{AllByRecursion}
use Rattle.level_laws.specs.SameBehaviour.{HasPort}
use Rattle.ports.specs.Lacking.{directed}
use Rattle.ports.proofs.first_lacking.Given as goal

abbrev pub invariant-loop-line : goal.invariant-loop-line
invariant-loop-line l = AllByRecursion (λ p. HasPort l.other p.0 p.1) (directed (take l.line-index l.nets))

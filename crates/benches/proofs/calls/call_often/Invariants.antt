use Rattle.std.proofs.Common.{All}
use Rattle.bdd.specs.Diagram.{IsValid}
use Rattle.benches.proofs.calls.call_often.Given as goal

abbrev pub invariant-loop : goal.invariant-loop
invariant-loop l = All (IsValid l.graph) l.pool

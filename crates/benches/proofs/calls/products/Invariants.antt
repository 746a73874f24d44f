use Rattle.std.proofs.Common.{◌≡◌, All, length}
use Rattle.bdd.specs.Diagram.{IsValid}
use Rattle.benches.proofs.calls.products.Given as goal

abbrev pub invariant-loop : goal.invariant-loop
invariant-loop l = record {
  vars : l.graph.vars ≡ l.fn.graph.vars;
  count : length l.pool.items ≡ l.counter;
  valid : All (IsValid l.graph) l.pool.items;
}

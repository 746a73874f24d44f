use Rattle.std.proofs.Common.{take}
use Rattle.bdd.specs.Diagram.{IsCanonical, Keeps}
use Rattle.level_laws.specs.Runs.{taken}
use Rattle.reckoning.specs.Triples.{NeverFloat}
use Rattle.reckoning.specs.Made.{AreOf}
use Rattle.reckoning.proofs.lists.next.Given as goal

abbrev pub invariant-loop-register : goal.invariant-loop-register
invariant-loop-register l = record {
  keeps : Keeps l.fn.graph l.graph;
  canonical : IsCanonical l.graph;
  known : NeverFloat l.graph l.made.items;
  made : AreOf l.fn.graph l.graph l.table taken (take l.register-index l.registers) l.made.items;
}

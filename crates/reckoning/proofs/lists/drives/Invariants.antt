use Rattle.std.proofs.Common.{take}
use Rattle.bdd.specs.Diagram.{IsCanonical, Keeps}
use Rattle.level_laws.specs.Settled.{drive_level}
use Rattle.reckoning.specs.Made.{AreOf}
use Rattle.reckoning.proofs.lists.drives.Given as goal

abbrev pub invariant-loop-unit : goal.invariant-loop-unit
invariant-loop-unit l = record {
  keeps : Keeps l.fn.graph l.graph;
  canonical : IsCanonical l.graph;
  made : AreOf l.fn.graph l.graph l.table drive_level (take l.unit-index l.units) l.made.items;
}

use Rattle.std.proofs.Common.{◌≡◌, ◌≤◌}
use Rattle.mig_base.specs.First.{made_from}
use Rattle.board.specs.UnitLists.{registers_before}
use Rattle.board.proofs.unit_lists.register_places.Given as goal

abbrev pub invariant-loop-unit : goal.invariant-loop-unit
invariant-loop-unit l = record {
  places : l.places.items ≡ made_from (registers_before l.units) 0 l.unit-index;
  registers : l.registers ≡ registers_before l.units l.unit-index;
  small : l.registers ≤ l.unit-index;
}

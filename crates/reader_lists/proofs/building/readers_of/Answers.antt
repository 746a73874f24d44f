use Rattle.std.proofs.Common.{ℕ, List, length, subst, ap}
use Rattle.mig_base.specs.declared.circuit.Driver.{Driver}
use Rattle.reader_lists.specs.Tables.{AddsUnits}
use Rattle.reader_lists.proofs.Adding.{all-readers}
use Rattle.reader_lists.proofs.building.readers_of.Goals as goal

pub returns : goal.returns
returns c = record {
  all = all-readers c.args.circuit.now c.args.order.now c.in_ok-readers.readers c.add_nodes.new.readers c.add_units.new.readers c.requires.order c.in_ok-readers.ensures c.in_ok-add_nodes.ensures
      (subst (λ (n : ℕ). AddsUnits c.args.circuit.now c.add_nodes.new.readers n c.add_units.new.readers) (ap (λ (us : List Driver). length us) c.items-units.ensures) c.in_ok-add_units.ensures);
}

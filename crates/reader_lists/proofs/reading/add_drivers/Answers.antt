use Rattle.std.proofs.Common.{ℕ, List, sym, subst}
use Rattle.std.specs.Prelude.{slice_get}
use Rattle.std.specs.List.{flat_map}
use Rattle.std.proofs.lemmas.List.{drop_more, drop_all}
use Rattle.mig_base.specs.Reads.{driver_reads}
use Rattle.reader_lists.specs.Lists.{Adds}
use Rattle.reader_lists.proofs.Adding.{adds-none, adds-then}
use Rattle.reader_lists.proofs.reading.add_drivers.Goals as goal

pub loop-unit-preserved : goal.loop-unit-preserved
loop-unit-preserved c = λ new h. c.loop-unit.invariant new
    (subst (λ (rest : List ℕ). Adds c.loop-unit.readers c.args.reader (flat_map (λ u. driver_reads (slice_get c.args.circuit.now.units u)) rest) new) (sym (drop_more c.args.drivers.now c.loop-unit.unit-index _ c.loop-unit-test.true))
    (adds-then c.loop-unit.readers c.add_driver.new.readers new c.args.reader _ _ c.in_ok-add_driver.ensures h))

pub returns : goal.returns
returns c = c.loop-unit.invariant c.loop-unit.readers
    (subst (λ (rest : List ℕ). Adds c.loop-unit.readers c.args.reader (flat_map (λ u. driver_reads (slice_get c.args.circuit.now.units u)) rest) c.loop-unit.readers) (sym (drop_all c.loop-unit.unit-index c.args.drivers.now c.loop-unit-test.false))
    (adds-none c.loop-unit.readers c.args.reader))

use Rattle.std.proofs.Common.{◌≡◌, ◌<◌, List, get_or, length, refl, sym, ap, ◌∙◌, subst, ℕ, Option}
use Rattle.std.specs.Prelude.{slice_get}
use Rattle.std.proofs.lemmas.Option.{slice_get_read, slice_get_past}
use Rattle.mig_base.specs.declared.circuit.Driver.{Driver}
use Rattle.mig_base.specs.Values.{row_reads}
use Rattle.mig_base.specs.Reads.{driver_reads, gives_reads}
use Rattle.reader_lists.specs.declared.lists.Reader.{Reader}
use Rattle.reader_lists.specs.declared.readers.Readers.{Readers}
use Rattle.reader_lists.specs.Lists.{Adds}
use Rattle.reader_lists.proofs.Adding.{adds-none, adds-then}
use Rattle.reader_lists.proofs.reading.add_driver.Goals as goal

driver-added : (units items : List Driver) (u : ℕ) (d : Driver) (old mid new : Readers) (r : Reader) → items ≡ units → u < length items → d ≡ get_or items u d →
    Adds old r (row_reads d.enable) mid → Adds mid r (gives_reads d.gives) new → Adds old r (driver_reads (slice_get units u)) new
driver-added units items u d old mid new r same lt is first then =
    subst (λ (o : Option Driver). Adds old r (driver_reads o) new) (sym (slice_get_read items (length items) u d refl lt is) ∙ ap (λ (us : List Driver). slice_get us u) same)
    (adds-then old mid new r (row_reads d.enable) (gives_reads d.gives) first then)

pub returns-in_ok-add_gives : goal.returns-in_ok-add_gives
returns-in_ok-add_gives c =
    driver-added c.args.circuit.now.units c.items-units.result.now c.args.unit c.index-units-unit.result c.args.readers.now c.add_row.new.readers c.add_gives.new.readers c.args.reader
    c.items-units.ensures c.if-unit-units.true c.index-units-unit.is c.in_ok-add_row.ensures c.in_ok-add_gives.ensures

pub returns-else-unit-units : goal.returns-else-unit-units
returns-else-unit-units c =
    subst (λ (o : Option Driver). Adds c.args.readers.now c.args.reader (driver_reads o) c.args.readers.now)
    (sym (ap (λ (us : List Driver). slice_get us c.args.unit) (sym c.items-units.ensures) ∙ slice_get_past c.items-units.result.now c.args.unit c.if-unit-units.false))
    (adds-none c.args.readers.now c.args.reader)

use Rattle.std.proofs.Common.{◌≡◌, ◌<◌, ◌++◌, ◌∙◌, ℕ, List, get_or, length, refl, sym, ap}
use Rattle.std.specs.Prelude.{slice_get}
use Rattle.std.proofs.lemmas.List.{append_assoc, append-nil}
use Rattle.std.proofs.lemmas.Option.{slice_get_read, slice_get_past}
use Rattle.mig_base.specs.declared.circuit.Read.{Read}
use Rattle.mig_base.specs.declared.circuit.Driver.{Driver}
use Rattle.mig_base.specs.Values.{row_reads}
use Rattle.mig_base.specs.Reads.{driver_reads, gives_reads}
use Rattle.ranks.proofs.reading.add_driver.Goals as goal

driver-added : (units items : List Driver) (u : ℕ) (d : Driver) (before row whole : List Read) → items ≡ units → u < length items → d ≡ get_or items u d →
    row ≡ before ++ row_reads d.enable → whole ≡ row ++ gives_reads d.gives → whole ≡ before ++ driver_reads (slice_get units u)
driver-added units items u d before row whole same lt is first then =
    then ∙ ap (λ (rs : List Read). rs ++ gives_reads d.gives) first
    ∙ append_assoc before (row_reads d.enable) (gives_reads d.gives)
    ∙ ap (λ o. before ++ driver_reads o) (sym (slice_get_read items (length items) u d refl lt is) ∙ ap (λ (us : List Driver). slice_get us u) same)

pub returns-in_ok-add_gives : goal.returns-in_ok-add_gives
returns-in_ok-add_gives c =
    driver-added c.args.circuit.now.units c.items-units.result.now c.args.unit c.index-units-unit.result c.args.reads.now.items c.add_row.new.reads.items c.add_gives.new.reads.items
    c.items-units.ensures c.if-unit-units.true c.index-units-unit.is c.in_ok-add_row.ensures c.in_ok-add_gives.ensures

pub returns-else-unit-units : goal.returns-else-unit-units
returns-else-unit-units c =
    sym (append-nil c.args.reads.now.items)
    ∙ ap (λ o. c.args.reads.now.items ++ driver_reads o) (sym (ap (λ (us : List Driver). slice_get us c.args.unit) (sym c.items-units.ensures) ∙ slice_get_past c.items-units.result.now c.args.unit c.if-unit-units.false))
